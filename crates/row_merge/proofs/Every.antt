-- The rows of a worker stand at every so many places.
use Rattle.std.proofs.Common.{◌≡◌, ◌≢◌, ℕ, zero, suc, ◌+◌, ◌-◌, ◌*◌, ◌/◌, ◌%◌, ◌<◌, ◌≤◌, ◌⊎◌, inl, inr, Bool, cond, List, [], ◌∷◌, min, length, refl, sym, ap, ◌∙◌, arith, eq-eqb, ne_eqb}
use Rattle.std.proofs.lemmas.Bool.{cases_lt}
use Rattle.std.proofs.Math.Nat.{add-div_right, div-eq_of_lt, mod-eq_of_lt, add-mod_left, add-mod_right, mod-add-div, mul-add-mod_self_left, mul-div-le, mul-le-mul_left, zero-div, div-eq_of_lt-le}
use Rattle.std.proofs.lemmas.Grind.{div_ceil_times}
use Rattle.sdmp_laws.specs.Poly.{Term, every}
use Rattle.row_merge.specs.Rows.{term_at, strided, InRange}
use Rattle.row_merge.specs.Part.{row_count}

strided_cons : (t : Term) (A : List Term) (j stride n : ℕ) → strided (t ∷ A) (suc j) stride n ≡ strided A j stride n
unfolding strided
strided_cons t A j stride zero = refl
strided_cons t A j stride (suc n) =
    ap (λ (L : List Term). term_at A j ∷ L) (ap (λ (k : ℕ). strided (t ∷ A) k stride n) (omega arith) ∙ strided_cons t A (j + stride) stride n)

-- two places less than W apart differ modulo W
apart : (W w i j : ℕ) → 0 < j → j < W → w < W → (i + j) % W ≡ w → i % W ≢ w
apart W w i j p l h e f = by (cases_lt (w + j) W)
  where
    split : i ≡ W * (i / W) + w
    split = let s = mod-add-div i W in omega (arith, s, f)

    rest : (w + j) % W ≡ w
    rest = sym (mul-add-mod_self_left W (i / W) (w + j)) ∙ ap (λ (k : ℕ). k % W) (omega (arith, split)) ∙ e

    by : (w + j < W) ⊎ (W ≤ w + j) → ⊥
    by (inl q) = let m = mod-eq_of_lt q in omega (arith, m, rest)
    by (inr q) =
        let d : w + j ≡ W + (w + j - W) = omega arith in
        let m = ap (λ (k : ℕ). k % W) d ∙ add-mod_left W (w + j - W) ∙ mod-eq_of_lt (let g : w + j - W < W = omega arith in g) in
        omega (arith, m, rest)

pub every_is : (W w i j : ℕ) (A : List Term) → j < W → w < W → (i + j) % W ≡ w → every W w i A ≡ strided A j W ((length A + (W - 1 - j)) / W)
unfolding every strided
every_is W w i j [] l h e = ap (strided [] j W) (sym (div-eq_of_lt (let g : 0 + (W - 1 - j) < W = omega arith in g)))
every_is W w i zero (t ∷ A) l h e =
    let z : i % W ≡ w = ap (λ (k : ℕ). k % W) (omega arith) ∙ e in
    let next : (suc i + (W - 1)) % W ≡ w = ap (λ (k : ℕ). k % W) (omega arith) ∙ add-mod_right i W ∙ z in
    let n : length A / W + 1 ≡ (length (t ∷ A) + (W - 1 - 0)) / W = sym (add-div_right (length A) l) ∙ ap (λ (k : ℕ). k / W) (omega arith) in
    let m : suc (length A / W) ≡ length A / W + 1 = omega arith in
    ap (λ (b : Bool). cond b (t ∷ every W w (suc i) A) (every W w (suc i) A)) (eq-eqb (i % W) w z)
    ∙ ap (λ (L : List Term). t ∷ L) (every_is W w (suc i) (W - 1) A (omega arith) h next
    ∙ ap (λ (k : ℕ). strided A (W - 1) W (k / W)) (let g : length A + (W - 1 - (W - 1)) ≡ length A = omega arith in g)
    ∙ sym (strided_cons t A (W - 1) W (length A / W))
    ∙ ap (λ (k : ℕ). strided (t ∷ A) k W (length A / W)) (omega arith))
    ∙ ap (strided (t ∷ A) 0 W) (m ∙ n)
every_is W w i (suc j) (t ∷ A) l h e =
    ap (λ (b : Bool). cond b (t ∷ every W w (suc i) A) (every W w (suc i) A)) (ne_eqb (i % W) w (apart W w i (suc j) (omega arith) l h e))
    ∙ every_is W w (suc i) j A (omega arith) h (ap (λ (k : ℕ). k % W) (omega arith) ∙ e)
    ∙ sym (strided_cons t A j W ((length A + (W - 1 - j)) / W))
    ∙ ap (λ (k : ℕ). strided (t ∷ A) (suc j) W (k / W)) (omega arith)

count_is : (W w len : ℕ) → w < W → (len + (W - 1 - w)) / W ≡ row_count len W w
count_is W w len h = by (cases_lt len w)
  where
    by : (len < w) ⊎ (w ≤ len) → (len + (W - 1 - w)) / W ≡ row_count len W w
    by (inl l) =
        let z : len - w ≡ 0 = omega arith in
        div-eq_of_lt (let g : len + (W - 1 - w) < W = omega arith in g)
        ∙ sym (ap (λ (x : ℕ). x / W + min 1 (x % W)) z ∙ (λ i. zero-div W i + min 1 (mod-eq_of_lt (let g : 0 < W = omega arith in g) i)))
    by (inr l) =
        let t = div_ceil_times (len - w) W (omega arith) in
        div-eq_of_lt-le W (let g : ((len - w) / W + min 1 ((len - w) % W)) * W ≤ len + (W - 1 - w) = omega (arith, t.1) in g)
        (let g : len + (W - 1 - w) < ((len - w) / W + min 1 ((len - w) % W) + 1) * W = omega (arith, t.0) in g)

-- the rows of worker w
pub rows_are : (W w : ℕ) (A : List Term) → w < W → every W w 0 A ≡ strided A w W (row_count (length A) W w)
rows_are W w A h = every_is W w 0 w A h h (ap (λ (k : ℕ). k % W) (omega arith) ∙ mod-eq_of_lt h) ∙ ap (strided A w W) (count_is W w (length A) h)

pub rows_in_range : (W w len : ℕ) → w < W → InRange w W (row_count len W w) len
rows_in_range W w len h k l =
    let a : k + 1 ≤ (len + (W - 1 - w)) / W = omega (arith, count_is W w len h) in
    let b : W * (k + 1) ≤ W * ((len + (W - 1 - w)) / W) = mul-le-mul_left W a in
    omega (arith, b, mul-div-le (len + (W - 1 - w)) W)
