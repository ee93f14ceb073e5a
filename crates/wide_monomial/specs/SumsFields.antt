-- Words of sums and their fields.
use Rattle.std.specs.Prelude.{ℕ, zero, suc, ◌+◌, ◌-◌, ◌*◌, ◌/◌, ◌%◌, ◌^◌, ◌≤◌, ◌<◌, ◌≡◌, List, [], ◌∷◌, length, get_or, replicate, bit_and, ◌↔◌}
use Rattle.std.proofs.Common.{refl, sym, ap, ◌∙◌, subst, arith}
use Rattle.std.proofs.lemmas.Nat.{pow_pos, mul-add-lt, mod-pow-add, shr_high, mod_low, shr-shr, shl-shr, and_mod, and_le_r}
use Rattle.std.proofs.Math.Nat.{mul_comm, mul-zero, mod-one, mul-mod_left, mod-eq_of_lt, add-mul-mod_self_left}
use Rattle.sdmp_laws.specs.Order.{degree, ◌⋅◌, Divides}
use Rattle.packed_monomial.specs.Fields.{fields_word, AllLess, block, degree-cons, plus_step, gaps, gap_is, top_is, guards_step, length-replicate}
use Rattle.wide_monomial.specs.Sums.{sums, rises, low_word, low_fields, sums_vector}

-- ---- lengths
pub length-sums : (s : ℕ) (v : List ℕ) → length (sums s v) ≡ length v
length-sums s [] = refl
length-sums s (x ∷ xs) = ap suc (length-sums (s + x) xs)

pub length-rises : (s : ℕ) (xs : List ℕ) → length (rises s xs) ≡ length xs
length-rises s [] = refl
length-rises s (x ∷ xs) = ap suc (length-rises x xs)

pub length-low_fields : (b n w : ℕ) → length (low_fields b n w) ≡ n
length-low_fields b zero w = refl
length-low_fields b (suc n) w = ap suc (length-low_fields b n (w / 2 ^ b))

pub length-sums_vector : (b n w : ℕ) → length (sums_vector b n w) ≡ n
length-sums_vector b n w = length-rises 0 (low_fields b n w) ∙ length-low_fields b n w

-- ---- sums and rises
pub rises-sums : (s : ℕ) (v : List ℕ) → rises s (sums s v) ≡ v
rises-sums s [] = refl
rises-sums s (x ∷ xs) = let h : s + x - s ≡ x = omega arith in λ i. h i ∷ rises-sums (s + x) xs i

-- where no number is below the one before it
pub sums-rises : (s : ℕ) (xs : List ℕ) → ((k : ℕ) → k < length xs → get_or (s ∷ xs) k 0 ≤ get_or xs k 0) → sums s (rises s xs) ≡ xs
sums-rises s [] h = refl
sums-rises s (x ∷ xs) h =
    let low : s ≤ x = h 0 (omega arith) in
    let e : s + (x - s) ≡ x = omega (arith, low) in
    let rest : sums x (rises x xs) ≡ xs = sums-rises x xs (λ k j. h (suc k) (omega (arith, j))) in
    (λ i. e i ∷ sums (e i) (rises x xs)) ∙ ap (λ l. x ∷ l) rest

pub sums-AllLess : (m s : ℕ) (v : List ℕ) → s + degree v < m → AllLess m (sums s v)
sums-AllLess m s [] h = tt
sums-AllLess m s (x ∷ xs) h = (omega (arith, degree-cons x xs), sums-AllLess m (s + x) xs (omega (arith, degree-cons x xs)))

-- each sum is the one before it and the next number
pub sums-at : (s : ℕ) (v : List ℕ) (i : ℕ) → i < length v → get_or (sums s v) i 0 ≡ get_or (s ∷ sums s v) i 0 + get_or v i 0
sums-at s [] i h = absurd (omega arith)
sums-at s (x ∷ xs) zero h = refl
sums-at s (x ∷ xs) (suc i) h = sums-at (s + x) xs i (omega arith)

-- the last of the sums
pub sums-last : (s : ℕ) (v : List ℕ) → get_or (s ∷ sums s v) (length v) 0 ≡ s + degree v
unfolding degree
sums-last s [] = omega arith
sums-last s (x ∷ xs) = omega (arith, sums-last (s + x) xs)

-- ---- words and fields
pub low_word-below : (b : ℕ) (xs : List ℕ) → AllLess (2 ^ b) xs → low_word b xs < 2 ^ (b * length xs)
low_word-below b [] s = pow_pos (b * 0)
low_word-below b (x ∷ xs) s =
    subst (λ k. low_word b (x ∷ xs) < k) (mul_comm (2 ^ b) (2 ^ (b * length xs)) ∙ sym (block b (length xs)))
    (mul-add-lt (low_word b xs) (2 ^ b) x (2 ^ (b * length xs)) (low_word-below b xs s.1) s.0)

pub low_fields-low_word : (b : ℕ) (xs : List ℕ) → AllLess (2 ^ b) xs → low_fields b (length xs) (low_word b xs) ≡ xs
low_fields-low_word b [] s = refl
low_fields-low_word b (x ∷ xs) s =
    let head : (low_word b xs * 2 ^ b + x) % 2 ^ b ≡ x = mod_low (low_word b xs) b x s.0 in
    let high : (low_word b xs * 2 ^ b + x) / 2 ^ b ≡ low_word b xs = shr_high (low_word b xs) b x s.0 in
    let tail : low_fields b (length xs) ((low_word b xs * 2 ^ b + x) / 2 ^ b) ≡ xs = ap (low_fields b (length xs)) high ∙ low_fields-low_word b xs s.1 in
    λ i. head i ∷ tail i

pub low_word-low_fields : (b n w : ℕ) → low_word b (low_fields b n w) ≡ w % 2 ^ (b * n)
low_word-low_fields b zero w = rw (mul-zero b) (sym (mod-one w))
low_word-low_fields b (suc n) w =
    let e : b * n + b ≡ b * suc n = omega arith in
    ap (λ k. k * 2 ^ b + w % 2 ^ b) (low_word-low_fields b n (w / 2 ^ b)) ∙ sym (mod-pow-add w (b * n) b) ∙ ap (λ k. w % 2 ^ k) e

pub low_fields-at : (b n w i : ℕ) → i < n → get_or (low_fields b n w) i 0 ≡ w / 2 ^ (i * b) % 2 ^ b
low_fields-at b zero w i h = absurd (omega arith)
low_fields-at b (suc n) w zero h =
    let e : 0 * b ≡ 0 = omega arith in
    let whole : w / 2 ^ 0 ≡ w = omega arith in
    sym (ap (λ k. w / 2 ^ k % 2 ^ b) e ∙ ap (λ k. k % 2 ^ b) whole)
low_fields-at b (suc n) w (suc i) h =
    let e : b + i * b ≡ suc i * b = omega arith in
    low_fields-at b n (w / 2 ^ b) i (omega arith) ∙ ap (λ k. k % 2 ^ b) (shr-shr w b (i * b)) ∙ ap (λ k. w / 2 ^ k % 2 ^ b) e

-- one field up
pub low_fields-up : (b n w : ℕ) → 0 ∷ low_fields b n w ≡ low_fields b (suc n) (w * 2 ^ b)
low_fields-up b n w =
    let head : 0 ≡ w * 2 ^ b % 2 ^ b = sym (mul-mod_left w (2 ^ b)) in
    let tail : low_fields b n w ≡ low_fields b n (w * 2 ^ b / 2 ^ b) = ap (low_fields b n) (sym (shl-shr w b)) in
    λ i. head i ∷ tail i

-- the highest field of a word of sums
pub top_field : (b s x : ℕ) (xs : List ℕ) → AllLess (2 ^ b) (sums s (x ∷ xs)) → low_word b (sums s (x ∷ xs)) / 2 ^ (b * length xs) ≡ s + degree (x ∷ xs)
unfolding degree
top_field b s x [] h =
    let e : b * 0 ≡ 0 = mul-zero b in
    let one : (0 * 2 ^ b + (s + x)) / 2 ^ 0 ≡ s + x = omega arith in
    ap (λ k. (0 * 2 ^ b + (s + x)) / 2 ^ k) e ∙ one ∙ omega arith
top_field b s x (y ∷ ys) h =
    let W : ℕ = low_word b (sums (s + x) (y ∷ ys)) in
    let e : b * suc (length ys) ≡ b + b * length ys = omega arith in
    let high : (W * 2 ^ b + (s + x)) / 2 ^ b ≡ W = shr_high W b (s + x) h.0 in
    ap (λ k. (W * 2 ^ b + (s + x)) / 2 ^ k) e ∙ sym (shr-shr (W * 2 ^ b + (s + x)) b (b * length ys)) ∙ ap (λ k. k / 2 ^ (b * length ys)) high
    ∙ top_field b (s + x) y ys h.1 ∙ omega arith

-- ---- products
pub low_word-times : (b s t : ℕ) (xs ys : List ℕ) → length xs ≡ length ys → low_word b (sums (s + t) (xs ⋅ ys)) ≡ low_word b (sums s xs) + low_word b (sums t ys)
unfolding ◌⋅◌
low_word-times b s t [] [] e = refl
low_word-times b s t [] (y ∷ ys) e = absurd (omega arith)
low_word-times b s t (x ∷ xs) [] e = absurd (omega arith)
low_word-times b s t (x ∷ xs) (y ∷ ys) e =
    let f : s + t + (x + y) ≡ (s + x) + (t + y) = omega arith in
    ap (λ k. low_word b (sums k (xs ⋅ ys)) * 2 ^ b + k) f
    ∙ ap (λ k. k * 2 ^ b + ((s + x) + (t + y))) (low_word-times b (s + x) (t + y) xs ys (omega arith))
    ∙ plus_step (low_word b (sums (s + x) xs)) (low_word b (sums (t + y) ys)) (2 ^ b) (s + x) (t + y) ((s + x) + (t + y)) refl

-- ---- the word of the exponents themselves, which are the sums less the sums one field up
step_up : (E Y p P B s x d : ℕ) → E + (Y * B + (s + x)) ≡ Y + P * (s + x + d) → p ≡ P * B → (E * B + x) + ((Y * B + (s + x)) * B + s) ≡ (Y * B + (s + x)) + p * (s + (x + d))
step_up E Y p P B s x d e f =
    let m : (E + (Y * B + (s + x))) * B ≡ (Y + P * (s + x + d)) * B = ap (λ k. k * B) e in
    let q : p * (s + (x + d)) ≡ P * B * (s + (x + d)) = ap (λ k. k * (s + (x + d))) f in
    omega (arith, m, q)

pub low_word-steps : (b s : ℕ) (v : List ℕ) → low_word b v + (low_word b (sums s v) * 2 ^ b + s) ≡ low_word b (sums s v) + 2 ^ (b * length v) * (s + degree v)
unfolding degree
low_word-steps b s [] = let e : 2 ^ (b * 0) ≡ 1 = ap (λ k. 2 ^ k) (mul-zero b) in let m : 2 ^ (b * 0) * (s + 0) ≡ 1 * (s + 0) = ap (λ k. k * (s + 0)) e in omega (arith, m)
low_word-steps b s (x ∷ xs) =
    step_up (low_word b xs) (low_word b (sums (s + x) xs)) (2 ^ (b * suc (length xs))) (2 ^ (b * length xs)) (2 ^ b) s x (degree xs) (low_word-steps b (s + x) xs) (block b (length xs))

-- ---- the guards, in a word whose lowest field is first
gap_step : (a c d e p x y g : ℕ) → x < g → a + c ≡ d + e → (a * p + (y + g - x)) + (c * p + x) ≡ (d * p + y) + (e * p + g)
gap_step a c d e p x y g h f =
    let z : (y + g - x) + x ≡ y + g = omega arith in
    let m : (a + c) * p ≡ (d + e) * p = ap (λ k. k * p) f in
    omega (arith, z, m)

pub low_word-gaps : (b g : ℕ) (xs ys : List ℕ) → length xs ≡ length ys → AllLess g xs → low_word b (gaps g xs ys) + low_word b xs ≡ low_word b ys + low_word b (replicate (length xs) g)
low_word-gaps b g [] [] e s = refl
low_word-gaps b g [] (y ∷ ys) e s = absurd (omega arith)
low_word-gaps b g (x ∷ xs) [] e s = absurd (omega arith)
low_word-gaps b g (x ∷ xs) (y ∷ ys) e s =
    gap_step (low_word b (gaps g xs ys)) (low_word b xs) (low_word b ys) (low_word b (replicate (length xs) g)) (2 ^ b) x y g s.0 (low_word-gaps b g xs ys (omega arith) s.1)

-- all the guards stand in the gaps exactly where xs divides ys
pub low_guards_are : (b k : ℕ) (xs ys : List ℕ) → 2 ^ b ≡ 2 ^ k + 2 ^ k → length xs ≡ length ys → AllLess (2 ^ k) xs → AllLess (2 ^ k) ys
    → (bit_and (low_word b (gaps (2 ^ k) xs ys)) (low_word b (replicate (length xs) (2 ^ k))) ≡ low_word b (replicate (length xs) (2 ^ k))) ↔ Divides xs ys
unfolding Divides
low_guards_are b k [] [] w e s t = (λ _. tt, λ _. refl)
low_guards_are b k [] (y ∷ ys) w e s t = absurd (omega arith)
low_guards_are b k (x ∷ xs) [] w e s t = absurd (omega arith)
low_guards_are b k (x ∷ xs) (y ∷ ys) w e s t =
    let g : ℕ = 2 ^ k in
    let z : ℕ = y + g - x in
    let step = guards_step b (low_word b (gaps g xs ys)) (low_word b (replicate (length xs) g)) g z (omega (arith, pow_pos k, w)) (omega (arith, t.0, w)) in
    let top = top_is k z (omega (arith, t.0)) in
    let gap = gap_is x y g s.0 in
    let rest = low_guards_are b k xs ys w (omega arith) s.1 t.1 in
    (λ h. (gap.0 (top.0 (step.0 h).1), rest.0 (step.0 h).0), λ h. step.1 (rest.1 h.1, top.1 (gap.1 h.0)))

-- a word of one number in all fields, from either end
same_fields : (b n g : ℕ) → fields_word b (replicate (suc n) g) ≡ fields_word b (replicate n g) * 2 ^ b + g
same_fields b zero g = let e : b * 0 ≡ 0 = mul-zero b in ap (λ k. g * 2 ^ k + 0) e ∙ omega arith
same_fields b (suc n) g =
    let F : ℕ = fields_word b (replicate n g) in
    let l : length (replicate (suc n) g) ≡ suc n = length-replicate (suc n) g in
    (λ i. g * 2 ^ (b * l i) + same_fields b n g i)
    ∙ regroup g (2 ^ (b * suc n)) (2 ^ (b * n)) (2 ^ b) F (block b n)
    ∙ ap (λ k. (g * 2 ^ (b * k) + F) * 2 ^ b + g) (sym (length-replicate n g))
  where
    regroup : (g q p r F : ℕ) → q ≡ p * r → g * q + (F * r + g) ≡ (g * p + F) * r + g
    regroup g q p r F e = ap (λ k. g * k + (F * r + g)) e ∙ omega arith

pub low_same : (b n g : ℕ) → low_word b (replicate n g) ≡ fields_word b (replicate n g)
low_same b zero g = refl
low_same b (suc n) g = ap (λ k. k * 2 ^ b + g) (low_same b n g) ∙ sym (same_fields b n g)

-- the guards of the n low fields
pub low_guards : (b n g : ℕ) → g < 2 ^ b → fields_word b (replicate (suc n) g) / 2 ^ b ≡ low_word b (replicate n g)
low_guards b n g h = ap (λ k. k / 2 ^ b) (same_fields b n g) ∙ shr_high (fields_word b (replicate n g)) b g h ∙ sym (low_same b n g)

-- ---- what is left of a number modulo a power
pub same_rest : (t u p c d : ℕ) → t + p * c ≡ u + p * d → t % p ≡ u % p
same_rest t u p c d e = sym (add-mul-mod_self_left t p c) ∙ ap (λ k. k % p) e ∙ add-mul-mod_self_left u p d

-- the guards look only at the fields below
pub and_low : (k t u g : ℕ) → g < 2 ^ k → u < 2 ^ k → t % 2 ^ k ≡ u % 2 ^ k → bit_and t g ≡ bit_and u g
and_low k t u g h j e =
    let left : bit_and t g % 2 ^ k ≡ bit_and t g = mod-eq_of_lt (omega (arith, and_le_r t g)) in
    let right : bit_and u g % 2 ^ k ≡ bit_and u g = mod-eq_of_lt (omega (arith, and_le_r u g)) in
    sym left ∙ and_mod t g k ∙ ap (λ r. bit_and r (g % 2 ^ k)) e ∙ sym (and_mod u g k) ∙ right
