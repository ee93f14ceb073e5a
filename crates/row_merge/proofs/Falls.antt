-- Falling lists by places, and the terms at every so many places.
use Rattle.std.proofs.Common.{◌≡◌, ℕ, zero, suc, ◌+◌, ◌-◌, ◌*◌, ◌<◌, ◌≤◌, List, [], ◌∷◌, ◌++◌, length, get_or, drop, map, ℤ, unsigned_abs, refl, sym, ap, ◌∙◌, arith}
use Rattle.std.proofs.lemmas.List.{get_or-map, map-append}
use Rattle.sdmp_laws.specs.Order.{Order, Below, degree}
use Rattle.sdmp_laws.specs.Poly.{Term, norm, Over, AllBelow, Decreasing, AllDegrees}
use Rattle.sdmp_laws.proofs.Parts.{norm_nil, norm_cons}
use Rattle.canonical_terms.specs.declared.term.TermOf.{TermOf}
use Rattle.canonical_terms.specs.View.{term_of, sum_of}
use Rattle.row_merge.specs.Rows.{nothing, term_at, strided, InRange, IsFalling}

-- ---- lists by places
pub mapped : {X : Type 0} (f : X → Term) (xs : List X) (k : ℕ) (d : X) → k < length xs → term_at (map f xs) k ≡ f (get_or xs k d)
mapped f xs k d h = get_or-map f xs k d nothing h

pub degree_at : (D : ℕ) (L : List Term) (k : ℕ) → AllDegrees D L → degree (term_at L k).monomial ≤ D
unfolding AllDegrees degree
degree_at D [] k h = omega arith
degree_at D (t ∷ L) zero h = h.0
degree_at D (t ∷ L) (suc k) h = degree_at D L k h.1

pub vector_at : (n : ℕ) (L : List Term) (k : ℕ) → Over n L → k < length L → length (term_at L k).monomial ≡ n
unfolding Over
vector_at n [] k h l = absurd (omega arith)
vector_at n (t ∷ L) zero h l = h.0
vector_at n (t ∷ L) (suc k) h l = vector_at n L k h.1 (omega arith)

below_at : (ord : Order) (m : List ℕ) (L : List Term) (k : ℕ) → AllBelow ord m L → k < length L → Below ord (term_at L k).monomial m
unfolding AllBelow
below_at ord m [] k h l = absurd (omega arith)
below_at ord m (t ∷ L) zero h l = h.0
below_at ord m (t ∷ L) (suc k) h l = below_at ord m L k h.1 (omega arith)

pub falls_at : (ord : Order) (L : List Term) (i j : ℕ) → Decreasing ord L → i < j → j < length L → Below ord (term_at L j).monomial (term_at L i).monomial
unfolding Decreasing
falls_at ord [] i j d h l = absurd (omega arith)
falls_at ord (t ∷ L) i zero d h l = absurd (omega arith)
falls_at ord (t ∷ L) zero (suc j) d h l = below_at ord t.monomial L j d.0 (omega arith)
falls_at ord (t ∷ L) (suc i) (suc j) d h l = falls_at ord L i j d.1 (omega arith) (omega arith)

-- ---- terms at every so many places
pub length-strided : (A : List Term) (first stride n : ℕ) → length (strided A first stride n) ≡ n
unfolding strided
length-strided A first stride zero = refl
length-strided A first stride (suc n) = ap suc (length-strided A (first + stride) stride n)

-- one more place
strided_push : (A : List Term) (first stride n : ℕ) → strided A first stride (suc n) ≡ strided A first stride n ++ term_at A (first + stride * n) ∷ []
unfolding strided
strided_push A first stride zero = ap (λ (k : ℕ). term_at A k ∷ []) (let e : first ≡ first + stride * 0 = omega arith in e)
strided_push A first stride (suc n) =
    ap (λ (L : List Term). term_at A first ∷ L) (strided_push A (first + stride) stride n ∙ ap (λ (k : ℕ). strided A (first + stride) stride n ++ term_at A k ∷ []) (let e : first + stride + stride * n ≡ first + stride * suc n = omega arith in e))

pub none_strided : (A : List Term) (first stride : ℕ) → [] ≡ strided A first stride 0
unfolding strided
none_strided A first stride = refl

pub more_strided : {M E : Type 0} (vector : M → List ℕ) (value : E → ℤ) (ts part new : List (TermOf M E)) (first stride n : ℕ) (d : TermOf M E) → first + stride * n < length ts
    → sum_of vector value part ≡ strided (sum_of vector value ts) first stride n → new ≡ part ++ get_or ts (first + stride * n) d ∷ [] → sum_of vector value new ≡ strided (sum_of vector value ts) first stride (n + 1)
more_strided vector value ts part new first stride n d h e f =
    ap (sum_of vector value) f ∙ map-append (term_of vector value) part (get_or ts (first + stride * n) d ∷ [])
    ∙ (λ i. e i ++ sym (mapped (term_of vector value) ts (first + stride * n) d h) i ∷ [])
    ∙ sym (strided_push (sum_of vector value ts) first stride n)
    ∙ ap (strided (sum_of vector value ts) first stride) (let s : suc n ≡ n + 1 = omega arith in s)

here : (first stride n len : ℕ) → InRange first stride (suc n) len → first < len
here first stride n len h = let k = h 0 (omega arith) in omega (arith, k)

there : (first stride n len : ℕ) → InRange first stride (suc n) len → InRange (first + stride) stride n len
there first stride n len h = λ k l. let q = h (suc k) (omega arith) in omega (arith, q)

over_strided : (v : ℕ) (A : List Term) (first stride n : ℕ) → Over v A → InRange first stride n (length A) → Over v (strided A first stride n)
unfolding strided Over
over_strided v A first stride zero o r = tt
over_strided v A first stride (suc n) o r =
    (vector_at v A first o (here first stride n (length A) r), over_strided v A (first + stride) stride n o (there first stride n (length A) r))

degrees_strided : (D : ℕ) (A : List Term) (first stride n : ℕ) → AllDegrees D A → AllDegrees D (strided A first stride n)
unfolding strided AllDegrees
degrees_strided D A first stride zero h = tt
degrees_strided D A first stride (suc n) h = (degree_at D A first h, degrees_strided D A (first + stride) stride n h)

below_strided : (ord : Order) (A : List Term) (i first stride n : ℕ) → Decreasing ord A → i < first → InRange first stride n (length A) → AllBelow ord (term_at A i).monomial (strided A first stride n)
unfolding strided AllBelow
below_strided ord A i first stride zero d l r = tt
below_strided ord A i first stride (suc n) d l r =
    (falls_at ord A i first d l (here first stride n (length A) r), below_strided ord A i (first + stride) stride n d (omega arith) (there first stride n (length A) r))

decreasing_strided : (ord : Order) (A : List Term) (first stride n : ℕ) → Decreasing ord A → 0 < stride → InRange first stride n (length A) → Decreasing ord (strided A first stride n)
unfolding strided Decreasing
decreasing_strided ord A first stride zero d l r = tt
decreasing_strided ord A first stride (suc n) d l r = (
  below_strided ord A first (first + stride) stride n d (omega arith) (there first stride n (length A) r),
  decreasing_strided ord A (first + stride) stride n d l (there first stride n (length A) r),
)

pub falling_strided : (ord : Order) (v lim : ℕ) (A : List Term) (first stride n : ℕ) → IsFalling ord v lim A → 0 < stride → InRange first stride n (length A) → IsFalling ord v lim (strided A first stride n)
falling_strided ord v lim A first stride n f l r = record {
  vectors = over_strided v A first stride n f.vectors r;
  decreasing = decreasing_strided ord A first stride n f.decreasing l r;
  degrees = degrees_strided lim A first stride n f.degrees;
}

-- ---- norms
norm_at : (A : List Term) (i : ℕ) → norm (drop i A) ≡ unsigned_abs (term_at A i).coefficient + norm (drop (suc i) A)
norm_at [] zero = omega arith
norm_at [] (suc i) = omega arith
norm_at (t ∷ A) zero = norm_cons t A
norm_at (t ∷ A) (suc i) = norm_at A i

norm_later : (A : List Term) (i j : ℕ) → norm (drop (j + i) A) ≤ norm (drop i A)
norm_later A i zero = let e : zero + i ≡ i = omega arith in omega (arith, ap (λ k. norm (drop k A)) e)
norm_later A i (suc j) = let e : suc j + i ≡ suc (j + i) = omega arith in omega (arith, ap (λ k. norm (drop k A)) e, norm_at A (j + i), norm_later A i j)

norm_stride : (A : List Term) (first stride n : ℕ) → 0 < stride → norm (strided A first stride n) ≤ norm (drop first A)
unfolding strided
norm_stride A first stride zero l = omega (arith, norm_nil)
norm_stride A first stride (suc n) l =
    let e : first + stride ≡ stride - 1 + suc first = omega arith in
    omega (arith, norm_cons (term_at A first) (strided A (first + stride) stride n), norm_stride A (first + stride) stride n l, norm_at A first, norm_later A (suc first) (stride - 1), ap (λ k. norm (drop k A)) e)

pub norm-strided : (A : List Term) (first stride n : ℕ) → 0 < stride → norm (strided A first stride n) ≤ norm A
norm-strided A first stride n l =
    let e : first ≡ first + 0 = omega arith in
    omega (arith, norm_stride A first stride n l, norm_later A 0 first, ap (λ k. norm (drop k A)) e)
