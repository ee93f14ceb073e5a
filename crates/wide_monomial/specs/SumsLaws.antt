-- The laws of words that hold sums.
use Rattle.std.specs.Prelude.{ℕ, zero, suc, ◌+◌, ◌-◌, ◌*◌, ◌/◌, ◌%◌, ◌^◌, ◌≤◌, ◌<◌, ◌≡◌, List, [], ◌∷◌, length, get_or, replicate, bit_and, ◌↔◌, ◌++◌, take, sum}
use Rattle.std.specs.Ordering.{nat_cmp}
use Rattle.std.proofs.Common.{refl, sym, ap, ◌∙◌, subst, arith, inl, inr, length-take}
use Rattle.std.proofs.lemmas.List.{take_more}
use Rattle.std.proofs.Props.{props}
use Rattle.std.proofs.lemmas.Nat.{pow_pos, pow-add, shl_below, mod_below, shl-shr, shr-shr, div-add-mod'}
use Rattle.std.proofs.lemmas.Bool.{cases_lt}
use Rattle.std.proofs.Math.Nat.{mul_comm, mul-le-mul_left, mul-le-mul_right, pow-le-pow_right, mod-eq_of_lt, mod-add-div', mul-mod_left, div-eq_of_lt}
use Rattle.std.specs.Int.Bits.{and_zero_r}
use Rattle.sdmp_laws.specs.Order.{Grevlex, degree, ◌⋅◌, over, Divides, zeros, Below, TieBelow, RevBelow, compare}
use Rattle.sdmp_laws.proofs.OrderLemmas.{is_less, is_equal, is_greater, below_total, length_times, degree_times, degree_zeros}
use Rattle.sdmp_laws.proofs.CompareLemmas.{compare_less, compare_greater, compare_same, degree_is_sum}
use Rattle.packed_monomial.specs.Fields.{fields_word, AllLess, AllLess-degree, degree-cons, place, gaps, length-gaps, gaps-AllLess, length-replicate, replicate-AllLess, length-over, times-over, cmp_less, cmp_equal, cmp_greater}
use Rattle.packed_monomial.specs.Cuts.{IsCut}
use Rattle.packed_monomial.specs.Laws.{degree-over, zero-Divides, shift_within}
use Rattle.wide_monomial.specs.Sums.{sums, rises, low_word, low_fields, field, sums_word, sums_vector, HoldsSums}
use Rattle.wide_monomial.specs.SumsFields.{length-sums, length-low_fields, length-sums_vector, rises-sums, sums-AllLess, sums-at, sums-last, sums-rises, low_word-below, low_fields-low_word, low_word-low_fields, low_fields-at, low_fields-up, top_field, low_word-times, low_word-steps, low_word-gaps, low_guards_are, low_guards, same_rest, and_low}

pub HoldsSums-prop : (b l n w : ℕ) → IsProp (HoldsSums b l n w)
HoldsSums-prop b l n w = hlevel props

-- ---- vectors and words
pub sums_fit : {size n b l g : ℕ} (c : IsCut size n b l g) (v : List ℕ) → degree v ≤ 2 * l → AllLess (2 ^ b) (sums 0 v)
sums_fit {b = b} c v h = sums-AllLess (2 ^ b) 0 v (omega (arith, h, c.room))

pub vector_is : {size n b l g : ℕ} (c : IsCut size n b l g) (v : List ℕ) → length v ≡ n → degree v ≤ 2 * l → sums_vector b n (sums_word b v) ≡ v
vector_is {b = b} c v e h =
    ap (λ k. sums_vector b k (sums_word b v)) (sym (length-sums 0 v ∙ e)) ∙ ap (rises 0) (low_fields-low_word b (sums 0 v) (sums_fit c v h)) ∙ rises-sums 0 v

pub holds_sums : {size n b l g : ℕ} (c : IsCut size n b l g) (v : List ℕ) → length v ≡ n → degree v ≤ 2 * l → HoldsSums b l n (sums_word b v)
holds_sums {b = b} c v e h =
    let is = vector_is c v e h in
    (ap (sums_word b) is, omega (arith, ap degree is, h))

-- it fits one word, even one field up
pub word_below : {size n b l g : ℕ} (c : IsCut size n b l g) (v : List ℕ) → length v ≡ n → degree v ≤ 2 * l → sums_word b v * 2 ^ b < 2 ^ size
word_below {size = size} {n = n} {b = b} c v e h =
    let k : sums_word b v < 2 ^ (b * length (sums 0 v)) = low_word-below b (sums 0 v) (sums_fit c v h) in
    let len : length (sums 0 v) ≡ n = length-sums 0 v ∙ e in
    let m : sums_word b v < 2 ^ (b * n) = subst (λ q. sums_word b v < 2 ^ (b * q)) len k in
    let up : sums_word b v * 2 ^ b < 2 ^ (b * n + b) = shl_below (sums_word b v) (b * n) b m in
    let same : b * n + b ≡ b * suc n = omega arith in
    let top : 2 ^ (b * suc n) ≤ 2 ^ size = pow-le-pow_right {n = 2} (omega arith) c.capacity in
    omega (arith, up, ap (λ q. 2 ^ q) same, top)

pub below_up : (b w m : ℕ) → w * 2 ^ b < m → w < m
below_up b w m h = omega (arith, h, mul-le-mul_left w (pow_pos b))

pub up_below : {size n b l g : ℕ} (c : IsCut size n b l g) (w : ℕ) → HoldsSums b l n w → w * 2 ^ b < 2 ^ size
up_below {size = size} {n = n} {b = b} c w p =
    subst (λ k. k * 2 ^ b < 2 ^ size) p.0 (word_below c (sums_vector b n w) (length-sums_vector b n w) p.1)

pub same_vector : (b l n v w : ℕ) → HoldsSums b l n v → HoldsSums b l n w → sums_vector b n v ≡ sums_vector b n w → v ≡ w
same_vector b l n v w p q e = sym p.0 ∙ ap (sums_word b) e ∙ q.0

-- ---- the order
tie_word : (b s t : ℕ) (x y : List ℕ) → length x ≡ length y → AllLess (2 ^ b) (s ∷ sums s x) → s + degree x ≡ t + degree y → RevBelow x y → low_word b (s ∷ sums s x) < low_word b (t ∷ sums t y)
unfolding RevBelow
tie_word b s t [] y e a d h = absurd h
tie_word b s t (x ∷ xs) [] e a d h = absurd h
tie_word b s t (x ∷ xs) (y ∷ ys) e a d (inl h) =
    place (low_word b ((s + x) ∷ sums (s + x) xs)) (low_word b ((t + y) ∷ sums (t + y) ys)) (2 ^ b) s t
    (tie_word b (s + x) (t + y) xs ys (omega arith) a.1 (omega (arith, d, degree-cons x xs, degree-cons y ys)) h) a.0
tie_word b s t (x ∷ xs) (y ∷ ys) e a d (inr h) =
    let even : s + x ≡ t + y = omega (arith, d, degree-cons x xs, degree-cons y ys, ap degree h.0) in
    let same : low_word b ((s + x) ∷ sums (s + x) xs) * 2 ^ b ≡ low_word b ((t + y) ∷ sums (t + y) ys) * 2 ^ b = λ i. low_word b (even i ∷ sums (even i) (h.0 i)) * 2 ^ b in
    omega (arith, same, even, h.1)

total_word : (b s t : ℕ) (x y : List ℕ) → length x ≡ length y → AllLess (2 ^ b) (s ∷ sums s x) → s + degree x < t + degree y → low_word b (s ∷ sums s x) < low_word b (t ∷ sums t y)
unfolding degree
total_word b s t [] [] e a d = omega (arith, d)
total_word b s t [] (y ∷ ys) e a d = absurd (omega arith)
total_word b s t (x ∷ xs) [] e a d = absurd (omega arith)
total_word b s t (x ∷ xs) (y ∷ ys) e a d =
    place (low_word b ((s + x) ∷ sums (s + x) xs)) (low_word b ((t + y) ∷ sums (t + y) ys)) (2 ^ b) s t
    (total_word b (s + x) (t + y) xs ys (omega arith) a.1 (omega (arith, d))) a.0

less_up : (p v w : ℕ) → v * p + 0 < w * p + 0 → v < w
less_up p v w h = elim (cases_lt v w) [
  | inl k ↦ k
  | inr k ↦ absurd (omega (arith, h, mul-le-mul_right p k))
]

-- of two vectors the lesser has the lesser word
word_less : {size n b l g : ℕ} (c : IsCut size n b l g) (x y : List ℕ) → length x ≡ length y → degree x ≤ 2 * l → Below Grevlex x y → sums_word b x < sums_word b y
unfolding Below TieBelow
word_less {b = b} c x y e d (inl h) = less_up (2 ^ b) (sums_word b x) (sums_word b y) (total_word b 0 0 x y e (pow_pos b, sums_fit c x d) (omega (arith, h)))
word_less {b = b} c x y e d (inr h) = less_up (2 ^ b) (sums_word b x) (sums_word b y) (tie_word b 0 0 x y e (pow_pos b, sums_fit c x d) (omega (arith, h.0)) h.1)

pub sums_ordered : {size n b l g : ℕ} (c : IsCut size n b l g) (v w : ℕ) → HoldsSums b l n v → HoldsSums b l n w → nat_cmp v w ≡ compare Grevlex (sums_vector b n v) (sums_vector b n w)
sums_ordered {n = n} {b = b} {l = l} c v w p q =
    let x : List ℕ = sums_vector b n v in
    let y : List ℕ = sums_vector b n w in
    let e : length x ≡ length y = length-sums_vector b n v ∙ sym (length-sums_vector b n w) in
    elim (below_total Grevlex x y e) [
      | is_less h ↦ cmp_less v w (omega (arith, p.0, q.0, word_less c x y e p.1 h)) ∙ sym (compare_less Grevlex x y h)
      | is_equal h ↦
          let same : v ≡ w = same_vector b l n v w p q h in
          ap (nat_cmp v) (sym same) ∙ cmp_equal v ∙ sym (compare_same Grevlex x) ∙ ap (compare Grevlex x) h
      | is_greater h ↦ cmp_greater v w (omega (arith, p.0, q.0, word_less c y x (sym e) q.1 h)) ∙ sym (compare_greater Grevlex x y h)
    ]

-- ---- the zero word
length_zeros : (n : ℕ) → length (zeros n) ≡ n
unfolding zeros
length_zeros zero = refl
length_zeros (suc n) = ap suc (length_zeros n)

word_zero : (b n : ℕ) → sums_word b (zeros n) ≡ 0
unfolding zeros
word_zero b zero = refl
word_zero b (suc n) = ap (λ k. k * 2 ^ b + 0) (word_zero b n) ∙ omega arith

pub holds_zero : {size n b l g : ℕ} (c : IsCut size n b l g) → HoldsSums b l n 0
holds_zero {n = n} {b = b} {l = l} c = subst (HoldsSums b l n) (word_zero b n) (holds_sums c (zeros n) (length_zeros n) (omega (arith, degree_zeros n)))

pub vector_zero : {size n b l g : ℕ} (c : IsCut size n b l g) → sums_vector b n 0 ≡ zeros n
vector_zero {n = n} {b = b} c = ap (sums_vector b n) (sym (word_zero b n)) ∙ vector_is c (zeros n) (length_zeros n) (omega (arith, degree_zeros n))

-- ---- products: what one needs and gives
pub record Times (size n b l v w : ℕ) : Type 0 where
  pub fits : v + w < 2 ^ size
  pub holds : HoldsSums b l n (v + w)
  pub vector : sums_vector b n (v + w) ≡ sums_vector b n v ⋅ sums_vector b n w

pub times_is : {size n b l g : ℕ} (c : IsCut size n b l g) (v w : ℕ) → HoldsSums b l n v → HoldsSums b l n w → degree (sums_vector b n v) ≤ l → degree (sums_vector b n w) ≤ l → Times size n b l v w
times_is {size = size} {n = n} {b = b} {l = l} c v w p q f h =
    let x : List ℕ = sums_vector b n v in
    let y : List ℕ = sums_vector b n w in
    let e : length x ≡ length y = length-sums_vector b n v ∙ sym (length-sums_vector b n w) in
    let m : length (x ⋅ y) ≡ n = length_times x y e ∙ length-sums_vector b n v in
    let s : degree (x ⋅ y) ≤ 2 * l = omega (arith, degree_times x y, f, h) in
    let k : sums_word b (x ⋅ y) ≡ v + w = low_word-times b 0 0 x y e ∙ (λ i. p.0 i + q.0 i) in
    let P : ℕ → Type 0 = λ z. (z < 2 ^ size) × HoldsSums b l n z × (sums_vector b n z ≡ x ⋅ y) in
    let all : P (v + w) = subst P k (below_up b (sums_word b (x ⋅ y)) (2 ^ size) (word_below c (x ⋅ y) m s), holds_sums c (x ⋅ y) m s, vector_is c (x ⋅ y) m s) in
    record { fits = all.0; holds = all.1; vector = all.2 }

-- ---- quotients
pub record Over (n b l v w : ℕ) : Type 0 where
  pub below : w ≤ v
  pub holds : HoldsSums b l n (v - w)
  pub vector : sums_vector b n (v - w) ≡ over (sums_vector b n v) (sums_vector b n w)

pub over_is : {size n b l g : ℕ} (c : IsCut size n b l g) (v w : ℕ) → HoldsSums b l n v → HoldsSums b l n w → Divides (sums_vector b n w) (sums_vector b n v) → Over n b l v w
over_is {n = n} {b = b} {l = l} c v w p q d =
    let x : List ℕ = sums_vector b n v in
    let y : List ℕ = sums_vector b n w in
    let e : length x ≡ length y = length-sums_vector b n v ∙ sym (length-sums_vector b n w) in
    let lm : length (over x y) ≡ length y = length-over x y e ∙ e in
    let m : length (over x y) ≡ n = lm ∙ length-sums_vector b n w in
    let s : degree (over x y) ≤ 2 * l = omega (arith, degree-over x y e d, p.1) in
    let k : v ≡ sums_word b (over x y) + w =
    sym p.0 ∙ ap (sums_word b) (sym (times-over x y e d)) ∙ low_word-times b 0 0 (over x y) y lm ∙ ap (λ z. sums_word b (over x y) + z) q.0 in
    let is : sums_word b (over x y) ≡ v - w = omega (arith, k) in
    let P : ℕ → Type 0 = λ z. HoldsSums b l n z × (sums_vector b n z ≡ over x y) in
    let all : P (v - w) = subst P is (holds_sums c (over x y) m s, vector_is c (over x y) m s) in
    record { below = omega (arith, k); holds = all.0; vector = all.1 }

-- ---- the highest field
degree_field : (b n : ℕ) (v : List ℕ) → length v ≡ n → AllLess (2 ^ b) (sums 0 v) → sums_word b v / 2 ^ (n * b - b) ≡ degree v
unfolding degree
degree_field b n [] e a = omega (arith, pow_pos (n * b - b))
degree_field b n (x ∷ xs) e a =
    let n_is : suc (length xs) ≡ n = e in
    let f : n * b - b ≡ b * length xs = sym (ap (λ k. k * b - b) n_is) ∙ omega arith in
    ap (λ k. sums_word b (x ∷ xs) / 2 ^ k) f ∙ top_field b 0 x xs a ∙ omega arith

pub degree_is : {size n b l g : ℕ} (c : IsCut size n b l g) (w : ℕ) → HoldsSums b l n w → w / 2 ^ (n * b - b) ≡ degree (sums_vector b n w)
degree_is {n = n} {b = b} c w p =
    ap (λ k. k / 2 ^ (n * b - b)) (sym p.0) ∙ degree_field b n (sums_vector b n w) (length-sums_vector b n w) (sums_fit c (sums_vector b n w) p.1)

-- ---- one exponent
fields_are : {size n b l g : ℕ} (c : IsCut size n b l g) (w : ℕ) → HoldsSums b l n w → low_fields b n w ≡ sums 0 (sums_vector b n w)
fields_are {n = n} {b = b} c w p =
    let v : List ℕ = sums_vector b n w in
    let len : n ≡ length (sums 0 v) = sym (length-sums 0 v ∙ length-sums_vector b n w) in
    (λ i. low_fields b (len i) (sym p.0 i)) ∙ low_fields-low_word b (sums 0 v) (sums_fit c v p.1)

-- the field at a place of the word, and that of the word one field up, which is the one before it
pub exponent_is : {size n b l g : ℕ} (c : IsCut size n b l g) (w i : ℕ) → HoldsSums b l n w → i < n → field b w i ≡ field b (w * 2 ^ b) i + get_or (sums_vector b n w) i 0
exponent_is {n = n} {b = b} c w i p h =
    let v : List ℕ = sums_vector b n w in
    let f = fields_are c w p in
    let at : field b w i ≡ get_or (sums 0 v) i 0 = sym (low_fields-at b n w i h) ∙ ap (λ xs. get_or xs i 0) f in
    let up : get_or (0 ∷ sums 0 v) i 0 ≡ field b (w * 2 ^ b) i =
    ap (λ xs. get_or (0 ∷ xs) i 0) (sym f) ∙ ap (λ xs. get_or xs i 0) (low_fields-up b n w) ∙ low_fields-at b (suc n) (w * 2 ^ b) i (omega (arith, h)) in
    at ∙ sums-at 0 v i (omega (arith, h, length-sums_vector b n w)) ∙ ap (λ k. k + get_or v i 0) up

-- ---- the test of divisibility

-- what the test computes of two words: the gaps of their exponents, and above the fields whatever is left there
abbrev pub gaps_word : ℕ → ℕ → ℕ → ℕ → ℕ → ℕ
gaps_word m b g x y = let d : ℕ = (y + (m - x)) % m in ((d + (m - d * 2 ^ b % m)) % m + g) % m

difference : (m b g p x y T Ex Ey Sx Sy k1 k2 k3 k4 d u r t : ℕ) → x ≤ m → u ≤ m → d + k1 * m ≡ y + (m - x) → u + k2 * m ≡ d * b → r + k3 * m ≡ d + (m - u) → t + k4 * m ≡ r + g
    → Ex + x * b ≡ x + p * Sx → Ey + y * b ≡ y + p * Sy → T + Ex ≡ Ey + g
    → t + ((k1 + k3 + k4) * m + m * b + p * Sy) ≡ T + ((2 + k2) * m + k1 * m * b + p * Sx)
difference m b g p x y T Ex Ey Sx Sy k1 k2 k3 k4 d u r t lx lu e1 e2 e3 e4 ex ey eg =
    let a1 : d + x + k1 * m ≡ y + m = omega (arith, e1, lx) in
    let a2 : (d + x + k1 * m) * b ≡ (y + m) * b = ap (λ k. k * b) a1 in
    let a3 : r + u + k3 * m ≡ d + m = omega (arith, e3, lu) in
    let a4 : d * b + x * b + k1 * m * b ≡ y * b + m * b = omega (arith, a2) in
    omega (arith, a1, a3, a4, e2, e4, ex, ey, eg)

multiple : (p q m k b s : ℕ) → m ≡ p * q → k * m + m * b + p * s ≡ p * (k * q + q * b + s)
multiple p q m k b s e = ap (λ z. k * z + z * b + p * s) e ∙ omega arith

multiple_more : (p q m k j b s : ℕ) → m ≡ p * q → k * m + j * m * b + p * s ≡ p * (k * q + j * q * b + s)
multiple_more p q m k j b s e = ap (λ z. k * z + j * z * b + p * s) e ∙ omega arith

-- below the fields of the gaps stands nothing else
gaps_are : (m b p q g x y T Ex Ey Sx Sy : ℕ) → x ≤ m → 0 < m → m ≡ p * q → Ex + x * 2 ^ b ≡ x + p * Sx → Ey + y * 2 ^ b ≡ y + p * Sy → T + Ex ≡ Ey + g → gaps_word m b g x y % p ≡ T % p
gaps_are m b p q g x y T Ex Ey Sx Sy h pos e ex ey eg =
    let B : ℕ = 2 ^ b in
    let d : ℕ = (y + (m - x)) % m in
    let k1 : ℕ = (y + (m - x)) / m in
    let u : ℕ = d * B % m in
    let k2 : ℕ = d * B / m in
    let r : ℕ = (d + (m - u)) % m in
    let k3 : ℕ = (d + (m - u)) / m in
    let t : ℕ = (r + g) % m in
    let k4 : ℕ = (r + g) / m in
    let below : u < m = mod_below (d * B) m pos in
    let all : t + ((k1 + k3 + k4) * m + m * B + p * Sy) ≡ T + ((2 + k2) * m + k1 * m * B + p * Sx) =
    difference m B g p x y T Ex Ey Sx Sy k1 k2 k3 k4 d u r t h (omega (arith, below)) (mod-add-div' (y + (m - x)) m) (mod-add-div' (d * B) m) (mod-add-div' (d + (m - u)) m) (mod-add-div' (r + g) m) ex ey eg in
    same_rest t T p ((k1 + k3 + k4) * q + q * B + Sy) ((2 + k2) * q + k1 * q * B + Sx)
    (ap (λ z. t + z) (sym (multiple p q m (k1 + k3 + k4) B Sy e)) ∙ all ∙ ap (λ z. T + z) (multiple_more p q m (2 + k2) k1 B Sx e))

-- the exponents of a word, from the word and what stands one field up
steps_of : (b l n w : ℕ) → HoldsSums b l n w → low_word b (sums_vector b n w) + w * 2 ^ b ≡ w + 2 ^ (b * n) * degree (sums_vector b n w)
steps_of b l n w p =
    let v : List ℕ = sums_vector b n w in
    let all : low_word b v + (low_word b (sums 0 v) * 2 ^ b + 0) ≡ low_word b (sums 0 v) + 2 ^ (b * length v) * (0 + degree v) = low_word-steps b 0 v in
    let here : low_word b v + (w * 2 ^ b + 0) ≡ w + 2 ^ (b * length v) * (0 + degree v) = subst (λ k. low_word b v + (k * 2 ^ b + 0) ≡ k + 2 ^ (b * length v) * (0 + degree v)) p.0 all in
    let there : low_word b v + (w * 2 ^ b + 0) ≡ w + 2 ^ (b * n) * (0 + degree v) = subst (λ k. low_word b v + (w * 2 ^ b + 0) ≡ w + 2 ^ (b * k) * (0 + degree v)) (length-sums_vector b n w) here in
    omega (arith, there)

abbrev pub Tells : ℕ → ℕ → ℕ → ℕ → ℕ → ℕ → Type 0
Tells size n b g v w = (bit_and (gaps_word (2 ^ size) b (g / 2 ^ b) v w) (g / 2 ^ b) ≡ g / 2 ^ b) ↔ Divides (sums_vector b n v) (sums_vector b n w)

no_guards : (size n b g v w : ℕ) → g ≡ 0 → Divides (sums_vector b n v) (sums_vector b n w) → Tells size n b g v w
no_guards size n b g v w eg d =
    let t : ℕ = gaps_word (2 ^ size) b (g / 2 ^ b) v w in
    let none : g / 2 ^ b ≡ 0 = ap (λ k. k / 2 ^ b) eg ∙ omega (arith, pow_pos b) in
    (λ _. d, λ _. ap (bit_and t) none ∙ and_zero_r t ∙ sym none)

with_guards : {size n b l g : ℕ} (c : IsCut size n b l g) (v w k : ℕ) → HoldsSums b l n v → HoldsSums b l n w → degree (sums_vector b n v) < 2 ^ k → degree (sums_vector b n w) < 2 ^ k → 2 ^ b ≡ 2 ^ k + 2 ^ k
    → g ≡ fields_word b (replicate (suc n) (2 ^ k)) → Tells size n b g v w
with_guards {size = size} {n = n} {b = b} {l = l} {g = g} c v w k p q f h two eg =
    let x : List ℕ = sums_vector b n v in
    let y : List ℕ = sums_vector b n w in
    let lx : length x ≡ n = length-sums_vector b n v in
    let ly : length y ≡ n = length-sums_vector b n w in
    let e : length x ≡ length y = lx ∙ sym ly in
    let sx : AllLess (2 ^ k) x = AllLess-degree (2 ^ k) x f in
    let sy : AllLess (2 ^ k) y = AllLess-degree (2 ^ k) y h in
    let one_more : 2 ^ k < 2 ^ b = omega (arith, pow_pos k, two) in
    let G : ℕ = g / 2 ^ b in
    let T : ℕ = low_word b (gaps (2 ^ k) x y) in
    let gl : low_word b (replicate (length x) (2 ^ k)) ≡ G =
    ap (λ m. low_word b (replicate m (2 ^ k))) lx ∙ sym (low_guards b n (2 ^ k) one_more) ∙ ap (λ z. z / 2 ^ b) (sym eg) in
    let gap : T + low_word b x ≡ low_word b y + G = low_word-gaps b (2 ^ k) x y e sx ∙ ap (λ z. low_word b y + z) gl in
    let lg : length (gaps (2 ^ k) x y) ≡ n = length-gaps (2 ^ k) x y e ∙ lx in
    let lr : length (replicate (length x) (2 ^ k)) ≡ n = length-replicate (length x) (2 ^ k) ∙ lx in
    let small : T < 2 ^ (b * n) = subst (λ m. T < 2 ^ (b * m)) lg (low_word-below b (gaps (2 ^ k) x y) (subst (λ m. AllLess m (gaps (2 ^ k) x y)) (sym two) (gaps-AllLess (2 ^ k) x y sy))) in
    let low : low_word b (replicate (length x) (2 ^ k)) < 2 ^ (b * n) =
    subst (λ m. low_word b (replicate (length x) (2 ^ k)) < 2 ^ (b * m)) lr (low_word-below b (replicate (length x) (2 ^ k)) (replicate-AllLess (2 ^ b) (length x) (2 ^ k) one_more)) in
    let j : b * n ≤ size = omega (arith, c.capacity) in
    let rest : ℕ = size - b * n in
    let whole : 2 ^ size ≡ 2 ^ (b * n) * 2 ^ rest = ap (λ z. 2 ^ z) (omega (arith, j)) ∙ pow-add 2 (b * n) rest in
    let fits : v ≤ 2 ^ size = omega (arith, below_up b v (2 ^ size) (up_below c v p)) in
    let t : ℕ = gaps_word (2 ^ size) b G v w in
    let same : t % 2 ^ (b * n) ≡ T % 2 ^ (b * n) =
    gaps_are (2 ^ size) b (2 ^ (b * n)) (2 ^ rest) G v w T (low_word b x) (low_word b y) (degree x) (degree y) fits (pow_pos size) whole (steps_of b l n v p) (steps_of b l n w q) gap in
    let test : bit_and t G ≡ bit_and T G = and_low (b * n) t T G (omega (arith, low, gl)) small same in
    let tells = low_guards_are b k x y two e sx sy in
    let P : ℕ → Type 0 = λ z. (bit_and T z ≡ z) ↔ Divides x y in
    let told : P G = subst P gl tells in
    (λ z. told.0 (sym test ∙ z), λ z. test ∙ told.1 z)

pub tells_is : {size n b l g : ℕ} (c : IsCut size n b l g) (v w : ℕ) → HoldsSums b l n v → HoldsSums b l n w → degree (sums_vector b n v) ≤ l → degree (sums_vector b n w) ≤ l → Tells size n b g v w
tells_is {size = size} {n = n} {b = b} {l = l} {g = g} c v w p q f h = elim c.guarded [
  | inl z ↦ no_guards size n b g v w z.2 (zero-Divides (sums_vector b n v) (sums_vector b n w) (length-sums_vector b n v ∙ sym (length-sums_vector b n w)) (omega (arith, f, z.1)))
  | inr z ↦ with_guards c v w (b - 1) p q (omega (arith, f, z.1)) (omega (arith, h, z.1)) z.2 z.3
]

-- ---- reading a word, one field after another

-- below the lowest field stands none
pub first_field : (b w : ℕ) → 0 ≡ field b (w * 2 ^ b) 0
first_field b w = sym (mul-mod_left w (2 ^ b)) ∙ low_fields-at b 1 (w * 2 ^ b) 0 (omega arith)

pub next_field : (b w i : ℕ) → field b w i ≡ field b (w * 2 ^ b) (i + 1)
next_field b w i =
    let e : b + i * b ≡ (i + 1) * b = omega arith in
    ap (λ k. k / 2 ^ (i * b) % 2 ^ b) (sym (shl-shr w b)) ∙ ap (λ k. k % 2 ^ b) (shr-shr (w * 2 ^ b) b (i * b)) ∙ ap (λ k. w * 2 ^ b / 2 ^ k % 2 ^ b) e

-- the fields before i + 1 rise where those before i do, and the field i is not below the one before it
pub rising_more : (b w i : ℕ) → ((k : ℕ) → k < i → field b (w * 2 ^ b) k ≤ field b w k) → field b (w * 2 ^ b) i ≤ field b w i → (k : ℕ) → k < i + 1 → field b (w * 2 ^ b) k ≤ field b w k
rising_more b w i h j k m = elim (cases_lt k i) [
  | inl z ↦ h k z
  | inr z ↦ let same : i ≡ k = omega (arith, m, z) in subst (λ q. field b (w * 2 ^ b) q ≤ field b w q) same j
]

-- a word whose fields rise to at most twice the limit, with nothing above them, holds sums
pub holds_from : (b l n w : ℕ) → ((k : ℕ) → k < n → field b (w * 2 ^ b) k ≤ field b w k) → w / 2 ^ (n * b) ≡ 0 → field b (w * 2 ^ b) n ≤ 2 * l → HoldsSums b l n w
holds_from b l n w h none top =
    let xs : List ℕ = low_fields b n w in
    let v : List ℕ = rises 0 xs in
    let len : length xs ≡ n = length-low_fields b n w in
    let up : (k : ℕ) → k < n + 1 → get_or (0 ∷ xs) k 0 ≡ field b (w * 2 ^ b) k =
    λ k j. ap (λ l. get_or l k 0) (low_fields-up b n w) ∙ low_fields-at b (suc n) (w * 2 ^ b) k (omega (arith, j)) in
    let rising : (k : ℕ) → k < length xs → get_or (0 ∷ xs) k 0 ≤ get_or xs k 0 =
    λ k j. omega (arith, up k (omega (arith, j, len)), low_fields-at b n w k (omega (arith, j, len)), h k (omega (arith, j, len))) in
    let back : sums 0 v ≡ xs = sums-rises 0 xs rising in
    let small : w < 2 ^ (n * b) = omega (arith, div-add-mod' w (2 ^ (n * b)), mod_below w (2 ^ (n * b)) (pow_pos (n * b)), ap (λ k. k * 2 ^ (n * b)) none) in
    let turned : 2 ^ (n * b) ≡ 2 ^ (b * n) = ap (λ k. 2 ^ k) (mul_comm n b) in
    let whole : low_word b (sums 0 v) ≡ w = ap (low_word b) back ∙ low_word-low_fields b n w ∙ mod-eq_of_lt (omega (arith, small, turned)) in
    let last : get_or (0 ∷ xs) n 0 ≡ degree v =
    ap (λ l. get_or (0 ∷ l) n 0) (sym back) ∙ ap (λ k. get_or (0 ∷ sums 0 v) k 0) (sym (length-sums_vector b n w)) ∙ sums-last 0 v ∙ omega arith in
    (whole, omega (arith, last, up n (omega arith), top))

-- and each word that holds sums is such
pub holds_top : {size n b l g : ℕ} (c : IsCut size n b l g) (w : ℕ) → HoldsSums b l n w → (w / 2 ^ (n * b) ≡ 0) × (field b (w * 2 ^ b) n ≤ 2 * l)
holds_top {n = n} {b = b} {l = l} c w p =
    let v : List ℕ = sums_vector b n w in
    let f = fields_are c w p in
    let below : low_word b (sums 0 v) < 2 ^ (b * length (sums 0 v)) = low_word-below b (sums 0 v) (sums_fit c v p.1) in
    let len : length (sums 0 v) ≡ n = length-sums 0 v ∙ length-sums_vector b n w in
    let turned : b * length (sums 0 v) ≡ n * b = ap (λ k. b * k) len ∙ mul_comm b n in
    let small : w < 2 ^ (n * b) = omega (arith, below, p.0, ap (λ k. 2 ^ k) turned) in
    let last : field b (w * 2 ^ b) n ≡ degree v =
    sym (ap (λ l. get_or l n 0) (low_fields-up b n w) ∙ low_fields-at b (suc n) (w * 2 ^ b) n (omega arith))
    ∙ ap (λ l. get_or (0 ∷ l) n 0) f ∙ ap (λ k. get_or (0 ∷ sums 0 v) k 0) (sym (length-sums_vector b n w)) ∙ sums-last 0 v ∙ omega arith in
    (div-eq_of_lt small, omega (arith, last, p.1))

-- ---- packing, one exponent after another

sums_step : (L q b2 s x d y p : ℕ) → p ≡ q * b2 → (L + (s + x + d + y) * q) * b2 + (s + x) ≡ (L * b2 + (s + x)) + (s + (x + d) + y) * p
sums_step L q b2 s x d y p e = omega arith ∙ ap (λ k. (L * b2 + (s + x)) + (s + (x + d) + y) * k) (sym e)

pub low_word-push : (b s : ℕ) (v : List ℕ) (y : ℕ) → low_word b (sums s (v ++ y ∷ [])) ≡ low_word b (sums s v) + (s + degree v + y) * 2 ^ (length v * b)
unfolding degree
low_word-push b s [] y =
    let e : 0 * b ≡ 0 = omega arith in
    let f : 0 + (s + 0 + y) * 2 ^ 0 ≡ 0 + (s + 0 + y) * 2 ^ (0 * b) = ap (λ k. 0 + (s + 0 + y) * 2 ^ k) (sym e) in
    omega (arith, f)
low_word-push b s (x ∷ xs) y =
    let e : 2 ^ (suc (length xs) * b) ≡ 2 ^ (length xs * b) * 2 ^ b = ap (λ k. 2 ^ k) (omega arith) ∙ pow-add 2 (length xs * b) b in
    ap (λ k. k * 2 ^ b + (s + x)) (low_word-push b (s + x) xs y)
    ∙ sums_step (low_word b (sums (s + x) xs)) (2 ^ (length xs * b)) (2 ^ b) s x (degree xs) y (2 ^ (suc (length xs) * b)) e

degree-take : (i : ℕ) (xs : List ℕ) → degree (take i xs) ≤ degree xs
unfolding degree
degree-take zero xs = omega arith
degree-take (suc i) [] = omega arith
degree-take (suc i) (x ∷ xs) = omega (arith, degree-take i xs)

degree-push : (v : List ℕ) (y : ℕ) → degree (v ++ y ∷ []) ≡ degree v + y
unfolding degree
degree-push [] y = omega arith
degree-push (x ∷ xs) y = omega (arith, degree-push xs y)

pub record Pack (size b l : ℕ) (xs : List ℕ) (i x : ℕ) : Type 0 where
  pub within : sum (take i xs) + x ≤ l
  pub place : i * b < size
  pub next_sum : sum (take i xs) + x ≡ sum (take (i + 1) xs)
  pub whole : (sum (take i xs) + x) * 2 ^ (i * b) % 2 ^ size ≡ (sum (take i xs) + x) * 2 ^ (i * b)
  pub fits : sums_word b (take i xs) + (sum (take i xs) + x) * 2 ^ (i * b) < 2 ^ size
  pub next : sums_word b (take i xs) + (sum (take i xs) + x) * 2 ^ (i * b) ≡ sums_word b (take (i + 1) xs)

pub pack_is : {size n b l g : ℕ} (c : IsCut size n b l g) (xs : List ℕ) (i x : ℕ) → length xs ≡ n → degree xs ≤ l → i < length xs → get_or xs i 0 ≡ x → Pack size b l xs i x
pack_is {size = size} {n = n} {b = b} {l = l} c xs i x e h j g =
    let t : take (i + 1) xs ≡ take i xs ++ x ∷ [] = take_more xs i 0 j ∙ ap (λ y. take i xs ++ y ∷ []) g in
    let len : length (take i xs) ≡ i = omega (arith, length-take i xs, j) in
    let s : degree (take i xs) ≡ sum (take i xs) = degree_is_sum (take i xs) in
    let s1 : sum (take (i + 1) xs) ≡ sum (take i xs) + x = omega (arith, s, degree_is_sum (take (i + 1) xs), ap degree t, degree-push (take i xs) x) in
    let push : sums_word b (take (i + 1) xs) ≡ sums_word b (take i xs) + (0 + degree (take i xs) + x) * 2 ^ (length (take i xs) * b) =
    ap (sums_word b) t ∙ low_word-push b 0 (take i xs) x in
    let total : 0 + degree (take i xs) + x ≡ sum (take i xs) + x = omega (arith, s) in
    let next : sums_word b (take (i + 1) xs) ≡ sums_word b (take i xs) + (sum (take i xs) + x) * 2 ^ (i * b) =
    push ∙ (λ k. sums_word b (take i xs) + total k * 2 ^ (len k * b)) in
    let most : degree (take (i + 1) xs) ≤ l = omega (arith, degree-take (i + 1) xs, h) in
    let few : length (sums 0 (take (i + 1) xs)) ≤ n = omega (arith, length-sums 0 (take (i + 1) xs), length-take (i + 1) xs, e) in
    let small : sums_word b (take (i + 1) xs) < 2 ^ (b * length (sums 0 (take (i + 1) xs))) = low_word-below b (sums 0 (take (i + 1) xs)) (sums_fit c (take (i + 1) xs) (omega (arith, most))) in
    let room : b * length (sums 0 (take (i + 1) xs)) ≤ size = omega (arith, mul-le-mul_left b few, c.capacity) in
    let top : 2 ^ (b * length (sums 0 (take (i + 1) xs))) ≤ 2 ^ size = pow-le-pow_right {n = 2} (omega arith) room in
    let fits : sums_word b (take i xs) + (sum (take i xs) + x) * 2 ^ (i * b) < 2 ^ size = omega (arith, next, small, top) in
    record {
      within = omega (arith, most, degree_is_sum (take (i + 1) xs), s1);
      place = shift_within c i (omega (arith, j, e));
      next_sum = sym s1;
      whole = mod-eq_of_lt (omega (arith, fits));
      fits = fits;
      next = sym next;
    }
