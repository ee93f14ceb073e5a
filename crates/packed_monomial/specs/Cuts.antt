-- A word cut into n + 1 fields of b bits: the degree of a vector, and then the vector. Whatever the word's size.
use Rattle.std.specs.Prelude.{ℕ, suc, ◌+◌, ◌-◌, ◌*◌, ◌/◌, ◌^◌, ◌≤◌, ◌<◌, ◌≡◌, ◌⊎◌, List, ◌∷◌, length, replicate}
use Rattle.sdmp_laws.specs.Order.{degree}
use Rattle.std.proofs.Common.{sym, ap, ◌∙◌, subst, arith}
use Rattle.std.proofs.lemmas.Nat.{shr_split, shr_high}
use Rattle.std.proofs.Math.Nat.{pow-le-pow_right}
use Rattle.packed_monomial.specs.Fields.{fields_word, fields, AllLess, length-fields, fields_word-fields, fields-fields_word, fields_word-below, AllLess-degree}

-- the fields fit a word of so many bits, twice the limit l fits a field, and g is the top bits of all fields, above the limit; or there are no fields
pub record IsCut (size n b l g : ℕ) : Type 0 where
  pub some : 0 < size
  pub capacity : b * suc n ≤ size
  pub room : 2 * l < 2 ^ b
  pub guarded : ((b ≡ 0) × (l ≡ 0) × g ≡ 0) ⊎ ((0 < b) × (l < 2 ^ (b - 1)) × (2 ^ b ≡ 2 ^ (b - 1) + 2 ^ (b - 1)) × g ≡ fields_word b (replicate (suc n) (2 ^ (b - 1))))

-- the word of a vector
abbrev pub degree_word : ℕ → List ℕ → ℕ
degree_word b v = fields_word b (degree v ∷ v)

-- above the exponents stands their sum, which is within bounds
abbrev pub HoldsDegree : ℕ → ℕ → ℕ → ℕ → Type 0
HoldsDegree b l n w = (w / 2 ^ (b * n) ≡ degree (fields b n w)) × (degree (fields b n w) ≤ 2 * l)

-- such a word is the word of its vector
pub word_is : (b l n w : ℕ) → HoldsDegree b l n w → degree_word b (fields b n w) ≡ w
word_is b l n w p = (λ i. sym p.0 i * 2 ^ (b * length-fields b n w i) + fields_word-fields b n w i) ∙ shr_split w (b * n)

pub fits_field : {size n b l g : ℕ} (c : IsCut size n b l g) (v : List ℕ) → degree v ≤ 2 * l → AllLess (2 ^ b) v
fits_field {b = b} c v h = AllLess-degree (2 ^ b) v (omega (arith, h, c.room))

pub fits_all : {size n b l g : ℕ} (c : IsCut size n b l g) (v : List ℕ) → degree v ≤ 2 * l → AllLess (2 ^ b) (degree v ∷ v)
fits_all c v h = (omega (arith, h, c.room), fits_field c v h)

pub vector_is : {size n b l g : ℕ} (c : IsCut size n b l g) (v : List ℕ) → length v ≡ n → degree v ≤ 2 * l → fields b n (degree_word b v) ≡ v
vector_is {b = b} c v e h = ap (λ k. fields b k (degree_word b v)) (sym e) ∙ fields-fields_word b (degree v) v (fits_field c v h)

pub packed_is : {size n b l g : ℕ} (c : IsCut size n b l g) (v : List ℕ) → length v ≡ n → degree v ≤ 2 * l → HoldsDegree b l n (degree_word b v)
packed_is {n = n} {b = b} c v e h =
    let d : degree_word b v / 2 ^ (b * n) ≡ degree v =
    ap (λ k. degree_word b v / 2 ^ (b * k)) (sym e) ∙ shr_high (degree v) (b * length v) (fields_word b v) (fields_word-below b v (fits_field c v h)) in
    let is : degree (fields b n (degree_word b v)) ≡ degree v = ap degree (vector_is c v e h) in
    (d ∙ sym is, omega (arith, is, h))

-- it fits one word
pub word_below : {size n b l g : ℕ} (c : IsCut size n b l g) (v : List ℕ) → length v ≡ n → degree v ≤ 2 * l → degree_word b v < 2 ^ size
word_below {size = size} {b = b} c v e h =
    let k : degree_word b v < 2 ^ (b * suc (length v)) = fields_word-below b (degree v ∷ v) (fits_all c v h) in
    let j : b * suc (length v) ≤ size = subst (λ q. b * suc q ≤ size) (sym e) c.capacity in
    omega (arith, k, pow-le-pow_right {n = 2} (omega arith) j)
