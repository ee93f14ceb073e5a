-- A word of 128 bits and a vector: the degree highest, and below it the exponents from the left.
use Rattle.std.specs.Prelude.{ℕ, zero, suc, ◌-◌, ◌*◌, ◌/◌, ◌%◌, ◌^◌, ◌≤◌, ◌<◌, ◌≡◌, List, [], ◌∷◌, length, get_or, bit_and}
use Rattle.std.proofs.Common.{arith, inl, inr, ap, ◌∙◌}
use Rattle.std.proofs.lemmas.Nat.{pow_pos, and_mask, one_shl}
use Rattle.packed_monomial.specs.Fields.{fields, length-fields, degree-cons}
use Rattle.sdmp_laws.specs.Order.{degree}
use Rattle.packed_monomial.specs.Cuts.{IsCut, degree_word, HoldsDegree}
use Rattle.wide_monomial.specs.Layouts.{layout_of, layout_is}

abbrev pub bits_of : ℕ → ℕ
bits_of n = (layout_of n).bits

abbrev pub limit_of : ℕ → ℕ
limit_of n = (layout_of n).limit

abbrev pub guards_of : ℕ → ℕ
guards_of n = (layout_of n).guards

-- the exponents in a word
abbrev pub vector_of : ℕ → ℕ → List ℕ
vector_of n w = fields (bits_of n) n w

-- the word of a vector
abbrev pub word_of : ℕ → List ℕ → ℕ
word_of n v = degree_word (bits_of n) v

-- the fields above the exponents hold the degree, which is within bounds
abbrev pub IsWide : ℕ → ℕ → Type 0
IsWide n w = HoldsDegree (bits_of n) (limit_of n) n w

-- a word of 128 bits as two, the low one first
abbrev pub halves : ℕ → List ℕ
halves w = w % 2 ^ 64 ∷ w / 2 ^ 64 ∷ []

pub halves-same : (m n : ℕ) → halves m ≡ halves n → m ≡ n
halves-same m n e =
    let low : m % 2 ^ 64 ≡ n % 2 ^ 64 = cc in
    let high : m / 2 ^ 64 ≡ n / 2 ^ 64 = cc in
    omega arith

pub length-vector_of : (n w : ℕ) → length (vector_of n w) ≡ n
length-vector_of n w = length-fields (bits_of n) n w

-- the laws of cut words are those of these words
pub cut_is : (n : ℕ) → IsCut 128 n (bits_of n) (limit_of n) (guards_of n)
cut_is n =
    let l = layout_is n in
    record {
      some = omega arith;
      capacity = l.capacity;
      room = l.room;
      guarded = elim (l.guarded) [
        | inl z ↦ inl z
        | inr z ↦ inr (z.0, omega (arith, z.2, pow_pos (bits_of n - 1)), z.3, z.4)
      ];
    }

-- an exponent is at most the degree
pub exponent-most : (v : List ℕ) (i : ℕ) → i < length v → get_or v i 0 ≤ degree v
exponent-most [] i h = absurd (omega arith)
exponent-most (x ∷ xs) zero h = omega (arith, degree-cons x xs)
exponent-most (x ∷ xs) (suc i) h = omega (arith, degree-cons x xs, exponent-most xs i (omega arith))

-- twice the limit fits 32 bits
pub degree_small : (n d : ℕ) → d ≤ 2 * limit_of n → d < 2 ^ 32
degree_small n d h = omega (arith, h, (layout_is n).limit_bound)

-- the mask of one field
pub masked : (n q : ℕ) → bit_and q (1 * 2 ^ bits_of n % 2 ^ 128 - 1) ≡ q % 2 ^ bits_of n
masked n q = ap (λ k. bit_and q (k - 1)) (one_shl (bits_of n) 128 (omega (arith, (layout_is n).narrow))) ∙ and_mask q (bits_of n)
