-- A word of fields, the lowest first, and a vector: field i is the sum of the first i exponents.
use Rattle.std.specs.Prelude.{ℕ, zero, suc, ◌+◌, ◌-◌, ◌*◌, ◌/◌, ◌%◌, ◌^◌, ◌≤◌, ◌≡◌, List, [], ◌∷◌}
use Rattle.sdmp_laws.specs.Order.{degree}
use Rattle.wide_monomial.specs.Packing.{bits_of, limit_of}

-- the sums of the first numbers, each more by s
abbrev pub sums : ℕ → List ℕ → List ℕ
sums s [] = []
sums s (x ∷ xs) = (s + x) ∷ sums (s + x) xs

-- by how much each number is above the one before it, and the first above s
abbrev pub rises : ℕ → List ℕ → List ℕ
rises s [] = []
rises s (x ∷ xs) = (x - s) ∷ rises x xs

-- the word whose fields these are, the first lowest
abbrev pub low_word : ℕ → List ℕ → ℕ
low_word b [] = 0
low_word b (x ∷ xs) = low_word b xs * 2 ^ b + x

-- the n low fields, the lowest first
abbrev pub low_fields : ℕ → ℕ → ℕ → List ℕ
low_fields b zero w = []
low_fields b (suc n) w = (w % 2 ^ b) ∷ low_fields b n (w / 2 ^ b)

-- the field at a place, the lowest at 0
abbrev pub field : ℕ → ℕ → ℕ → ℕ
field b w i = w / 2 ^ (i * b) % 2 ^ b

-- the word of a vector, and the vector of a word
abbrev pub sums_word : ℕ → List ℕ → ℕ
sums_word b v = low_word b (sums 0 v)

abbrev pub sums_vector : ℕ → ℕ → ℕ → List ℕ
sums_vector b n w = rises 0 (low_fields b n w)

-- the word is the word of its vector, whose degree is at most twice the limit
abbrev pub HoldsSums : ℕ → ℕ → ℕ → ℕ → Type 0
HoldsSums b l n w = (sums_word b (sums_vector b n w) ≡ w) × (degree (sums_vector b n w) ≤ 2 * l)

-- the same in the layout for n variables
abbrev pub rev_vector_of : ℕ → ℕ → List ℕ
rev_vector_of n w = sums_vector (bits_of n) n w

abbrev pub rev_word_of : ℕ → List ℕ → ℕ
rev_word_of n v = sums_word (bits_of n) v

abbrev pub IsRevWide : ℕ → ℕ → Type 0
IsRevWide n w = HoldsSums (bits_of n) (limit_of n) n w
