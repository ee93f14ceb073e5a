-- The elements of the ring of a characteristic as whole numbers, and the sums of their products as words.
use Rattle.std.specs.Prelude.{ℕ, zero, suc, ℤ, pos, ◌*◌, ◌%◌, ◌^◌, ◌≤◌, ◌<◌, ◌≤ℤ◌, ◌<ℤ◌, unsigned_abs}
use Rattle.std.specs.Int.{w128, cast_signed}
use Rattle.sdmp_laws.specs.Limits.{greatest_norm}

-- a is an element of the ring of characteristic p: over the integers one of at most 127 bits, else one from 0 to p - 1
abbrev pub IsElement : ℕ → ℤ → Type 0
IsElement zero a = unsigned_abs a ≤ greatest_norm
IsElement (suc k) a = (pos 0 ≤ℤ a) × (a <ℤ pos (suc k))

-- over the integers a number of at most 127 bits fits, else each does
abbrev pub FitsRing : ℕ → ℤ → Type 0
FitsRing zero n = unsigned_abs n ≤ greatest_norm
FitsRing (suc k) n = Unit {0}

-- the word is a sum of products: over the integers in two's complement, else below p words
abbrev pub IsSum : ℕ → ℕ → Type 0
IsSum zero s = unsigned_abs (cast_signed w128 s) ≤ greatest_norm
IsSum (suc k) s = s < suc k * 2 ^ 64

-- the reduced number that the sum stands for
abbrev pub sum_of : ℕ → ℕ → ℤ
sum_of zero s = cast_signed w128 s
sum_of (suc k) s = pos (s % suc k)
