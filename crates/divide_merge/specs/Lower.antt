-- Powers of a variable, and multiples of a monomial by them.
use Rattle.std.specs.Prelude.{ℕ, ◌-◌, ◌<◌, List, set}
use Rattle.sdmp_laws.specs.Order.{Order, ◌⋅◌, Below, zeros}

-- the variable i of n, so many times
abbrev pub power : ℕ → ℕ → ℕ → List ℕ
power n i k = set (zeros n) i k

-- the multiple of l by a power of the last variable is above b
pub record IsLeastAbove (ord : Order) (n : ℕ) (l b : List ℕ) (k : ℕ) : Type 0 where
  pub some : 0 < n
  pub above : Below ord b (l ⋅ power n (n - 1) k)
