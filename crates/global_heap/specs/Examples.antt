-- The product of two linear polynomials.
use Rattle.std.specs.Prelude.{ℤ, pos, negsuc, List, [], ◌∷◌}
use Rattle.sdmp_laws.specs.Order.{Grlex}
use Rattle.sdmp_laws.specs.Poly.{Term, terms}
use Rattle.whole_laws.specs.Notes.{Product}

-- x + b
abbrev pub plus : ℤ → List Term
plus b = terms Grlex 0 (record { monomial = 1 ∷ []; coefficient = pos 1 } ∷ record { monomial = 0 ∷ []; coefficient = b } ∷ [])

-- x + 1 times x - 1
abbrev pub squares : Product
squares = record { ord = Grlex; p = 0; n = 1; f = plus (pos 1); g = plus (negsuc 0) }
