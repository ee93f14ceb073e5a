-- The polynomials and the division of the tests.
use Rattle.std.specs.Prelude.{ℕ, ℤ, List, [], ◌∷◌, pos, negsuc}
use Rattle.sdmp_laws.specs.Order.{Grlex}
use Rattle.sdmp_laws.specs.Poly.{Term, terms}
use Rattle.sdmp_laws.specs.Division.{Division}
use Rattle.sdmp_laws.specs.declared.Mode.TheVariants.{Exact}

-- a x^k + b
abbrev pub two_terms : ℤ → ℕ → ℤ → List Term
two_terms a k b = terms Grlex 0 (record { monomial = k ∷ []; coefficient = a } ∷ record { monomial = 0 ∷ []; coefficient = b } ∷ [])

-- x^k + a by x + b
abbrev pub by_line : ℕ → ℤ → ℤ → Division
by_line k a b = record { mode = Exact; ord = Grlex; p = 0; n = 1; f = two_terms (pos 1) k a; g = two_terms (pos 1) 1 b }

-- x^2 + 1 by x + 1
abbrev pub square_and_one : Division
square_and_one = by_line 2 (pos 1) (pos 1)

-- x^3 - 1 by x - 1
abbrev pub cube_less_one : Division
cube_less_one = by_line 3 (negsuc 0) (negsuc 0)

-- the terms of its quotient before a remainder of 2
abbrev pub x_term : Term
x_term = record { monomial = 1 ∷ []; coefficient = pos 1 }

abbrev pub minus_one : Term
minus_one = record { monomial = 0 ∷ []; coefficient = negsuc 0 }
