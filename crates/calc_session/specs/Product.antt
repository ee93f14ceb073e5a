-- The product of two polynomials, or the bound that it passes: that on degrees first.
use Rattle.std.specs.Prelude.{◌≡◌, ◌+◌, ◌*◌, ◌&&◌, ℕ, Bool, false, eqb, ltb, List, [], ◌∷◌, if◌then◌else◌, Result, Ok, Err}
use Rattle.sdmp_laws.specs.Order.{Order, degree}
use Rattle.sdmp_laws.specs.Poly.{Term, norm, terms, times}
use Rattle.sdmp_laws.specs.Limits.{greatest_norm, IsDegreeOver, IsNormOver, HasRoom}
use Rattle.calc_session.specs.declared.fault.LineFault.{LineFault}
use Rattle.calc_session.specs.declared.fault.LineFault.TheVariants.{DegreeBound, CoefficientBound, NoMemory}

-- whether the product would have a degree above lim
abbrev pub is_degree_over : ℕ → List Term → List Term → Bool
is_degree_over lim [] g = false
is_degree_over lim (s ∷ f) [] = false
is_degree_over lim (s ∷ f) (t ∷ g) = ltb lim (degree s.monomial + degree t.monomial)

-- whether over the integers the product of the norms is above the greatest norm
abbrev pub is_norm_over : ℕ → List Term → List Term → Bool
is_norm_over p f g = eqb p 0 && ltb greatest_norm (norm f * norm g)

-- the list of the terms of the product
unfoldable pub product : Order → ℕ → ℕ → List Term → List Term → Result (List Term) LineFault
product ord lim p f g =
    if is_degree_over lim f g then Err DegreeBound
    else (if is_norm_over p f g then Err CoefficientBound else Ok (terms ord p (times f g)))

-- h is the list of the terms of a product that has room
pub record IsProduct (ord : Order) (lim p : ℕ) (f g h : List Term) : Type 0 where
  pub room : HasRoom lim p f g
  pub list : h ≡ terms ord p (times f g)

-- why there is no product
abbrev pub IsProductRefused : ℕ → ℕ → List Term → List Term → LineFault → Type 0
IsProductRefused lim p f g DegreeBound = IsDegreeOver lim f g
IsProductRefused lim p f g CoefficientBound = (IsDegreeOver lim f g → ⊥) × IsNormOver p f g
IsProductRefused lim p f g NoMemory = Unit {0}
IsProductRefused lim p f g _ = ⊥
