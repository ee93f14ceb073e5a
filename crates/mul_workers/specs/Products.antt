-- Which product the workers make, and why it is refused.
use Rattle.std.specs.Prelude.{◌≡◌, ℕ, ◌+◌, List}
use Rattle.sdmp_laws.specs.Order.{Order, degree}
use Rattle.sdmp_laws.specs.Poly.{Term, norm, lm}
use Rattle.sdmp_laws.specs.Canonical.{Polynomial}
use Rattle.sdmp_laws.specs.Limits.{IsDegreeOver, IsNormOver, HasRoom}
use Rattle.whole_laws.specs.Notes.{Product}
use Rattle.mul_workers.specs.declared.product.MulFault.{MulFault}
use Rattle.mul_workers.specs.declared.product.MulFault.TheVariants.{DegreeBound, CoefficientBound, NoMemory}

-- the product of f and g, polynomials of one modulus in n variables
abbrev pub product_of : Order → ℕ → Polynomial → Polynomial → Product
product_of ord n f g = record { ord = ord; p = f.modulus; n = n; f = f.list; g = g.list }

-- why it is refused: the sum of the degrees is above the limit; else the product of the norms over the integers is above its bound; or it has room, and memory is wanting
abbrev pub IsRefusal : ℕ → ℕ → List Term → List Term → MulFault → Type 0
IsRefusal lim p f g (DegreeBound sum) = IsDegreeOver lim f g × (sum ≡ degree (lm f) + degree (lm g))
IsRefusal lim p f g (CoefficientBound left right) = (IsDegreeOver lim f g → ⊥) × IsNormOver p f g × (left ≡ norm f) × (right ≡ norm g)
IsRefusal lim p f g NoMemory = HasRoom lim p f g
