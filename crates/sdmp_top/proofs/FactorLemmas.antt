-- The factors of a product may change places.
use Rattle.std.proofs.Common.{◌≡◌, ◌+◌, ◌*◌, ◌<◌, ℕ, List, sym, ◌∙◌, arith}
use Rattle.std.proofs.Math.Nat.{mul_comm}
use Rattle.sdmp_laws.specs.Order.{Order}
use Rattle.sdmp_laws.specs.Poly.{Term, Over, norm}
use Rattle.sdmp_laws.specs.Limits.{IsDegreeOver, IsNormOver}
use Rattle.row_merge.proofs.ProductTerms.{room_swapped, product_swapped}
use Rattle.calc_session.specs.Product.{IsProduct, IsProductRefused}
use Rattle.calc_session.specs.declared.fault.LineFault.{LineFault}
use Rattle.calc_session.specs.declared.fault.LineFault.TheVariants.{DegreeBound, CoefficientBound, NoMemory}

pub product_swaps : (ord : Order) (lim p q n : ℕ) (f g h : List Term) → p ≡ q → Over n f → Over n g → IsProduct ord lim q g f h → IsProduct ord lim p f g h
product_swaps ord lim p q n f g h e a b product = record {
  room = room_swapped lim q p g f (sym e) product.room;
  list = product.list ∙ product_swapped ord p q n f g e a b;
}

degree_swaps : (lim : ℕ) (f g : List Term) → IsDegreeOver lim f g → IsDegreeOver lim g f
degree_swaps lim f g o = record { left = o.right; right = o.left; over = omega (arith, o.over) }

norm_swaps : (p q : ℕ) (f g : List Term) → p ≡ q → IsNormOver q g f → IsNormOver p f g
norm_swaps p q f g e o = record { integers = e ∙ o.integers; over = omega (arith, o.over, mul_comm (norm f) (norm g)) }

pub refused_swaps : (lim p q : ℕ) (f g : List Term) (fault : LineFault) → p ≡ q → IsProductRefused lim q g f fault → IsProductRefused lim p f g fault
refused_swaps lim p q f g DegreeBound e refused = degree_swaps lim g f refused
refused_swaps lim p q f g CoefficientBound e refused = (λ o. refused.0 (degree_swaps lim f g o), norm_swaps p q f g e refused.1)
refused_swaps lim p q f g NoMemory e refused = tt
refused_swaps lim p q f g _ e refused = absurd refused
