-- What is kept of the divisors.
use Rattle.std.proofs.Common.{◌≡◌, ◌≢◌, ℕ, List, [], ℤ, subst}
use Rattle.sdmp_laws.specs.Order.{Order, degree}
use Rattle.sdmp_laws.specs.Ring.{IsReduced, IsUnit, IsInverse}
use Rattle.sdmp_laws.specs.Poly.{lm, lc}
use Rattle.sdmp_laws.specs.Canonical.{IsCanonical, Polynomial}
use Rattle.normal_form.specs.Divisors.{IsKept}

-- a number with an inverse is a unit
pub inverse_unit : (p : ℕ) (b v : ℤ) → IsReduced p b → IsInverse p b v → IsUnit p b
inverse_unit p b v r i = (r, (v, i.product))

-- the divisor g with the inverse v of its leading coefficient b
pub kept : {M E : Type 0} (vector : M → List ℕ) (value : E → ℤ) (Belongs : E → Type 0) (ord : Order) (p n lim : ℕ) (g : Polynomial) (lead : M) (deg : ℕ) (b : ℤ) (v : E)
    → g.modulus ≡ p → IsCanonical ord g.modulus n lim g.list → g.list ≢ [] → vector lead ≡ lm g.list → b ≡ lc g.list → deg ≡ degree (vector lead) → IsReduced p b → Belongs v → IsInverse p b (value v)
    → IsKept vector value Belongs ord p n lim g lead deg v
kept vector value Belongs ord p n lim g lead deg b v e c z m f d r w i = record {
  modulus = e;
  canonical = canonical;
  divisor = record { poly = canonical.poly; nonzero = z; unit = subst (λ (x : ℤ). IsUnit p x) f (inverse_unit p b (value v) r i) };
  monomial = m;
  degree_is = d;
  belongs = w;
  inverse_is = subst (λ (x : ℤ). IsInverse p x (value v)) f i;
}
  where
    canonical : IsCanonical ord p n lim g.list
    canonical = subst (λ (q : ℕ). IsCanonical ord q n lim g.list) e c
