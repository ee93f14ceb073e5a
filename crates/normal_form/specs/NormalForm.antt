-- The normal form of a polynomial by a list of divisors: each monomial belongs to the first divisor whose leading monomial divides it, or to the remainder.
use Rattle.std.specs.Prelude.{◌≡◌, ◌≢◌, ℕ, ◌<◌, List, [], ◌∷◌, ◌++◌, length, slice_index_or}
use Rattle.std.specs.List.{All}
use Rattle.sdmp_laws.specs.Order.{Order, ◌⋅◌, Divides}
use Rattle.sdmp_laws.specs.Ring.{IsUnit}
use Rattle.sdmp_laws.specs.Poly.{Term, Same, times, IsPoly, lm, lc}
use Rattle.sdmp_laws.specs.Division.{NoneDivisible}

-- one reduction: the order, the modulus, the number of variables, the polynomial that is reduced and the divisors
pub record Reduction : Type 0 where
  pub ord : Order
  pub p : ℕ
  pub n : ℕ
  pub f : List Term
  pub divisors : List (List Term)

-- the polynomial at a place of a list of polynomials
abbrev pub poly_at : List (List Term) → ℕ → List Term
poly_at L i = slice_index_or L i []

-- a divisor that is taken: it isn't zero, and its leading coefficient is a unit
pub record IsDivisor (ord : Order) (p n : ℕ) (g : List Term) : Type 0 where
  pub poly : IsPoly ord p n g
  pub nonzero : g ≢ []
  pub unit : IsUnit p (lc g)

-- the reduction is one that is carried out
pub record IsReducible (d : Reduction) : Type 0 where
  pub dividend : IsPoly d.ord d.p d.n d.f
  pub divisors : All (IsDivisor d.ord d.p d.n) d.divisors

-- q_1*g_1 + .. + q_k*g_k
unfoldable pub products : List (List Term) → List (List Term) → List Term
products [] gs = []
products (q ∷ qs) [] = []
products (q ∷ qs) (g ∷ gs) = times q g ++ products qs gs

-- for each term t of quotient i, no leading monomial of a divisor before divisor i divides t*lm(g_i)
abbrev pub FirstFits : List (List Term) → List (List Term) → Type 0
FirstFits gs qs = (i j : ℕ) → j < i → i < length gs → All (λ t. Divides (lm (poly_at gs j)) (t.monomial ⋅ lm (poly_at gs i)) → ⊥) (poly_at qs i)

-- f = q_1*g_1 + .. + q_k*g_k + r, no monomial of r is divisible by the leading monomial of a divisor, and each term of a quotient is that of the first divisor that fits
pub record IsNormalForm (d : Reduction) (qs : List (List Term)) (r : List Term) : Type 0 where
  pub count : length qs ≡ length d.divisors
  pub quotients : All (IsPoly d.ord d.p d.n) qs
  pub remainder : IsPoly d.ord d.p d.n r
  pub same : Same d.p d.f (products qs d.divisors ++ r)
  pub none_divisible : All (λ g. NoneDivisible (lm g) r) d.divisors
  pub first_fits : FirstFits d.divisors qs

-- at most one list of quotients and remainder are a normal form
abbrev pub NormalFormUnique : Type 0
NormalFormUnique = (d : Reduction) (qs qs' : List (List Term)) (r r' : List Term) → IsReducible d → IsNormalForm d qs r → IsNormalForm d qs' r' → (qs ≡ qs') × (r ≡ r')
