-- What a division answers: said by the relations of division, and computed.
use Rattle.std.specs.Prelude.{◌≡◌, ◌≢◌, ℕ, zero, suc, ◌+◌, ◌*◌, ◌≤◌, ◌⊎◌, ◌&&◌, ◌||◌, not, Bool, true, false, cond, eqb, ltb, leb, List, [], ◌∷◌, length, take, ℤ, pos, ◌+ℤ◌, ◌*ℤ◌, neg_ℤ, unsigned_abs}
use Rattle.sdmp_laws.specs.Order.{Order}
use Rattle.sdmp_laws.specs.Ring.{red, IsUnit}
use Rattle.sdmp_laws.specs.Canonical.{Polynomial}
use Rattle.sdmp_laws.specs.Poly.{Term, norm, IsPoly, is_zero, lc}
use Rattle.sdmp_laws.specs.Division.{Division, IsAccepted, IsExact, IsRem, IsFront}
use Rattle.sdmp_laws.specs.LongDivision.{quotient_list}
use Rattle.sdmp_laws.specs.DivisionLaws.{rest_list}
use Rattle.sdmp_laws.specs.Limits.{greatest_norm, quotient_terms_limit, Passes}
use Rattle.sdmp_laws.specs.declared.Mode.{Mode}
use Rattle.sdmp_laws.specs.declared.Mode.TheVariants.{Exact, Remainder}

-- the division of f by g, lists of terms in n variables modulo p
abbrev pub division : Mode → Order → ℕ → ℕ → List Term → List Term → Division
division mode ord n p f g = record { mode = mode; ord = ord; p = p; n = n; f = f; g = g }

-- the division of two polynomials
abbrev pub division_of : Mode → Order → ℕ → Polynomial → Polynomial → Division
division_of mode ord n f g = division mode ord n f.modulus f.list g.list

-- what a division answers
pub data Outcome : Type 0 where
  OverZero : Outcome
  ByNoUnit : Outcome
  OverBound : Outcome
  OverTerms : Outcome
  HasQuotient : List Term → Outcome
  HasNoQuotient : Outcome
  HasRemainder : List Term → List Term → Outcome

-- some front of at most 2^30 terms passes the bound on norms
pub record PassesEarly (d : Division) : Type 0 where
  pub front : List Term
  pub is : IsFront d front
  pub few : length front ≤ quotient_terms_limit
  pub over : Passes d front

-- some front has 2^30 terms
pub record IsLong (d : Division) : Type 0 where
  pub front : List Term
  pub is : IsFront d front
  pub many : length front ≡ quotient_terms_limit

-- the division is accepted, and no front passes a bound
pub record IsWithin (d : Division) : Type 0 where
  pub accepted : IsAccepted d
  pub fits : PassesEarly d → ⊥
  pub short : IsLong d → ⊥

-- what each answer says
unfoldable pub IsOutcome : Division → Outcome → Type 0
IsOutcome d OverZero = d.g ≡ []
IsOutcome d ByNoUnit = (d.g ≢ []) × ((d.mode ≡ Remainder) ⊎ (d.p ≢ 0)) × (IsUnit d.p (lc d.g) → ⊥)
IsOutcome d OverBound = IsAccepted d × PassesEarly d
IsOutcome d OverTerms = IsAccepted d × (PassesEarly d → ⊥) × IsLong d
IsOutcome d (HasQuotient q) = IsWithin d × (d.mode ≡ Exact) × IsExact d q
IsOutcome d HasNoQuotient = IsWithin d × (d.mode ≡ Exact) × ((q : List Term) → IsExact d q → ⊥)
IsOutcome d (HasRemainder q r) = IsWithin d × (d.mode ≡ Remainder) × IsRem d q r

-- ---- the answer, computed
unfoldable pub is_empty : List Term → Bool
is_empty [] = true
is_empty (t ∷ L) = false

-- some number below k passes the test
unfoldable pub some_below : ℕ → (ℕ → Bool) → Bool
some_below zero test = false
some_below (suc k) test = test k || some_below k test

unfoldable pub is_inverse : ℕ → ℤ → ℕ → Bool
is_inverse p u v = is_zero (red p (u *ℤ pos v) +ℤ neg_ℤ (red p (pos 1)))

unfoldable pub is_unit : ℕ → ℤ → Bool
is_unit zero u = eqb (unsigned_abs u) 1
is_unit (suc k) u = some_below (suc k) (is_inverse (suc k) u)

-- the mode or the modulus asks that u is a unit, and it is none
unfoldable pub asks_unit : Mode → ℕ → ℤ → Bool
asks_unit Exact zero u = false
asks_unit Exact (suc k) u = not (is_unit (suc k) u)
asks_unit Remainder p u = not (is_unit p u)

-- of the list of quotient terms, that much may be looked at
unfoldable pub looked_at : Division → List Term
looked_at d = take quotient_terms_limit (quotient_list d)

unfoldable pub passes_early : Division → Bool
passes_early d = eqb d.p 0 && (not (is_empty (looked_at d)) && ltb greatest_norm (norm d.f + norm (looked_at d) * norm d.g))

unfoldable pub is_long : Division → Bool
is_long d = leb quotient_terms_limit (length (quotient_list d))

unfoldable pub ending : Mode → List Term → List Term → Outcome
ending Exact q r = cond (is_empty r) (HasQuotient q) HasNoQuotient
ending Remainder q r = HasRemainder q r

-- the answer of the division
unfoldable pub outcome : Division → Outcome
outcome d =
    cond (is_empty d.g) OverZero
    (cond (asks_unit d.mode d.p (lc d.g)) ByNoUnit
    (cond (passes_early d) OverBound
    (cond (is_long d) OverTerms
    (ending d.mode (quotient_list d) (rest_list d)))))

-- each division of canonical lists has exactly one answer, the computed one
abbrev pub OneOutcome : Type 0
OneOutcome =
    (d : Division) → IsPoly d.ord d.p d.n d.f → IsPoly d.ord d.p d.n d.g →
    IsOutcome d (outcome d) × ((a : Outcome) → IsOutcome d a → a ≡ outcome d)
