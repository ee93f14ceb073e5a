-- What the last answer of a merge says of its division.
use Rattle.std.proofs.Common.{◌≡◌, ℕ, ℤ, List, Option, Some, Result, Ok, Err, IfSome, IfOk, ◌≢◌, ◌⊎◌, [], sym, subst}
use Rattle.sdmp_laws.specs.Ring.{IsUnit}
use Rattle.sdmp_laws.specs.Poly.{IsPoly, lc}
use Rattle.sdmp_laws.specs.Division.{Division, IsAccepted}
use Rattle.sdmp_laws.specs.declared.Mode.TheVariants.{Remainder}
use Rattle.division_laws.specs.Outcome.{Outcome, OverZero, ByNoUnit, OverBound, OverTerms, HasQuotient, HasNoQuotient, HasRemainder, IsOutcome, outcome}
use Rattle.division_laws.proofs.OutcomeLemmas.{one_outcome}
use Rattle.divide_merge.specs.Verdicts.{Verdict, IsVerdict, IsFinal}
use Rattle.divide_merge.specs.Merges.{DivideView, free_places, verdict_of, IsSound}
use Rattle.divide_merge.specs.declared.answer.DivideAdvanceOf.{DivideAdvanceOf}

-- a division by polynomials that no test refuses is carried out
pub accepted_from : (d : Division) → IsPoly d.ord d.p d.n d.f → IsPoly d.ord d.p d.n d.g → d.g ≢ [] → (((d.mode ≡ Remainder) ⊎ (d.p ≢ 0)) × (IsUnit d.p (lc d.g) → ⊥) → ⊥) → IsAccepted d
unfolding IsOutcome
accepted_from d f h some not_refused = go (outcome d) (one_outcome d f h).0
  where
    go : (a : Outcome) → IsOutcome d a → IsAccepted d
    go OverZero i = absurd (some i)
    go ByNoUnit i = absurd (not_refused (i.1, i.2))
    go OverBound i = i.0
    go OverTerms i = i.0
    go (HasQuotient q) i = i.0.accepted
    go HasNoQuotient i = i.0.accepted
    go (HasRemainder q r) i = i.0.accepted

module _ {M E : Type 0} (vector : M → List ℕ) (value : E → ℤ) (lim : ℕ) (m : DivideView) (s : IsSound lim m) where
  -- it is one after which the merge is over, and has its cause
  pub last_cause : (x y : DivideAdvanceOf M E) → m.answer ≡ Some (verdict_of vector value x) → y ≡ x → IsFinal (verdict_of vector value y) × IsVerdict m.run.state (free_places m) m.spare (verdict_of vector value y)
  last_cause x y e same =
      subst (λ (z : DivideAdvanceOf M E). IsFinal (verdict_of vector value z) × IsVerdict m.run.state (free_places m) m.spare (verdict_of vector value z)) (sym same)
      (subst (λ (o : Option Verdict). IfSome o (λ v. IsFinal v × IsVerdict m.run.state (free_places m) m.spare v)) e s.cause)

-- what follows from two clauses on an outcome
pub from_both : {A B : Type 0} (P Q S : A → Type 0) (r : Result A B) → ((a : A) → P a → Q a → S a) → IfOk r P → IfOk r Q → IfOk r S
from_both P Q S (Ok a) f p q = f a p q
from_both P Q S (Err e) f p q = tt
