-- A division of one mode doesn't answer as one of the other.
use Rattle.std.proofs.Common.{◌≡◌, subst}
use Rattle.sdmp_laws.specs.Canonical.{Polynomial}
use Rattle.sdmp_laws.specs.Division.{Division}
use Rattle.sdmp_laws.specs.declared.Mode.TheVariants as mode
use Rattle.division_laws.specs.Outcome.{HasQuotient, HasNoQuotient, HasRemainder, IsOutcome}
use Rattle.division_laws.proofs.OutcomeLemmas.{not_both_modes}
use Rattle.divide_core.specs.Answer.{IsAnswer}
use Rattle.divide_core.specs.declared.answer.Division.{Division as Answer}
use Rattle.divide_core.specs.declared.answer.Division.TheVariants.{Quotient, NoQuotient, Remainder}

module _ (d : Division) where
  remainder_mode : (q r : Polynomial) → IsOutcome d (HasRemainder q.list r.list) → d.mode ≡ mode.Remainder
  unfolding IsOutcome
  remainder_mode q r o = o.1

  quotient_mode : (q : Polynomial) → IsOutcome d (HasQuotient q.list) → d.mode ≡ mode.Exact
  unfolding IsOutcome
  quotient_mode q o = o.1

  none_mode : IsOutcome d HasNoQuotient → d.mode ≡ mode.Exact
  unfolding IsOutcome
  none_mode o = o.1

  pub not_remainder : {A B C : Type 0} (a : Answer A B C) (q r : Polynomial) → a ≡ Remainder q r → IsAnswer d a → d.mode ≡ mode.Exact → ⊥
  not_remainder {A} {B} {C} a q r is h e = by (subst (λ (x : Answer A B C). IsAnswer d x) is h)
    where
      by : (q.modulus ≡ d.p) × (r.modulus ≡ d.p) × IsOutcome d (HasRemainder q.list r.list) → ⊥
      by (x, y, o) = not_both_modes d.mode e (remainder_mode q r o)

  pub not_quotient : {A B C : Type 0} (a : Answer A B C) (q : Polynomial) → a ≡ Quotient q → IsAnswer d a → d.mode ≡ mode.Remainder → ⊥
  not_quotient {A} {B} {C} a q is h r = by (subst (λ (x : Answer A B C). IsAnswer d x) is h)
    where
      by : (q.modulus ≡ d.p) × IsOutcome d (HasQuotient q.list) → ⊥
      by (x, o) = not_both_modes d.mode (quotient_mode q o) r

  pub not_none : {A B C : Type 0} (a : Answer A B C) → a ≡ NoQuotient → IsAnswer d a → d.mode ≡ mode.Remainder → ⊥
  not_none {A} {B} {C} a is h r = not_both_modes d.mode (none_mode (subst (λ (x : Answer A B C). IsAnswer d x) is h)) r
