use Rattle.std.proofs.Common.{◌≡◌, ◌≢◌, ◌<◌, ◌⊎◌, ℕ, ℤ, length, true≢false, sym, subst, ◌∙◌}
use Rattle.sdmp_laws.specs.Ring.{IsUnit}
use Rattle.sdmp_laws.specs.declared.Mode.TheVariants.{Remainder}
use Rattle.row_merge.proofs.LearnedRows.{positive_from}
use Rattle.division_laws.specs.Outcome.{IsOutcome}
use Rattle.divide_core.proofs.Ends.{lead_facts, nothing_in}
use Rattle.divide_workers.proofs.threaded.divide.Goals as goal

pub returns-then-is_empty-clause-answer : goal.returns-then-is_empty-clause-answer
unfolding IsOutcome
returns-then-is_empty-clause-answer g c = nothing_in g.M.Monomial.vector g.R.CoeffRing.value c.terms-divisor.result.now c.args.g.now.list c.is_empty.result c.is_empty.ensures c.if-is_empty.true c.terms-divisor.ensures.view

pub returns-then-is_refused-clause-answer : goal.returns-then-is_refused-clause-answer
unfolding IsOutcome
returns-then-is_refused-clause-answer g c =
    let some : 0 < length c.terms-divisor.result.now = positive_from _ _ c.is_empty.ensures c.if-is_empty.false in
    let lead = lead_facts g.M.Monomial.vector g.R.CoeffRing.value c.terms-divisor.result.now c.index-divisor-0.result c.args.g.now.list some c.index-divisor-0.is c.terms-divisor.ensures.view in
    let r = c.is_refused.ensures.0 c.if-is_refused.true in
    let e = c.ring.ensures ∙ sym c.requires.modulus in (
      lead.0,
      subst (λ (p : ℕ). (c.args.mode ≡ Remainder) ⊎ (p ≢ 0)) e r.0,
      subst (λ (b : ℤ). IsUnit c.args.f.now.modulus b → ⊥) lead.2 (subst (λ (p : ℕ). IsUnit p (g.R.CoeffRing.value c.index-divisor-0.result.coef) → ⊥) e (subst (λ t. IsUnit (g.R.CoeffRing.characteristic c.ring.result) (g.R.CoeffRing.value t.coef) → ⊥) (sym c.index-divisor-0.is) r.1)),
    )

pub divided-requires-clause-nonzero : goal.divided-requires-clause-nonzero
divided-requires-clause-nonzero g c κs within =
    let some : 0 < length c.terms-divisor.result.now = positive_from _ _ c.is_empty.ensures c.if-is_empty.false in
    (lead_facts g.M.Monomial.vector g.R.CoeffRing.value c.terms-divisor.result.now c.index-divisor-0.result c.args.g.now.list some c.index-divisor-0.is c.terms-divisor.ensures.view).0

pub divided-requires-clause-unit : goal.divided-requires-clause-unit
divided-requires-clause-unit g c κs within asks =
    let some : 0 < length c.terms-divisor.result.now = positive_from _ _ c.is_empty.ensures c.if-is_empty.false in
    let lead = lead_facts g.M.Monomial.vector g.R.CoeffRing.value c.terms-divisor.result.now c.index-divisor-0.result c.args.g.now.list some c.index-divisor-0.is c.terms-divisor.ensures.view in
    let e = sym (c.ring.ensures ∙ sym c.requires.modulus) in
    true≢false (sym (c.is_refused.ensures.1 (
      subst (λ (p : ℕ). (c.args.mode ≡ Remainder) ⊎ (p ≢ 0)) e asks.0,
      subst (λ t. IsUnit (g.R.CoeffRing.characteristic c.ring.result) (g.R.CoeffRing.value t.coef) → ⊥) c.index-divisor-0.is (subst (λ (p : ℕ). IsUnit p (g.R.CoeffRing.value c.index-divisor-0.result.coef) → ⊥) e (subst (λ (b : ℤ). IsUnit c.args.f.now.modulus b → ⊥) (sym lead.2) asks.1)),
    )) ∙ c.if-is_refused.false)
