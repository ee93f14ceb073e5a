use Rattle.std.proofs.Common.{◌≡◌, ◌≢◌, ◌<◌, ◌⊎◌, ℕ, ℤ, length, MatchOption, true≢false, sym, ap, ◌∙◌, subst, arith}
use Rattle.std.proofs.lemmas.List.Elements.{All-get_or}
use Rattle.sdmp_laws.specs.Order.{degree}
use Rattle.sdmp_laws.specs.Ring.{red, IsUnit, IsInverse}
use Rattle.sdmp_laws.specs.Poly.{IsPoly, lc}
use Rattle.sdmp_laws.specs.declared.Mode.TheVariants.{Exact, Remainder}
use Rattle.row_merge.proofs.LearnedRows.{lead_degree, positive_from}
use Rattle.division_laws.specs.Outcome.{IsOutcome}
use Rattle.divide_core.proofs.Ends.{lead_facts, nothing_in, unit_from, no_unit_from}
use Rattle.divide_core.proofs.alone.divide_alone.Goals as goal

pub returns-then-is_empty : goal.returns-then-is_empty
unfolding IsOutcome
returns-then-is_empty g c = nothing_in g.M.Monomial.vector g.R.CoeffRing.value c.terms-divisor.result.now c.args.g.now.list c.is_empty.result c.is_empty.ensures c.if-is_empty.true c.terms-divisor.ensures.view

pub returns-then-is_refused : goal.returns-then-is_refused
unfolding IsOutcome
returns-then-is_refused g c =
    let some : 0 < length c.terms-divisor.result.now = positive_from _ _ c.is_empty.ensures c.if-is_empty.false in
    let lead = lead_facts g.M.Monomial.vector g.R.CoeffRing.value c.terms-divisor.result.now c.index-divisor-0.result c.args.g.now.list some c.index-divisor-0.is c.terms-divisor.ensures.view in
    let inverse = subst (λ (p : ℕ). MatchOption c.inverse-inverse.result (IsUnit p (g.R.CoeffRing.value c.index-divisor-0.result.coef) → ⊥) (λ v. g.R.CoeffRing.belongs p v × IsInverse p (g.R.CoeffRing.value c.index-divisor-0.result.coef) (g.R.CoeffRing.value v))) c.ring-ring.ensures c.inverse-inverse.ensures in
    let r = c.is_refused.ensures.0 c.if-is_refused.true in
    let asks : (c.args.mode ≡ Remainder) ⊎ (c.args.f.now.modulus ≢ 0) = subst (λ (p : ℕ). (c.args.mode ≡ Remainder) ⊎ (p ≢ 0)) (c.ring-ring.ensures ∙ sym c.requires) r.1 in
    (lead.0, asks, subst (λ (p : ℕ). IsUnit p (lc c.args.g.now.list) → ⊥) (sym c.requires) (subst (λ (b : ℤ). IsUnit c.args.g.now.modulus b → ⊥) lead.2 (no_unit_from g.R.CoeffRing.value (g.R.CoeffRing.belongs c.args.g.now.modulus) c.args.g.now.modulus (g.R.CoeffRing.value c.index-divisor-0.result.coef) c.inverse-inverse.result r.0 inverse)))

pub divide_rows-requires-clause-accepted : goal.divide_rows-requires-clause-accepted
divide_rows-requires-clause-accepted g c κs within =
    let rings = g.met.R.CoeffRing g.world.𝓛 g.world.𝓜 g.world.𝓡 ((λ s x. x), (λ x. x), (λ x. x), λ x. x) in
    let some : 0 < length c.terms-divisor.result.now = positive_from _ _ c.is_empty.ensures c.if-is_empty.false in
    let lead = lead_facts g.M.Monomial.vector g.R.CoeffRing.value c.terms-divisor.result.now c.index-divisor-0.result c.args.g.now.list some c.index-divisor-0.is c.terms-divisor.ensures.view in
    let inside : g.R.CoeffRing.belongs c.args.g.now.modulus c.index-divisor-0.result.coef = subst (λ t. g.R.CoeffRing.belongs c.args.g.now.modulus t.coef) (sym c.index-divisor-0.is) (All-get_or (λ t. g.R.CoeffRing.belongs c.args.g.now.modulus t.coef) c.terms-divisor.result.now 0 c.index-divisor-0.result some c.terms-divisor.ensures.belongs) in
    let inverse = subst (λ (p : ℕ). MatchOption c.inverse-inverse.result (IsUnit p (g.R.CoeffRing.value c.index-divisor-0.result.coef) → ⊥) (λ v. g.R.CoeffRing.belongs p v × IsInverse p (g.R.CoeffRing.value c.index-divisor-0.result.coef) (g.R.CoeffRing.value v))) c.ring-ring.ensures c.inverse-inverse.ensures in
    let reduced = subst (λ (p : ℕ). red p (g.R.CoeffRing.value c.index-divisor-0.result.coef) ≡ g.R.CoeffRing.value c.index-divisor-0.result.coef) c.ring-ring.ensures (rings.reduced c.ring-ring.result c.index-divisor-0.result.coef (subst (λ (p : ℕ). g.R.CoeffRing.belongs p c.index-divisor-0.result.coef) (sym c.ring-ring.ensures) inside)) in
    let unit = unit_from g.R.CoeffRing.value (g.R.CoeffRing.belongs c.args.g.now.modulus) c.args.mode c.args.g.now.modulus (g.R.CoeffRing.value c.index-divisor-0.result.coef) c.inverse-inverse.result reduced inverse
    (λ r. true≢false (sym (c.is_refused.ensures.1 (r.0, subst (λ (p : ℕ). (c.args.mode ≡ Remainder) ⊎ (p ≢ 0)) (sym c.ring-ring.ensures) r.1)) ∙ c.if-is_refused.false)) in
    record {
      dividend = c.terms.ensures.canonical.poly;
      divisor = subst (λ (p : ℕ). IsPoly g.M.Monomial.order p g.M.Monomial.VARS c.args.g.now.list) (sym c.requires) c.terms-divisor.ensures.canonical.poly;
      nonzero = lead.0;
      unit = subst (λ (b : ℤ). ((c.args.mode ≡ Exact) × (c.args.f.now.modulus ≡ 0)) ⊎ IsUnit c.args.f.now.modulus b) lead.2 (subst (λ (p : ℕ). ((c.args.mode ≡ Exact) × (p ≡ 0)) ⊎ IsUnit p (g.R.CoeffRing.value c.index-divisor-0.result.coef)) (sym c.requires) unit);
    }

pub divide_rows-requires-clause-leading : goal.divide_rows-requires-clause-leading
divide_rows-requires-clause-leading g c κs within =
    let some : 0 < length c.terms-divisor.result.now = positive_from _ _ c.is_empty.ensures c.if-is_empty.false in
    let lead = lead_facts g.M.Monomial.vector g.R.CoeffRing.value c.terms-divisor.result.now c.index-divisor-0.result c.args.g.now.list some c.index-divisor-0.is c.terms-divisor.ensures.view in
    let e = ap degree lead.1 in
    let low = lead_degree g.M.Monomial.LIM c.args.g.now.list c.terms-divisor.ensures.canonical.degrees in
    record {
      monomial = lead.1;
      coefficient = lead.2;
      low = omega (arith, e, low);
      belongs = subst (λ t. g.R.CoeffRing.belongs c.args.g.now.modulus t.coef) (sym c.index-divisor-0.is) (All-get_or (λ t. g.R.CoeffRing.belongs c.args.g.now.modulus t.coef) c.terms-divisor.result.now 0 c.index-divisor-0.result some c.terms-divisor.ensures.belongs);
      unit = subst (λ (p : ℕ). MatchOption c.inverse-inverse.result (IsUnit p (g.R.CoeffRing.value c.index-divisor-0.result.coef) → ⊥) (λ v. g.R.CoeffRing.belongs p v × IsInverse p (g.R.CoeffRing.value c.index-divisor-0.result.coef) (g.R.CoeffRing.value v))) c.ring-ring.ensures c.inverse-inverse.ensures;
    }
