use Rattle.std.proofs.Common.{sym, subst, ap, ◌∙◌, arith}
use Rattle.ring_heads.specs.Heads.{HeadBelongs}
use Rattle.ring_heads.proofs.HeadLemmas.{eq_alike, stands, nowhere}
use Rattle.ring_heads.proofs.Summing.{rest_fits, taking_begins, taking_one, taking_on, taking_off, put_back, taking_ends, scan_ends}
use Rattle.ring_heads.proofs.scan.take_at.Goals.{in-Term+then-eq, in-Term+else-eq, in_default}
use Rattle.ring_heads.proofs.scan.take_at.Goals as goal

pub loop-head-init : goal.loop-head-init
loop-head-init g c =
    let monos = g.met.M.Monomial g.world.𝓛 g.world.𝓜 g.world.𝓡 ((λ s x. x), (λ x. x), (λ x. x), λ x. x) in
    taking_begins _ _ _ _ _ _ (eq_alike _ _ g.R.CoeffRing.value _ _ monos.ordered monos.vars) c.args.list.now c.zero-coef.result c.zero-coef.ensures.belongs c.zero-coef.ensures.value

pub loop-head-preserved : goal.loop-head-preserved
loop-head-preserved g c =
    let monos = g.met.M.Monomial g.world.𝓛 g.world.𝓜 g.world.𝓡 ((λ s x. x), (λ x. x), (λ x. x), λ x. x) in
    let ords = g.met.M.Ord g.world.𝓛 g.world.𝓜 g.world.𝓡 ((λ s x. x), (λ x. x), (λ x. x), λ x. x) in
    let law = eq_alike g.M.Ord.cmp g.M.Monomial.vector g.R.CoeffRing.value _ _ monos.ordered monos.vars in
    let all = c.args.list.now in
    let hs = c.loop-head.list in
    let i = c.loop-head.head-index in
    let h = c.head-item.result in
    let s = c.loop-head.invariant in
    elim c.match-head.branch [
      | in-Term+then-eq w ↦ taking_on _ _ _ _ _ _ law all hs _ i _ _ h w.in-Term.term s c.loop-head-test.true c.head-item.is (c.head-item.is ∙ w.in-Term.is) (sym (ords.matches_eq _ _) ∙ sym w.eq.ensures ∙ w.if-eq.true)
          (subst (g.R.CoeffRing.belongs (g.R.CoeffRing.characteristic c.args.coefficients)) (sym w.coef-is) w.add-coef.ensures.belongs) (ap g.R.CoeffRing.value w.coef-is ∙ w.add-coef.ensures.value) w.list-is
      | in-Term+else-eq w ↦ taking_off _ _ _ _ _ _ law all hs _ i _ _ h s c.loop-head-test.true c.head-item.is (ap (stands g.M.Ord.cmp c.args.mono) (c.head-item.is ∙ w.in-Term.is) ∙ sym (ords.matches_eq _ _) ∙ sym w.eq.ensures ∙ w.if-eq.false) w.coef-is (put_back hs _ i h w.list-is)
      | in_default w ↦ taking_off _ _ _ _ _ _ law all hs _ i _ _ h s c.loop-head-test.true c.head-item.is (nowhere g.M.Ord.cmp c.args.mono h (λ t q. w.in_default.not-Term t (sym c.head-item.is ∙ q))) w.coef-is (put_back hs _ i h w.list-is)
    ]

pub returns : goal.returns
returns g c =
    let rings = g.met.R.CoeffRing g.world.𝓛 g.world.𝓜 g.world.𝓡 ((λ s x. x), (λ x. x), (λ x. x), λ x. x) in
    let monos = g.met.M.Monomial g.world.𝓛 g.world.𝓜 g.world.𝓡 ((λ s x. x), (λ x. x), (λ x. x), λ x. x) in
    let law = eq_alike g.M.Ord.cmp g.M.Monomial.vector g.R.CoeffRing.value _ _ monos.ordered monos.vars in
    let s = c.loop-head.invariant in
    record {
      belongs = s.rest.mine;
      sum = scan_ends _ _ _ _ _ _ law c.args.list.now c.loop-head.head-index c.loop-head.coef c.loop-head-test.false s.rest (rings.reduced c.args.coefficients c.loop-head.coef s.rest.mine);
      heads = taking_ends _ _ _ _ _ _ law c.args.list.now c.loop-head.list c.loop-head.head-index c.loop-head.coef s c.loop-head-test.false;
    }

pub add-coef-requires-clause-left : goal.add-coef-requires-clause-left
add-coef-requires-clause-left g c = c.loop-head.invariant.rest.mine

pub add-coef-requires-clause-right : goal.add-coef-requires-clause-right
add-coef-requires-clause-right g c =
    let s = c.loop-head.invariant in
    subst (HeadBelongs (g.R.CoeffRing.belongs (g.R.CoeffRing.characteristic c.args.coefficients))) (sym (s.ahead c.loop-head.head-index c.head-item.result (omega arith)) ∙ c.in-Term.is) (c.requires.belongs c.loop-head.head-index c.head-item.result c.loop-head-test.true)

pub add-coef-requires-clause-room : goal.add-coef-requires-clause-room
add-coef-requires-clause-room g c =
    let rings = g.met.R.CoeffRing g.world.𝓛 g.world.𝓜 g.world.𝓡 ((λ s x. x), (λ x. x), (λ x. x), λ x. x) in
    let monos = g.met.M.Monomial g.world.𝓛 g.world.𝓜 g.world.𝓡 ((λ s x. x), (λ x. x), (λ x. x), λ x. x) in
    let ords = g.met.M.Ord g.world.𝓛 g.world.𝓜 g.world.𝓡 ((λ s x. x), (λ x. x), (λ x. x), λ x. x) in
    rings.has_room c.args.coefficients _ (rest_fits _ _ _ _ _ _ _ _ _ _ _ c.loop-head.invariant.rest (taking_one _ _ _ _ _ _ (eq_alike _ _ g.R.CoeffRing.value _ _ monos.ordered monos.vars) c.args.list.now c.loop-head.list c.loop-head.head-index _ c.head-item.result c.in-Term.term c.loop-head.invariant c.loop-head-test.true c.head-item.is (c.head-item.is ∙ c.in-Term.is) (sym (ords.matches_eq _ _) ∙ sym c.eq.ensures ∙ c.if-eq.true)) c.requires.bound)
