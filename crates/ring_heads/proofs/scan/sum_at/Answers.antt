use Rattle.std.proofs.Common.{sym, subst, ap, ◌+◌, ◌∙◌, drop}
use Rattle.ring_heads.specs.Heads.{HeadBelongs}
use Rattle.ring_heads.proofs.HeadLemmas.{eq_alike, stands, nowhere}
use Rattle.ring_heads.proofs.Summing.{Rest, rest_begins, rest_fits, rest_step, one_on, scan_off, scan_ends}
use Rattle.ring_heads.proofs.scan.sum_at.Goals.{in-Term+then-eq, in-Term+else-eq, in_default}
use Rattle.ring_heads.proofs.scan.sum_at.Goals as goal

pub loop-head-init : goal.loop-head-init
loop-head-init g c = rest_begins _ _ _ _ _ _ c.args.list.now c.zero-coef.result c.zero-coef.ensures.belongs c.zero-coef.ensures.value

pub loop-head-preserved : goal.loop-head-preserved
loop-head-preserved g c =
    let monos = g.met.M.Monomial g.world.𝓛 g.world.𝓜 g.world.𝓡 ((λ s x. x), (λ x. x), (λ x. x), λ x. x) in
    let ords = g.met.M.Ord g.world.𝓛 g.world.𝓜 g.world.𝓡 ((λ s x. x), (λ x. x), (λ x. x), λ x. x) in
    let law = eq_alike g.M.Ord.cmp g.M.Monomial.vector g.R.CoeffRing.value _ _ monos.ordered monos.vars in
    let hs = c.args.list.now in
    let i = c.loop-head.head-index in
    let h = c.head-item.result in
    let Now = Rest g.M.Ord.cmp g.M.Monomial.vector g.R.CoeffRing.value (g.R.CoeffRing.belongs (g.R.CoeffRing.characteristic c.args.coefficients)) (g.R.CoeffRing.characteristic c.args.coefficients) c.args.mono hs (drop (i + 1) hs) in
    let s = c.loop-head.invariant in
    elim c.match-head.branch [
      | in-Term+then-eq w ↦ subst Now (sym w.coef-is) (rest_step _ _ _ _ _ _ _ _ _ _ _ _ s (one_on _ _ _ _ _ _ law hs i h w.in-Term.term c.loop-head-test.true c.head-item.is w.in-Term.is (sym (ords.matches_eq _ _) ∙ sym w.eq.ensures ∙ w.if-eq.true)) w.add-coef.ensures.belongs w.add-coef.ensures.value)
      | in-Term+else-eq w ↦ subst Now (sym w.coef-is) (scan_off _ _ _ _ _ _ law hs i h _ c.loop-head-test.true c.head-item.is (ap (stands g.M.Ord.cmp c.args.mono) w.in-Term.is ∙ sym (ords.matches_eq _ _) ∙ sym w.eq.ensures ∙ w.if-eq.false) s)
      | in_default w ↦ subst Now (sym w.coef-is) (scan_off _ _ _ _ _ _ law hs i h _ c.loop-head-test.true c.head-item.is (nowhere g.M.Ord.cmp c.args.mono h w.in_default.not-Term) s)
    ]

pub returns-clause-sum : goal.returns-clause-sum
returns-clause-sum g c =
    let rings = g.met.R.CoeffRing g.world.𝓛 g.world.𝓜 g.world.𝓡 ((λ s x. x), (λ x. x), (λ x. x), λ x. x) in
    let monos = g.met.M.Monomial g.world.𝓛 g.world.𝓜 g.world.𝓡 ((λ s x. x), (λ x. x), (λ x. x), λ x. x) in
    scan_ends _ _ _ _ _ _ (eq_alike _ _ g.R.CoeffRing.value _ _ monos.ordered monos.vars) c.args.list.now c.loop-head.head-index c.loop-head.coef c.loop-head-test.false c.loop-head.invariant (rings.reduced c.args.coefficients c.loop-head.coef c.loop-head.invariant.mine)

pub returns-clause-belongs : goal.returns-clause-belongs
returns-clause-belongs g c = c.loop-head.invariant.mine

pub add-coef-requires-clause-left : goal.add-coef-requires-clause-left
add-coef-requires-clause-left g c = c.loop-head.invariant.mine

pub add-coef-requires-clause-right : goal.add-coef-requires-clause-right
add-coef-requires-clause-right g c =
    subst (HeadBelongs (g.R.CoeffRing.belongs (g.R.CoeffRing.characteristic c.args.coefficients))) (sym c.head-item.is ∙ c.in-Term.is) (c.requires.belongs c.loop-head.head-index c.head-item.result c.loop-head-test.true)

pub add-coef-requires-clause-room : goal.add-coef-requires-clause-room
add-coef-requires-clause-room g c =
    let rings = g.met.R.CoeffRing g.world.𝓛 g.world.𝓜 g.world.𝓡 ((λ s x. x), (λ x. x), (λ x. x), λ x. x) in
    let monos = g.met.M.Monomial g.world.𝓛 g.world.𝓜 g.world.𝓡 ((λ s x. x), (λ x. x), (λ x. x), λ x. x) in
    let ords = g.met.M.Ord g.world.𝓛 g.world.𝓜 g.world.𝓡 ((λ s x. x), (λ x. x), (λ x. x), λ x. x) in
    rings.has_room c.args.coefficients _ (rest_fits _ _ _ _ _ _ _ _ _ _ _ c.loop-head.invariant (one_on _ _ _ _ _ _ (eq_alike _ _ g.R.CoeffRing.value _ _ monos.ordered monos.vars) c.args.list.now c.loop-head.head-index c.head-item.result c.in-Term.term c.loop-head-test.true c.head-item.is c.in-Term.is (sym (ords.matches_eq _ _) ∙ sym c.eq.ensures ∙ c.if-eq.true)) c.requires.bound)
