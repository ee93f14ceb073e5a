use Rattle.std.proofs.Common.{◌∙◌}
use Rattle.ring_heads.proofs.HeadLemmas.{eq_alike, fewer}
use Rattle.ring_heads.proofs.TakenLemmas.{read_head, head_belongs, sum_fits, sum_step, sum_ends}
use Rattle.ring_heads.proofs.taken.sum_taken.Goals as goal

pub add-coef-requires-clause-room : goal.add-coef-requires-clause-room
add-coef-requires-clause-room g c =
    let rings = g.met.R.CoeffRing g.world.𝓛 g.world.𝓜 g.world.𝓡 ((λ s x. x), (λ x. x), (λ x. x), λ x. x) in
    let monos = g.met.M.Monomial g.world.𝓛 g.world.𝓜 g.world.𝓡 ((λ s x. x), (λ x. x), (λ x. x), λ x. x) in
    let s = c.loop-row.invariant in
    let is = read_head _ _ _ _ _ _ _ c.loop-row.list.items _ _ c.in-Some.row _ c.in-Term.term s c.in-Some.ensures.1 c.index.ensures c.in-Term.is in
    rings.has_room c.args.coefficients _ (sum_fits _ _ _ _ _ _ _ c.loop-row.list.items _ _ c.in-Some.row c.in-Term.term s c.in-Some.ensures.1 is (eq_alike _ _ g.R.CoeffRing.value _ _ monos.ordered monos.vars) c.requires.bound)

pub loop-row-smaller : goal.loop-row-smaller
loop-row-smaller g c =
    let s = c.loop-row.invariant in
    let is = read_head _ _ _ _ _ _ _ c.loop-row.list.items _ _ c.in-Some.row _ c.in-Term.term s c.in-Some.ensures.1 c.index.ensures c.in-Term.is in
    fewer g.M.Monomial.vector g.R.CoeffRing.value c.loop-row.list.items c.in-Some.row c.in-Term.term is

pub loop-row-preserved : goal.loop-row-preserved
loop-row-preserved g c =
    let monos = g.met.M.Monomial g.world.𝓛 g.world.𝓜 g.world.𝓡 ((λ s x. x), (λ x. x), (λ x. x), λ x. x) in
    let s = c.loop-row.invariant in
    let hs = c.loop-row.list.items in
    let is = read_head _ _ _ _ _ _ _ hs _ _ c.in-Some.row _ c.in-Term.term s c.in-Some.ensures.1 c.index.ensures c.in-Term.is in
    sum_step _ _ _ _ _ _ _ hs _ _ _ c.add-coef.result c.in-Some.row c.in-Term.term s c.in-Some.ensures.1 is (eq_alike _ _ g.R.CoeffRing.value _ _ monos.ordered monos.vars) c.add-coef.ensures.belongs c.add-coef.ensures.value c.in-Some.ensures.2

pub returns-clause-sum : goal.returns-clause-sum
returns-clause-sum g c =
    let rings = g.met.R.CoeffRing g.world.𝓛 g.world.𝓜 g.world.𝓡 ((λ s x. x), (λ x. x), (λ x. x), λ x. x) in
    let monos = g.met.M.Monomial g.world.𝓛 g.world.𝓜 g.world.𝓡 ((λ s x. x), (λ x. x), (λ x. x), λ x. x) in
    (sum_ends _ _ _ _ _ _ _ _ _ _ c.loop-row.invariant c.in_default.ensures.0 (eq_alike _ _ g.R.CoeffRing.value _ _ monos.ordered monos.vars) (rings.reduced c.args.coefficients c.loop-row.coef c.loop-row.invariant.rest.mine)).sum

pub returns-clause-heads : goal.returns-clause-heads
returns-clause-heads g c =
    let rings = g.met.R.CoeffRing g.world.𝓛 g.world.𝓜 g.world.𝓡 ((λ s x. x), (λ x. x), (λ x. x), λ x. x) in
    let monos = g.met.M.Monomial g.world.𝓛 g.world.𝓜 g.world.𝓡 ((λ s x. x), (λ x. x), (λ x. x), λ x. x) in
    (sum_ends _ _ _ _ _ _ _ _ _ _ c.loop-row.invariant c.in_default.ensures.0 (eq_alike _ _ g.R.CoeffRing.value _ _ monos.ordered monos.vars) (rings.reduced c.args.coefficients c.loop-row.coef c.loop-row.invariant.rest.mine)).heads

pub returns-clause-heap : goal.returns-clause-heap
returns-clause-heap g c =
    let rings = g.met.R.CoeffRing g.world.𝓛 g.world.𝓜 g.world.𝓡 ((λ s x. x), (λ x. x), (λ x. x), λ x. x) in
    let monos = g.met.M.Monomial g.world.𝓛 g.world.𝓜 g.world.𝓡 ((λ s x. x), (λ x. x), (λ x. x), λ x. x) in
    c.in_default.ensures.1 ∙ (sum_ends _ _ _ _ _ _ _ _ _ _ c.loop-row.invariant c.in_default.ensures.0 (eq_alike _ _ g.R.CoeffRing.value _ _ monos.ordered monos.vars) (rings.reduced c.args.coefficients c.loop-row.coef c.loop-row.invariant.rest.mine)).heap

pub add-coef-requires-clause-left : goal.add-coef-requires-clause-left
add-coef-requires-clause-left g c = c.loop-row.invariant.rest.mine

pub add-coef-requires-clause-right : goal.add-coef-requires-clause-right
add-coef-requires-clause-right g c =
    let s = c.loop-row.invariant in
    let is = read_head _ _ _ _ _ _ _ c.loop-row.list.items _ _ c.in-Some.row _ c.in-Term.term s c.in-Some.ensures.1 c.index.ensures c.in-Term.is in
    head_belongs _ _ _ _ _ _ _ c.loop-row.list.items _ _ c.in-Some.row c.in-Term.term s c.in-Some.ensures.1 is

pub returns-clause-belongs : goal.returns-clause-belongs
returns-clause-belongs g c = c.loop-row.invariant.rest.mine
