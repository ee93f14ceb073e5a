use Rattle.std.proofs.Common.{arith}
use Rattle.divide_merge.proofs.Processing.{ready, top_fits, processed_low, passed_over}
use Rattle.divide_merge.proofs.merge.DivideMerge.pass.Goals as goal

pub clear_heads-requires-clause-bound : goal.clear_heads-requires-clause-bound
clear_heads-requires-clause-bound g c κs within =
    top_fits g.M.Monomial.vector g.R.CoeffRing.value g.R.CoeffRing.belongs _ _ g.M.Monomial.LIM _ _ _ _ c.args.next
    (ready g.M.Monomial.vector g.R.CoeffRing.value g.R.CoeffRing.belongs _ _ g.M.Monomial.LIM _ _ _ _ c.args.next c.args.self.now c.self.invariant
    (record { view = c.self.view_is; going = c.requires.going; next = c.requires.next; heard = c.requires.heard }))

pub overflow_add-self : goal.overflow_add-self
overflow_add-self g c =
    let low = processed_low g.M.Monomial.vector g.R.CoeffRing.value g.R.CoeffRing.belongs _ _ g.M.Monomial.LIM _ _ _ _ c.args.next
    (ready g.M.Monomial.vector g.R.CoeffRing.value g.R.CoeffRing.belongs _ _ g.M.Monomial.LIM _ _ _ _ c.args.next c.args.self.now c.self.invariant
    (record { view = c.self.view_is; going = c.requires.going; next = c.requires.next; heard = c.requires.heard })) in
    omega (arith, low)

pub invariant_of-self : goal.invariant_of-self
invariant_of-self g c =
    let e = c.clear_heads.ensures in
    (passed_over g.M.Monomial.vector g.R.CoeffRing.value g.R.CoeffRing.belongs _ _ g.M.Monomial.LIM _ _ _ _ c.args.next c.args.self.now c.self.invariant
    (record { view = c.self.view_is; going = c.requires.going; next = c.requires.next; heard = c.requires.heard })
    c.clear_heads.new.heads c.read_after-self-inside.result
    (record { heads = e.heads; long = e.long; belongs_all = e.belongs; not_ended = e.going; seen = c.read_after-self-inside.ensures }) c.requires.zero).kept

pub returns-clause-sound : goal.returns-clause-sound
returns-clause-sound g c =
    let e = c.clear_heads.ensures in
    (passed_over g.M.Monomial.vector g.R.CoeffRing.value g.R.CoeffRing.belongs _ _ g.M.Monomial.LIM _ _ _ _ c.args.next c.args.self.now c.self.invariant
    (record { view = c.self.view_is; going = c.requires.going; next = c.requires.next; heard = c.requires.heard })
    c.clear_heads.new.heads c.read_after-self-inside.result
    (record { heads = e.heads; long = e.long; belongs_all = e.belongs; not_ended = e.going; seen = c.read_after-self-inside.ensures }) c.requires.zero).sound

pub returns-clause-passes : goal.returns-clause-passes
returns-clause-passes g c =
    let e = c.clear_heads.ensures in
    (passed_over g.M.Monomial.vector g.R.CoeffRing.value g.R.CoeffRing.belongs _ _ g.M.Monomial.LIM _ _ _ _ c.args.next c.args.self.now c.self.invariant
    (record { view = c.self.view_is; going = c.requires.going; next = c.requires.next; heard = c.requires.heard })
    c.clear_heads.new.heads c.read_after-self-inside.result
    (record { heads = e.heads; long = e.long; belongs_all = e.belongs; not_ended = e.going; seen = c.read_after-self-inside.ensures }) c.requires.zero).passes
