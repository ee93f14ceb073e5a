use Rattle.std.proofs.Common.{◌-◌, ◌<◌, subst, sym, arith}
use Rattle.divide_merge.specs.Merges.{DivideView}
use Rattle.divide_merge.proofs.Processing.{ready, top_fits, processed_low, kept_there}
use Rattle.divide_merge.proofs.merge.DivideMerge.keep_term.Goals as goal

pub clear_heads-requires-clause-bound : goal.clear_heads-requires-clause-bound
clear_heads-requires-clause-bound g c κs within =
    top_fits g.M.Monomial.vector g.R.CoeffRing.value g.R.CoeffRing.belongs _ _ g.M.Monomial.LIM _ _ _ _ c.args.next
    (ready g.M.Monomial.vector g.R.CoeffRing.value g.R.CoeffRing.belongs _ _ g.M.Monomial.LIM _ _ _ _ c.args.next c.args.self.now c.self.invariant
    (record { view = c.self.view_is; going = c.requires.going; next = c.requires.next; heard = c.requires.heard }))

pub overflow_add-self : goal.overflow_add-self
overflow_add-self g c =
    let low = processed_low g.M.Monomial.vector g.R.CoeffRing.value g.R.CoeffRing.belongs _ _ g.M.Monomial.LIM _ _ _ _ c.args.next
    (ready g.M.Monomial.vector g.R.CoeffRing.value g.R.CoeffRing.belongs _ _ g.M.Monomial.LIM _ _ _ _ c.args.next c.args.self.now c.self.invariant
    (record { view = c.self.view_is; going = c.requires.going; next = c.requires.next; heard = c.requires.heard })) in
    omega (arith, low)

pub invariant_of-self : goal.invariant_of-self
invariant_of-self g c =
    let e = c.clear_heads.ensures in
    (kept_there g.M.Monomial.vector g.R.CoeffRing.value g.R.CoeffRing.belongs _ _ g.M.Monomial.LIM _ _ _ _ c.args.next c.args.self.now c.self.invariant
    (record { view = c.self.view_is; going = c.requires.going; next = c.requires.next; heard = c.requires.heard })
    c.clear_heads.new.heads c.read_after-self-inside.result
    (record { heads = e.heads; long = e.long; belongs_all = e.belongs; not_ended = e.going; seen = c.read_after-self-inside.ensures })
    c.args.term (c.self.inside.spare - 1) c.push_reserved.new.self.items _ (let r = subst (λ (v : DivideView). 0 < v.spare) (sym c.self.view_is) c.requires.room in omega (arith, r)) c.push_reserved.ensures.items c.push_reserved.ensures.capacity c.requires.belongs c.requires.mono c.requires.value c.requires.rest).kept

pub returns-clause-sound : goal.returns-clause-sound
returns-clause-sound g c =
    let e = c.clear_heads.ensures in
    (kept_there g.M.Monomial.vector g.R.CoeffRing.value g.R.CoeffRing.belongs _ _ g.M.Monomial.LIM _ _ _ _ c.args.next c.args.self.now c.self.invariant
    (record { view = c.self.view_is; going = c.requires.going; next = c.requires.next; heard = c.requires.heard })
    c.clear_heads.new.heads c.read_after-self-inside.result
    (record { heads = e.heads; long = e.long; belongs_all = e.belongs; not_ended = e.going; seen = c.read_after-self-inside.ensures })
    c.args.term (c.self.inside.spare - 1) c.push_reserved.new.self.items _ (let r = subst (λ (v : DivideView). 0 < v.spare) (sym c.self.view_is) c.requires.room in omega (arith, r)) c.push_reserved.ensures.items c.push_reserved.ensures.capacity c.requires.belongs c.requires.mono c.requires.value c.requires.rest).sound

pub returns-clause-keeps : goal.returns-clause-keeps
returns-clause-keeps g c =
    let e = c.clear_heads.ensures in
    (kept_there g.M.Monomial.vector g.R.CoeffRing.value g.R.CoeffRing.belongs _ _ g.M.Monomial.LIM _ _ _ _ c.args.next c.args.self.now c.self.invariant
    (record { view = c.self.view_is; going = c.requires.going; next = c.requires.next; heard = c.requires.heard })
    c.clear_heads.new.heads c.read_after-self-inside.result
    (record { heads = e.heads; long = e.long; belongs_all = e.belongs; not_ended = e.going; seen = c.read_after-self-inside.ensures })
    c.args.term (c.self.inside.spare - 1) c.push_reserved.new.self.items _ (let r = subst (λ (v : DivideView). 0 < v.spare) (sym c.self.view_is) c.requires.room in omega (arith, r)) c.push_reserved.ensures.items c.push_reserved.ensures.capacity c.requires.belongs c.requires.mono c.requires.value c.requires.rest).keeps
