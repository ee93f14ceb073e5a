use Rattle.std.proofs.Common.{◌-◌, ◌<◌, subst, sym, ap, ◌∙◌, arith}
use Rattle.divide_merge.specs.Merges.{DivideView}
use Rattle.divide_merge.proofs.Publishing.{given, refused, writer_of, not_full}
use Rattle.divide_merge.proofs.Processing.{ready, own_row, term_fits, term_legal, top_fits, processed_low, found_there}
use Rattle.divide_merge.proofs.merge.DivideMerge.find_term.Goals as goal

pub publish-requires-clause-of : goal.publish-requires-clause-of
publish-requires-clause-of g c κs within = writer_of c.args.row.now c.self.inside.writer c.self.invariant.publishing (own_row g.M.Monomial.vector g.R.CoeffRing.value g.R.CoeffRing.belongs _ _ g.M.Monomial.LIM _ _ _ _ c.args.next c.args.self.now c.self.invariant (record { view = c.self.view_is; going = c.requires.going; next = c.requires.next; heard = c.requires.heard }) c.args.row.now c.requires.row c.args.term)

pub publish-requires-clause-fits : goal.publish-requires-clause-fits
publish-requires-clause-fits g c κs within = term_fits g.M.Monomial.vector g.R.CoeffRing.value g.R.CoeffRing.belongs _ _ g.M.Monomial.LIM _ _ _ _ c.args.next c.args.self.now c.self.invariant (record { view = c.self.view_is; going = c.requires.going; next = c.requires.next; heard = c.requires.heard }) c.args.row.now c.requires.row c.args.term c.requires.belongs

pub publish-requires-clause-legal : goal.publish-requires-clause-legal
publish-requires-clause-legal g c κs within = term_legal g.M.Monomial.vector g.R.CoeffRing.value g.R.CoeffRing.belongs _ _ g.M.Monomial.LIM _ _ _ _ c.args.next c.args.self.now c.self.invariant (record { view = c.self.view_is; going = c.requires.going; next = c.requires.next; heard = c.requires.heard }) c.args.row.now c.requires.row c.args.term c.requires.found

pub unreachable-requires : goal.unreachable-requires
unreachable-requires g c =
    not_full c.args.row.now g.M.Monomial.vector g.R.CoeffRing.value c.self.inside.writer c.args.self.now c.requires.row (ap (λ (u : DivideView). u.run.notes) (sym c.self.view_is)) c.requires.place
    (refused c.publish.result (sym c.is_err.ensures.value ∙ c.if-is_err.true) c.publish.ensures.full)

pub clear_heads-requires-clause-bound : goal.clear_heads-requires-clause-bound
clear_heads-requires-clause-bound g c κs within = top_fits g.M.Monomial.vector g.R.CoeffRing.value g.R.CoeffRing.belongs _ _ g.M.Monomial.LIM _ _ _ _ c.args.next (ready g.M.Monomial.vector g.R.CoeffRing.value g.R.CoeffRing.belongs _ _ g.M.Monomial.LIM _ _ _ _ c.args.next c.args.self.now c.self.invariant (record { view = c.self.view_is; going = c.requires.going; next = c.requires.next; heard = c.requires.heard }))

pub overflow_add-self : goal.overflow_add-self
overflow_add-self g c =
    let low = processed_low g.M.Monomial.vector g.R.CoeffRing.value g.R.CoeffRing.belongs _ _ g.M.Monomial.LIM _ _ _ _ c.args.next (ready g.M.Monomial.vector g.R.CoeffRing.value g.R.CoeffRing.belongs _ _ g.M.Monomial.LIM _ _ _ _ c.args.next c.args.self.now c.self.invariant (record { view = c.self.view_is; going = c.requires.going; next = c.requires.next; heard = c.requires.heard })) in
    omega (arith, low)

pub invariant_of-self : goal.invariant_of-self
invariant_of-self g c =
    let e = c.clear_heads.ensures in
    (found_there g.M.Monomial.vector g.R.CoeffRing.value g.R.CoeffRing.belongs _ _ g.M.Monomial.LIM _ _ _ _ c.args.next c.args.self.now c.self.invariant (record { view = c.self.view_is; going = c.requires.going; next = c.requires.next; heard = c.requires.heard }) c.clear_heads.new.heads c.read_after-self-inside.result
    (record { heads = e.heads; long = e.long; belongs_all = e.belongs; not_ended = e.going; seen = c.read_after-self-inside.ensures })
    c.args.term c.args.norm (c.self.inside.spare - 1) c.publish.new.self c.args.row.now c.push_reserved.new.self.items _
    (record { same = c.requires.row; of = c.publish.ensures.of; notes = given c.publish.result (sym c.is_err.ensures.value ∙ c.if-is_err.false) c.publish.ensures.published; place = c.requires.place })
    (let r = subst (λ (v : DivideView). 0 < v.spare) (sym c.self.view_is) c.requires.room in omega (arith, r)) c.push_reserved.ensures.items c.push_reserved.ensures.capacity c.requires.belongs c.requires.norm c.requires.found).kept

pub returns-clause-sound : goal.returns-clause-sound
returns-clause-sound g c =
    let e = c.clear_heads.ensures in
    (found_there g.M.Monomial.vector g.R.CoeffRing.value g.R.CoeffRing.belongs _ _ g.M.Monomial.LIM _ _ _ _ c.args.next c.args.self.now c.self.invariant (record { view = c.self.view_is; going = c.requires.going; next = c.requires.next; heard = c.requires.heard }) c.clear_heads.new.heads c.read_after-self-inside.result
    (record { heads = e.heads; long = e.long; belongs_all = e.belongs; not_ended = e.going; seen = c.read_after-self-inside.ensures })
    c.args.term c.args.norm (c.self.inside.spare - 1) c.publish.new.self c.args.row.now c.push_reserved.new.self.items _
    (record { same = c.requires.row; of = c.publish.ensures.of; notes = given c.publish.result (sym c.is_err.ensures.value ∙ c.if-is_err.false) c.publish.ensures.published; place = c.requires.place })
    (let r = subst (λ (v : DivideView). 0 < v.spare) (sym c.self.view_is) c.requires.room in omega (arith, r)) c.push_reserved.ensures.items c.push_reserved.ensures.capacity c.requires.belongs c.requires.norm c.requires.found).sound

pub returns-clause-finds : goal.returns-clause-finds
returns-clause-finds g c =
    let e = c.clear_heads.ensures in
    (found_there g.M.Monomial.vector g.R.CoeffRing.value g.R.CoeffRing.belongs _ _ g.M.Monomial.LIM _ _ _ _ c.args.next c.args.self.now c.self.invariant (record { view = c.self.view_is; going = c.requires.going; next = c.requires.next; heard = c.requires.heard }) c.clear_heads.new.heads c.read_after-self-inside.result
    (record { heads = e.heads; long = e.long; belongs_all = e.belongs; not_ended = e.going; seen = c.read_after-self-inside.ensures })
    c.args.term c.args.norm (c.self.inside.spare - 1) c.publish.new.self c.args.row.now c.push_reserved.new.self.items _
    (record { same = c.requires.row; of = c.publish.ensures.of; notes = given c.publish.result (sym c.is_err.ensures.value ∙ c.if-is_err.false) c.publish.ensures.published; place = c.requires.place })
    (let r = subst (λ (v : DivideView). 0 < v.spare) (sym c.self.view_is) c.requires.room in omega (arith, r)) c.push_reserved.ensures.items c.push_reserved.ensures.capacity c.requires.belongs c.requires.norm c.requires.found).finds
