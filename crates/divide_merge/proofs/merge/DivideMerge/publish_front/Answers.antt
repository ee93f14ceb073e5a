use Rattle.std.proofs.Common.{◌≡◌, sym, ap, ◌∙◌, arith, length}
use Rattle.divide_merge.specs.Merges.{DivideView}
use Rattle.divide_merge.proofs.Publishing.{given, refused, writer_of, not_full}
use Rattle.divide_merge.proofs.Fronting.{front_legal, fronted_at, fronts_low, front_there}
use Rattle.divide_merge.proofs.merge.DivideMerge.publish_front.Given.{Over}
use Rattle.divide_merge.proofs.merge.DivideMerge.publish_front.Goals as goal

vars : (g : Over) → (m : g.row.M.Denot) → length (g.M.Monomial.vector m) ≡ g.M.Monomial.VARS
vars g = (g.met.M.Monomial g.world.𝓛 g.world.𝓜 g.world.𝓡 ((λ s x. x), (λ x. x), (λ x. x), λ x. x)).vars

pub publish-requires-clause-of : goal.publish-requires-clause-of
publish-requires-clause-of g c κs within = writer_of c.args.row.now c.self.inside.writer c.self.invariant.publishing (ap (λ (u : DivideView). u.row) c.self.view_is ∙ c.requires.row)

pub publish-requires-clause-legal : goal.publish-requires-clause-legal
publish-requires-clause-legal g c κs within =
    front_legal g.M.Monomial.vector g.R.CoeffRing.value g.R.CoeffRing.belongs _ _ g.M.Monomial.LIM _ _ _ _ c.args.bound c.lowered-front.result c.args.self.now c.self.invariant (record { view = c.self.view_is; going = c.requires.going; due = c.requires.due; long = vars g c.lowered-front.result; below = c.lowered-front.ensures.below; multiples = c.lowered-front.ensures.multiples }) c.args.row.now c.requires.row

pub unreachable-requires : goal.unreachable-requires
unreachable-requires g c =
    not_full c.args.row.now g.M.Monomial.vector g.R.CoeffRing.value c.self.inside.writer c.args.self.now c.requires.row (ap (λ (u : DivideView). u.run.notes) (sym c.self.view_is)) c.requires.place
    (refused c.publish.result (sym c.is_err.ensures.value ∙ c.if-is_err.true) c.publish.ensures.full)

pub overflow_add-self : goal.overflow_add-self
overflow_add-self g c =
    let low = fronts_low g.M.Monomial.vector g.R.CoeffRing.value g.R.CoeffRing.belongs _ _ g.M.Monomial.LIM _ _ _ _ c.args.bound c.lowered-front.result (fronted_at g.M.Monomial.vector g.R.CoeffRing.value g.R.CoeffRing.belongs _ _ g.M.Monomial.LIM _ _ _ _ c.args.bound c.lowered-front.result c.args.self.now c.self.invariant (record { view = c.self.view_is; going = c.requires.going; due = c.requires.due; long = vars g c.lowered-front.result; below = c.lowered-front.ensures.below; multiples = c.lowered-front.ensures.multiples })) in
    omega (arith, low)

pub invariant_of-self : goal.invariant_of-self
invariant_of-self g c =
    (front_there g.M.Monomial.vector g.R.CoeffRing.value g.R.CoeffRing.belongs _ _ g.M.Monomial.LIM _ _ _ _ c.args.bound c.lowered-front.result c.args.self.now c.self.invariant (record { view = c.self.view_is; going = c.requires.going; due = c.requires.due; long = vars g c.lowered-front.result; below = c.lowered-front.ensures.below; multiples = c.lowered-front.ensures.multiples }) c.args.row.now c.requires.row c.publish.new.self c.publish.ensures.of (given c.publish.result (sym c.is_err.ensures.value ∙ c.if-is_err.false) c.publish.ensures.published) c.requires.place).kept

pub returns-clause-sound : goal.returns-clause-sound
returns-clause-sound g c =
    (front_there g.M.Monomial.vector g.R.CoeffRing.value g.R.CoeffRing.belongs _ _ g.M.Monomial.LIM _ _ _ _ c.args.bound c.lowered-front.result c.args.self.now c.self.invariant (record { view = c.self.view_is; going = c.requires.going; due = c.requires.due; long = vars g c.lowered-front.result; below = c.lowered-front.ensures.below; multiples = c.lowered-front.ensures.multiples }) c.args.row.now c.requires.row c.publish.new.self c.publish.ensures.of (given c.publish.result (sym c.is_err.ensures.value ∙ c.if-is_err.false) c.publish.ensures.published) c.requires.place).sound

pub returns-clause-publishes : goal.returns-clause-publishes
returns-clause-publishes g c =
    (front_there g.M.Monomial.vector g.R.CoeffRing.value g.R.CoeffRing.belongs _ _ g.M.Monomial.LIM _ _ _ _ c.args.bound c.lowered-front.result c.args.self.now c.self.invariant (record { view = c.self.view_is; going = c.requires.going; due = c.requires.due; long = vars g c.lowered-front.result; below = c.lowered-front.ensures.below; multiples = c.lowered-front.ensures.multiples }) c.args.row.now c.requires.row c.publish.new.self c.publish.ensures.of (given c.publish.result (sym c.is_err.ensures.value ∙ c.if-is_err.false) c.publish.ensures.published) c.requires.place).publishes
