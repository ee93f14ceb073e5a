use Rattle.std.proofs.Common.{None, Some, true≢false, sym, ap, subst, ◌∙◌, arith}
use Rattle.sdmp_laws.specs.Order.{degree}
use Rattle.divide_workers.specs.Fronts.{plain_front, front_of}
use Rattle.divide_workers.specs.Inside.{view_of}
use Rattle.divide_workers.specs.Steps.{IsAllHeld, IsFrontier, MayHand}
use Rattle.divide_workers.proofs.Holding.{divisor_low, top_low, none_held, held_empty, may_hand, held_at_top}
use Rattle.divide_workers.proofs.Fields.{own_top, own_past, past_own, own_length}
use Rattle.divide_workers.proofs.sender.Sender.may_hand.Goals as goal

pub returns-in_default-clause-no : goal.returns-in_default-clause-no
returns-in_default-clause-no g c =
    λ e. none_held c.args.self.now (subst (λ o. IsFrontier c.args.self.now (plain_front g.M.Monomial.vector o)) c.in_default.is c.requires)

pub is_past-requires-clause-top : goal.is_past-requires-clause-top
is_past-requires-clause-top g c κs within =
    let monos = g.met.M.Monomial g.world.𝓛 g.world.𝓜 g.world.𝓡 ((λ s x. x), (λ x. x), (λ x. x), λ x. x) in
    top_low g.M.Monomial.LIM (view_of g.M.Monomial.vector g.R.CoeffRing.value c.self.inside.worker c.self.inside.rows c.self.inside.writer c.self.inside.reader c.self.inside.front c.self.inside.kept) (g.M.Monomial.vector c.in-Some-top.top) c.self.invariant.working (own_top g.M.Monomial.vector g.R.CoeffRing.value g.R.CoeffRing.belongs g.M.Monomial.order g.M.Monomial.VARS g.M.Monomial.LIM (g.R.CoeffRing.characteristic c.self.inside.coefficients) c.self.inside.worker monos.vars c.self.inside.rows c.self.inside.writer c.self.inside.reader c.self.inside.lead c.self.inside.place c.self.inside.front c.self.inside.kept c.self.inside.marked c.self.invariant (Some c.in-Some-top.top) c.in-Some-top.ensures)

pub is_past-requires-clause-lead : goal.is_past-requires-clause-lead
is_past-requires-clause-lead g c κs within =
    let k = divisor_low g.M.Monomial.LIM (view_of g.M.Monomial.vector g.R.CoeffRing.value c.self.inside.worker c.self.inside.rows c.self.inside.writer c.self.inside.reader c.self.inside.front c.self.inside.kept) c.self.invariant.working in let e = ap degree c.self.invariant.lead_is in omega (arith, k, e)

pub returns-in-None-clause-no : goal.returns-in-None-clause-no
returns-in-None-clause-no g c =
    let monos = g.met.M.Monomial g.world.𝓛 g.world.𝓜 g.world.𝓡 ((λ s x. x), (λ x. x), (λ x. x), λ x. x) in
    λ e. subst IsAllHeld c.self.view_is (held_empty (view_of g.M.Monomial.vector g.R.CoeffRing.value c.self.inside.worker c.self.inside.rows c.self.inside.writer c.self.inside.reader c.self.inside.front c.self.inside.kept) (own_top g.M.Monomial.vector g.R.CoeffRing.value g.R.CoeffRing.belongs g.M.Monomial.order g.M.Monomial.VARS g.M.Monomial.LIM (g.R.CoeffRing.characteristic c.self.inside.coefficients) c.self.inside.worker monos.vars c.self.inside.rows c.self.inside.writer c.self.inside.reader c.self.inside.lead c.self.inside.place c.self.inside.front c.self.inside.kept c.self.inside.marked c.self.invariant None c.in-None.ensures))

pub returns-in-Some-top-clause-yes : goal.returns-in-Some-top-clause-yes
returns-in-Some-top-clause-yes g c =
    let monos = g.met.M.Monomial g.world.𝓛 g.world.𝓜 g.world.𝓡 ((λ s x. x), (λ x. x), (λ x. x), λ x. x) in
    λ e. subst MayHand c.self.view_is (may_hand (view_of g.M.Monomial.vector g.R.CoeffRing.value c.self.inside.worker c.self.inside.rows c.self.inside.writer c.self.inside.reader c.self.inside.front c.self.inside.kept) (front_of g.M.Monomial.vector c.in-Some.frontier) (g.M.Monomial.vector c.in-Some-top.top) (subst (IsFrontier (view_of g.M.Monomial.vector g.R.CoeffRing.value c.self.inside.worker c.self.inside.rows c.self.inside.writer c.self.inside.reader c.self.inside.front c.self.inside.kept)) (ap (plain_front g.M.Monomial.vector) c.in-Some.is) (subst (λ v. IsFrontier v (plain_front g.M.Monomial.vector c.args.frontier)) (sym c.self.view_is) c.requires)) (own_top g.M.Monomial.vector g.R.CoeffRing.value g.R.CoeffRing.belongs g.M.Monomial.order g.M.Monomial.VARS g.M.Monomial.LIM (g.R.CoeffRing.characteristic c.self.inside.coefficients) c.self.inside.worker monos.vars c.self.inside.rows c.self.inside.writer c.self.inside.reader c.self.inside.lead c.self.inside.place c.self.inside.front c.self.inside.kept c.self.inside.marked c.self.invariant (Some c.in-Some-top.top) c.in-Some-top.ensures) (own_past g.M.Monomial.vector g.R.CoeffRing.value g.R.CoeffRing.belongs g.M.Monomial.order g.M.Monomial.VARS g.M.Monomial.LIM (g.R.CoeffRing.characteristic c.self.inside.coefficients) c.self.inside.worker monos.vars c.self.inside.rows c.self.inside.writer c.self.inside.reader c.self.inside.lead c.self.inside.place c.self.inside.front c.self.inside.kept c.self.inside.marked c.self.invariant c.in-Some.frontier.is_strict (g.M.Monomial.vector c.in-Some.frontier.mono) (g.M.Monomial.vector c.in-Some-top.top) (c.is_past.ensures.0 e)))

pub returns-in-Some-top-clause-no : goal.returns-in-Some-top-clause-no
returns-in-Some-top-clause-no g c =
    let monos = g.met.M.Monomial g.world.𝓛 g.world.𝓜 g.world.𝓡 ((λ s x. x), (λ x. x), (λ x. x), λ x. x) in
    λ e. subst IsAllHeld c.self.view_is (held_at_top (view_of g.M.Monomial.vector g.R.CoeffRing.value c.self.inside.worker c.self.inside.rows c.self.inside.writer c.self.inside.reader c.self.inside.front c.self.inside.kept) (front_of g.M.Monomial.vector c.in-Some.frontier) (g.M.Monomial.vector c.in-Some-top.top) (subst (IsFrontier (view_of g.M.Monomial.vector g.R.CoeffRing.value c.self.inside.worker c.self.inside.rows c.self.inside.writer c.self.inside.reader c.self.inside.front c.self.inside.kept)) (ap (plain_front g.M.Monomial.vector) c.in-Some.is) (subst (λ v. IsFrontier v (plain_front g.M.Monomial.vector c.args.frontier)) (sym c.self.view_is) c.requires)) (own_length g.M.Monomial.vector g.R.CoeffRing.value g.R.CoeffRing.belongs g.M.Monomial.order g.M.Monomial.VARS g.M.Monomial.LIM (g.R.CoeffRing.characteristic c.self.inside.coefficients) c.self.inside.worker monos.vars c.self.inside.rows c.self.inside.writer c.self.inside.reader c.self.inside.lead c.self.inside.place c.self.inside.front c.self.inside.kept c.self.inside.marked c.self.invariant c.in-Some.frontier.mono c.in-Some-top.top) (own_top g.M.Monomial.vector g.R.CoeffRing.value g.R.CoeffRing.belongs g.M.Monomial.order g.M.Monomial.VARS g.M.Monomial.LIM (g.R.CoeffRing.characteristic c.self.inside.coefficients) c.self.inside.worker monos.vars c.self.inside.rows c.self.inside.writer c.self.inside.reader c.self.inside.lead c.self.inside.place c.self.inside.front c.self.inside.kept c.self.inside.marked c.self.invariant (Some c.in-Some-top.top) c.in-Some-top.ensures)
    (λ h. true≢false (sym (c.is_past.ensures.1 (past_own g.M.Monomial.vector g.R.CoeffRing.value g.R.CoeffRing.belongs g.M.Monomial.order g.M.Monomial.VARS g.M.Monomial.LIM (g.R.CoeffRing.characteristic c.self.inside.coefficients) c.self.inside.worker monos.vars c.self.inside.rows c.self.inside.writer c.self.inside.reader c.self.inside.lead c.self.inside.place c.self.inside.front c.self.inside.kept c.self.inside.marked c.self.invariant c.in-Some.frontier.is_strict (g.M.Monomial.vector c.in-Some.frontier.mono) (g.M.Monomial.vector c.in-Some-top.top) h)) ∙ e)))
