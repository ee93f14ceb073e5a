use Rattle.std.proofs.Common.{false, Some, sym, ap, subst}
use Rattle.dividing_rounds.specs.Stalls.{IsLowered}
use Rattle.divide_workers.specs.Fronts.{front_of, front_mono}
use Rattle.divide_workers.specs.Inside.{view_of}
use Rattle.divide_workers.specs.Views.{WorkerView}
use Rattle.divide_workers.specs.Steps.{IsFrontOf, LearnsMore}
use Rattle.divide_workers.proofs.Fields.{hears, lowered, learns_none, takes_lower, ahead_of_news, lowered_none}
use Rattle.divide_workers.proofs.Ahead.{falls_lowered}
use Rattle.divide_workers.proofs.sender.Sender.take_front.Goals as goal
use Rattle.divide_merge.specs.Inside.{vector_of}

pub invariant_of-self : goal.invariant_of-self
invariant_of-self g c =
    let monos = g.met.M.Monomial g.world.𝓛 g.world.𝓜 g.world.𝓡 ((λ s x. x), (λ x. x), (λ x. x), λ x. x) in
    lowered g.M.Monomial.vector g.R.CoeffRing.value g.R.CoeffRing.belongs g.M.Monomial.order g.M.Monomial.VARS g.M.Monomial.LIM (g.R.CoeffRing.characteristic c.self.inside.coefficients) c.self.inside.worker monos.vars c.self.inside.rows c.self.inside.writer c.self.inside.reader c.self.inside.lead c.self.inside.place c.self.inside.front c.self.inside.kept c.self.inside.marked c.self.invariant (record { mono = g.M.Monomial.vector c.in-Some.mono; is_strict = false }) c.lower.result (ahead_of_news (view_of g.M.Monomial.vector g.R.CoeffRing.value c.self.inside.worker c.self.inside.rows c.self.inside.writer c.self.inside.reader c.self.inside.front c.self.inside.kept) (g.M.Monomial.vector c.in-Some.mono) (subst (IsFrontOf (view_of g.M.Monomial.vector g.R.CoeffRing.value c.self.inside.worker c.self.inside.rows c.self.inside.writer c.self.inside.reader c.self.inside.front c.self.inside.kept).state) (ap (vector_of g.M.Monomial.vector) c.in-Some.is) (subst (λ (v : WorkerView). IsFrontOf v.state (vector_of g.M.Monomial.vector c.args.front)) (sym c.self.view_is) c.requires.front))) (hears g.M.Monomial.vector g.R.CoeffRing.value g.R.CoeffRing.belongs g.M.Monomial.order g.M.Monomial.VARS g.M.Monomial.LIM (g.R.CoeffRing.characteristic c.self.inside.coefficients) c.self.inside.worker monos.vars c.self.inside.rows c.self.inside.writer c.self.inside.reader c.self.inside.lead c.self.inside.place c.self.inside.front c.self.inside.kept c.self.inside.marked c.self.invariant (record { mono = g.M.Monomial.vector c.in-Some.mono; is_strict = false }) c.lower.result c.lower.ensures.known c.lower.ensures.news c.lower.ensures.ahead)

pub returns-in-Some-clause-learns : goal.returns-in-Some-clause-learns
returns-in-Some-clause-learns g c =
    let monos = g.met.M.Monomial g.world.𝓛 g.world.𝓜 g.world.𝓡 ((λ s x. x), (λ x. x), (λ x. x), λ x. x) in
    subst (λ (v : WorkerView). LearnsMore v (record (view_of g.M.Monomial.vector g.R.CoeffRing.value c.self.inside.worker c.self.inside.rows c.self.inside.writer c.self.inside.reader c.self.inside.front c.self.inside.kept) { front = Some (front_of g.M.Monomial.vector c.lower.result) })) c.self.view_is (takes_lower (view_of g.M.Monomial.vector g.R.CoeffRing.value c.self.inside.worker c.self.inside.rows c.self.inside.writer c.self.inside.reader c.self.inside.front c.self.inside.kept) (front_of g.M.Monomial.vector c.lower.result) (hears g.M.Monomial.vector g.R.CoeffRing.value g.R.CoeffRing.belongs g.M.Monomial.order g.M.Monomial.VARS g.M.Monomial.LIM (g.R.CoeffRing.characteristic c.self.inside.coefficients) c.self.inside.worker monos.vars c.self.inside.rows c.self.inside.writer c.self.inside.reader c.self.inside.lead c.self.inside.place c.self.inside.front c.self.inside.kept c.self.inside.marked c.self.invariant (record { mono = g.M.Monomial.vector c.in-Some.mono; is_strict = false }) c.lower.result c.lower.ensures.known c.lower.ensures.news c.lower.ensures.ahead).falls)

pub returns-in-Some-clause-lowered : goal.returns-in-Some-clause-lowered
returns-in-Some-clause-lowered g c =
    let monos = g.met.M.Monomial g.world.𝓛 g.world.𝓜 g.world.𝓡 ((λ s x. x), (λ x. x), (λ x. x), λ x. x) in
    subst (λ (v : WorkerView). IsLowered v.state.division.ord (Some (g.M.Monomial.vector c.lower.result.mono)) (vector_of g.M.Monomial.vector c.args.front)) c.self.view_is
    (subst (λ o. IsLowered (view_of g.M.Monomial.vector g.R.CoeffRing.value c.self.inside.worker c.self.inside.rows c.self.inside.writer c.self.inside.reader c.self.inside.front c.self.inside.kept).state.division.ord (Some (g.M.Monomial.vector c.lower.result.mono)) (vector_of g.M.Monomial.vector o)) (sym c.in-Some.is) (falls_lowered (view_of g.M.Monomial.vector g.R.CoeffRing.value c.self.inside.worker c.self.inside.rows c.self.inside.writer c.self.inside.reader c.self.inside.front c.self.inside.kept).state.division.ord (record { mono = g.M.Monomial.vector c.in-Some.mono; is_strict = false }) (Some (front_of g.M.Monomial.vector c.lower.result)) (hears g.M.Monomial.vector g.R.CoeffRing.value g.R.CoeffRing.belongs g.M.Monomial.order g.M.Monomial.VARS g.M.Monomial.LIM (g.R.CoeffRing.characteristic c.self.inside.coefficients) c.self.inside.worker monos.vars c.self.inside.rows c.self.inside.writer c.self.inside.reader c.self.inside.lead c.self.inside.place c.self.inside.front c.self.inside.kept c.self.inside.marked c.self.invariant (record { mono = g.M.Monomial.vector c.in-Some.mono; is_strict = false }) c.lower.result c.lower.ensures.known c.lower.ensures.news c.lower.ensures.ahead).falls_news))

pub returns-in_default-clause-learns : goal.returns-in_default-clause-learns
returns-in_default-clause-learns g c =
    learns_none c.args.self.now

pub returns-in_default-clause-lowered : goal.returns-in_default-clause-lowered
returns-in_default-clause-lowered g c =
    subst (λ o. IsLowered c.args.self.now.state.division.ord (front_mono c.args.self.now.front) (vector_of g.M.Monomial.vector o)) (sym c.in_default.is) (lowered_none c.args.self.now.state.division.ord (front_mono c.args.self.now.front))
