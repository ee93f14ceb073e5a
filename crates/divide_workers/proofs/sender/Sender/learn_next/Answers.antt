use Rattle.std.proofs.Common.{true, sym, ap, subst, arith}
use Rattle.sdmp_laws.specs.Order.{degree}
use Rattle.canonical_terms.specs.View.{term_of}
use Rattle.divide_workers.specs.Fronts.{PlainFront, front_of}
use Rattle.divide_workers.specs.Inside.{view_of}
use Rattle.divide_workers.specs.Views.{WorkerView}
use Rattle.divide_workers.specs.Steps.{IsNextTerm}
use Rattle.divide_workers.proofs.Stepping.{Hears}
use Rattle.divide_workers.proofs.Holding.{divisor_low}
use Rattle.divide_workers.proofs.Fields.{hears, term_news, learned, may_learn_next, next_low}
use Rattle.divide_workers.proofs.sender.Sender.learn_next.Goals as goal

pub learn-requires-clause-falls : goal.learn-requires-clause-falls
learn-requires-clause-falls g c κs within =
    let monos = g.met.M.Monomial g.world.𝓛 g.world.𝓜 g.world.𝓡 ((λ s x. x), (λ x. x), (λ x. x), λ x. x) in
    (may_learn_next g.M.Monomial.vector g.R.CoeffRing.value g.R.CoeffRing.belongs g.M.Monomial.order g.M.Monomial.VARS g.M.Monomial.LIM (g.R.CoeffRing.characteristic c.self.inside.coefficients) c.self.inside.worker monos.vars c.self.inside.rows c.self.inside.writer c.self.inside.reader c.self.inside.lead c.self.inside.place c.self.inside.front c.self.inside.kept c.self.inside.marked c.self.invariant c.args.term (subst (λ (v : WorkerView). IsNextTerm v.state (term_of g.M.Monomial.vector g.R.CoeffRing.value c.args.term)) (sym c.self.view_is) c.requires.next)).0

pub learn-requires-clause-degree : goal.learn-requires-clause-degree
learn-requires-clause-degree g c κs within =
    let monos = g.met.M.Monomial g.world.𝓛 g.world.𝓜 g.world.𝓡 ((λ s x. x), (λ x. x), (λ x. x), λ x. x) in
    (may_learn_next g.M.Monomial.vector g.R.CoeffRing.value g.R.CoeffRing.belongs g.M.Monomial.order g.M.Monomial.VARS g.M.Monomial.LIM (g.R.CoeffRing.characteristic c.self.inside.coefficients) c.self.inside.worker monos.vars c.self.inside.rows c.self.inside.writer c.self.inside.reader c.self.inside.lead c.self.inside.place c.self.inside.front c.self.inside.kept c.self.inside.marked c.self.invariant c.args.term (subst (λ (v : WorkerView). IsNextTerm v.state (term_of g.M.Monomial.vector g.R.CoeffRing.value c.args.term)) (sym c.self.view_is) c.requires.next)).1

pub times-requires-clause-left : goal.times-requires-clause-left
times-requires-clause-left g c =
    let k = next_low g.M.Monomial.LIM (view_of g.M.Monomial.vector g.R.CoeffRing.value c.self.inside.worker c.self.inside.rows c.self.inside.writer c.self.inside.reader c.self.inside.front c.self.inside.kept) (term_of g.M.Monomial.vector g.R.CoeffRing.value c.args.term) c.self.invariant.working (subst (λ (v : WorkerView). IsNextTerm v.state (term_of g.M.Monomial.vector g.R.CoeffRing.value c.args.term)) (sym c.self.view_is) c.requires.next) in omega (arith, k)

pub times-requires-clause-right : goal.times-requires-clause-right
times-requires-clause-right g c =
    let k = divisor_low g.M.Monomial.LIM (view_of g.M.Monomial.vector g.R.CoeffRing.value c.self.inside.worker c.self.inside.rows c.self.inside.writer c.self.inside.reader c.self.inside.front c.self.inside.kept) c.self.invariant.working in let e = ap degree c.self.invariant.lead_is in omega (arith, k, e)

pub invariant_of-self : goal.invariant_of-self
invariant_of-self g c =
    let monos = g.met.M.Monomial g.world.𝓛 g.world.𝓜 g.world.𝓡 ((λ s x. x), (λ x. x), (λ x. x), λ x. x) in
    learned g.M.Monomial.vector g.R.CoeffRing.value g.R.CoeffRing.belongs g.M.Monomial.order g.M.Monomial.VARS g.M.Monomial.LIM (g.R.CoeffRing.characteristic c.self.inside.coefficients) c.self.inside.worker monos.vars c.self.inside.rows c.self.inside.writer c.self.inside.reader c.self.inside.lead c.self.inside.place c.self.inside.front c.self.inside.kept c.self.inside.marked c.self.invariant c.learn.new.self c.args.term c.lower.result (subst (λ (v : WorkerView). IsNextTerm v.state (term_of g.M.Monomial.vector g.R.CoeffRing.value c.args.term)) (sym c.self.view_is) c.requires.next) (record { learned = c.learn.ensures.learned; unread = c.learn.ensures.unread; spare = c.learn.ensures.spare; same = c.learn.ensures.same })
    (subst (λ (f : PlainFront). Hears (view_of g.M.Monomial.vector g.R.CoeffRing.value c.self.inside.worker c.self.inside.rows c.self.inside.writer c.self.inside.reader c.self.inside.front c.self.inside.kept).state.division (view_of g.M.Monomial.vector g.R.CoeffRing.value c.self.inside.worker c.self.inside.rows c.self.inside.writer c.self.inside.reader c.self.inside.front c.self.inside.kept).front f (front_of g.M.Monomial.vector c.lower.result)) (term_news g.M.Monomial.vector g.R.CoeffRing.value g.R.CoeffRing.belongs g.M.Monomial.order g.M.Monomial.VARS g.M.Monomial.LIM (g.R.CoeffRing.characteristic c.self.inside.coefficients) c.self.inside.worker monos.vars c.self.inside.rows c.self.inside.writer c.self.inside.reader c.self.inside.lead c.self.inside.place c.self.inside.front c.self.inside.kept c.self.inside.marked c.self.invariant c.args.term.mono c.times.result c.args.term.coef c.times.ensures) (hears g.M.Monomial.vector g.R.CoeffRing.value g.R.CoeffRing.belongs g.M.Monomial.order g.M.Monomial.VARS g.M.Monomial.LIM (g.R.CoeffRing.characteristic c.self.inside.coefficients) c.self.inside.worker monos.vars c.self.inside.rows c.self.inside.writer c.self.inside.reader c.self.inside.lead c.self.inside.place c.self.inside.front c.self.inside.kept c.self.inside.marked c.self.invariant (record { mono = g.M.Monomial.vector c.times.result; is_strict = true }) c.lower.result c.lower.ensures.known c.lower.ensures.news c.lower.ensures.ahead))
