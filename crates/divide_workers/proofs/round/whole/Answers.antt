use Rattle.std.proofs.Common.{subst}
use Rattle.divide_workers.specs.Rounds.{IsWorker}
use Rattle.divide_workers.proofs.TeamSteps.{is_worker}
use Rattle.divide_workers.proofs.round.whole.Goals as goal

pub returns : goal.returns
returns g c =
    let monos = g.met.M.Monomial g.world.𝓛 g.world.𝓜 g.world.𝓡 ((λ s x. x), (λ x. x), (λ x. x), λ x. x) in
    let i = c.sender.inside in
    subst (IsWorker g.M.Monomial.LIM) c.sender.view_is
    (is_worker g.M.Monomial.vector g.R.CoeffRing.value g.R.CoeffRing.belongs g.M.Monomial.order g.M.Monomial.VARS g.M.Monomial.LIM (g.R.CoeffRing.characteristic i.coefficients) i.worker monos.vars i.rows i.writer i.reader i.lead i.place i.front i.kept i.marked c.sender.invariant)
