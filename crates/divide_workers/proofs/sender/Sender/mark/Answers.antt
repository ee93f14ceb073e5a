use Rattle.std.proofs.Common.{subst}
use Rattle.divide_workers.specs.Views.{WorkerView}
use Rattle.divide_wholes.specs.Workers.{IsUnreadTop}
use Rattle.divide_workers.proofs.Fields.{own_top}
use Rattle.divide_workers.proofs.sender.Sender.mark.Goals as goal
use Rattle.divide_merge.specs.Inside.{vector_of}

pub returns : goal.returns
returns g c =
    let monos = g.met.M.Monomial g.world.𝓛 g.world.𝓜 g.world.𝓡 ((λ s x. x), (λ x. x), (λ x. x), λ x. x) in
    (c.known.ensures, subst (λ (v : WorkerView). IsUnreadTop v.state.division.ord v.state.unread (vector_of g.M.Monomial.vector c.top.result)) c.self.view_is (own_top g.M.Monomial.vector g.R.CoeffRing.value g.R.CoeffRing.belongs g.M.Monomial.order g.M.Monomial.VARS g.M.Monomial.LIM (g.R.CoeffRing.characteristic c.self.inside.coefficients) c.self.inside.worker monos.vars c.self.inside.rows c.self.inside.writer c.self.inside.reader c.self.inside.lead c.self.inside.place c.self.inside.front c.self.inside.kept c.self.inside.marked c.self.invariant c.top.result c.top.ensures))
