use Rattle.std.proofs.Common.{subst}
use Rattle.divide_workers.specs.Inside.{view_of}
use Rattle.divide_workers.specs.Views.{WorkerView}
use Rattle.divide_workers.specs.Paying.{IsFewSent}
use Rattle.divide_workers.proofs.Paying.{few_sent}
use Rattle.divide_workers.proofs.sender.Sender.whole.Goals as goal

pub returns-clause-few : goal.returns-clause-few
returns-clause-few g c =
    subst (λ (v : WorkerView). IsFewSent v.state) c.self.view_is (few_sent (view_of g.M.Monomial.vector g.R.CoeffRing.value c.self.inside.worker c.self.inside.rows c.self.inside.writer c.self.inside.reader c.self.inside.front c.self.inside.kept).state (view_of g.M.Monomial.vector g.R.CoeffRing.value c.self.inside.worker c.self.inside.rows c.self.inside.writer c.self.inside.reader c.self.inside.front c.self.inside.kept).front c.self.invariant.working.paid)
