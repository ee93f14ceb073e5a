use Rattle.divide_workers.specs.Working.{IsWorking}
use Rattle.divide_workers.proofs.Changing.{next_has}
use Rattle.divide_workers.proofs.rounds.all_whole.Goals as goal

pub loop-worker-preserved : goal.loop-worker-preserved
loop-worker-preserved g c =
    next_has (λ w. IsWorking g.M.Monomial.LIM w.worker.sender) c.args.workers.now c.loop-worker.worker-index c.worker-item.result c.loop-worker.invariant c.worker-item.is c.loop-worker-test.true c.whole.ensures.working
