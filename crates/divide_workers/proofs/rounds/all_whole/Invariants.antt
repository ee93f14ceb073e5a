use Rattle.std.proofs.Common.{ℕ, ◌<◌, get_or}
use Rattle.divide_workers.specs.Working.{IsWorking}
use Rattle.divide_workers.proofs.rounds.all_whole.Given as goal

abbrev pub invariant-loop-worker : goal.invariant-loop-worker
invariant-loop-worker g l = (k : ℕ) (d : _) → k < l.worker-index → IsWorking g.M.Monomial.LIM (get_or l.workers k d).worker.sender
