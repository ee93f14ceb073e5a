use Rattle.divide_wholes.proofs.WorkerLemmas.{worker_next}
use Rattle.divide_wholes.proofs.worker_next.Goals as goal

pub returns : goal.returns
returns c = worker_next
