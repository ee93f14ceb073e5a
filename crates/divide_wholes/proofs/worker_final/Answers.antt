use Rattle.divide_wholes.proofs.WorkerLemmas.{worker_final}
use Rattle.divide_wholes.proofs.worker_final.Goals as goal

pub returns : goal.returns
returns c = worker_final
