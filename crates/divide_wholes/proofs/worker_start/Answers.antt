use Rattle.divide_wholes.proofs.MarkLemmas.{worker_start}
use Rattle.divide_wholes.proofs.worker_start.Goals as goal

pub returns : goal.returns
returns c = worker_start
