use Rattle.divide_wholes.proofs.MarkLemmas.{worker_mark}
use Rattle.divide_wholes.proofs.worker_mark.Goals as goal

pub returns : goal.returns
returns c = worker_mark
