use Rattle.divide_wholes.proofs.MarkLemmas.{worker_learn}
use Rattle.divide_wholes.proofs.worker_learn.Goals as goal

pub returns : goal.returns
returns c = worker_learn
