use Rattle.divide_wholes.proofs.MarkLemmas.{worker_send}
use Rattle.divide_wholes.proofs.worker_send.Goals as goal

pub returns : goal.returns
returns c = worker_send
