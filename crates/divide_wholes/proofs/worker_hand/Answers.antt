use Rattle.divide_wholes.proofs.MarkLemmas.{worker_hand}
use Rattle.divide_wholes.proofs.worker_hand.Goals as goal

pub returns : goal.returns
returns c = worker_hand
