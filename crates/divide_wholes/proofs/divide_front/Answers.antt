use Rattle.divide_wholes.proofs.TakeLemmas.{divide_front}
use Rattle.divide_wholes.proofs.divide_front.Goals as goal

pub returns : goal.returns
returns c = divide_front
