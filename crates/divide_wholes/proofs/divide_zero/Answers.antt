use Rattle.divide_wholes.proofs.ProcessLemmas.{divide_zero}
use Rattle.divide_wholes.proofs.divide_zero.Goals as goal

pub returns : goal.returns
returns c = divide_zero
