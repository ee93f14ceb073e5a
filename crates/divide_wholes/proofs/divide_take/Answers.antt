use Rattle.divide_wholes.proofs.TakeLemmas.{divide_take_law}
use Rattle.divide_wholes.proofs.divide_take.Goals as goal

pub returns : goal.returns
returns c = divide_take_law
