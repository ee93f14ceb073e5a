use Rattle.divide_wholes.proofs.StartLemmas.{divide_start_law}
use Rattle.divide_wholes.proofs.divide_start.Goals as goal

pub returns : goal.returns
returns c = divide_start_law
