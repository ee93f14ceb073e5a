use Rattle.divide_wholes.proofs.ProcessLemmas.{divide_found}
use Rattle.divide_wholes.proofs.divide_found.Goals as goal

pub returns : goal.returns
returns c = divide_found
