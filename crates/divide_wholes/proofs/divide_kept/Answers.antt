use Rattle.divide_wholes.proofs.ProcessLemmas.{divide_kept}
use Rattle.divide_wholes.proofs.divide_kept.Goals as goal

pub returns : goal.returns
returns c = divide_kept
