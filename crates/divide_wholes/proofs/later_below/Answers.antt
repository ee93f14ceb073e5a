use Rattle.divide_wholes.proofs.WorkerLemmas.{later_below}
use Rattle.divide_wholes.proofs.later_below.Goals as goal

pub returns : goal.returns
returns c = later_below
