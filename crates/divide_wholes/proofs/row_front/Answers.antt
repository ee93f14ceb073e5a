use Rattle.divide_wholes.proofs.MergeRowLemmas.{row_fronted}
use Rattle.divide_wholes.proofs.row_front.Goals as goal

pub returns : goal.returns
returns c = row_fronted
