use Rattle.divide_wholes.proofs.MergeRowLemmas.{row_change}
use Rattle.divide_wholes.proofs.row_change.Goals as goal

pub returns : goal.returns
returns c = row_change
