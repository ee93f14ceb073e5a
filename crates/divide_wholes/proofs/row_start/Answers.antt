use Rattle.divide_wholes.proofs.MergeRowLemmas.{row_start}
use Rattle.divide_wholes.proofs.row_start.Goals as goal

pub returns : goal.returns
returns c = row_start
