use Rattle.divide_wholes.proofs.MergeRowLemmas.{row_found}
use Rattle.divide_wholes.proofs.row_found.Goals as goal

pub returns : goal.returns
returns c = row_found
