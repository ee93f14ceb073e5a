use Rattle.divide_wholes.proofs.MergeRowLemmas.{row_kept}
use Rattle.divide_wholes.proofs.row_kept.Goals as goal

pub returns : goal.returns
returns c = row_kept
