use Rattle.divide_wholes.proofs.RowLemmas.{row_laws}
use Rattle.divide_wholes.proofs.row_laws.Goals as goal

pub returns : goal.returns
returns c = row_laws
