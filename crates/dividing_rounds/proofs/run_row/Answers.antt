use Rattle.dividing_rounds.proofs.RunLemmas.{run_row_law}
use Rattle.dividing_rounds.proofs.run_row.Goals as goal

pub returns : goal.returns
returns c = run_row_law
