use Rattle.dividing_rounds.proofs.RunLemmas.{run_start_law}
use Rattle.dividing_rounds.proofs.run_start.Goals as goal

pub returns : goal.returns
returns c = run_start_law
