use Rattle.dividing_rounds.proofs.RunLemmas.{run_found_law}
use Rattle.dividing_rounds.proofs.run_found.Goals as goal

pub returns : goal.returns
returns c = run_found_law
