use Rattle.dividing_rounds.proofs.RunLemmas.{run_rest_law}
use Rattle.dividing_rounds.proofs.run_rest.Goals as goal

pub returns : goal.returns
returns c = run_rest_law
