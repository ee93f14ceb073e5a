use Rattle.dividing_rounds.proofs.RunLemmas.{run_zero_law}
use Rattle.dividing_rounds.proofs.run_zero.Goals as goal

pub returns : goal.returns
returns c = run_zero_law
