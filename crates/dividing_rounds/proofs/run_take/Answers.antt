use Rattle.dividing_rounds.proofs.RunLemmas.{run_take_law}
use Rattle.dividing_rounds.proofs.run_take.Goals as goal

pub returns : goal.returns
returns c = run_take_law
