use Rattle.dividing_rounds.proofs.RunLemmas.{run_front_law}
use Rattle.dividing_rounds.proofs.run_front.Goals as goal

pub returns : goal.returns
returns c = run_front_law
