use Rattle.dividing_rounds.proofs.RoundLemmas.{rounds_fit}
use Rattle.dividing_rounds.proofs.rounds_fit.Goals as goal

pub returns : goal.returns
returns c = rounds_fit
