use Rattle.dividing_rounds.proofs.RoundLemmas.{progress_small}
use Rattle.dividing_rounds.proofs.progress_small.Goals as goal

pub returns : goal.returns
returns c = progress_small
