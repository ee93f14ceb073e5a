use Rattle.dividing_rounds.proofs.RoundLemmas.{progress_rises}
use Rattle.dividing_rounds.proofs.progress_rises.Goals as goal

pub returns : goal.returns
returns c = progress_rises
