use Rattle.dividing_rounds.proofs.RoundLemmas.{progress_fits}
use Rattle.dividing_rounds.proofs.progress_fits.Goals as goal

pub returns : goal.returns
returns c = progress_fits
