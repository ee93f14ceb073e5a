use Rattle.dividing_rounds.proofs.CountingLemmas.{counted_fit}
use Rattle.dividing_rounds.proofs.counted_fit.Goals as goal

pub returns : goal.returns
returns c = counted_fit
