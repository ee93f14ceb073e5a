use Rattle.dividing_rounds.proofs.LogLemmas.{counts_fit}
use Rattle.dividing_rounds.proofs.counts_fit.Goals as goal

pub returns : goal.returns
returns c = counts_fit
