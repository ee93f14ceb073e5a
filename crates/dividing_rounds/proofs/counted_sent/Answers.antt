use Rattle.dividing_rounds.proofs.CountingLemmas.{counted_sent}
use Rattle.dividing_rounds.proofs.counted_sent.Goals as goal

pub returns : goal.returns
returns c = counted_sent
