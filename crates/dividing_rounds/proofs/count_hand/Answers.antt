use Rattle.dividing_rounds.proofs.CountingLemmas.{count_hand}
use Rattle.dividing_rounds.proofs.count_hand.Goals as goal

pub returns : goal.returns
returns c = count_hand
