use Rattle.dividing_rounds.proofs.CountingLemmas.{count_send}
use Rattle.dividing_rounds.proofs.count_send.Goals as goal

pub returns : goal.returns
returns c = count_send
