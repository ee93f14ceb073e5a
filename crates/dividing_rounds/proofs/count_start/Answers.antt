use Rattle.dividing_rounds.proofs.CountingLemmas.{count_start}
use Rattle.dividing_rounds.proofs.count_start.Goals as goal

pub returns : goal.returns
returns c = count_start
