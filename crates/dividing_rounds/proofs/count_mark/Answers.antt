use Rattle.dividing_rounds.proofs.CountingLemmas.{count_mark}
use Rattle.dividing_rounds.proofs.count_mark.Goals as goal

pub returns : goal.returns
returns c = count_mark
