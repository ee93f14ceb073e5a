use Rattle.dividing_rounds.proofs.CountingLemmas.{count_learn}
use Rattle.dividing_rounds.proofs.count_learn.Goals as goal

pub returns : goal.returns
returns c = count_learn
