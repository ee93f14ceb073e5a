use Rattle.dividing_rounds.proofs.StallLemmas.{behind}
use Rattle.dividing_rounds.proofs.behind.Goals as goal

pub returns : goal.returns
returns c = behind
