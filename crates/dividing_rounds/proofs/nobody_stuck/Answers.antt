use Rattle.dividing_rounds.proofs.StallLemmas.{nobody_stuck}
use Rattle.dividing_rounds.proofs.nobody_stuck.Goals as goal

pub returns : goal.returns
returns c = nobody_stuck
