use Rattle.dividing_rounds.proofs.StallLemmas.{due_is_bound}
use Rattle.dividing_rounds.proofs.due_is_bound.Goals as goal

pub returns : goal.returns
returns c = due_is_bound
