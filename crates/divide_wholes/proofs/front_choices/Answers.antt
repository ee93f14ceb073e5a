use Rattle.divide_wholes.proofs.Candidate.{front_choices}
use Rattle.divide_wholes.proofs.front_choices.Goals as goal

pub returns : goal.returns
returns c = front_choices
