use Rattle.divide_wholes.proofs.Candidate.{bound_is_front}
use Rattle.divide_wholes.proofs.bound_is_front.Goals as goal

pub returns : goal.returns
returns c = bound_is_front
