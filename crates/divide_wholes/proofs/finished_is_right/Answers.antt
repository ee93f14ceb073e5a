use Rattle.divide_wholes.proofs.Candidate.{finished_is_right}
use Rattle.divide_wholes.proofs.finished_is_right.Goals as goal

pub returns : goal.returns
returns c = finished_is_right
