use Rattle.divide_wholes.proofs.Candidate.{candidate_none}
use Rattle.divide_wholes.proofs.candidate_none.Goals as goal

pub returns : goal.returns
returns c = candidate_none
