use Rattle.divide_wholes.proofs.Candidate.{candidate_final}
use Rattle.divide_wholes.proofs.candidate_final.Goals as goal

pub returns : goal.returns
returns c = candidate_final
