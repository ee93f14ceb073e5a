use Rattle.divide_wholes.proofs.Candidate.{candidate_term}
use Rattle.divide_wholes.proofs.candidate_term.Goals as goal

pub returns : goal.returns
returns c = candidate_term
