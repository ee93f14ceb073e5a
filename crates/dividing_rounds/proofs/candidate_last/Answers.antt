use Rattle.dividing_rounds.proofs.WorkloadLemmas.{candidate_last}
use Rattle.dividing_rounds.proofs.candidate_last.Goals as goal

pub returns : goal.returns
returns c = candidate_last
