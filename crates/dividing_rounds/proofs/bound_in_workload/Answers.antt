use Rattle.dividing_rounds.proofs.WorkloadLemmas.{bound_in_workload}
use Rattle.dividing_rounds.proofs.bound_in_workload.Goals as goal

pub returns : goal.returns
returns c = bound_in_workload
