use Rattle.division_laws.proofs.OutcomeLemmas.{one_outcome}
use Rattle.division_laws.proofs.one_outcome.Goals as goal

pub returns : goal.returns
returns c = one_outcome
