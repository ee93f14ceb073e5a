use Rattle.divide_merge.proofs.OneAnswer.{one_verdict}
use Rattle.divide_merge.proofs.laws.one_verdict.Goals as goal

pub returns : goal.returns
returns c = one_verdict
