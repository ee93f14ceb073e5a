use Rattle.dividing_rounds.proofs.StallLemmas.{heard_has_waited}
use Rattle.dividing_rounds.proofs.heard_has_waited.Goals as goal

pub returns : goal.returns
returns c = heard_has_waited
