use Rattle.dividing_rounds.proofs.StallLemmas.{no_stall}
use Rattle.dividing_rounds.proofs.no_stall.Goals as goal

pub returns : goal.returns
returns c = no_stall
