use Rattle.divide_wholes.proofs.MarkLemmas.{mark_follows}
use Rattle.divide_wholes.proofs.mark_follows.Goals as goal

pub returns : goal.returns
returns c = mark_follows
