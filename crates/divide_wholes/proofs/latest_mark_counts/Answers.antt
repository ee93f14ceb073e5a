use Rattle.divide_wholes.proofs.MarkLemmas.{latest_mark_counts}
use Rattle.divide_wholes.proofs.latest_mark_counts.Goals as goal

pub returns : goal.returns
returns c = latest_mark_counts
