use Rattle.whole_laws.proofs.OwedLemmas.{owed_split}
use Rattle.whole_laws.proofs.owed_split.Goals as goal

pub returns : goal.returns
returns c = owed_split
