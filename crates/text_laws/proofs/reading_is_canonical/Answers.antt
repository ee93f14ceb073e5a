use Rattle.text_laws.proofs.CanonicalReads.{reading_is_canonical}
use Rattle.text_laws.proofs.reading_is_canonical.Goals as goal

pub returns : goal.returns
returns c = reading_is_canonical
