use Rattle.text_laws.proofs.Denoting.{denotes_is}
use Rattle.text_laws.proofs.denotes_is_denoted.Goals as goal

pub returns : goal.returns
returns c = denotes_is
