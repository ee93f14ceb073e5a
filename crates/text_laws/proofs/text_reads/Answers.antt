use Rattle.text_laws.proofs.CanonicalReads.{text_reads}
use Rattle.text_laws.proofs.text_reads.Goals as goal

pub returns : goal.returns
returns c = text_reads
