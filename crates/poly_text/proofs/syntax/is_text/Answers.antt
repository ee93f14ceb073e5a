use Rattle.poly_text.proofs.StepTable.{at_start}
use Rattle.poly_text.proofs.syntax.is_text.Goals as goal

pub loop-i-init : goal.loop-i-init
loop-i-init c = at_start c.args.bytes.now
