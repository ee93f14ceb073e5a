use Rattle.std.proofs.Common.{sym, ◌∙◌}
use Rattle.poly_text.proofs.StepTable.{no_fault}
use Rattle.poly_text.proofs.syntax.syntax_fault.Goals as goal

pub returns-then-is_text : goal.returns-then-is_text
returns-then-is_text c = no_fault c.args.bytes.now (sym c.is_text.ensures ∙ c.if-is_text.true)
