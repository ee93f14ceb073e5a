use Rattle.poly_text.proofs.StepTable.{IsAt}
use Rattle.poly_text.proofs.syntax.is_text.Given as goal

abbrev pub invariant-loop-i : goal.invariant-loop-i
invariant-loop-i l = IsAt l.bytes l.i l.code
