use Rattle.poly_text.proofs.StepTable.{steps_are}
use Rattle.poly_text.proofs.syntax.steps_at.Goals as goal

pub returns : goal.returns
returns c = steps_are c.args.b c.class_digit.result c.class_digit.ensures.class
