use Rattle.std.proofs.Common.{arith}
use Rattle.poly_text.proofs.StepTable.{class_at}
use Rattle.poly_text.proofs.class.class_digit.Goals as goal

pub returns-clause-class : goal.returns-clause-class
returns-clause-class c = class_at c.args.b (omega arith)
