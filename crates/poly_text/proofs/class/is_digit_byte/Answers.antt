use Rattle.text_laws.specs.Bytes.{class_of}
use Rattle.poly_text.proofs.StepTable.{digit_test}
use Rattle.poly_text.proofs.class.is_digit_byte.Goals as goal

pub returns : goal.returns
returns c = digit_test (class_of c.args.b) _ c.class_digit.ensures.class
