use Rattle.std.proofs.Common.{◌||◌, eqb, sym, ap, ◌∙◌}
use Rattle.std.proofs.lemmas.Bool.{ne_eqb}
use Rattle.text_laws.specs.Bytes.{class_of}
use Rattle.poly_text.proofs.StepTable.{word_test}
use Rattle.poly_text.proofs.class.is_word_byte.Goals as goal

pub returns-then-class-eq1 : goal.returns-then-class-eq1
returns-then-class-eq1 c =
    let d = c.class_digit-class.result in
    ap (λ n. eqb n 1) c.if-class-eq1.true ∙ ap (λ n. eqb n 1 || eqb n 2) (sym c.if-class-eq1.true) ∙ word_test (class_of c.args.b) d c.class_digit-class.ensures.class

pub returns-else-class-eq1 : goal.returns-else-class-eq1
returns-else-class-eq1 c =
    let d = c.class_digit-class.result in
    ap (λ t. t || eqb d 2) (sym (ne_eqb d 1 c.if-class-eq1.false)) ∙ word_test (class_of c.args.b) d c.class_digit-class.ensures.class
