use Rattle.std.proofs.Common.{◌<◌, ◌++◌, length, sym, ◌∙◌, arith}
use Rattle.text_laws.specs.Grammar.{spell_factors}
use Rattle.std.proofs.lemmas.Result.{err_from_is_err_and}
use Rattle.poly_text.proofs.Products.{numbered, numbered_ok, numbered_err, named, named_ok, named_err, named_unknown, some_byte}
use Rattle.poly_text.proofs.term.read_product.Goals as goal

pub returns-then-at-bytes-clause-reads : goal.returns-then-at-bytes-clause-reads
returns-then-at-bytes-clause-reads c = λ t rest i s e. absurd (some_byte c.args.bytes.now rest c.args.at t e c.if-at-bytes.true)

pub returns-in-Digit-clause-reads : goal.returns-in-Digit-clause-reads
returns-in-Digit-clause-reads c = λ t rest i s e.
    let h : c.args.at < length c.args.bytes.now = omega (arith, c.if-at-bytes.false, c.requires.within) in
    let n = numbered c.args.bytes.now rest c.args.at c.read_number-size.result.1 c.read_number-size.result.0 t i s e h (sym c.class_of_byte.ensures ∙ c.in-Digit.is) c.read_number-size.ensures.bound c.read_number-size.ensures.value c.read_number-size.ensures.after in
    numbered_ok c.args.names.now c.args.bytes.now rest c.args.at c.read_number-size.result.1 c.read_number-size.result.0 c.in_ok-next.next t c.args.exponents.now c.read_factors.new.exponents n (c.in_ok-next.ensures.adds n.fs rest n.formed s n.left)

pub returns-in_err-next-clause-reads : goal.returns-in_err-next-clause-reads
returns-in_err-next-clause-reads c = let p = err_from_is_err_and c.from_residual.result c.from_residual.ensures.1 in rw (p.1, p.2) (λ t rest i s e.
    let h : c.args.at < length c.args.bytes.now = omega (arith, c.if-at-bytes.false, c.requires.within) in
    let n = numbered c.args.bytes.now rest c.args.at c.read_number-size.result.1 c.read_number-size.result.0 t i s e h (sym c.class_of_byte.ensures ∙ c.in-Digit.is) c.read_number-size.ensures.bound c.read_number-size.ensures.value c.read_number-size.ensures.after in
    numbered_err c.args.names.now c.args.bytes.now rest c.args.at c.read_number-size.result.1 c.read_number-size.result.0 c.in_err-next.field-0.0 t c.args.exponents.now c.read_factors.new.exponents n (c.in_err-next.ensures.adds n.fs rest n.formed s n.left))

pub returns-in_err-end-clause-reads : goal.returns-in_err-end-clause-reads
returns-in_err-end-clause-reads c = let p = err_from_is_err_and c.from_residual-in_err-end.result c.from_residual-in_err-end.ensures.1 in rw (p.1, p.2) (λ t rest i s e.
    let h : c.args.at < length c.args.bytes.now = omega (arith, c.if-at-bytes.false, c.requires.within) in
    let n = named c.args.bytes.now rest c.args.at t i s e h (λ k. c.in_default.not-Digit (c.class_of_byte.ensures ∙ k)) in
    named_unknown c.args.names.now c.args.bytes.now rest c.args.at c.in_err-end.field-0.0 t c.args.exponents.now c.read_one.new.exponents n (c.in_err-end.ensures.adds n.power (spell_factors n.fs ++ rest) n.is_power n.ends n.spelled))

pub returns-clause-reads : goal.returns-clause-reads
returns-clause-reads c = λ t rest i s e.
    let h : c.args.at < length c.args.bytes.now = omega (arith, c.if-at-bytes.false, c.requires.within) in
    let n = named c.args.bytes.now rest c.args.at t i s e h (λ k. c.in_default.not-Digit (c.class_of_byte.ensures ∙ k)) in
    let a = c.in_ok-end.ensures.adds n.power (spell_factors n.fs ++ rest) n.is_power n.ends n.spelled in
    named_ok c.args.names.now c.args.bytes.now rest c.args.at c.in_ok-end.end c.in_ok-next-2.next t c.args.exponents.now c.read_one.new.exponents c.read_factors-2.new.exponents n h c.in_ok-end.ensures.bound.1 a
    (c.in_ok-next-2.ensures.adds n.fs rest n.formed s a.1)

pub returns-in_err-next-2-clause-reads : goal.returns-in_err-next-2-clause-reads
returns-in_err-next-2-clause-reads c = let p = err_from_is_err_and c.from_residual-in_err-next-2.result c.from_residual-in_err-next-2.ensures.1 in rw (p.1, p.2) (λ t rest i s e.
    let h : c.args.at < length c.args.bytes.now = omega (arith, c.if-at-bytes.false, c.requires.within) in
    let n = named c.args.bytes.now rest c.args.at t i s e h (λ k. c.in_default.not-Digit (c.class_of_byte.ensures ∙ k)) in
    let a = c.in_ok-end.ensures.adds n.power (spell_factors n.fs ++ rest) n.is_power n.ends n.spelled in
    named_err c.args.names.now c.args.bytes.now rest c.args.at c.in_ok-end.end c.in_err-next-2.field-0.0 t c.args.exponents.now c.read_one.new.exponents c.read_factors-2.new.exponents n h c.in_ok-end.ensures.bound.1 a
    (c.in_err-next-2.ensures.adds n.fs rest n.formed s a.1))
