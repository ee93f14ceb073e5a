use Rattle.std.proofs.Common.{◌++◌, sym, ◌∙◌, arith}
use Rattle.text_laws.specs.Grammar.{spell_factors}
use Rattle.text_laws.specs.Summands.{factors_at}
use Rattle.std.proofs.lemmas.Result.{err_from_is_err_and}
use Rattle.poly_text.proofs.FactorLoop.{left_begins, next_from, left_from, unknown_from, done_from, no_byte, other_byte}
use Rattle.poly_text.proofs.factors.read_factors.Goals as goal

pub loop-i-init : goal.loop-i-init
loop-i-init c = record {
  bound = c.requires.within;
  from = omega arith;
  left = λ fs rest h s e. left_begins c.args.names.now c.args.bytes.now rest c.args.start c.args.exponents.now fs h e;
}

pub returns-in_default-clause-adds : goal.returns-in_default-clause-adds
returns-in_default-clause-adds c = λ fs rest h s e. done_from c.args.names.now c.args.bytes.now rest c.args.start fs c.args.exponents.now c.loop-i.i c.loop-i.exponents
    (c.loop-i.invariant.left fs rest h s e) (other_byte c.args.bytes.now rest c.loop-i.i c.loop-i-test.true (λ k. c.in_default.not-Star (c.class_of_byte.ensures ∙ k)))

pub loop-i-preserved : goal.loop-i-preserved
loop-i-preserved c =
    let b = c.in_ok-i.ensures.bound in
    record {
      bound = b.1;
      from = omega (arith, b.0, c.skip_blanks-at.ensures.from, c.loop-i.invariant.from);
      left = λ fs rest h s e.
          let n = next_from c.args.names.now c.args.bytes.now rest (factors_at c.args.start fs) c.args.exponents.now c.loop-i.i c.skip_blanks-at.result c.loop-i.exponents
          (c.loop-i.invariant.left fs rest h s e) s c.loop-i-test.true (sym c.class_of_byte.ensures ∙ c.in-Star.is) c.skip_blanks-at.ensures.bound c.skip_blanks-at.ensures.after in
          left_from c.args.names.now c.args.bytes.now rest (factors_at c.args.start fs) c.args.exponents.now c.skip_blanks-at.result c.in_ok-i.i c.loop-i.exponents c.read_one.new.exponents n
          c.skip_blanks-at.ensures.bound b.0 b.1 (c.in_ok-i.ensures.adds n.power (spell_factors n.gs ++ rest) n.is_power n.ends n.spelled);
    }

pub returns-in_err-i-clause-adds : goal.returns-in_err-i-clause-adds
returns-in_err-i-clause-adds c = let p = err_from_is_err_and c.from_residual.result c.from_residual.ensures.1 in rw (p.1, p.2) (λ fs rest h s e.
    let n = next_from c.args.names.now c.args.bytes.now rest (factors_at c.args.start fs) c.args.exponents.now c.loop-i.i c.skip_blanks-at.result c.loop-i.exponents
    (c.loop-i.invariant.left fs rest h s e) s c.loop-i-test.true (sym c.class_of_byte.ensures ∙ c.in-Star.is) c.skip_blanks-at.ensures.bound c.skip_blanks-at.ensures.after in
    unknown_from c.args.names.now c.args.bytes.now rest (factors_at c.args.start fs) c.args.exponents.now c.skip_blanks-at.result c.loop-i.exponents c.read_one.new.exponents c.in_err-i.field-0.0 n
    (c.in_err-i.ensures.adds n.power (spell_factors n.gs ++ rest) n.is_power n.ends n.spelled))

pub returns-clause-adds : goal.returns-clause-adds
returns-clause-adds c = λ fs rest h s e. done_from c.args.names.now c.args.bytes.now rest c.args.start fs c.args.exponents.now c.loop-i.i c.loop-i.exponents
    (c.loop-i.invariant.left fs rest h s e) (no_byte c.args.bytes.now rest c.loop-i.i c.loop-i-test.false)
