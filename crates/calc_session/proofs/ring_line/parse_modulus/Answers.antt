use Rattle.std.proofs.Common.{◌+◌, arith}
use Rattle.std.proofs.lemmas.List.Sums.{fold_more}
use Rattle.calc_session.proofs.HeaderLemmas.{modulus_big, with_digit}
use Rattle.calc_session.proofs.ring_line.parse_modulus.Goals as goal

pub returns-then-more-gt-MAX_MODULUS : goal.returns-then-more-gt-MAX_MODULUS
returns-then-more-gt-MAX_MODULUS c =
    modulus_big c.args.word.now (c.loop-byte.byte-index + 1)
    (omega (
      arith,
      fold_more with_digit 0 c.args.word.now c.loop-byte.byte-index 0 c.loop-byte-test.true,
      c.loop-byte.invariant.number,
      c.from.ensures,
      c.from-in-loop-byte.ensures,
      c.if-more-gt-MAX_MODULUS.true,
    ))
