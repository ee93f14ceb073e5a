use Rattle.std.proofs.Common.{sym, ◌∙◌, arith}
use Rattle.poly_text.proofs.WordLemmas.{word_at, begins_with, begins_none}
use Rattle.poly_text.proofs.words.word_end.Goals as goal

pub returns-else-not-is_blank-clause-words : goal.returns-else-not-is_blank-clause-words
returns-else-not-is_blank-clause-words c =
    word_at c.args.bytes.now c.loop-end.end c.loop-end.invariant.solid c.loop-end.invariant.some c.loop-end.invariant.within
    (begins_with c.args.bytes.now c.loop-end.end 0 c.loop-end-test.true (sym c.is_blank.ensures ∙ c.if-not-is_blank.false))

pub returns-after-loop-end-clause-words : goal.returns-after-loop-end-clause-words
returns-after-loop-end-clause-words c =
    word_at c.args.bytes.now c.loop-end.end c.loop-end.invariant.solid c.loop-end.invariant.some c.loop-end.invariant.within
    (begins_none c.args.bytes.now c.loop-end.end (omega arith))
