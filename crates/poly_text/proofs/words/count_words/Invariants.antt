use Rattle.std.proofs.Common.{◌≡◌, ◌≤◌, ◌+◌, length}
use Rattle.poly_text.specs.Words.{words_of}
use Rattle.poly_text.proofs.words.count_words.Given as goal

abbrev pub invariant-loop-later : goal.invariant-loop-later
invariant-loop-later l = record {
  count : l.count + length (words_of l.rest) ≡ length (words_of l.words);
  shorter : l.count + length l.rest ≤ length l.words;
}

abbrev pub decreases-loop-later : goal.decreases-loop-later
decreases-loop-later l = length l.rest
