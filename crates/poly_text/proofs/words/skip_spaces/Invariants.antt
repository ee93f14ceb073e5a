use Rattle.std.proofs.Common.{◌≡◌, ◌≤◌, length}
use Rattle.poly_text.specs.Words.{words_of}
use Rattle.poly_text.proofs.words.skip_spaces.Given as goal

abbrev pub invariant-loop-rest : goal.invariant-loop-rest
invariant-loop-rest l = record {
  words : words_of l.rest ≡ words_of l.bytes;
  shorter : length l.rest ≤ length l.bytes;
}

abbrev pub decreases-loop-rest : goal.decreases-loop-rest
decreases-loop-rest l = length l.rest
