use Rattle.std.proofs.Common.{length, map, string_bytes}
use Rattle.poly_text.specs.Words.{words_of}
use Rattle.poly_text.proofs.NameLemmas.{IsTurn}
use Rattle.poly_text.proofs.names.Names.new.Given as goal

abbrev pub invariant-loop-word : goal.invariant-loop-word
invariant-loop-word l = IsTurn (words_of l.words) (map string_bytes l.names.items) (words_of l.rest)

abbrev pub decreases-loop-word : goal.decreases-loop-word
decreases-loop-word l = length l.rest
