use Rattle.std.proofs.Common.{◌≡◌, ◌≤◌, ◌-◌, length, drop}
use Rattle.text_laws.specs.Reading.{is_word}
use Rattle.poly_text.specs.Tokens.{after}
use Rattle.poly_text.proofs.tokens.skip_word.Given as goal

abbrev pub invariant-loop-i : goal.invariant-loop-i
invariant-loop-i l = record { bound : l.i ≤ length l.bytes; from : l.start ≤ l.i; same : after is_word (drop l.i l.bytes) ≡ after is_word (drop l.start l.bytes) }

abbrev pub decreases-loop-i : goal.decreases-loop-i
decreases-loop-i l = length l.initial.bytes - l.i
