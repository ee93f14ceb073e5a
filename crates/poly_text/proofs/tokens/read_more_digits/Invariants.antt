use Rattle.std.proofs.Common.{◌-◌, length}
use Rattle.poly_text.proofs.TokenFronts.{IsAmongDigits}
use Rattle.poly_text.proofs.tokens.read_more_digits.Given as goal

abbrev pub invariant-loop-i : goal.invariant-loop-i
invariant-loop-i l = IsAmongDigits l.bytes l.start l.i l.number l.n

abbrev pub decreases-loop-i : goal.decreases-loop-i
decreases-loop-i l = length l.initial.bytes - l.i
