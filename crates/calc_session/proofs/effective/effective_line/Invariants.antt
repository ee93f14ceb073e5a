use Rattle.std.proofs.Common.{◌≡◌, ◌≤◌, ◌+◌, length}
use Rattle.calc_session.specs.Lines.{lines, effective}
use Rattle.calc_session.proofs.effective.effective_line.Given as goal

abbrev pub invariant-loop-line : goal.invariant-loop-line
invariant-loop-line l = record {
  lines : effective l.number (lines l.rest) ≡ effective l.first (lines l.bytes);
  within : l.number + length l.rest ≤ l.first + length l.bytes;
}

abbrev pub decreases-loop-line : goal.decreases-loop-line
decreases-loop-line l = length l.rest
