use Rattle.std.proofs.Common.{◌≡◌, ◌≤◌, ◌-◌, length}
use Rattle.sdmp_top.specs.Outside.{HasGiven}
use Rattle.sdmp_top.proofs.intake.read_all.Given as goal

abbrev pub invariant-loop-n : goal.invariant-loop-n
invariant-loop-n g l = record {
  given : HasGiven (g.S.Source.left l.initial.source) (g.S.Source.left l.source) l.bytes.items;
  short : length l.bytes.items ≤ 67108864;
  steady : g.S.Source.faults l.source ≡ g.S.Source.faults l.initial.source;
}

abbrev pub decreases-loop-n : goal.decreases-loop-n
decreases-loop-n g l = 67108864 - length l.bytes.items
