use Rattle.std.proofs.Common.{◌+◌, ◌-◌, ◌≤◌, length}
use Rattle.whole_laws.specs.Notes.{script_list}
use Rattle.term_ring.specs.Sending.{Sends}
use Rattle.mul_workers.proofs.sender.Sender.send.Given as goal

abbrev pub invariant-loop-self : goal.invariant-loop-self
invariant-loop-self g l = record {
  sends : Sends l.initial.self l.self;
  looks : l.initial.self.full_looks ≤ l.self.full_looks;
}

abbrev pub decreases-loop-self : goal.decreases-loop-self
decreases-loop-self g l = length (script_list l.self.ring.script) + 1 - length l.self.sent
