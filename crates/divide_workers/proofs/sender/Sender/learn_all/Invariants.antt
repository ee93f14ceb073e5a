use Rattle.std.proofs.Common.{◌≡◌, ◌-◌, length}
use Rattle.divide_workers.specs.Views.{sender_of}
use Rattle.divide_workers.specs.Steps.{Works}
use Rattle.divide_workers.proofs.sender.Sender.learn_all.Given as goal

abbrev pub invariant-loop : goal.invariant-loop
invariant-loop g l = record {
  works : Works l.initial.self l.self;
  sender : sender_of l.self ≡ sender_of l.initial.self;
  kept : l.self.state.kept ≡ l.initial.self.state.kept;
}

abbrev pub decreases-loop : goal.decreases-loop
decreases-loop g l = l.self.row.places - length l.self.notes
