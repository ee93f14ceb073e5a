use Rattle.std.proofs.Common.{◌≡◌, ◌≤◌}
use Rattle.turnstile.specs.Passes.{IsPassOf, IsOutside, entries, busy}
use Rattle.divide_workers.specs.Fronts.{plain_front}
use Rattle.divide_workers.specs.Steps.{Works, IsFrontier}
use Rattle.divide_workers.proofs.Pushing.{left_to_send}
use Rattle.divide_workers.proofs.part.Part.send.Given as goal

abbrev pub invariant-loop-frontier : goal.invariant-loop-frontier
invariant-loop-frontier g l = record {
  pass : IsPassOf l.shared.turnstile.now l.pass × IsOutside l.pass;
  entries_rise : entries l.initial.pass ≤ entries l.pass;
  busy_rise : busy l.initial.pass ≤ busy l.pass;
  works : Works l.initial.self.sender l.self.sender;
  notes : l.self.sender.notes ≡ l.initial.self.sender.notes;
  frontier : IsFrontier l.self.sender (plain_front g.M.Monomial.vector l.frontier);
}

abbrev pub decreases-loop-frontier : goal.decreases-loop-frontier
decreases-loop-frontier g l = left_to_send l.self.sender
