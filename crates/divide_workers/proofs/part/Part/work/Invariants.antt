use Rattle.std.proofs.Common.{◌≤◌}
use Rattle.turnstile.specs.Passes.{IsPassOf, IsOutside, entries, busy}
use Rattle.divide_workers.specs.Steps.{Works}
use Rattle.divide_workers.proofs.Advancing.{untold_places}
use Rattle.divide_workers.proofs.part.Part.work.Given as goal

abbrev pub invariant-loop-receipt : goal.invariant-loop-receipt
invariant-loop-receipt g l = record {
  pass : IsPassOf l.shared.turnstile.now l.pass × IsOutside l.pass;
  entries_rise : entries l.initial.pass ≤ entries l.pass;
  busy_rise : busy l.initial.pass ≤ busy l.pass;
  works : Works l.initial.self.sender l.self.sender;
}

abbrev pub decreases-loop-receipt : goal.decreases-loop-receipt
decreases-loop-receipt g l = untold_places l.self.sender
