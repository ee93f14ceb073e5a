use Rattle.std.proofs.Common.{◌≤◌}
use Rattle.turnstile.specs.Passes.{made_with, IsPassOf, IsOutside, entries, busy}
use Rattle.divide_merge.specs.Reached.{divide_name}
use Rattle.divide_workers.specs.Steps.{Works}
use Rattle.divide_workers.specs.Stops.{StaysRefused, IsReceipt}
use Rattle.divide_workers.proofs.waiting.wait_for_room.Given as goal

abbrev pub invariant-loop-turn : goal.invariant-loop-turn
invariant-loop-turn g l = record {
  pass : IsPassOf l.shared.turnstile.now l.pass × IsOutside l.pass;
  entries_rise : entries l.initial.pass ≤ entries l.pass;
  busy_rise : busy l.initial.pass ≤ busy l.pass;
  works : Works l.initial.sender l.sender;
  refused : StaysRefused l.initial.sender l.sender;
  receipt : IsReceipt (divide_name (made_with l.shared.turnstile.now)) l.turn l.initial.pass l.pass l.receipt;
}
