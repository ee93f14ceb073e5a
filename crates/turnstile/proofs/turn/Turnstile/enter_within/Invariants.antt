use Rattle.std.proofs.Common.{◌≡◌, ◌+◌}
use Rattle.turnstile.specs.Passes.{IsPassOf, IsOutside, entries, busy}
use Rattle.turnstile.proofs.turn.Turnstile.enter_within.Given as goal

abbrev pub invariant-loop : goal.invariant-loop
invariant-loop g l = record {
  of : IsPassOf l.self l.pass;
  outside : IsOutside l.pass;
  entries : entries l.pass ≡ entries l.initial.pass;
  busy : busy l.pass ≡ busy l.initial.pass + l.counter;
}
