use Rattle.std.proofs.Common.{◌≡◌, All, length}
use Rattle.turnstile.specs.Passes.{passes_out, HasPass}
use Rattle.thread_tests.proofs.turnstiles.round.Given as goal

abbrev pub invariant-loop-i : goal.invariant-loop-i
invariant-loop-i l = record {
  all : length l.members ≡ passes_out l.turnstile;
  have : All (λ m. HasPass l.turnstile m.pass) l.members;
}
