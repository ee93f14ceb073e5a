use Rattle.std.proofs.Common.{◌≡◌, ◌≤◌, length, max}
use mathlib.Core.List.{IsPrefix}
use Rattle.sdmp_laws.specs.LongDivision.{quotient_list}
use Rattle.divide_workers.specs.Steps.{LearnsMore}
use Rattle.divide_workers.proofs.sender.Sender.learn_rest.Given as goal

abbrev pub invariant-loop-k : goal.invariant-loop-k
invariant-loop-k g l = record {
  learns : LearnsMore l.initial.self l.self;
  count : length l.self.state.known ≡ l.k;
  ends : l.k ≤ max (length l.initial.self.state.known) (length l.q);
  knows : IsPrefix l.self.state.known (quotient_list l.self.state.division);
}
