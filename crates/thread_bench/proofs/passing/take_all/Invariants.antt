use Rattle.std.proofs.Common.{◌≤◌}
use Rattle.term_ring.specs.Ends.{IsReaderOf}
use Rattle.thread_bench.proofs.passing.take_all.Given as goal

abbrev pub invariant-loop : goal.invariant-loop
invariant-loop g l = IsReaderOf l.ring l.reader × (l.taken ≤ l.want)
