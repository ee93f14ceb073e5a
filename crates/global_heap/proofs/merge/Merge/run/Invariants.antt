use Rattle.global_heap.proofs.Running.{Runs, turns_left}
use Rattle.global_heap.proofs.merge.Merge.run.Given as goal

abbrev pub invariant-loop-worker : goal.invariant-loop-worker
invariant-loop-worker g l = Runs g.M.Monomial.LIM l.initial.self l.self

abbrev pub decreases-loop-worker : goal.decreases-loop-worker
decreases-loop-worker g l = turns_left l.self
