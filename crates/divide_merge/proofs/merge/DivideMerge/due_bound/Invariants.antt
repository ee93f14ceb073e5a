use Rattle.divide_merge.specs.Inside.{vector_of}
use Rattle.divide_merge.proofs.Bounds.{SoFar}
use Rattle.divide_merge.proofs.merge.DivideMerge.due_bound.Given as goal

abbrev pub invariant-loop-worker : goal.invariant-loop-worker
invariant-loop-worker g l = SoFar l.fn.self.run.state l.worker (vector_of g.M.Monomial.vector l.bound)
