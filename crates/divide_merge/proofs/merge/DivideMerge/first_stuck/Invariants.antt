use Rattle.std.proofs.Common.{◌<◌, ℕ}
use Rattle.dividing_rounds.specs.Stalls.{IsStuck}
use Rattle.divide_merge.specs.Inside.{vector_of}
use Rattle.divide_merge.proofs.merge.DivideMerge.first_stuck.Given as goal

-- none of the workers so far is stuck
abbrev pub invariant-loop-worker : goal.invariant-loop-worker
invariant-loop-worker g l = (v : ℕ) → v < l.worker → IsStuck l.fn.self.run.state (vector_of g.M.Monomial.vector l.fn.next) v → ⊥
