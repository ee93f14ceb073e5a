use Rattle.std.proofs.Common.{length}
use Rattle.ring_heads.specs.Heads.{live}
use Rattle.ring_heads.proofs.TakenLemmas.{Summing}
use Rattle.ring_heads.proofs.taken.sum_taken.Given as goal

abbrev pub invariant-loop-row : goal.invariant-loop-row
invariant-loop-row g l = Summing g.M.Ord.cmp g.M.Monomial.vector g.R.CoeffRing.value (g.R.CoeffRing.belongs (g.R.CoeffRing.characteristic l.coefficients)) (g.R.CoeffRing.characteristic l.coefficients) l.fn.mono l.initial.list.items l.list.items l.heap l.coef

abbrev pub decreases-loop-row : goal.decreases-loop-row
decreases-loop-row g l = length (live g.M.Monomial.vector g.R.CoeffRing.value l.list.items)
