use Rattle.ring_heads.proofs.Summing.{Taking}
use Rattle.ring_heads.proofs.scan.take_at.Given as goal

abbrev pub invariant-loop-head : goal.invariant-loop-head
invariant-loop-head g l = Taking g.M.Ord.cmp g.M.Monomial.vector g.R.CoeffRing.value (g.R.CoeffRing.belongs (g.R.CoeffRing.characteristic l.coefficients)) (g.R.CoeffRing.characteristic l.coefficients) l.mono l.initial.list l.list l.head-index l.coef
