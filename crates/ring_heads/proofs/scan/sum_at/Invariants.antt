use Rattle.std.proofs.Common.{drop}
use Rattle.ring_heads.proofs.Summing.{Rest}
use Rattle.ring_heads.proofs.scan.sum_at.Given as goal

abbrev pub invariant-loop-head : goal.invariant-loop-head
invariant-loop-head g l = Rest g.M.Ord.cmp g.M.Monomial.vector g.R.CoeffRing.value (g.R.CoeffRing.belongs (g.R.CoeffRing.characteristic l.coefficients)) (g.R.CoeffRing.characteristic l.coefficients) l.mono l.list (drop l.head-index l.list) l.coef
