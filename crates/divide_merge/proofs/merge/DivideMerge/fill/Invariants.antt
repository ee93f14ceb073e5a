use Rattle.divide_merge.proofs.Filling.{FilledTo}
use Rattle.divide_merge.proofs.merge.DivideMerge.fill.Given as goal

abbrev pub invariant-loop-worker : goal.invariant-loop-worker
invariant-loop-worker g l = FilledTo g.M.Monomial.LIM l.initial.self l.self l.worker
