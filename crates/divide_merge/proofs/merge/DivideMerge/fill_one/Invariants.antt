use Rattle.divide_merge.proofs.Filling.{FilledOne, notes_left}
use Rattle.divide_merge.proofs.merge.DivideMerge.fill_one.Given as goal

abbrev pub invariant-loop-self : goal.invariant-loop-self
invariant-loop-self g l = FilledOne g.M.Monomial.LIM l.initial.self l.self l.worker

abbrev pub decreases-loop-self : goal.decreases-loop-self
decreases-loop-self g l = notes_left l.self l.worker
