use Rattle.divide_merge.proofs.Running.{Runs, turns_left}
use Rattle.divide_merge.proofs.merge.DivideMerge.run.Given as goal

abbrev pub invariant-loop-answer : goal.invariant-loop-answer
invariant-loop-answer g l = Runs g.M.Monomial.LIM l.initial.self l.self

abbrev pub decreases-loop-answer : goal.decreases-loop-answer
decreases-loop-answer g l = turns_left l.self
