use Rattle.global_heap.proofs.Running.{grows_reached}
use Rattle.global_heap.proofs.merge.Merge.advance.Goals as goal

pub returns-clause-reached : goal.returns-clause-reached
returns-clause-reached g c =
    grows_reached g.M.Monomial.LIM c.args.self.now c.run-answer.new.self c.whole.ensures.sound c.run-answer.ensures.sound c.run-answer.ensures.grows
