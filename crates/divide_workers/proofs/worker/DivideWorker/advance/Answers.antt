use Rattle.divide_workers.proofs.Advancing.{carried_by}
use Rattle.divide_workers.proofs.worker.DivideWorker.advance.Goals as goal

pub returns-clause-carried : goal.returns-clause-carried
returns-clause-carried g c = carried_by g.M.Monomial.LIM c.advance-stop.new.self.sender c.whole.ensures.working
