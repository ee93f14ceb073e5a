use Rattle.mul_workers.proofs.Sending.{begins}
use Rattle.mul_workers.proofs.sender.Sender.new.Goals as goal

pub invariant_of-result : goal.invariant_of-result
invariant_of-result g c =
    begins g.M.Monomial.vector g.R.CoeffRing.value g.R.CoeffRing.belongs g.M.Monomial.order g.M.Monomial.VARS c.args.rows c.args.writer c.args.worker c.requires.worker c.requires.writing c.requires.script c.requires.rest c.requires.sent
