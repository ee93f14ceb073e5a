use Rattle.mul_workers.proofs.threaded.multiply.Goals as goal

pub returns-in-Err-clause-refusal : goal.returns-in-Err-clause-refusal
returns-in-Err-clause-refusal g c = c.refusal.ensures g.M.Monomial.LIM c.args.f.now.modulus c.args.f.now.list c.args.g.now.list c.in-Err.ensures
