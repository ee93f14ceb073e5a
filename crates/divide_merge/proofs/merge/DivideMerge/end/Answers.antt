use Rattle.divide_merge.proofs.Processing.{over_at}
use Rattle.divide_merge.proofs.merge.DivideMerge.end.Goals as goal

pub invariant_of-self : goal.invariant_of-self
invariant_of-self g c = (over_at g.M.Monomial.vector g.R.CoeffRing.value g.R.CoeffRing.belongs _ _ g.M.Monomial.LIM _ _ _ _ c.args.self.now c.args.answer c.self.invariant c.self.view_is c.requires.last c.requires.cause).kept

pub returns-clause-sound : goal.returns-clause-sound
returns-clause-sound g c = (over_at g.M.Monomial.vector g.R.CoeffRing.value g.R.CoeffRing.belongs _ _ g.M.Monomial.LIM _ _ _ _ c.args.self.now c.args.answer c.self.invariant c.self.view_is c.requires.last c.requires.cause).sound

pub returns-clause-ends : goal.returns-clause-ends
returns-clause-ends g c = (over_at g.M.Monomial.vector g.R.CoeffRing.value g.R.CoeffRing.belongs _ _ g.M.Monomial.LIM _ _ _ _ c.args.self.now c.args.answer c.self.invariant c.self.view_is c.requires.last c.requires.cause).ends
