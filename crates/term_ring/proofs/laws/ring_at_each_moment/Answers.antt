use Rattle.term_ring.specs.Spelling.{words_of}
use Rattle.term_ring.specs.Carried.{Fits, Carries}
use Rattle.term_ring.proofs.EachMoment.{at_each_moment}
use Rattle.term_ring.proofs.laws.ring_at_each_moment.Goals as goal

pub returns : goal.returns
returns g c = at_each_moment (words_of g.M.Monomial.words g.R.CoeffRing.words) (Fits g.R.CoeffRing.belongs) (Carries g.M.Monomial.vector g.R.CoeffRing.value)
