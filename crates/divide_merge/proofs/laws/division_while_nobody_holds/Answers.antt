use Rattle.term_ring.specs.Spelling.{words_of}
use Rattle.term_ring.specs.Carried.{Fits}
use Rattle.divide_merge.proofs.MomentLemmas.{division_while_nobody_holds}
use Rattle.divide_merge.proofs.laws.division_while_nobody_holds.Goals as goal

pub returns : goal.returns
returns g c = division_while_nobody_holds (words_of g.M.Monomial.words g.R.CoeffRing.words) (Fits g.R.CoeffRing.belongs) g.M.Monomial.vector g.R.CoeffRing.value g.M.Monomial.LIM
