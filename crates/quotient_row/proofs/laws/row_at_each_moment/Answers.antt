use Rattle.quotient_row.specs.Spelling.{words_of}
use Rattle.quotient_row.specs.Legal.{Fits, Legal}
use Rattle.quotient_row.proofs.EachMoment.{at_each_moment}
use Rattle.quotient_row.proofs.laws.row_at_each_moment.Goals as goal

pub returns : goal.returns
returns g c = at_each_moment (words_of g.M.Monomial.words g.R.CoeffRing.words) (Fits g.R.CoeffRing.belongs) (Legal g.M.Monomial.vector g.R.CoeffRing.value)
