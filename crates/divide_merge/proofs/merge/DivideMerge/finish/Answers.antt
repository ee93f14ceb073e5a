use Rattle.std.proofs.Common.{◌∙◌, ap}
use Rattle.divide_merge.specs.Merges.{DivideView}
use Rattle.divide_merge.proofs.Ending.{ending_as, gives, quotient_is, remainder_is}
use Rattle.divide_merge.proofs.merge.DivideMerge.finish.Goals as goal

pub from_ordered-requires-clause-canonical : goal.from_ordered-requires-clause-canonical
from_ordered-requires-clause-canonical g c κs within =
    quotient_is g.M.Monomial.vector g.R.CoeffRing.value g.R.CoeffRing.belongs _ _ g.M.Monomial.LIM _ _ _ _ c.self.invariant (ap (λ (u : DivideView). u.answer) c.self.view_is ∙ c.requires)

pub from_ordered-requires-2-clause-canonical : goal.from_ordered-requires-2-clause-canonical
from_ordered-requires-2-clause-canonical g c κs within =
    remainder_is g.M.Monomial.vector g.R.CoeffRing.value g.R.CoeffRing.belongs _ _ g.M.Monomial.LIM _ _ _ _ c.self.invariant (ap (λ (u : DivideView). u.answer) c.self.view_is ∙ c.requires)

pub returns-clause-right : goal.returns-clause-right
returns-clause-right g c =
    ending_as _ _ _ _ _ _ (ap (λ (u : DivideView). u.run.state.division) c.self.view_is) c.from_ordered.ensures.terms c.from_ordered-2.ensures.terms
    (gives g.M.Monomial.vector g.R.CoeffRing.value g.R.CoeffRing.belongs _ _ g.M.Monomial.LIM _ _ _ _ c.self.invariant (ap (λ (u : DivideView). u.answer) c.self.view_is ∙ c.requires))
