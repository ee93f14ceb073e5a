use Rattle.std.proofs.Common.{◌∙◌, subst, sym, ap}
use Rattle.sdmp_laws.specs.Poly.{terms, times}
use Rattle.whole_laws.specs.Wholes.{IsMergeDone}
use Rattle.global_heap.proofs.Begun.{finished, emitted_all}
use Rattle.global_heap.proofs.merge.Merge.finish.Goals as goal

pub from_ordered-requires-clause-canonical : goal.from_ordered-requires-clause-canonical
from_ordered-requires-clause-canonical g c κs within =
    finished g.M.Monomial.vector g.R.CoeffRing.value g.R.CoeffRing.belongs _ _ g.M.Monomial.LIM _ _ _ _ _ c.self.invariant (subst (λ v. IsMergeDone v.state) (sym c.self.view_is) c.requires)

pub returns-clause-product : goal.returns-clause-product
returns-clause-product g c =
    c.from_ordered.ensures.terms ∙ emitted_all g.M.Monomial.vector g.R.CoeffRing.value g.R.CoeffRing.belongs _ _ g.M.Monomial.LIM _ _ _ _ _ c.self.invariant (subst (λ v. IsMergeDone v.state) (sym c.self.view_is) c.requires)
    ∙ ap (λ v. terms g.M.Monomial.order v.state.product.p (times v.state.product.f v.state.product.g)) c.self.view_is
