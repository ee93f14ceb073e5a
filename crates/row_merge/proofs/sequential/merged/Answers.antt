use Rattle.std.proofs.Common.{All, sym, subst, ◌∙◌}
use Rattle.std.proofs.Math.Path.{transport}
use Rattle.sdmp_laws.specs.Canonical.{IsCanonical}
use Rattle.canonical_terms.specs.View.{sum_of}
use Rattle.row_merge.proofs.ProductTerms.{all_listed}
use Rattle.row_merge.proofs.sequential.merged.Goals as goal

pub from_ordered-requires-clause-canonical : goal.from_ordered-requires-clause-canonical
from_ordered-requires-clause-canonical g c κs within =
    let listed = all_listed g.M.Monomial.order c.args.f.now.modulus c.args.f.now.list c.args.g.now.list (sum_of g.M.Monomial.vector g.R.CoeffRing.value c.in_ok-list.list.items) c.in_ok-merge.merge.rest
    c.in_ok-list.ensures.terms c.in_ok-merge.ensures.rest in
    transport (λ i. IsCanonical g.M.Monomial.order (sym c.ring.ensures i) g.M.Monomial.VARS g.M.Monomial.LIM (sym listed i)) c.requires.canonical

pub from_ordered-requires-clause-belongs : goal.from_ordered-requires-clause-belongs
from_ordered-requires-clause-belongs g c κs within =
    subst (λ p. All (λ t. g.R.CoeffRing.belongs p t.coef) c.in_ok-list.list.items) (c.in_ok-merge.ensures.factors.0 ∙ sym c.ring.ensures) c.in_ok-list.ensures.belongs

pub returns-clause-terms : goal.returns-clause-terms
returns-clause-terms g c =
    c.from_ordered.ensures.terms
    ∙ all_listed g.M.Monomial.order c.args.f.now.modulus c.args.f.now.list c.args.g.now.list (sum_of g.M.Monomial.vector g.R.CoeffRing.value c.in_ok-list.list.items) c.in_ok-merge.merge.rest
    c.in_ok-list.ensures.terms c.in_ok-merge.ensures.rest
