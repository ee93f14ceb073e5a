use Rattle.std.proofs.Common.{◌≡◌, IfOk, sym, subst}
use Rattle.sdmp_laws.specs.Canonical.{IsCanonical}
use Rattle.row_merge.proofs.ProductTerms.{product_canonical, room_swapped, product_swapped}
use Rattle.row_merge.proofs.sequential.product.Goals as goal

pub merged-requires-clause-canonical : goal.merged-requires-clause-canonical
merged-requires-clause-canonical g c κs within =
    product_canonical g.M.Monomial.order c.args.f.now.modulus g.M.Monomial.VARS g.M.Monomial.LIM c.args.f.now.list c.args.g.now.list c.terms.ensures.canonical
    (subst (λ p. IsCanonical g.M.Monomial.order p g.M.Monomial.VARS g.M.Monomial.LIM c.args.g.now.list) (sym c.requires.modulus) c.terms-2.ensures.canonical) c.requires.room

pub merged-requires-else-terms-clause-canonical : goal.merged-requires-else-terms-clause-canonical
merged-requires-else-terms-clause-canonical g c κs within =
    product_canonical g.M.Monomial.order c.args.g.now.modulus g.M.Monomial.VARS g.M.Monomial.LIM c.args.g.now.list c.args.f.now.list c.terms-2.ensures.canonical
    (subst (λ p. IsCanonical g.M.Monomial.order p g.M.Monomial.VARS g.M.Monomial.LIM c.args.f.now.list) c.requires.modulus c.terms.ensures.canonical)
    (room_swapped g.M.Monomial.LIM c.args.f.now.modulus c.args.g.now.modulus c.args.f.now.list c.args.g.now.list c.requires.modulus c.requires.room)

pub returns-else-terms-clause-terms : goal.returns-else-terms-clause-terms
returns-else-terms-clause-terms g c =
    subst (λ L. IfOk c.merged-else-terms.result (λ h. h.list ≡ L))
    (product_swapped g.M.Monomial.order c.args.f.now.modulus c.args.g.now.modulus g.M.Monomial.VARS c.args.f.now.list c.args.g.now.list c.requires.modulus c.terms.ensures.canonical.poly.vectors c.terms-2.ensures.canonical.poly.vectors)
    c.merged-else-terms.ensures.terms
