use Rattle.std.proofs.Common.{◌≡◌, ◌<◌, ◌≤◌, List, ◌∷◌, [], length, sym, ap, subst, ◌∙◌, arith}
use Rattle.std.proofs.lemmas.List.{length-map}
use Rattle.canonical_terms.specs.View.{term_of}
use Rattle.sdmp_laws.specs.Poly.{Term}
use Rattle.calc_session.proofs.CommandLemmas.{if_ok_weaker}
use Rattle.whole_laws.specs.Notes.{Product}
use Rattle.std.proofs.lemmas.Result.{IfErr-weaker, on_ok_weaker}
use Rattle.sdmp_top.proofs.FactorLemmas.{product_swaps, refused_swaps}
use Rattle.sdmp_top.specs.Work.{MakesProduct, IsTallied, tally_of}
use Rattle.sdmp_top.proofs.WorkLemmas.{left_rows, right_rows}
use Rattle.sdmp_top.proofs.workers.product.Goals as goal

pub returns-clause-product : goal.returns-clause-product
returns-clause-product g c =
    let f = c.args.f.now in
    let h = c.args.g.now in
    if_ok_weaker c.product_by_rows-2.result _ _
    (λ product is. product_swaps g.M.Monomial.order g.M.Monomial.LIM f.modulus h.modulus g.M.Monomial.VARS f.list h.list product.list c.requires.moduli
    c.terms-left.ensures.canonical.poly.vectors c.terms-right.ensures.canonical.poly.vectors is)
    c.product_by_rows-2.ensures.product

pub returns-clause-refused : goal.returns-clause-refused
returns-clause-refused g c =
    IfErr-weaker c.product_by_rows-2.result _ _
    (λ fault is. refused_swaps g.M.Monomial.LIM c.args.f.now.modulus c.args.g.now.modulus c.args.f.now.list c.args.g.now.list fault c.requires.moduli is)
    c.product_by_rows-2.ensures.refused

pub returns-then-left-right-clause-tallied : goal.returns-then-left-right-clause-tallied
returns-then-left-right-clause-tallied g c =
    let f = c.args.f.now in
    let h = c.args.g.now in
    let left : length c.terms-left.result.now ≡ length f.list = sym (length-map c.terms-left.result.now (term_of g.M.Monomial.vector g.R.CoeffRing.value)) ∙ ap (λ (L : List Term). length L) c.terms-left.ensures.view in
    let right : length c.terms-right.result.now ≡ length h.list = sym (length-map c.terms-right.result.now (term_of g.M.Monomial.vector g.R.CoeffRing.value)) ∙ ap (λ (L : List Term). length L) c.terms-right.ensures.view in
    let few : length f.list ≤ length h.list = (let e = c.if-left-right.true in omega (arith, e, left, right)) in
    on_ok_weaker c.product_by_rows.result
    (λ k. subst (λ (m : Product). IsTallied c.args.by.now.workers (MakesProduct m ∷ []) (tally_of c.args.ends.now) (tally_of c.product_by_rows.new.ends))
    (sym (left_rows g.M.Monomial.order f.modulus f.modulus g.M.Monomial.VARS f.list h.list few)) k)
    c.product_by_rows.ensures.tallied

pub returns-clause-tallied : goal.returns-clause-tallied
returns-clause-tallied g c =
    let f = c.args.f.now in
    let h = c.args.g.now in
    let left : length c.terms-left.result.now ≡ length f.list = sym (length-map c.terms-left.result.now (term_of g.M.Monomial.vector g.R.CoeffRing.value)) ∙ ap (λ (L : List Term). length L) c.terms-left.ensures.view in
    let right : length c.terms-right.result.now ≡ length h.list = sym (length-map c.terms-right.result.now (term_of g.M.Monomial.vector g.R.CoeffRing.value)) ∙ ap (λ (L : List Term). length L) c.terms-right.ensures.view in
    let few : length h.list < length f.list = (let e = c.if-left-right.false in omega (arith, e, left, right)) in
    on_ok_weaker c.product_by_rows-2.result
    (λ k. subst (λ (m : Product). IsTallied c.args.by.now.workers (MakesProduct m ∷ []) (tally_of c.args.ends.now) (tally_of c.product_by_rows-2.new.ends))
    (sym (right_rows g.M.Monomial.order f.modulus h.modulus g.M.Monomial.VARS f.list h.list few c.requires.moduli)) k)
    c.product_by_rows-2.ensures.tallied
