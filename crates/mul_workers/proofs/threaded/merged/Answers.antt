use Rattle.std.proofs.Common.{rules, ◌≡◌, ◌+◌, ◌<◌, ◌≤◌, List, length, map, sym, ap, subst, ◌∙◌, arith}
use Rattle.std.proofs.lemmas.List.{length-map}
use Rattle.sdmp_laws.specs.Poly.{Term, terms, times}
use Rattle.sdmp_laws.specs.Canonical.{IsCanonical}
use Rattle.canonical_terms.specs.View.{term_of}
use Rattle.whole_laws.specs.Notes.{Product}
use Rattle.mul_workers.specs.Rounds.{IsTeam}
use Rattle.mul_workers.specs.Products.{product_of}
use Rattle.mul_workers.proofs.Hiring.{readers_are, readers_scripts, readers_fit, all_sent, product_of_merge, workers_of_merge, team_of_merge}
use Rattle.mul_workers.proofs.threaded.merged.Goals as goal

pub new-requires-2-clause-scripts : goal.new-requires-2-clause-scripts
new-requires-2-clause-scripts g c κs within =
    readers_scripts c.in_ok-rings.ensures.read c.requires.workers

pub new-requires-2-clause-fit : goal.new-requires-2-clause-fit
new-requires-2-clause-fit g c κs within =
    let left = length-map c.terms-left.result.now (term_of g.M.Monomial.vector g.R.CoeffRing.value) in
    let right = length-map c.terms-right.result.now (term_of g.M.Monomial.vector g.R.CoeffRing.value) in
    let f = ap (λ (L : List Term). length L) c.terms-left.ensures.view in
    let h = ap (λ (L : List Term). length L) c.terms-right.ensures.view in
    let a = c.if-left-ge-TERMS.false in
    let b = c.if-right-ge-TERMS.false in
    readers_fit c.in_ok-rings.ensures.read c.requires.workers g.M.Monomial.LIM record {
      left = c.terms-left.ensures.canonical;
      right = subst (λ p. IsCanonical g.M.Monomial.order p g.M.Monomial.VARS g.M.Monomial.LIM c.args.g.now.list) (sym c.requires.modulus) c.terms-right.ensures.canonical;
      room = c.requires.room;
      few_left = omega arith;
      few_right = omega arith;
    }

pub new-requires-2-clause-order : goal.new-requires-2-clause-order
new-requires-2-clause-order g c κs within =
    ap (λ (n : Product). n.ord) (readers_are c.in_ok-rings.ensures.read c.requires.workers)

pub new-requires-2-clause-variables : goal.new-requires-2-clause-variables
new-requires-2-clause-variables g c κs within =
    ap (λ (n : Product). n.n) (readers_are c.in_ok-rings.ensures.read c.requires.workers)

pub new-requires-2-clause-modulus : goal.new-requires-2-clause-modulus
new-requires-2-clause-modulus g c κs within =
    ap (λ (n : Product). n.p) (readers_are c.in_ok-rings.ensures.read c.requires.workers) ∙ sym c.ring.ensures

pub finish-requires-clause-team : goal.finish-requires-clause-team
finish-requires-clause-team g c κs within =
    let e : c.as_mut_slice.result.now ≡ c.in_ok-rings.field-0.workers.items = search rules in
    subst (λ ws. IsTeam c.in_ok-merge.merge (map (λ w. w.worker.sender) ws)) (sym e)
    (team_of_merge c.in_ok-rings.ensures.read c.requires.workers c.in_ok-merge.merge _ (map (λ w. w.worker.sender) c.in_ok-rings.field-0.workers.items) c.in_ok-merge.ensures.state c.in_ok-merge.ensures.rings c.in_ok-rings.ensures.members)

pub returns-clause-modulus : goal.returns-clause-modulus
returns-clause-modulus g c =
    let e = c.in_ok-merge-2.ensures in
    c.finish-2.ensures.modulus ∙ ap (λ (n : Product). n.p) (product_of_merge c.in_ok-rings.ensures.read c.requires.workers g.M.Monomial.LIM c.in_ok-merge-2.field-0.merge e.sound (e.rings ∙ c.in_ok-merge.ensures.rings))

pub returns-clause-product : goal.returns-clause-product
returns-clause-product g c =
    let e = c.in_ok-merge-2.ensures in
    c.finish-2.ensures.product ∙ ap (λ (n : Product). terms g.M.Monomial.order n.p (times n.f n.g)) (product_of_merge c.in_ok-rings.ensures.read c.requires.workers g.M.Monomial.LIM c.in_ok-merge-2.field-0.merge e.sound (e.rings ∙ c.in_ok-merge.ensures.rings))

pub returns-clause-rounds : goal.returns-clause-rounds
returns-clause-rounds g c =
    subst (λ n. c.in_ok-merge-2.field-0.rounds ≤ 1 + n) (all_sent c.in_ok-rings.ensures.read c.requires.workers c.in_ok-merge.merge.rings c.in_ok-merge.ensures.rings) c.in_ok-merge-2.ensures.rounds

pub returns-clause-notes : goal.returns-clause-notes
returns-clause-notes g c =
    c.in_ok-merge-2.ensures.notes ∙ all_sent c.in_ok-rings.ensures.read c.requires.workers c.in_ok-merge.merge.rings c.in_ok-merge.ensures.rings

pub returns-clause-receipt : goal.returns-clause-receipt
returns-clause-receipt g c =
    let e = c.in_ok-merge-2.ensures in (
      ap (λ s. s.product) e.receipt ∙ product_of_merge c.in_ok-rings.ensures.read c.requires.workers g.M.Monomial.LIM c.in_ok-merge-2.field-0.merge e.sound (e.rings ∙ c.in_ok-merge.ensures.rings),
      ap (λ s. s.workers) e.receipt ∙ workers_of_merge c.in_ok-rings.ensures.read c.requires.workers g.M.Monomial.LIM c.in_ok-merge-2.field-0.merge e.sound (e.rings ∙ c.in_ok-merge.ensures.rings),
    )
