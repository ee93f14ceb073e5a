use Rattle.std.proofs.Common.{rules, List, length, sym, ap, ◌∙◌, subst, arith}
use Rattle.std.proofs.lemmas.List.{length-map}
use Rattle.sdmp_laws.specs.Poly.{Term}
use Rattle.sdmp_laws.specs.Canonical.{IsCanonical}
use Rattle.canonical_terms.specs.View.{term_of}
use Rattle.whole_laws.specs.Notes.{Product}
use Rattle.mul_workers.specs.Products.{product_of}
use Rattle.mul_workers.proofs.Hiring.{readers_are, readers_scripts, readers_fit}
use Rattle.thread_tests.proofs.Alone.{alone_read}
use Rattle.thread_tests.proofs.workers.begin.Goals as goal

pub new-requires-clause-scripts : goal.new-requires-clause-scripts
new-requires-clause-scripts g c κs within =
    let r = alone_read (product_of g.M.Monomial.order g.M.Monomial.VARS c.args.f.now c.args.g.now) c.args.ring.now c.args.reader c.push.new.self.items (search rules) c.requires.reader c.requires.script in
    readers_scripts r (omega arith)

pub new-requires-clause-fit : goal.new-requires-clause-fit
new-requires-clause-fit g c κs within =
    let r = alone_read (product_of g.M.Monomial.order g.M.Monomial.VARS c.args.f.now c.args.g.now) c.args.ring.now c.args.reader c.push.new.self.items (search rules) c.requires.reader c.requires.script in
    let left = length-map c.terms-left.result.now (term_of g.M.Monomial.vector g.R.CoeffRing.value) in
    let right = length-map c.terms-right.result.now (term_of g.M.Monomial.vector g.R.CoeffRing.value) in
    let f = ap (λ (L : List Term). length L) c.terms-left.ensures.view in
    let h = ap (λ (L : List Term). length L) c.terms-right.ensures.view in
    let a = c.if-left-ge-FEW_TERMS.false in
    let b = c.if-right-ge-FEW_TERMS.false in
    readers_fit r (omega arith) g.M.Monomial.LIM record {
      left = c.terms-left.ensures.canonical;
      right = subst (λ p. IsCanonical g.M.Monomial.order p g.M.Monomial.VARS g.M.Monomial.LIM c.args.g.now.list) (sym c.requires.modulus) c.terms-right.ensures.canonical;
      room = c.requires.room;
      few_left = omega arith;
      few_right = omega arith;
    }

pub new-requires-clause-order : goal.new-requires-clause-order
new-requires-clause-order g c κs within =
    let r = alone_read (product_of g.M.Monomial.order g.M.Monomial.VARS c.args.f.now c.args.g.now) c.args.ring.now c.args.reader c.push.new.self.items (search rules) c.requires.reader c.requires.script in
    ap (λ (n : Product). n.ord) (readers_are r (omega arith))

pub new-requires-clause-variables : goal.new-requires-clause-variables
new-requires-clause-variables g c κs within =
    let r = alone_read (product_of g.M.Monomial.order g.M.Monomial.VARS c.args.f.now c.args.g.now) c.args.ring.now c.args.reader c.push.new.self.items (search rules) c.requires.reader c.requires.script in
    ap (λ (n : Product). n.n) (readers_are r (omega arith))

pub new-requires-clause-modulus : goal.new-requires-clause-modulus
new-requires-clause-modulus g c κs within =
    let r = alone_read (product_of g.M.Monomial.order g.M.Monomial.VARS c.args.f.now c.args.g.now) c.args.ring.now c.args.reader c.push.new.self.items (search rules) c.requires.reader c.requires.script in
    ap (λ (n : Product). n.p) (readers_are r (omega arith)) ∙ sym c.ring.ensures

pub returns : goal.returns
returns g c =
    let r = alone_read (product_of g.M.Monomial.order g.M.Monomial.VARS c.args.f.now c.args.g.now) c.args.ring.now c.args.reader c.push.new.self.items (search rules) c.requires.reader c.requires.script in
    record { rings = c.in_ok-merge.ensures.rings ∙ r.same }
