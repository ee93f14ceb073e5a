use Rattle.std.proofs.Common.{◌≡◌, ℕ, ◌+◌, ◌-◌, ◌*◌, ◌<◌, List, [], None, refl, sym, ap, subst, ◌∙◌, arith, Option}
use Rattle.std.proofs.lemmas.List.{length-map}
use Rattle.std.proofs.lemmas.Bool.{false≢true}
use Rattle.sdmp_laws.specs.Order.{Order}
use Rattle.sdmp_laws.specs.Poly.{Term, terms}
use Rattle.std.specs.Prelude.{option_map}
use Rattle.canonical_terms.specs.View.{term_of, sum_of}
use Rattle.row_merge.specs.Rows.{IsNext}
use Rattle.row_merge.specs.Learned.{unread}
use Rattle.row_merge.proofs.Unread.{unread_length}
use Rattle.row_merge.proofs.Sums.{within, next_of_sum, skip_of_sum, terms_nil}
use Rattle.row_merge.proofs.rows.Rows.next_term.Goals as goal

smaller : (a b la lb mn u ml : ℕ) → mn + u ≡ la * lb → la ≡ a → lb ≡ b → ml < mn → a * b - mn < a * b - ml
smaller a b la lb mn u ml e f g h = let x : la * lb ≡ a * b = (λ i. f i * g i) in omega (arith, e, x, h)

none_next : (ord : Order) (p : ℕ) (A B : List Term) (old new : List ℕ) (o : Option Term) → o ≡ None → terms ord p (unread A old B) ≡ [] → unread A new B ≡ [] → IsNext ord p A B old new o
none_next ord p A B old new o e t u = subst (λ r. IsNext ord p A B old new r) (sym e) (t, u)

pub returns-in_err-term-clause-next : goal.returns-in_err-term-clause-next
returns-in_err-term-clause-next g c =
    let A = sum_of g.M.Monomial.vector g.R.CoeffRing.value c.args.terms.now in
    let B = sum_of g.M.Monomial.vector g.R.CoeffRing.value c.args.columns.now in
    let s = c.in_err-term.ensures.sum in
    none_next g.M.Monomial.order (g.R.CoeffRing.characteristic c.args.ring) A B c.args.self.now.reads.items c.next_sum.new.self.reads.items _ (ap (option_map (term_of g.M.Monomial.vector g.R.CoeffRing.value)) c.from_residual.ensures)
    (c.loop-term.invariant.terms_are ∙ ap (terms g.M.Monomial.order (g.R.CoeffRing.characteristic c.args.ring)) s.0 ∙ terms_nil g.M.Monomial.order (g.R.CoeffRing.characteristic c.args.ring)) (ap (λ rs. unread A rs B) s.1 ∙ s.0)

pub returns-then-not-is_zero-clause-next : goal.returns-then-not-is_zero-clause-next
returns-then-not-is_zero-clause-next g c =
    let A = sum_of g.M.Monomial.vector g.R.CoeffRing.value c.args.terms.now in
    let B = sum_of g.M.Monomial.vector g.R.CoeffRing.value c.args.columns.now in
    let z = c.if-not-is_zero.ensures in
    c.loop-term.invariant.terms_are ∙ next_of_sum g.M.Monomial.order (g.R.CoeffRing.characteristic c.args.ring) g.M.Monomial.VARS g.M.Monomial.LIM A B c.loop-term.self.reads.items c.next_sum.new.self.reads.items (term_of g.M.Monomial.vector g.R.CoeffRing.value c.in_ok-term.term) c.requires.terms_fall c.requires.columns_fall c.in_ok-term.ensures.sum (λ q. false≢true (z.1 q))

pub loop-term-smaller : goal.loop-term-smaller
loop-term-smaller g c =
    let A = sum_of g.M.Monomial.vector g.R.CoeffRing.value c.args.terms.now in
    let B = sum_of g.M.Monomial.vector g.R.CoeffRing.value c.args.columns.now in
    let rows = c.in_ok-term.ensures.rows in
    let l = unread_length A c.next_sum.new.self.reads.items B rows.reads_count (within g.M.Monomial.vector g.M.Monomial.order None B A c.next_sum.new.self.reads.items c.next_sum.new.self.heap rows) in
    smaller _ _ _ _ _ _ _ l (length-map c.args.terms.now (term_of g.M.Monomial.vector g.R.CoeffRing.value)) (length-map c.args.columns.now (term_of g.M.Monomial.vector g.R.CoeffRing.value)) c.in_ok-term.ensures.more

pub loop-term-preserved : goal.loop-term-preserved
loop-term-preserved g c =
    let A = sum_of g.M.Monomial.vector g.R.CoeffRing.value c.args.terms.now in
    let B = sum_of g.M.Monomial.vector g.R.CoeffRing.value c.args.columns.now in
    let inv = c.loop-term.invariant in
    let e = c.in_ok-term.ensures in
    let z = c.if-not-is_zero.ensures in
    record {
      begun = e.begun ∙ inv.begun;
      rows = e.rows;
      terms_are = inv.terms_are ∙ skip_of_sum g.M.Monomial.order (g.R.CoeffRing.characteristic c.args.ring) g.M.Monomial.VARS g.M.Monomial.LIM A B c.loop-term.self.reads.items c.next_sum.new.self.reads.items (term_of g.M.Monomial.vector g.R.CoeffRing.value c.in_ok-term.term) c.requires.terms_fall c.requires.columns_fall e.sum (z.0 refl);
      grows = omega (arith, inv.grows, e.more);
      compares = λ k b. omega (arith, inv.compares k b, e.compares k (omega (arith, b, e.rows.places_count, inv.rows.places_count, c.requires.rows.places_count)));
      products = (omega (arith, inv.products.0, inv.grows, e.more, e.products.0), omega (arith, inv.products.1, inv.grows, e.more, e.products.1));
    }
