use Rattle.std.proofs.Common.{◌≡◌, ◌-◌, ℕ, List, [], length, drop, replicate, vec_len, vec_capacity, None, All, refl, sym, ap, ◌∙◌, subst, arith}
use Rattle.std.proofs.lemmas.List.Elements.{All-nil}
use Rattle.sdmp_laws.specs.Poly.{Term, every}
use Rattle.sdmp_laws.specs.Canonical.{IsCanonical}
use Rattle.canonical_terms.specs.View.{sum_of}
use Rattle.chained_heap.specs.declared.node.Place.{Place}
use Rattle.chained_heap.specs.declared.node.Place.TheVariants.{Out}
use Rattle.row_merge.specs.Learned.{unread, AreLearned}
use Rattle.row_merge.proofs.RowLists.{long_sum}
use Rattle.row_merge.proofs.RowSteps.{rows_start, none_left}
use Rattle.row_merge.proofs.LearnedRows.{start_kept, move_rows}
use Rattle.row_merge.proofs.quotient_rows.QuotientRows.new.Goals as goal

pub invariant_of-result : goal.invariant_of-result
invariant_of-result g c =
    let p : c.args.divisor.now.modulus ≡ (g.R.CoeffRing.characteristic c.ring.result) = sym c.ring.ensures in
    let terms : (sum_of g.M.Monomial.vector g.R.CoeffRing.value c.in_ok-rows.rows.items) ≡ (every c.args.workers c.args.worker 1 (drop 1 c.args.divisor.now.list)) = c.in_ok-rows.ensures.terms ∙ ap (λ (A : List Term). every c.args.workers c.args.worker 1 (drop 1 A)) c.terms.ensures.view in
    let long : length c.in_ok-rows.rows.items ≡ length (sum_of g.M.Monomial.vector g.R.CoeffRing.value c.in_ok-rows.rows.items) = long_sum g.M.Monomial.vector g.R.CoeffRing.value c.in_ok-rows.rows.items in
    let none : sum_of g.M.Monomial.vector g.R.CoeffRing.value c.new.result.items ≡ [] = ap (sum_of g.M.Monomial.vector g.R.CoeffRing.value) c.new.ensures.items in
    let count : vec_len c.in_ok-rows.rows ≡ length (sum_of g.M.Monomial.vector g.R.CoeffRing.value c.in_ok-rows.rows.items) = omega (arith, long, c.in_ok-rows.rows.ok) in
    let reads : c.in_ok-reads.reads.items ≡ replicate (length (sum_of g.M.Monomial.vector g.R.CoeffRing.value c.in_ok-rows.rows.items)) 0 = c.in_ok-reads.ensures.items_if_clones_equal (λ y h. h) ∙ ap (λ (n : ℕ). replicate {A = ℕ} n 0) (c.len-2.ensures ∙ count) in
    let heap : c.in_ok-heap.heap ≡ replicate (length (sum_of g.M.Monomial.vector g.R.CoeffRing.value c.in_ok-rows.rows.items)) Out = c.in_ok-heap.ensures ∙ ap (λ (n : ℕ). replicate {A = Place g.row.M.Denot} n Out) (c.len-3.ensures ∙ count) in (
      p,
      record {
        placed = move_rows g.M.Monomial.vector g.M.Monomial.order None [] _ (sum_of g.M.Monomial.vector g.R.CoeffRing.value c.in_ok-rows.rows.items) (sum_of g.M.Monomial.vector g.R.CoeffRing.value c.in_ok-rows.rows.items) (replicate (length (sum_of g.M.Monomial.vector g.R.CoeffRing.value c.in_ok-rows.rows.items)) 0) _ (replicate (length (sum_of g.M.Monomial.vector g.R.CoeffRing.value c.in_ok-rows.rows.items)) Out) _ (sym none) refl (sym reads) (sym heap) (rows_start g.M.Monomial.vector g.M.Monomial.order (sum_of g.M.Monomial.vector g.R.CoeffRing.value c.in_ok-rows.rows.items));
        kept = subst (λ (A : List Term). AreLearned g.M.Monomial.order (g.R.CoeffRing.characteristic c.ring.result) g.M.Monomial.VARS g.M.Monomial.LIM c.args.divisor.now.list (sum_of g.M.Monomial.vector g.R.CoeffRing.value c.in_ok-rows.rows.items) A) (sym none)
            (subst (λ (A : List Term). AreLearned g.M.Monomial.order (g.R.CoeffRing.characteristic c.ring.result) g.M.Monomial.VARS g.M.Monomial.LIM c.args.divisor.now.list A []) (sym terms)
            (start_kept g.M.Monomial.order (g.R.CoeffRing.characteristic c.ring.result) g.M.Monomial.VARS g.M.Monomial.LIM c.args.workers c.args.worker c.args.divisor.now.list (subst (λ (q : ℕ). IsCanonical g.M.Monomial.order q g.M.Monomial.VARS g.M.Monomial.LIM c.args.divisor.now.list) p c.terms.ensures.canonical)));
        rows_belong = subst (λ (q : ℕ). All (λ t. g.R.CoeffRing.belongs q t.coef) c.in_ok-rows.rows.items) p (c.in_ok-rows.ensures.belongs c.args.divisor.now.modulus c.terms.ensures.belongs);
        learned_belong = subst (λ ts. All (λ t. g.R.CoeffRing.belongs (g.R.CoeffRing.characteristic c.ring.result) t.coef) ts) (sym c.new.ensures.items) (All-nil _);
        few = omega (arith, c.if-len.false, c.len.ensures, c.in_ok-rows.rows.ok);
      },
    )

pub returns : goal.returns
returns g c =
    let terms : (sum_of g.M.Monomial.vector g.R.CoeffRing.value c.in_ok-rows.rows.items) ≡ (every c.args.workers c.args.worker 1 (drop 1 c.args.divisor.now.list)) = c.in_ok-rows.ensures.terms ∙ ap (λ (A : List Term). every c.args.workers c.args.worker 1 (drop 1 A)) c.terms.ensures.view in
    let none : sum_of g.M.Monomial.vector g.R.CoeffRing.value c.new.result.items ≡ [] = ap (sum_of g.M.Monomial.vector g.R.CoeffRing.value) c.new.ensures.items in
    let empty : unread (sum_of g.M.Monomial.vector g.R.CoeffRing.value c.in_ok-rows.rows.items) c.in_ok-reads.reads.items (sum_of g.M.Monomial.vector g.R.CoeffRing.value c.new.result.items) ≡ [] = ap (λ (A : List Term). unread (sum_of g.M.Monomial.vector g.R.CoeffRing.value c.in_ok-rows.rows.items) c.in_ok-reads.reads.items A) none ∙ none_left c.in_ok-reads.reads.items (sum_of g.M.Monomial.vector g.R.CoeffRing.value c.in_ok-rows.rows.items) in
    let spare : vec_capacity c.new.result - vec_len c.new.result ≡ 0 = omega (arith, c.new.ensures.capacity, c.new.ensures.len) in
    λ i. record { modulus = c.ring.ensures i; divisor = c.args.divisor.now.list; rows = terms i; learned = none i; unread = empty i; spare = spare i }
