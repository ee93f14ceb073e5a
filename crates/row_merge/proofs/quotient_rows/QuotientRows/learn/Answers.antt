use Rattle.std.proofs.Common.{◌≡◌, ◌+◌, ◌*◌, ◌<◌, ◌≤◌, ◌++◌, ◌∷◌, ℕ, List, [], length, get_or, None, IsTrue, sym, ap, ◌∙◌, subst, arith}
use Rattle.std.specs.List.{All}
use Rattle.std.specs.List.Sorted.{IsPermutation}
use Rattle.std.proofs.lemmas.List.Elements.{All-push}
use Rattle.sdmp_laws.specs.Order.{degree}
use Rattle.sdmp_laws.specs.Poly.{Term, norm, row, lm, Decreasing}
use Rattle.sdmp_laws.specs.Limits.{greatest_norm}
use Rattle.canonical_terms.specs.View.{term_of, sum_of}
use Rattle.row_merge.specs.Learned.{QuotientState, unread, product_at, AreRows, AreLearned, IsMoved}
use Rattle.row_merge.proofs.RowLists.{long_sum}
use Rattle.row_merge.proofs.LearnedRows.{rows_low, learned_low, push_sum, learn_kept, first_out, learn_rows, learn_left}
use Rattle.row_merge.proofs.quotient_rows.QuotientRows.learn.Goals as goal

pub insert_if-requires-clause-within : goal.insert_if-requires-clause-within
insert_if-requires-clause-within g c κs within = λ o.
    let q = c.self.invariant.1 in
    let f = c.has_read-first.ensures.0 o in
    let reads : c.deref.result.now ≡ c.self.inside.reads.items = c.deref.ensures.value in
    let some : 0 < length (sum_of g.M.Monomial.vector g.R.CoeffRing.value c.self.inside.rows.items) = omega (arith, f.0, ap length reads, q.placed.reads_count) in
    let known : c.len-known.result ≡ length (sum_of g.M.Monomial.vector g.R.CoeffRing.value c.self.inside.learned.items) = omega (arith, c.len-known.ensures, c.self.inside.learned.ok, long_sum g.M.Monomial.vector g.R.CoeffRing.value c.self.inside.learned.items) in
    let at : get_or c.self.inside.reads.items 0 0 ≡ length (sum_of g.M.Monomial.vector g.R.CoeffRing.value c.self.inside.learned.items) = ap (λ (l : List ℕ). get_or l 0 0) (sym reads) ∙ f.1 ∙ known in (
      omega (arith, some, long_sum g.M.Monomial.vector g.R.CoeffRing.value c.self.inside.rows.items, ap length c.deref-2.ensures.value),
      omega (arith, known, ap length c.deref-3.ensures.value, long_sum g.M.Monomial.vector g.R.CoeffRing.value c.self.inside.learned.items, c.push_reserved.ensures.len, c.len-known.ensures, c.deref-3.ensures.len),
      omega (arith, some, q.placed.places_count),
      first_out g.M.Monomial.vector g.M.Monomial.order (sum_of g.M.Monomial.vector g.R.CoeffRing.value c.self.inside.learned.items) (sum_of g.M.Monomial.vector g.R.CoeffRing.value c.self.inside.rows.items) c.self.inside.reads.items c.self.inside.heap q.placed some at,
    )

-- the term fits the divisor
pub insert_if-requires-clause-rows_low : goal.insert_if-requires-clause-rows_low
insert_if-requires-clause-rows_low g c κs within =
    let q = c.self.invariant.1 in
    subst (λ ts. All (λ t. degree (g.M.Monomial.vector t.mono) ≤ g.M.Monomial.LIM) ts) (sym c.deref-2.ensures.value) (rows_low g.M.Monomial.vector g.R.CoeffRing.value g.M.Monomial.order (g.R.CoeffRing.characteristic c.self.inside.ring) g.M.Monomial.VARS g.M.Monomial.LIM c.self.inside.divisor.now.list c.self.inside.rows.items c.self.inside.learned.items q.kept)

pub insert_if-requires-clause-learned_low : goal.insert_if-requires-clause-learned_low
insert_if-requires-clause-learned_low g c κs within =
    let q = c.self.invariant.1 in
    let low : degree (g.M.Monomial.vector c.args.term.mono) ≤ g.M.Monomial.LIM = omega (arith, c.requires.degree) in
    subst (λ ts. All (λ t. degree (g.M.Monomial.vector t.mono) ≤ g.M.Monomial.LIM) ts) (sym (c.deref-3.ensures.value ∙ c.push_reserved.ensures.items)) (All-push (λ t. degree (g.M.Monomial.vector t.mono) ≤ g.M.Monomial.LIM) c.self.inside.learned.items c.args.term (learned_low g.M.Monomial.vector g.R.CoeffRing.value g.M.Monomial.order (g.R.CoeffRing.characteristic c.self.inside.ring) g.M.Monomial.VARS g.M.Monomial.LIM c.self.inside.divisor.now.list c.self.inside.rows.items c.self.inside.learned.items q.kept) low)

pub invariant_of-self : goal.invariant_of-self
invariant_of-self g c =
    let monos = g.met.M.Monomial g.world.𝓛 g.world.𝓜 g.world.𝓡 ((λ s x. x), (λ x. x), (λ x. x), λ x. x) in
    let q = c.self.invariant.1 in
    let sums : sum_of g.M.Monomial.vector g.R.CoeffRing.value c.push_reserved.new.self.items ≡ (sum_of g.M.Monomial.vector g.R.CoeffRing.value c.self.inside.learned.items) ++ (term_of g.M.Monomial.vector g.R.CoeffRing.value c.args.term) ∷ [] = push_sum g.M.Monomial.vector g.R.CoeffRing.value c.self.inside.learned.items c.push_reserved.new.self.items c.args.term c.push_reserved.ensures.items in
    let known : c.len-known.result ≡ length (sum_of g.M.Monomial.vector g.R.CoeffRing.value c.self.inside.learned.items) = omega (arith, c.len-known.ensures, c.self.inside.learned.ok, long_sum g.M.Monomial.vector g.R.CoeffRing.value c.self.inside.learned.items) in
    let falls : Decreasing g.M.Monomial.order ((sum_of g.M.Monomial.vector g.R.CoeffRing.value c.self.inside.learned.items) ++ (term_of g.M.Monomial.vector g.R.CoeffRing.value c.args.term) ∷ []) = subst (λ (s : QuotientState). Decreasing g.M.Monomial.order (s.learned ++ (term_of g.M.Monomial.vector g.R.CoeffRing.value c.args.term) ∷ [])) (sym c.self.view_is) c.requires.falls in
    let deg : degree (g.M.Monomial.vector c.args.term.mono) + degree (lm c.self.inside.divisor.now.list) ≤ g.M.Monomial.LIM = subst (λ (s : QuotientState). degree (g.M.Monomial.vector c.args.term.mono) + degree (lm s.divisor) ≤ g.M.Monomial.LIM) (sym c.self.view_is) c.requires.degree in
    let fits : (g.R.CoeffRing.characteristic c.self.inside.ring) ≡ 0 → norm ((sum_of g.M.Monomial.vector g.R.CoeffRing.value c.self.inside.learned.items) ++ (term_of g.M.Monomial.vector g.R.CoeffRing.value c.args.term) ∷ []) * norm c.self.inside.divisor.now.list ≤ greatest_norm = subst (λ (s : QuotientState). s.modulus ≡ 0 → norm (s.learned ++ (term_of g.M.Monomial.vector g.R.CoeffRing.value c.args.term) ∷ []) * norm s.divisor ≤ greatest_norm) (sym c.self.view_is) c.requires.fits in
    let inside : g.R.CoeffRing.belongs (g.R.CoeffRing.characteristic c.self.inside.ring) c.args.term.coef = subst (λ (s : QuotientState). g.R.CoeffRing.belongs s.modulus c.args.term.coef) (sym c.self.view_is) c.requires.belongs in
    let moved : IsMoved g.M.Monomial.vector 0 (product_at (sum_of g.M.Monomial.vector g.R.CoeffRing.value c.self.inside.rows.items) ((sum_of g.M.Monomial.vector g.R.CoeffRing.value c.self.inside.learned.items) ++ (term_of g.M.Monomial.vector g.R.CoeffRing.value c.args.term) ∷ []) 0 c.len-known.result) (IsTrue c.has_read-first.result) c.self.inside.heap c.insert_if.new.heap =
    subst (λ (A : List Term). IsMoved g.M.Monomial.vector 0 (product_at (sum_of g.M.Monomial.vector g.R.CoeffRing.value c.self.inside.rows.items) A 0 c.len-known.result) (IsTrue c.has_read-first.result) c.self.inside.heap c.insert_if.new.heap) (ap (sum_of g.M.Monomial.vector g.R.CoeffRing.value) c.deref-3.ensures.value ∙ sums)
    (subst (λ (A : List Term). IsMoved g.M.Monomial.vector 0 (product_at A (sum_of g.M.Monomial.vector g.R.CoeffRing.value c.deref-3.result.now) 0 c.len-known.result) (IsTrue c.has_read-first.result) c.self.inside.heap c.insert_if.new.heap) (ap (sum_of g.M.Monomial.vector g.R.CoeffRing.value) c.deref-2.ensures.value) c.insert_if.ensures.moved) in
    let test = subst (λ (l : List ℕ). (IsTrue c.has_read-first.result → (0 < length l) × (get_or l 0 0 ≡ c.len-known.result)) × ((0 < length l) × (get_or l 0 0 ≡ c.len-known.result) → IsTrue c.has_read-first.result)) c.deref.ensures.value (c.has_read-first.ensures.0, c.has_read-first.ensures.1) in (
      c.self.invariant.0,
      record {
        placed = subst (λ (A : List Term). AreRows g.M.Monomial.vector g.M.Monomial.order None A (sum_of g.M.Monomial.vector g.R.CoeffRing.value c.self.inside.rows.items) c.self.inside.reads.items c.insert_if.new.heap) (sym sums) (learn_rows g.M.Monomial.vector g.M.Monomial.order (sum_of g.M.Monomial.vector g.R.CoeffRing.value c.self.inside.learned.items) (sum_of g.M.Monomial.vector g.R.CoeffRing.value c.self.inside.rows.items) c.self.inside.reads.items c.self.inside.heap (term_of g.M.Monomial.vector g.R.CoeffRing.value c.args.term) c.insert_if.new.heap c.len-known.result (IsTrue c.has_read-first.result) q.placed known test.0 test.1 moved);
        kept = subst (λ (A : List Term). AreLearned g.M.Monomial.order (g.R.CoeffRing.characteristic c.self.inside.ring) g.M.Monomial.VARS g.M.Monomial.LIM c.self.inside.divisor.now.list (sum_of g.M.Monomial.vector g.R.CoeffRing.value c.self.inside.rows.items) A) (sym sums) (learn_kept g.M.Monomial.order (g.R.CoeffRing.characteristic c.self.inside.ring) g.M.Monomial.VARS g.M.Monomial.LIM c.self.inside.divisor.now.list (sum_of g.M.Monomial.vector g.R.CoeffRing.value c.self.inside.rows.items) (sum_of g.M.Monomial.vector g.R.CoeffRing.value c.self.inside.learned.items) (term_of g.M.Monomial.vector g.R.CoeffRing.value c.args.term) q.kept (monos.vars c.args.term.mono) falls deg fits);
        rows_belong = q.rows_belong;
        learned_belong = subst (λ ts. All (λ t. g.R.CoeffRing.belongs (g.R.CoeffRing.characteristic c.self.inside.ring) t.coef) ts) (sym c.push_reserved.ensures.items) (All-push (λ t. g.R.CoeffRing.belongs (g.R.CoeffRing.characteristic c.self.inside.ring) t.coef) c.self.inside.learned.items c.args.term q.learned_belong inside);
        few = q.few;
      },
    )

pub returns-clause-unread : goal.returns-clause-unread
returns-clause-unread g c =
    let q = c.self.invariant.1 in
    let sums : sum_of g.M.Monomial.vector g.R.CoeffRing.value c.push_reserved.new.self.items ≡ (sum_of g.M.Monomial.vector g.R.CoeffRing.value c.self.inside.learned.items) ++ (term_of g.M.Monomial.vector g.R.CoeffRing.value c.args.term) ∷ [] = push_sum g.M.Monomial.vector g.R.CoeffRing.value c.self.inside.learned.items c.push_reserved.new.self.items c.args.term c.push_reserved.ensures.items in
    subst (λ (s : QuotientState). IsPermutation (s.unread ++ row (term_of g.M.Monomial.vector g.R.CoeffRing.value c.args.term) s.rows) (unread (sum_of g.M.Monomial.vector g.R.CoeffRing.value c.self.inside.rows.items) c.self.inside.reads.items (sum_of g.M.Monomial.vector g.R.CoeffRing.value c.push_reserved.new.self.items))) c.self.view_is
    (subst (λ (A : List Term). IsPermutation (unread (sum_of g.M.Monomial.vector g.R.CoeffRing.value c.self.inside.rows.items) c.self.inside.reads.items (sum_of g.M.Monomial.vector g.R.CoeffRing.value c.self.inside.learned.items) ++ row (term_of g.M.Monomial.vector g.R.CoeffRing.value c.args.term) (sum_of g.M.Monomial.vector g.R.CoeffRing.value c.self.inside.rows.items)) (unread (sum_of g.M.Monomial.vector g.R.CoeffRing.value c.self.inside.rows.items) c.self.inside.reads.items A)) (sym sums) (learn_left g.M.Monomial.vector g.M.Monomial.order (sum_of g.M.Monomial.vector g.R.CoeffRing.value c.self.inside.learned.items) (sum_of g.M.Monomial.vector g.R.CoeffRing.value c.self.inside.rows.items) c.self.inside.reads.items c.self.inside.heap (term_of g.M.Monomial.vector g.R.CoeffRing.value c.args.term) q.placed))
