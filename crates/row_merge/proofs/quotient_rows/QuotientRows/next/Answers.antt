use Rattle.std.proofs.Common.{◌≡◌, ◌≤◌, ◌-◌, vec_capacity, vec_len, Some, None, refl, sym, ap, ◌∙◌, subst, arith}
use Rattle.std.proofs.lemmas.List.{with_items_is}
use Rattle.std.specs.List.{All}
use Rattle.std.specs.Vec.{with_items}
use Rattle.sdmp_laws.specs.Order.{degree}
use Rattle.sdmp_laws.specs.Poly.{norm}
use Rattle.canonical_terms.specs.View.{term_of, sum_of}
use Rattle.row_merge.specs.Learned.{QuotientState, unread, HandOut, IsGreatest}
use Rattle.row_merge.proofs.Places.{empty_has_none, top_is_greatest, taken_rows}
use Rattle.row_merge.proofs.LearnedRows.{rows_low, learned_low, left_fits, move_rows, move_out}
use Rattle.row_merge.proofs.quotient_rows.QuotientRows.next.Goals as goal

pub returns-in-None-clause-sum : goal.returns-in-None-clause-sum
returns-in-None-clause-sum g c =
    let q = c.self.invariant.1 in
    (ap (λ (s : QuotientState). s.unread) (sym c.self.view_is) ∙ empty_has_none g.M.Monomial.vector g.M.Monomial.order g.M.Monomial.VARS g.M.Ord.cmp (sum_of g.M.Monomial.vector g.R.CoeffRing.value c.self.inside.learned.items) (sum_of g.M.Monomial.vector g.R.CoeffRing.value c.self.inside.rows.items) c.self.inside.reads.items c.self.inside.heap q.placed q.kept.rows_fall q.kept.rows_vectors q.kept.fall q.kept.vectors c.in-None.ensures.places.0, c.self.view_is)

pub sum_at-requires-clause-taken : goal.sum_at-requires-clause-taken
sum_at-requires-clause-taken g c κs within =
    let monos = g.met.M.Monomial g.world.𝓛 g.world.𝓜 g.world.𝓡 ((λ s x. x), (λ x. x), (λ x. x), λ x. x) in
    let q = c.self.invariant.1 in
    move_rows g.M.Monomial.vector g.M.Monomial.order (Some (g.M.Monomial.vector c.in-Some.mono)) (sum_of g.M.Monomial.vector g.R.CoeffRing.value c.self.inside.learned.items) _ (sum_of g.M.Monomial.vector g.R.CoeffRing.value c.self.inside.rows.items) _ c.self.inside.reads.items _ _ _ (ap (sum_of g.M.Monomial.vector g.R.CoeffRing.value) (sym c.deref-in-Some.ensures.value)) (ap (sum_of g.M.Monomial.vector g.R.CoeffRing.value) (sym c.deref.ensures.value)) (sym c.deref_mut.ensures.value) (sym c.in-Some.ensures.places.1)
    (taken_rows g.M.Monomial.vector g.M.Monomial.order g.M.Monomial.VARS g.M.Ord.cmp (record { vars = monos.vars; ordered = monos.ordered }) (sum_of g.M.Monomial.vector g.R.CoeffRing.value c.self.inside.learned.items) (sum_of g.M.Monomial.vector g.R.CoeffRing.value c.self.inside.rows.items) c.self.inside.reads.items c.self.inside.heap c.in-Some.mono q.placed c.in-Some.ensures.places.0)

pub sum_at-requires-clause-rows_low : goal.sum_at-requires-clause-rows_low
sum_at-requires-clause-rows_low g c κs within =
    let q = c.self.invariant.1 in
    subst (λ ts. All (λ t. degree (g.M.Monomial.vector t.mono) ≤ g.M.Monomial.LIM) ts) (sym c.deref.ensures.value) (rows_low g.M.Monomial.vector g.R.CoeffRing.value g.M.Monomial.order (g.R.CoeffRing.characteristic c.self.inside.ring) g.M.Monomial.VARS g.M.Monomial.LIM c.self.inside.divisor.now.list c.self.inside.rows.items c.self.inside.learned.items q.kept)

pub sum_at-requires-clause-learned_low : goal.sum_at-requires-clause-learned_low
sum_at-requires-clause-learned_low g c κs within =
    let q = c.self.invariant.1 in
    subst (λ ts. All (λ t. degree (g.M.Monomial.vector t.mono) ≤ g.M.Monomial.LIM) ts) (sym c.deref-in-Some.ensures.value) (learned_low g.M.Monomial.vector g.R.CoeffRing.value g.M.Monomial.order (g.R.CoeffRing.characteristic c.self.inside.ring) g.M.Monomial.VARS g.M.Monomial.LIM c.self.inside.divisor.now.list c.self.inside.rows.items c.self.inside.learned.items q.kept)

pub sum_at-requires-clause-fits : goal.sum_at-requires-clause-fits
sum_at-requires-clause-fits g c κs within = λ z.
    let q = c.self.invariant.1 in
    let e : norm (unread (sum_of g.M.Monomial.vector g.R.CoeffRing.value c.deref.result.now) c.deref_mut.result.now (sum_of g.M.Monomial.vector g.R.CoeffRing.value c.deref-in-Some.result.now)) ≡ norm (unread (sum_of g.M.Monomial.vector g.R.CoeffRing.value c.self.inside.rows.items) c.self.inside.reads.items (sum_of g.M.Monomial.vector g.R.CoeffRing.value c.self.inside.learned.items)) = λ i. norm (unread (sum_of g.M.Monomial.vector g.R.CoeffRing.value (c.deref.ensures.value i)) (c.deref_mut.ensures.value i) (sum_of g.M.Monomial.vector g.R.CoeffRing.value (c.deref-in-Some.ensures.value i))) in
    omega (arith, e, left_fits g.M.Monomial.order (g.R.CoeffRing.characteristic c.self.inside.ring) g.M.Monomial.VARS g.M.Monomial.LIM c.self.inside.divisor.now.list (sum_of g.M.Monomial.vector g.R.CoeffRing.value c.self.inside.rows.items) (sum_of g.M.Monomial.vector g.R.CoeffRing.value c.self.inside.learned.items) c.self.inside.reads.items q.kept z)

pub invariant_of-self-in-Some : goal.invariant_of-self-in-Some
invariant_of-self-in-Some g c =
    let q = c.self.invariant.1 in (
      c.self.invariant.0,
      record {
        placed = move_rows g.M.Monomial.vector g.M.Monomial.order None (sum_of g.M.Monomial.vector g.R.CoeffRing.value c.deref-in-Some.result.now) (sum_of g.M.Monomial.vector g.R.CoeffRing.value c.self.inside.learned.items) (sum_of g.M.Monomial.vector g.R.CoeffRing.value c.deref.result.now) (sum_of g.M.Monomial.vector g.R.CoeffRing.value c.self.inside.rows.items) c.sum_at.new.reads _ c.sum_at.new.heap c.sum_at.new.heap (ap (sum_of g.M.Monomial.vector g.R.CoeffRing.value) c.deref-in-Some.ensures.value) (ap (sum_of g.M.Monomial.vector g.R.CoeffRing.value) c.deref.ensures.value) (sym (with_items_is c.self.inside.reads c.sum_at.new.reads (omega (arith, c.sum_at.auto.reads, c.deref_mut.ensures.len)))) refl c.sum_at.ensures.rows;
        kept = q.kept;
        rows_belong = q.rows_belong;
        learned_belong = q.learned_belong;
        few = q.few;
      },
    )

pub returns-in-Some-clause-sum : goal.returns-in-Some-clause-sum
returns-in-Some-clause-sum g c =
    let monos = g.met.M.Monomial g.world.𝓛 g.world.𝓜 g.world.𝓡 ((λ s x. x), (λ x. x), (λ x. x), λ x. x) in
    let q = c.self.invariant.1 in
    subst (λ (s : QuotientState). HandOut g.M.Monomial.order s (record { modulus = (g.R.CoeffRing.characteristic c.self.inside.ring); divisor = c.self.inside.divisor.now.list; rows = (sum_of g.M.Monomial.vector g.R.CoeffRing.value c.self.inside.rows.items); learned = (sum_of g.M.Monomial.vector g.R.CoeffRing.value c.self.inside.learned.items); unread = unread (sum_of g.M.Monomial.vector g.R.CoeffRing.value c.self.inside.rows.items) (with_items c.self.inside.reads c.sum_at.new.reads).items (sum_of g.M.Monomial.vector g.R.CoeffRing.value c.self.inside.learned.items); spare = vec_capacity c.self.inside.learned - vec_len c.self.inside.learned }) (term_of g.M.Monomial.vector g.R.CoeffRing.value c.sum_at.result)) c.self.view_is (record {
      greatest = subst (λ m. IsGreatest g.M.Monomial.order (unread (sum_of g.M.Monomial.vector g.R.CoeffRing.value c.self.inside.rows.items) c.self.inside.reads.items (sum_of g.M.Monomial.vector g.R.CoeffRing.value c.self.inside.learned.items)) (g.M.Monomial.vector m)) (sym c.sum_at.ensures.mono) (top_is_greatest g.M.Monomial.vector g.M.Monomial.order g.M.Monomial.VARS g.M.Ord.cmp (record { vars = monos.vars; ordered = monos.ordered }) (sum_of g.M.Monomial.vector g.R.CoeffRing.value c.self.inside.learned.items) (sum_of g.M.Monomial.vector g.R.CoeffRing.value c.self.inside.rows.items) c.self.inside.reads.items c.self.inside.heap c.in-Some.mono q.placed q.kept.rows_fall q.kept.rows_vectors q.kept.fall q.kept.vectors c.in-Some.ensures.places.0);
      out = move_out g.M.Monomial.order (g.R.CoeffRing.characteristic c.self.inside.ring) (sum_of g.M.Monomial.vector g.R.CoeffRing.value c.deref-in-Some.result.now) (sum_of g.M.Monomial.vector g.R.CoeffRing.value c.self.inside.learned.items) (sum_of g.M.Monomial.vector g.R.CoeffRing.value c.deref.result.now) (sum_of g.M.Monomial.vector g.R.CoeffRing.value c.self.inside.rows.items) c.deref_mut.result.now c.self.inside.reads.items c.sum_at.new.reads _ (term_of g.M.Monomial.vector g.R.CoeffRing.value c.sum_at.result) (ap (sum_of g.M.Monomial.vector g.R.CoeffRing.value) c.deref-in-Some.ensures.value) (ap (sum_of g.M.Monomial.vector g.R.CoeffRing.value) c.deref.ensures.value) c.deref_mut.ensures.value (sym (with_items_is c.self.inside.reads c.sum_at.new.reads (omega (arith, c.sum_at.auto.reads, c.deref_mut.ensures.len)))) c.sum_at.ensures.out;
      same = refl;
    })
