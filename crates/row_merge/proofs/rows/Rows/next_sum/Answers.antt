use Rattle.std.proofs.Common.{◌≡◌, ℕ, ◌+◌, ◌*◌, ◌≤◌, length, Some, None, refl, sym, ap, ◌∙◌, arith, le_refl}
use Rattle.std.proofs.Math.Nat.{mul_comm}
use Rattle.std.proofs.Math.Path.{transport}
use Rattle.std.proofs.lemmas.List.{with_items_is, length-map}
use Rattle.std.specs.List.{sum_by}
use Rattle.std.specs.Vec.{with_items}
use Rattle.sdmp_laws.specs.Poly.{norm}
use Rattle.canonical_terms.specs.View.{term_of, sum_of}
use Rattle.chained_heap.specs.Shape.{taken_at, is_at, present, count_at}
use Rattle.row_merge.specs.Learned.{unread, TakesOut}
use Rattle.row_merge.specs.Rows.{made, entered, taken_rows}
use Rattle.row_merge.proofs.Places.{empty_has_none}
use Rattle.row_merge.proofs.Places as places
use Rattle.row_merge.proofs.LearnedRows.{degrees_of, left_norm, move_rows}
use Rattle.row_merge.proofs.RowSteps.{none_taken}
use Rattle.row_merge.proofs.Counts.{taken_count, present_count, top_counts}
use Rattle.row_merge.proofs.Sums.{sum_of_out}
use Rattle.row_merge.proofs.rows.Rows.next_sum.Given as given
use Rattle.row_merge.proofs.rows.Rows.next_sum.Goals as goal

laws : (g : given.Over) → places.AreOrdered g.M.Monomial.vector g.M.Monomial.order g.M.Monomial.VARS g.M.Ord.cmp
laws g =
    let monos = g.met.M.Monomial g.world.𝓛 g.world.𝓜 g.world.𝓡 ((λ s x. x), (λ x. x), (λ x. x), λ x. x) in
    record { vars = monos.vars; ordered = monos.ordered }

pub returns-in-None-clause-sum : goal.returns-in-None-clause-sum
returns-in-None-clause-sum g c =
    let A = (sum_of g.M.Monomial.vector g.R.CoeffRing.value c.args.terms.now) in
    let B = (sum_of g.M.Monomial.vector g.R.CoeffRing.value c.args.columns.now) in
    let h = c.in-None.ensures.places in (
      empty_has_none g.M.Monomial.vector g.M.Monomial.order g.M.Monomial.VARS g.M.Ord.cmp B A c.args.self.now.reads.items c.args.self.now.heap c.requires.rows c.requires.terms_fall.decreasing c.requires.terms_fall.vectors c.requires.columns_fall.decreasing c.requires.columns_fall.vectors h.0,
      refl,
      h.1,
    )

pub sum_at-requires-clause-taken : goal.sum_at-requires-clause-taken
sum_at-requires-clause-taken g c κs within =
    let A = (sum_of g.M.Monomial.vector g.R.CoeffRing.value c.args.terms.now) in
    let B = (sum_of g.M.Monomial.vector g.R.CoeffRing.value c.args.columns.now) in
    move_rows g.M.Monomial.vector g.M.Monomial.order (Some (g.M.Monomial.vector c.in-Some.mono)) B B A A c.args.self.now.reads.items _ _ _ refl refl (sym c.deref_mut.ensures.value) (sym c.in-Some.ensures.places.1)
    (places.taken_rows g.M.Monomial.vector g.M.Monomial.order g.M.Monomial.VARS g.M.Ord.cmp (laws g) B A c.args.self.now.reads.items c.args.self.now.heap c.in-Some.mono c.requires.rows c.in-Some.ensures.places.0)

pub sum_at-requires-clause-rows_low : goal.sum_at-requires-clause-rows_low
sum_at-requires-clause-rows_low g c κs within = degrees_of g.M.Monomial.vector g.R.CoeffRing.value g.M.Monomial.LIM g.M.Monomial.LIM c.args.terms.now (le_refl _) c.requires.terms_fall.degrees

pub sum_at-requires-clause-learned_low : goal.sum_at-requires-clause-learned_low
sum_at-requires-clause-learned_low g c κs within = degrees_of g.M.Monomial.vector g.R.CoeffRing.value g.M.Monomial.LIM g.M.Monomial.LIM c.args.columns.now (le_refl _) c.requires.columns_fall.degrees

pub sum_at-requires-clause-fits : goal.sum_at-requires-clause-fits
sum_at-requires-clause-fits g c κs within = λ z.
    let A = (sum_of g.M.Monomial.vector g.R.CoeffRing.value c.args.terms.now) in
    let B = (sum_of g.M.Monomial.vector g.R.CoeffRing.value c.args.columns.now) in
    omega (arith, left_norm B c.deref_mut.result.now A, mul_comm (norm B) (norm A), c.requires.room z)

-- what the rows have read after the call
read_after : (g : given.Over) (c : goal.After-self-1 g) → (with_items c.args.self.now.reads c.sum_at.new.reads).items ≡ c.sum_at.new.reads
read_after g c = with_items_is c.args.self.now.reads c.sum_at.new.reads (omega (arith, c.sum_at.auto.reads, c.deref_mut.ensures.len))

pub returns-in-Some-clause-rows : goal.returns-in-Some-clause-rows
returns-in-Some-clause-rows g c =
    move_rows g.M.Monomial.vector g.M.Monomial.order None (sum_of g.M.Monomial.vector g.R.CoeffRing.value c.args.columns.now) (sum_of g.M.Monomial.vector g.R.CoeffRing.value c.args.columns.now) (sum_of g.M.Monomial.vector g.R.CoeffRing.value c.args.terms.now) (sum_of g.M.Monomial.vector g.R.CoeffRing.value c.args.terms.now) c.sum_at.new.reads _ c.sum_at.new.heap c.sum_at.new.heap refl refl (sym (read_after g c)) refl c.sum_at.ensures.rows

pub returns-in-Some-clause-sum : goal.returns-in-Some-clause-sum
returns-in-Some-clause-sum g c =
    let A = (sum_of g.M.Monomial.vector g.R.CoeffRing.value c.args.terms.now) in
    let B = (sum_of g.M.Monomial.vector g.R.CoeffRing.value c.args.columns.now) in
    let rings = g.met.R.CoeffRing g.world.𝓛 g.world.𝓜 g.world.𝓡 ((λ s x. x), (λ x. x), (λ x. x), λ x. x) in
    sum_of_out g.M.Monomial.order (g.R.CoeffRing.characteristic c.args.ring) g.M.Monomial.VARS A B c.args.self.now.reads.items _ (term_of g.M.Monomial.vector g.R.CoeffRing.value c.sum_at.result) ((laws g).vars c.sum_at.result.mono) (rings.reduced c.args.ring c.sum_at.result.coef c.sum_at.ensures.belongs)
    (transport (λ i. TakesOut g.M.Monomial.order (g.R.CoeffRing.characteristic c.args.ring) (unread A (c.deref_mut.ensures.value i) B) (unread A (sym (read_after g c) i) B) (term_of g.M.Monomial.vector g.R.CoeffRing.value c.sum_at.result)) c.sum_at.ensures.out)

-- how many products were made
made_is : (g : given.Over) (c : goal.After-self-1 g) → made (with_items c.args.self.now.reads c.sum_at.new.reads).items ≡ made c.args.self.now.reads.items + count_at (is_at g.M.Ord.cmp c.in-Some.mono) c.args.self.now.heap
made_is g c =
    let t = c.in-Some.ensures.places in
    omega (arith, ap made (read_after g c), c.sum_at.ensures.reads, ap made c.deref_mut.ensures.value, ap taken_rows t.1, taken_count g.M.Ord.cmp c.in-Some.mono c.args.self.now.heap (none_taken g.M.Monomial.vector g.M.Monomial.order (sum_of g.M.Monomial.vector g.R.CoeffRing.value c.args.columns.now) (sum_of g.M.Monomial.vector g.R.CoeffRing.value c.args.terms.now) c.args.self.now.reads.items c.args.self.now.heap c.requires.rows))

pub returns-in-Some-clause-more : goal.returns-in-Some-clause-more
returns-in-Some-clause-more g c = omega (arith, made_is g c, top_counts g.M.Ord.cmp c.in-Some.mono c.args.self.now.heap c.in-Some.ensures.places.0)

compares_are : (l n tk old E0 E1 En m0 m1 k : ℕ) → n + l * E1 ≤ tk + l * En → tk ≤ old + 2 * l * k → E1 ≡ E0 → m1 ≡ m0 + k → n + l * E0 + 2 * l * m0 ≤ old + l * En + 2 * l * m1
compares_are l n tk old E0 E1 En m0 m1 k b d e f = omega (arith, b, d, ap (λ (q : ℕ). l * q) e, ap (λ (q : ℕ). 2 * l * q) f)

pub returns-in-Some-clause-compares : goal.returns-in-Some-clause-compares
returns-in-Some-clause-compares g c = λ l b.
    let t = c.in-Some.ensures.places in
    let long : length c.take_top.new.self ≡ length c.args.self.now.heap = ap length t.1 ∙ length-map c.args.self.now.heap (taken_at g.M.Ord.cmp c.in-Some.mono) in
    let before : entered c.deref_mut.result.now c.take_top.new.self ≡ entered c.args.self.now.reads.items c.args.self.now.heap = (λ i. made (c.deref_mut.ensures.value i) + sum_by present (t.1 i)) ∙ ap (λ (q : ℕ). made c.args.self.now.reads.items + q) (present_count g.M.Ord.cmp c.in-Some.mono c.args.self.now.heap) in
    let after : entered c.sum_at.new.reads c.sum_at.new.heap ≡ entered (with_items c.args.self.now.reads c.sum_at.new.reads).items c.sum_at.new.heap = ap (λ rs. entered rs c.sum_at.new.heap) (sym (read_after g c)) in
    let s : c.sum_at.new.steps.compares + l * entered c.deref_mut.result.now c.take_top.new.self ≤ c.take_top.new.steps.compares + l * entered c.sum_at.new.reads c.sum_at.new.heap = c.sum_at.ensures.compares l (omega (arith, long, b)) in
    compares_are l c.sum_at.new.steps.compares c.take_top.new.steps.compares c.args.steps.now.compares
    (entered c.args.self.now.reads.items c.args.self.now.heap) (entered c.deref_mut.result.now c.take_top.new.self) (entered (with_items c.args.self.now.reads c.sum_at.new.reads).items c.sum_at.new.heap)
    (made c.args.self.now.reads.items) (made (with_items c.args.self.now.reads c.sum_at.new.reads).items) (count_at (is_at g.M.Ord.cmp c.in-Some.mono) c.args.self.now.heap)
    (omega (arith, s, ap (λ (q : ℕ). l * q) after)) (c.in-Some.ensures.compares l b) before (made_is g c)

pub returns-in-Some-clause-products : goal.returns-in-Some-clause-products
returns-in-Some-clause-products g c =
    let p = c.sum_at.ensures.products in
    let a = ap made (read_after g c) in
    let b = ap made c.deref_mut.ensures.value in
    let t = c.take_top.ensures.products in
    (omega (arith, p.0, a, b, t), omega (arith, p.1, a, b, t))
