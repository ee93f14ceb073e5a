use Rattle.std.proofs.Common.{◌≡◌, ◌+◌, ◌*◌, ◌<◌, ℕ, ℤ, ◌+ℤ◌, ◌*ℤ◌, List, ◌∷◌, length, get_or, set, sum, None, unsigned_abs, refl, sym, ap, ◌∙◌, subst, arith, le_refl}
use Rattle.std.specs.List.{sum_by}
use Rattle.std.proofs.lemmas.List.{length-set}
use Rattle.chained_heap.specs.declared.node.Place.{Place}
use Rattle.chained_heap.specs.declared.node.Place.TheVariants.{Out}
use Rattle.chained_heap.specs.Shape.{present}
use Rattle.row_merge.specs.Rows.{made, taken_rows}
use Rattle.row_merge.proofs.Counts.{made_read, taken_out, present_out, none_count, step_compares}
use Rattle.std.specs.List.Sorted.{IsPermutation}
use Rattle.std.proofs.lemmas.List.Elements.{All-get_or}
use Rattle.canonical_terms.specs.View.{term_of, sum_of}
use Rattle.row_merge.specs.Learned.{unread, AreRows}
use Rattle.row_merge.proofs.RowLists.{over_sum, long_sum}
use Rattle.row_merge.proofs.Places.{untaken_rows, left_below, all_below}
use Rattle.row_merge.proofs.ProductSums.{Summing, sum_begins, sum_more, sum_size, product_size, fewer_left, sum_ends, taken_row, taken_product, taken_split, taken_mono, coefs_of}
use Rattle.row_merge.proofs.waiting.sum_at.Given as given
use Rattle.row_merge.proofs.waiting.sum_at.Goals as goal
use Rattle.row_merge.proofs.waiting.sum_at.Goals.{In-Some, After-index-learned-reads}

pub loop-row-init : goal.loop-row-init
loop-row-init g c = record {
  rows = c.requires.taken;
  summing = subst (λ (z : ℤ). Summing g.M.Monomial.order (g.R.CoeffRing.characteristic c.args.ring) (g.M.Monomial.vector c.args.mono) (unread (sum_of g.M.Monomial.vector g.R.CoeffRing.value c.args.rows.now) c.args.reads.now (sum_of g.M.Monomial.vector g.R.CoeffRing.value c.args.learned.now)) (unread (sum_of g.M.Monomial.vector g.R.CoeffRing.value c.args.rows.now) c.args.reads.now (sum_of g.M.Monomial.vector g.R.CoeffRing.value c.args.learned.now)) z) (sym c.no_products-sum.ensures.value) (sum_begins g.M.Monomial.order (g.R.CoeffRing.characteristic c.args.ring) (g.M.Monomial.vector c.args.mono) (unread (sum_of g.M.Monomial.vector g.R.CoeffRing.value c.args.rows.now) c.args.reads.now (sum_of g.M.Monomial.vector g.R.CoeffRing.value c.args.learned.now)));
  in_ring = c.no_products-sum.ensures.belongs;
  counts = refl;
  grows = omega arith;
  compares = λ k b. le_refl _;
  products = (omega arith, omega arith);
}

-- the row that was put out, and its product, which is the next of what is left
record Popped (g : given.Over) (c : In-Some g) : Type 0 where
  among : c.in-Some.row < length (sum_of g.M.Monomial.vector g.R.CoeffRing.value c.args.rows.now)
  row : c.in-Some.row < length c.args.rows.now
  read : get_or c.loop-row.reads c.in-Some.row 0 < length c.args.learned.now
  split : IsPermutation (unread (sum_of g.M.Monomial.vector g.R.CoeffRing.value c.args.rows.now) c.loop-row.reads (sum_of g.M.Monomial.vector g.R.CoeffRing.value c.args.learned.now)) ((taken_product (sum_of g.M.Monomial.vector g.R.CoeffRing.value c.args.learned.now) (sum_of g.M.Monomial.vector g.R.CoeffRing.value c.args.rows.now) c.loop-row.reads c.in-Some.row) ∷ (unread (sum_of g.M.Monomial.vector g.R.CoeffRing.value c.args.rows.now) (set c.loop-row.reads c.in-Some.row (get_or c.loop-row.reads c.in-Some.row 0 + 1)) (sum_of g.M.Monomial.vector g.R.CoeffRing.value c.args.learned.now)))
  mono : (taken_product (sum_of g.M.Monomial.vector g.R.CoeffRing.value c.args.learned.now) (sum_of g.M.Monomial.vector g.R.CoeffRing.value c.args.rows.now) c.loop-row.reads c.in-Some.row).monomial ≡ g.M.Monomial.vector c.args.mono

popped : (g : given.Over) (c : In-Some g) → Popped g c
popped g c =
    let e = c.in-Some.ensures in
    let rows = c.loop-row.invariant.rows in
    let h : c.in-Some.row < length (sum_of g.M.Monomial.vector g.R.CoeffRing.value c.args.rows.now) = omega (arith, e.0, rows.places_count) in
    let f = taken_row g.M.Monomial.vector g.M.Monomial.order (g.M.Monomial.vector c.args.mono) (sum_of g.M.Monomial.vector g.R.CoeffRing.value c.args.learned.now) (sum_of g.M.Monomial.vector g.R.CoeffRing.value c.args.rows.now) c.loop-row.reads c.loop-row.heap c.in-Some.row rows h e.1 in
    record {
      among = h;
      row = omega (arith, h, long_sum g.M.Monomial.vector g.R.CoeffRing.value c.args.rows.now);
      read = omega (arith, f.0, long_sum g.M.Monomial.vector g.R.CoeffRing.value c.args.learned.now);
      split = taken_split g.M.Monomial.vector g.M.Monomial.order (g.M.Monomial.vector c.args.mono) (sum_of g.M.Monomial.vector g.R.CoeffRing.value c.args.learned.now) (sum_of g.M.Monomial.vector g.R.CoeffRing.value c.args.rows.now) c.loop-row.reads c.loop-row.heap c.in-Some.row rows h e.1;
      mono = taken_mono g.M.Monomial.vector g.M.Monomial.order (g.M.Monomial.vector c.args.mono) (sum_of g.M.Monomial.vector g.R.CoeffRing.value c.args.learned.now) (sum_of g.M.Monomial.vector g.R.CoeffRing.value c.args.rows.now) c.loop-row.reads c.loop-row.heap c.in-Some.row rows h e.1;
    }

-- the product of the coefficients that were read is that of the terms
coefs : (g : given.Over) (c : After-index-learned-reads g) → c.in-Some.row < length c.args.rows.now → get_or c.loop-row.reads c.in-Some.row 0 < length c.args.learned.now
    → g.R.CoeffRing.value (get_or c.args.rows.now c.in-Some.row c.index-rows-at.result).coef *ℤ g.R.CoeffRing.value (get_or c.args.learned.now (get_or c.loop-row.reads c.in-Some.row 0) c.index-learned-reads.result).coef ≡ (taken_product (sum_of g.M.Monomial.vector g.R.CoeffRing.value c.args.learned.now) (sum_of g.M.Monomial.vector g.R.CoeffRing.value c.args.rows.now) c.loop-row.reads c.in-Some.row).coefficient
coefs g c r l = coefs_of g.M.Monomial.vector g.R.CoeffRing.value c.args.rows.now c.args.learned.now c.loop-row.reads c.in-Some.row c.index-rows-at.result c.index-learned-reads.result r l

pub offset_bounds-learned-reads : goal.offset_bounds-learned-reads
offset_bounds-learned-reads g c =
    let p = popped g (goal.at.offset_bounds-learned-reads g c).In-Some in
    omega (arith, p.read)

pub bounds-learned-reads : goal.bounds-learned-reads
bounds-learned-reads g c =
    let p = popped g (goal.at.bounds-learned-reads g c).In-Some in
    p.read

pub bounds-learned-reads-in-Some : goal.bounds-learned-reads-in-Some
bounds-learned-reads-in-Some g c =
    let p = popped g (goal.at.bounds-learned-reads-in-Some g c).In-Some in
    p.read

pub add_product-sum-requires-clause-right : goal.add_product-sum-requires-clause-right
add_product-sum-requires-clause-right g c =
    let p = popped g (goal.at.add_product-sum-requires-clause-right g c).In-Some in
    All-get_or (λ t. g.R.CoeffRing.belongs (g.R.CoeffRing.characteristic c.args.ring) t.coef) c.args.learned.now (get_or c.loop-row.reads c.in-Some.row 0) c.index-learned-reads.result p.read c.requires.learned_belong

pub add_product-sum-requires-clause-product_room : goal.add_product-sum-requires-clause-product_room
add_product-sum-requires-clause-product_room g c =
    let p = popped g (goal.at.add_product-sum-requires-clause-product_room g c).In-Some in
    let rings = g.met.R.CoeffRing g.world.𝓛 g.world.𝓜 g.world.𝓡 ((λ s x. x), (λ x. x), (λ x. x), λ x. x) in
    rings.has_room c.args.ring _ (λ z. let k = ap unsigned_abs (coefs g (goal.at.add_product-sum-requires-clause-product_room g c).After-index-learned-reads p.row p.read) in omega (arith, k, product_size g.M.Monomial.order (g.R.CoeffRing.characteristic c.args.ring) (g.M.Monomial.vector c.args.mono) (unread (sum_of g.M.Monomial.vector g.R.CoeffRing.value c.args.rows.now) c.args.reads.now (sum_of g.M.Monomial.vector g.R.CoeffRing.value c.args.learned.now)) (unread (sum_of g.M.Monomial.vector g.R.CoeffRing.value c.args.rows.now) c.loop-row.reads (sum_of g.M.Monomial.vector g.R.CoeffRing.value c.args.learned.now)) (unread (sum_of g.M.Monomial.vector g.R.CoeffRing.value c.args.rows.now) (set c.loop-row.reads c.in-Some.row (get_or c.loop-row.reads c.in-Some.row 0 + 1)) (sum_of g.M.Monomial.vector g.R.CoeffRing.value c.args.learned.now)) (taken_product (sum_of g.M.Monomial.vector g.R.CoeffRing.value c.args.learned.now) (sum_of g.M.Monomial.vector g.R.CoeffRing.value c.args.rows.now) c.loop-row.reads c.in-Some.row) _ c.loop-row.invariant.summing p.split, c.requires.fits z))

pub add_product-sum-requires-clause-sum_room : goal.add_product-sum-requires-clause-sum_room
add_product-sum-requires-clause-sum_room g c =
    let p = popped g (goal.at.add_product-sum-requires-clause-sum_room g c).In-Some in
    let rings = g.met.R.CoeffRing g.world.𝓛 g.world.𝓜 g.world.𝓡 ((λ s x. x), (λ x. x), (λ x. x), λ x. x) in
    rings.has_room c.args.ring _ (λ z.
    let s = subst (λ (q : ℕ). Summing g.M.Monomial.order q (g.M.Monomial.vector c.args.mono) (unread (sum_of g.M.Monomial.vector g.R.CoeffRing.value c.args.rows.now) c.args.reads.now (sum_of g.M.Monomial.vector g.R.CoeffRing.value c.args.learned.now)) (unread (sum_of g.M.Monomial.vector g.R.CoeffRing.value c.args.rows.now) c.loop-row.reads (sum_of g.M.Monomial.vector g.R.CoeffRing.value c.args.learned.now)) (g.R.CoeffRing.sum_value q c.loop-row.sum)) z c.loop-row.invariant.summing in
    omega (arith, sum_size g.M.Monomial.order (g.M.Monomial.vector c.args.mono) (unread (sum_of g.M.Monomial.vector g.R.CoeffRing.value c.args.rows.now) c.args.reads.now (sum_of g.M.Monomial.vector g.R.CoeffRing.value c.args.learned.now)) (unread (sum_of g.M.Monomial.vector g.R.CoeffRing.value c.args.rows.now) c.loop-row.reads (sum_of g.M.Monomial.vector g.R.CoeffRing.value c.args.learned.now)) (unread (sum_of g.M.Monomial.vector g.R.CoeffRing.value c.args.rows.now) (set c.loop-row.reads c.in-Some.row (get_or c.loop-row.reads c.in-Some.row 0 + 1)) (sum_of g.M.Monomial.vector g.R.CoeffRing.value c.args.learned.now)) (taken_product (sum_of g.M.Monomial.vector g.R.CoeffRing.value c.args.learned.now) (sum_of g.M.Monomial.vector g.R.CoeffRing.value c.args.rows.now) c.loop-row.reads c.in-Some.row) (g.R.CoeffRing.sum_value 0 c.loop-row.sum) (g.R.CoeffRing.value (get_or c.args.rows.now c.in-Some.row c.index-rows-at.result).coef *ℤ g.R.CoeffRing.value (get_or c.args.learned.now (get_or c.loop-row.reads c.in-Some.row 0) c.index-learned-reads.result).coef) s p.split p.mono (coefs g (goal.at.add_product-sum-requires-clause-sum_room g c).After-index-learned-reads p.row p.read), ap (λ (q : ℕ). unsigned_abs (g.R.CoeffRing.sum_value q c.loop-row.sum +ℤ g.R.CoeffRing.value (get_or c.args.rows.now c.in-Some.row c.index-rows-at.result).coef *ℤ g.R.CoeffRing.value (get_or c.args.learned.now (get_or c.loop-row.reads c.in-Some.row 0) c.index-learned-reads.result).coef)) z, c.requires.fits z))

pub loop-row-smaller : goal.loop-row-smaller
loop-row-smaller g c =
    let p = popped g (goal.at.loop-row-smaller g c).In-Some in
    subst (λ (reads : List ℕ). length (unread (sum_of g.M.Monomial.vector g.R.CoeffRing.value c.args.rows.now) reads (sum_of g.M.Monomial.vector g.R.CoeffRing.value c.args.learned.now)) < length (unread (sum_of g.M.Monomial.vector g.R.CoeffRing.value c.args.rows.now) c.loop-row.reads (sum_of g.M.Monomial.vector g.R.CoeffRing.value c.args.learned.now))) (sym c.move_on.ensures.reads) (fewer_left (unread (sum_of g.M.Monomial.vector g.R.CoeffRing.value c.args.rows.now) c.loop-row.reads (sum_of g.M.Monomial.vector g.R.CoeffRing.value c.args.learned.now)) (unread (sum_of g.M.Monomial.vector g.R.CoeffRing.value c.args.rows.now) (set c.loop-row.reads c.in-Some.row (get_or c.loop-row.reads c.in-Some.row 0 + 1)) (sum_of g.M.Monomial.vector g.R.CoeffRing.value c.args.learned.now)) (taken_product (sum_of g.M.Monomial.vector g.R.CoeffRing.value c.args.learned.now) (sum_of g.M.Monomial.vector g.R.CoeffRing.value c.args.rows.now) c.loop-row.reads c.in-Some.row) p.split)

pub loop-row-preserved : goal.loop-row-preserved
loop-row-preserved g c =
    let p = popped g (goal.at.loop-row-preserved g c).In-Some in
    let e = c.in-Some.ensures in
    let rows = c.loop-row.invariant.rows in
    let inv = c.loop-row.invariant in
    let made : made c.move_on.new.reads ≡ made c.loop-row.reads + 1 = ap made c.move_on.ensures.reads ∙ made_read c.loop-row.reads c.in-Some.row (omega (arith, p.among, rows.reads_count)) in
    let taken : taken_rows c.pop_taken.new.self + 1 ≡ taken_rows c.loop-row.heap = omega (arith, ap taken_rows e.2, taken_out c.loop-row.heap c.in-Some.row e.0 e.1) in
    record {
      rows = c.move_on.ensures.rows (g.M.Monomial.vector c.args.mono) c.loop-row.heap (record { rows_are = rows; among = p.among; taken = e.1; out = e.2 });
      summing = subst (λ (reads : List ℕ). Summing g.M.Monomial.order (g.R.CoeffRing.characteristic c.args.ring) (g.M.Monomial.vector c.args.mono) (unread (sum_of g.M.Monomial.vector g.R.CoeffRing.value c.args.rows.now) c.args.reads.now (sum_of g.M.Monomial.vector g.R.CoeffRing.value c.args.learned.now)) (unread (sum_of g.M.Monomial.vector g.R.CoeffRing.value c.args.rows.now) reads (sum_of g.M.Monomial.vector g.R.CoeffRing.value c.args.learned.now)) (g.R.CoeffRing.sum_value (g.R.CoeffRing.characteristic c.args.ring) c.add_product-sum.result)) (sym c.move_on.ensures.reads)
          (sum_more g.M.Monomial.order (g.R.CoeffRing.characteristic c.args.ring) (g.M.Monomial.vector c.args.mono) (unread (sum_of g.M.Monomial.vector g.R.CoeffRing.value c.args.rows.now) c.args.reads.now (sum_of g.M.Monomial.vector g.R.CoeffRing.value c.args.learned.now)) (unread (sum_of g.M.Monomial.vector g.R.CoeffRing.value c.args.rows.now) c.loop-row.reads (sum_of g.M.Monomial.vector g.R.CoeffRing.value c.args.learned.now)) (unread (sum_of g.M.Monomial.vector g.R.CoeffRing.value c.args.rows.now) (set c.loop-row.reads c.in-Some.row (get_or c.loop-row.reads c.in-Some.row 0 + 1)) (sum_of g.M.Monomial.vector g.R.CoeffRing.value c.args.learned.now)) (taken_product (sum_of g.M.Monomial.vector g.R.CoeffRing.value c.args.learned.now) (sum_of g.M.Monomial.vector g.R.CoeffRing.value c.args.rows.now) c.loop-row.reads c.in-Some.row) (g.R.CoeffRing.sum_value (g.R.CoeffRing.characteristic c.args.ring) c.loop-row.sum) (g.R.CoeffRing.value (get_or c.args.rows.now c.in-Some.row c.index-rows-at.result).coef *ℤ g.R.CoeffRing.value (get_or c.args.learned.now (get_or c.loop-row.reads c.in-Some.row 0) c.index-learned-reads.result).coef) (g.R.CoeffRing.sum_value (g.R.CoeffRing.characteristic c.args.ring) c.add_product-sum.result) c.loop-row.invariant.summing p.split p.mono (coefs g (goal.at.loop-row-preserved g c).After-index-learned-reads p.row p.read) c.add_product-sum.ensures.value);
      in_ring = c.add_product-sum.ensures.belongs;
      counts = omega (arith, inv.counts, made, taken, c.move_on.ensures.taken);
      grows = omega (arith, inv.grows, made);
      compares = λ k b. step_compares k c.args.steps.now.compares c.loop-row.steps.compares c.move_on.new.steps.compares (sum c.args.reads.now) (sum c.loop-row.reads) (sum c.move_on.new.reads) (sum_by present c.args.heap.now) (sum_by present c.loop-row.heap) (sum_by present c.pop_taken.new.self) (sum_by present c.move_on.new.heap)
          (inv.compares k b) (omega (arith, ap (sum_by present) e.2, present_out c.loop-row.heap c.in-Some.row e.0 e.1)) made
          (let m = c.move_on.ensures.compares k (omega (arith, b, ap length e.2, length-set c.loop-row.heap c.in-Some.row Out, rows.places_count, c.requires.taken.places_count)) in omega (arith, m, c.add_product-sum.ensures.compares));
      products = (omega (arith, inv.products.0, inv.grows, made, c.add_product-sum.ensures.products, c.move_on.ensures.products), omega (arith, inv.products.1, inv.grows, made, c.add_product-sum.ensures.products, c.move_on.ensures.products));
    }

pub returns-clause-out : goal.returns-clause-out
returns-clause-out g c =
    let monos = g.met.M.Monomial g.world.𝓛 g.world.𝓜 g.world.𝓡 ((λ s x. x), (λ x. x), (λ x. x), λ x. x) in
    let none = (c.in_default.ensures).0 in
    sum_ends g.M.Monomial.order (g.R.CoeffRing.characteristic c.args.ring) (unread (sum_of g.M.Monomial.vector g.R.CoeffRing.value c.args.rows.now) c.args.reads.now (sum_of g.M.Monomial.vector g.R.CoeffRing.value c.args.learned.now)) (unread (sum_of g.M.Monomial.vector g.R.CoeffRing.value c.args.rows.now) c.loop-row.reads (sum_of g.M.Monomial.vector g.R.CoeffRing.value c.args.learned.now)) (term_of g.M.Monomial.vector g.R.CoeffRing.value (record { mono = c.args.mono; coef = c.total.result })) (subst (λ (z : ℤ). Summing g.M.Monomial.order (g.R.CoeffRing.characteristic c.args.ring) (g.M.Monomial.vector c.args.mono) (unread (sum_of g.M.Monomial.vector g.R.CoeffRing.value c.args.rows.now) c.args.reads.now (sum_of g.M.Monomial.vector g.R.CoeffRing.value c.args.learned.now)) (unread (sum_of g.M.Monomial.vector g.R.CoeffRing.value c.args.rows.now) c.loop-row.reads (sum_of g.M.Monomial.vector g.R.CoeffRing.value c.args.learned.now)) z) (sym c.total.ensures.value) c.loop-row.invariant.summing)
    (all_below g.M.Monomial.order (g.M.Monomial.vector c.args.mono) (unread (sum_of g.M.Monomial.vector g.R.CoeffRing.value c.args.rows.now) c.loop-row.reads (sum_of g.M.Monomial.vector g.R.CoeffRing.value c.args.learned.now)) (left_below g.M.Monomial.vector g.M.Monomial.order (g.M.Monomial.vector c.args.mono) (sum_of g.M.Monomial.vector g.R.CoeffRing.value c.args.learned.now) (sum_of g.M.Monomial.vector g.R.CoeffRing.value c.args.rows.now) c.loop-row.reads c.loop-row.heap g.M.Monomial.VARS (monos.vars c.args.mono) c.loop-row.invariant.rows none c.requires.rows_fall (over_sum g.M.Monomial.vector g.R.CoeffRing.value g.M.Monomial.VARS monos.vars c.args.rows.now) c.requires.learned_fall (over_sum g.M.Monomial.vector g.R.CoeffRing.value g.M.Monomial.VARS monos.vars c.args.learned.now)))

pub returns-clause-rows : goal.returns-clause-rows
returns-clause-rows g c =
    let none = c.in_default.ensures in
    subst (λ places. AreRows g.M.Monomial.vector g.M.Monomial.order None (sum_of g.M.Monomial.vector g.R.CoeffRing.value c.args.learned.now) (sum_of g.M.Monomial.vector g.R.CoeffRing.value c.args.rows.now) c.loop-row.reads places) (sym none.1) (untaken_rows g.M.Monomial.vector g.M.Monomial.order (g.M.Monomial.vector c.args.mono) (sum_of g.M.Monomial.vector g.R.CoeffRing.value c.args.learned.now) (sum_of g.M.Monomial.vector g.R.CoeffRing.value c.args.rows.now) c.loop-row.reads c.loop-row.heap c.loop-row.invariant.rows none.0)

pub returns-clause-reads : goal.returns-clause-reads
returns-clause-reads g c = omega (arith, c.loop-row.invariant.counts, none_count c.loop-row.heap c.in_default.ensures.0)

pub returns-clause-compares : goal.returns-clause-compares
returns-clause-compares g c = λ l b. omega (arith, c.loop-row.invariant.compares l b, ap (λ (ps : List (Place _)). l * (made c.loop-row.reads + sum_by present ps)) c.in_default.ensures.1)
