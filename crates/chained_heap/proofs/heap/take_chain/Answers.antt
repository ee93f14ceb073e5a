use Rattle.std.proofs.Common.{◌≡◌, ◌+◌, ◌-◌, ◌<◌, ◌≤◌, ℕ, Bool, true, List, length, get_or, set, subst, sym, arith}
use Rattle.std.specs.List.{sum_by}
use Rattle.std.proofs.lemmas.List.{length-set}
use Rattle.chained_heap.specs.declared.node.Place.TheVariants.{Out, Taken}
use Rattle.chained_heap.specs.declared.node.Place.{Place}
use Rattle.std.proofs.lemmas.List.Sums.{sum_by-set}
use Rattle.chained_heap.specs.Shape.{Shape, TakesChain, is_free, place_at}
use Rattle.chained_heap.proofs.Insertions.{few}
use Rattle.chained_heap.proofs.Takes.{move_one, takes_begins, takes_steps}
use Rattle.chained_heap.proofs.heap.take_chain.Goals as goal

falls : {M : Type 0} (want : Place M → Bool) (ps : List (Place M)) (row : ℕ) → ((p : Place M) → want p ≡ true → is_free p ≡ 0) → want (place_at ps row) ≡ true → row < length ps → (k : ℕ) × (k + sum_by is_free (set ps row Taken) ≤ length (set ps row Taken)) → length (set ps row Taken) - sum_by is_free (set ps row Taken) < length ps - sum_by is_free ps
falls want ps row w h l f =
    let e = sum_by-set is_free ps row Taken Out l in
    let z : is_free (get_or ps row Out) ≡ 0 = w (place_at ps row) h in
    omega (arith, f.1, length-set ps row Taken)

pub bounds-next-slot : goal.bounds-next-slot
bounds-next-slot g c = let s = c.loop-row.invariant.shaped in (move_one g.M.Ord.cmp s.want s.nodes c.loop-row.next c.loop-row.places.items c.loop-row.row c.loop-row.taken s.shape c.loop-row-test.true).0

pub bounds-next-slot-in-loop-row : goal.bounds-next-slot-in-loop-row
bounds-next-slot-in-loop-row g c = let s = c.loop-row.invariant.shaped in (move_one g.M.Ord.cmp s.want s.nodes c.loop-row.next c.loop-row.places.items c.loop-row.row c.loop-row.taken s.shape c.loop-row-test.true).0

pub loop-row-init : goal.loop-row-init
loop-row-init g c = record {
  takes = λ want H off s. takes_begins g.M.Ord.cmp want H c.args.places.now.items c.args.first c.args.next.now c.args.taken s;
  shaped = c.requires;
}

pub loop-row-smaller : goal.loop-row-smaller
loop-row-smaller g c =
    let s = c.loop-row.invariant.shaped in
    let m = move_one g.M.Ord.cmp s.want s.nodes c.loop-row.next c.loop-row.places.items c.loop-row.row c.loop-row.taken s.shape c.loop-row-test.true in
    subst (λ ps. length ps - sum_by is_free ps < length c.loop-row.places.items - sum_by is_free c.loop-row.places.items) (sym c.with.ensures)
    (falls s.want c.loop-row.places.items c.loop-row.row s.shape.wanted m.1 (omega (arith, m.0, s.shape.long)) (length s.nodes, few g.M.Ord.cmp s.want s.nodes _ _ _ _ m.2))

pub loop-row-preserved : goal.loop-row-preserved
loop-row-preserved g c =
    let s = c.loop-row.invariant.shaped in
    let m = move_one g.M.Ord.cmp s.want s.nodes c.loop-row.next c.loop-row.places.items c.loop-row.row c.loop-row.taken s.shape c.loop-row-test.true in
    record {
      takes = λ want H off k. subst (λ ps. TakesChain g.M.Ord.cmp want H c.args.places.now.items c.args.first (set c.loop-row.next c.loop-row.row c.loop-row.taken) ps (get_or c.loop-row.next c.loop-row.row 0) c.loop-row.row) (sym c.with.ensures)
          (takes_steps g.M.Ord.cmp want H c.args.places.now.items c.args.first c.loop-row.next c.loop-row.places.items c.loop-row.row c.loop-row.taken off c.loop-row-test.true (c.loop-row.invariant.takes want H off k));
      shaped = record {
        want = s.want;
        nodes = s.nodes;
        shape = subst (λ ps. Shape g.M.Ord.cmp s.want s.nodes (set c.loop-row.next c.loop-row.row c.loop-row.taken) ps (get_or c.loop-row.next c.loop-row.row 0) c.loop-row.row) (sym c.with.ensures) m.2;
      };
    }

pub returns : goal.returns
returns g c = λ want H off s.
    subst (λ r. TakesChain g.M.Ord.cmp want H c.args.places.now.items c.args.first c.loop-row.next c.loop-row.places.items r c.loop-row.taken) c.loop-row-test.false (c.loop-row.invariant.takes want H off s)
