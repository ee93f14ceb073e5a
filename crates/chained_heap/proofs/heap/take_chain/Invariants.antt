use Rattle.std.proofs.Common.{◌≡◌, ◌-◌, false, length}
use Rattle.std.specs.List.{sum_by}
use Rattle.chained_heap.specs.declared.node.Place.TheVariants.{Taken}
use Rattle.chained_heap.specs.Shape.{Shape, TakesChain, HasShape, is_free}
use Rattle.chained_heap.proofs.heap.take_chain.Given as goal

abbrev pub invariant-loop-row : goal.invariant-loop-row
invariant-loop-row g l = record {
  takes : (want : _) (H : _) → want Taken ≡ false → Shape g.M.Ord.cmp want H l.initial.next l.initial.places.items l.initial.row l.initial.taken → TakesChain g.M.Ord.cmp want H l.initial.places.items l.initial.row l.next l.places.items l.row l.taken;
  shaped : HasShape g.M.Ord.cmp l.next l.places.items l.row l.taken;
}

abbrev pub decreases-loop-row : goal.decreases-loop-row
decreases-loop-row g l = length l.places.items - sum_by is_free l.places.items
