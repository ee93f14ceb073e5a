use Rattle.std.proofs.Common.{◌≡◌, ◌+◌, ◌*◌, ◌^◌, ◌<◌, ◌≤◌, ℕ, length}
use Rattle.chained_heap.specs.Shape.{is_at, count_at}
use Rattle.chained_heap.proofs.TakeTopLoop.{BeforeTake}
use Rattle.chained_heap.proofs.heap.ChainedHeap.take_top.Given as goal

abbrev pub invariant-loop-self : goal.invariant-loop-self
invariant-loop-self g l = record {
  turn : BeforeTake g.M.Ord.cmp l.mono l.self-inside.nodes.items l.self-inside.len l.self-inside.next.items l.self-inside.places.items l.self-inside.taken l.initial.self-inside.places.items;
  nonempty : 0 < l.self-inside.len;
  counted : (b : ℕ) → length l.initial.self-inside.places.items < 2 ^ b → l.steps.compares + 2 * b * count_at (is_at g.M.Ord.cmp l.mono) l.self-inside.places.items ≤ l.initial.steps.compares + 2 * b * count_at (is_at g.M.Ord.cmp l.mono) l.initial.self-inside.places.items;
  products : l.steps.products ≡ l.initial.steps.products;
}

abbrev pub decreases-loop-self : goal.decreases-loop-self
decreases-loop-self g l = l.self-inside.len
