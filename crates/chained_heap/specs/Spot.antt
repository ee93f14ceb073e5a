-- Where a monomial goes.
use Rattle.std.specs.Prelude.{◌-◌, ◌/◌, ◌<◌, ◌≡◌, ◌⊎◌, false, List, length, slice_index_or}
use Rattle.std.specs.declared.cmp.Ordering.{Ordering}
use Rattle.std.specs.Ordering.{is_lt, is_eq}
use Rattle.std.specs.Prelude.{true}
use Rattle.chained_heap.specs.declared.node.Node.{Node}
use Rattle.chained_heap.specs.declared.sift.Spot.{Spot}
use Rattle.chained_heap.specs.declared.sift.Spot.TheVariants.{Chain, Room}
use Rattle.chained_heap.specs.Order.{Climbs}

-- a node with x, or a place on the path at which x may stand
abbrev pub IsSpot : {M : Type 0} → (M → M → Ordering) → List (Node M) → M → Spot → Type 0
IsSpot {M} cmp xs x (Chain k) = (k < length xs) × ((d : Node M) → is_eq (cmp (slice_index_or xs k d).mono x) ≡ true)
IsSpot {M} cmp xs x (Room k) = Climbs cmp xs x (length xs) k × ((k ≡ 0) ⊎ ((d : Node M) → is_lt (cmp (slice_index_or xs ((k - 1) / 2) d).mono x) ≡ false))
