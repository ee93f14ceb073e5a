-- The name of a merge, and how far it has come.
use Rattle.std.specs.Prelude.{ℕ, List, length, map}
use Rattle.term_ring.specs.Names.{RingName}
use Rattle.global_heap.specs.Merges.{MergeView}

-- its rings in order, whose scripts say which product it is of
abbrev pub merge_name : MergeView → List RingName
merge_name v = v.rings

-- how many notes each reader has taken
abbrev pub merge_reached : MergeView → List ℕ
merge_reached v = map (λ notes. length notes) v.state.taken
