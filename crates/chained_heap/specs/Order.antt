-- The order of nodes.
use Rattle.std.specs.Prelude.{ℕ, zero, suc, ◌-◌, ◌/◌, ◌<◌, ◌≡◌, Bool, true, List, slice_index_or}
use Rattle.std.specs.declared.cmp.Ordering.{Ordering}
use Rattle.std.specs.Ordering.{is_lt}
use Rattle.chained_heap.specs.declared.node.Node.{Node}

-- nodes compare as their monomials
abbrev pub node_cmp : {M : Type 0} → (M → M → Ordering) → Node M → Node M → Ordering
node_cmp cmp a b = cmp a.mono b.mono

abbrev pub node_lt : {M : Type 0} → (M → M → Ordering) → Node M → Node M → Bool
node_lt cmp a b = is_lt (cmp a.mono b.mono)

-- the place reached from k by t steps towards the root
abbrev pub ups : ℕ → ℕ → ℕ
ups zero k = k
ups (suc t) k = (ups t k - 1) / 2

-- k is below a place whose node is less than x
abbrev pub Over : {M : Type 0} → (M → M → Ordering) → List (Node M) → M → ℕ → Type 0
Over {M} cmp xs x k = (0 < k) × ((d : Node M) → is_lt (cmp (slice_index_or xs ((k - 1) / 2) d).mono x) ≡ true)

-- from n to k the nodes passed are less than x
abbrev pub Climbs : {M : Type 0} → (M → M → Ordering) → List (Node M) → M → ℕ → ℕ → Type 0
Climbs cmp xs x n k = (t : ℕ) × (k ≡ ups t n) × ((s : ℕ) → s < t → Over cmp xs x (ups s n))
