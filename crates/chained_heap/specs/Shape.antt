-- What the arrays of the heap keep.
use Rattle.std.specs.Prelude.{ℕ, ◌+◌, ◌<◌, ◌≤◌, ◌≡◌, ◌≢◌, ◌⊎◌, Bool, true, false, cond, ◌==◌, List, [], ◌∷◌, length, take, slice_index_or}
use Rattle.std.specs.declared.cmp.Ordering.{Ordering}
use Rattle.std.specs.Ordering.{is_eq, is_gt}
use Rattle.std.specs.List.{All, sum_by}
use Rattle.std.specs.Slice.Heapsort.{IsHeapWithin}
use Rattle.chained_heap.specs.declared.node.Node.{Node}
use Rattle.chained_heap.specs.declared.node.Place.{Place}
use Rattle.chained_heap.specs.declared.node.Place.TheVariants.{Out, In, Taken}
use Rattle.chained_heap.specs.Order.{node_lt}

-- the mark at the end of a chain
abbrev pub no_row : ℕ
no_row = 4294967295

-- the rows that one passes from first on
abbrev pub Linked : List ℕ → ℕ → List ℕ → Type 0
Linked next first [] = first ≡ no_row
Linked next first (r ∷ c) = (first ≡ r) × (r < length next) × Linked next (slice_index_or next r 0) c

abbrev pub bit : Bool → ℕ
bit b = cond b 1 0

-- how often r stands in a chain
abbrev pub occ : ℕ → List ℕ → ℕ
occ r [] = 0
occ r (q ∷ c) = bit (q == r) + occ r c

module _ {M : Type 0} where
  abbrev pub place_at : List (Place M) → ℕ → Place M
  place_at ps r = slice_index_or ps r Out

  abbrev pub present : Place M → ℕ
  present Out = 0
  present (In m) = 1
  present Taken = 1

  -- not in the heap
  abbrev pub is_free : Place M → ℕ
  is_free Out = 1
  is_free (In m) = 0
  is_free Taken = 1

  abbrev pub is_taken : Place M → Bool
  is_taken Out = false
  is_taken (In m) = false
  is_taken Taken = true

  -- in the heap with a monomial that compares as equal to x
  abbrev pub is_at : (M → M → Ordering) → M → Place M → Bool
  is_at cmp x Out = false
  is_at cmp x (In m) = is_eq (cmp m x)
  is_at cmp x Taken = false

  abbrev pub never : Place M → Bool
  never p = false

  -- a chain of rows whose places pass a test
  pub record Chain (next : List ℕ) (places : List (Place M)) (want : Place M → Bool) (first : ℕ) (rows : List ℕ) : Type 0 where
    pub linked : Linked next first rows
    pub inside : (r : ℕ) → 0 < occ r rows → want (place_at places r) ≡ true

  abbrev pub chain_of : List (List ℕ) → Node M → List ℕ
  chain_of chains a = slice_index_or chains a.row []

  abbrev pub Holds : (M → M → Ordering) → List ℕ → List (Place M) → List (List ℕ) → Node M → Type 0
  Holds cmp next places chains a = Chain next places (is_at cmp a.mono) a.row (chain_of chains a) × (0 < length (chain_of chains a))

  -- each row that isn't out stands once, in the chain of one node, among the loose rows or among the taken ones
  pub record Shape (cmp : M → M → Ordering) (want : Place M → Bool) (nodes : List (Node M)) (next : List ℕ) (places : List (Place M)) (loose taken : ℕ) : Type 0 where
    pub chains : List (List ℕ)
    pub rest : List ℕ
    pub held : List ℕ
    pub each : All (Holds cmp next places chains) nodes
    pub free : Chain next places want loose rest
    pub out : Chain next places is_taken taken held
    pub once : (r : ℕ) → sum_by (λ a. occ r (chain_of chains a)) nodes + occ r rest + occ r held ≡ present (place_at places r)
    pub room : sum_by (λ a. length (chain_of chains a)) nodes + length rest + sum_by is_free places ≤ length places
    pub long : length next ≡ length places
    pub fits : length places ≤ no_row
    pub chained : length chains ≡ length places
    pub wanted : (p : Place M) → want p ≡ true → is_free p ≡ 0

  -- the first len nodes are a heap in the order of their monomials
  abbrev pub IsOrdered : (M → M → Ordering) → List (Node M) → ℕ → Type 0
  IsOrdered cmp nodes len = IsHeapWithin (node_lt cmp) (take len nodes) 0 len

  -- the invariant of the type
  pub record IsChainedHeap (cmp : M → M → Ordering) (nodes : List (Node M)) (len : ℕ) (next : List ℕ) (places : List (Place M)) (taken : ℕ) : Type 0 where
    pub within : len ≤ length nodes
    pub long : length nodes ≡ length places
    pub ordered : IsOrdered cmp nodes len
    pub shape : Shape cmp never (take len nodes) next places no_row taken

  -- x is the greatest monomial in the heap
  pub record IsTop (cmp : M → M → Ordering) (places : List (Place M)) (x : M) : Type 0 where
    pub row : ℕ
    pub here : is_at cmp x (place_at places row) ≡ true
    pub above : (r : ℕ) (m : M) → place_at places r ≡ In m → is_gt (cmp m x) ≡ false

  -- no row is in the heap
  abbrev pub IsEmpty : List (Place M) → Type 0
  IsEmpty places = (r : ℕ) (m : M) → place_at places r ≢ In m

  -- where a row is once the rows at x are taken
  abbrev pub taken_at : (M → M → Ordering) → M → Place M → Place M
  taken_at cmp x p = cond (is_at cmp x p) Taken p

  -- a row that passes the test may have been taken
  abbrev pub MayTake : (Place M → Bool) → Place M → Place M → Type 0
  MayTake want p q = (q ≡ p) ⊎ ((want p ≡ true) × (q ≡ Taken))

  -- rows whose places pass the test
  abbrev pub count_at : (Place M → Bool) → List (Place M) → ℕ
  count_at want ps = sum_by (λ p. bit (want p)) ps

  -- some nodes and some test for which the arrays have their shape
  pub record HasShape (cmp : M → M → Ordering) (next : List ℕ) (places : List (Place M)) (loose taken : ℕ) : Type 0 where
    pub want : Place M → Bool
    pub nodes : List (Node M)
    pub shape : Shape cmp want nodes next places loose taken

  -- the loose rows are taken
  pub record TakesChain (cmp : M → M → Ordering) (want : Place M → Bool) (nodes : List (Node M)) (places : List (Place M)) (first : ℕ) (new_next : List ℕ) (new_places : List (Place M)) (loose new_taken : ℕ) : Type 0 where
    pub shape : Shape cmp want nodes new_next new_places loose new_taken
    pub may : (r : ℕ) → MayTake want (place_at places r) (place_at new_places r)
    pub long : length new_places ≡ length places
    pub fewer : count_at want new_places ≤ count_at want places
    pub some : (loose ≢ first) → count_at want new_places + 1 ≤ count_at want places
