-- Rows of products: what was read of each, and what is left.
use Rattle.std.specs.Prelude.{ℕ, zero, suc, ◌+◌, ◌*◌, ◌<◌, ◌≤◌, ◌≡◌, Bool, cond, List, [], ◌∷◌, ◌++◌, length, Option, Some, None, drop, min, sum, sum_by, slice_index_or, pos}
use Rattle.sdmp_laws.specs.Order.{Order}
use Rattle.sdmp_laws.specs.Ring.{IsReduced}
use Rattle.sdmp_laws.specs.Poly.{Term, Same, terms, row, Over, AllBelow, Decreasing, AllDegrees}
use Rattle.chained_heap.specs.declared.node.Place.{Place}
use Rattle.chained_heap.specs.Shape.{is_taken, present, bit}
use Rattle.row_merge.specs.Learned.{AreRows, unread}

-- what is read past the end of a list
abbrev pub nothing : Term
nothing = record { monomial = []; coefficient = pos 0 }

abbrev pub term_at : List Term → ℕ → Term
term_at A k = slice_index_or A k nothing

-- the n terms of A at the places first, first + stride, ..
unfoldable pub strided : List Term → ℕ → ℕ → ℕ → List Term
strided A first stride zero = []
strided A first stride (suc n) = term_at A first ∷ strided A (first + stride) stride n

-- those places are in a list of a length
abbrev pub InRange : ℕ → ℕ → ℕ → ℕ → Type 0
InRange first stride n len = (k : ℕ) → k < n → first + stride * k < len

-- a list of terms whose monomials fall, none of a degree above lim
pub record IsFalling (ord : Order) (n lim : ℕ) (L : List Term) : Type 0 where
  pub vectors : Over n L
  pub decreasing : Decreasing ord L
  pub degrees : AllDegrees lim L

-- how many products row k has read
abbrev pub reads_of : List ℕ → ℕ → ℕ
reads_of reads k = slice_index_or reads k 0

-- how many products were read in all
abbrev pub made : List ℕ → ℕ
made reads = sum reads

-- the columns that rows see: none before the first row has begun
abbrev pub seen : Bool → List Term → List Term
seen begun B = cond begun B []

-- a count that stays at the greatest word has risen from old to new by n
abbrev pub IsCounted : ℕ → ℕ → ℕ → Type 0
IsCounted old n new = (new ≤ old + n) × (min (old + n) 18446744073709551615 ≤ new)

module _ {M : Type 0} where
  -- how many products have come into the heap
  abbrev pub entered : List ℕ → List (Place M) → ℕ
  entered reads places = sum reads + sum_by present places

  abbrev pub taken_rows : List (Place M) → ℕ
  taken_rows places = sum_by (λ p. bit (is_taken p)) places

  -- what the rows keep between calls: each is at its place, and before the first has begun no column is seen
  abbrev pub IsRows : (M → List ℕ) → Order → List Term → List Term → List ℕ → List (Place M) → Bool → Type 0
  IsRows vector ord A B reads places begun = AreRows vector ord None (seen begun B) A reads places

-- t is the sum of the products at the greatest monomial that were not read, which now are read
pub record IsSum (ord : Order) (p n : ℕ) (A B : List Term) (old new : List ℕ) (t : Term) : Type 0 where
  pub vector : length t.monomial ≡ n
  pub reduced : IsReduced p t.coefficient
  pub same : Same p (unread A old B) (t ∷ unread A new B)
  pub below : AllBelow ord t.monomial (unread A new B)

-- the next of the terms of all that was not read, or none: then nothing is left
abbrev pub IsNext : Order → ℕ → List Term → List Term → List ℕ → List ℕ → Option Term → Type 0
IsNext ord p A B old new None = (terms ord p (unread A old B) ≡ []) × (unread A new B ≡ [])
IsNext ord p A B old new (Some t) = terms ord p (unread A old B) ≡ t ∷ terms ord p (unread A new B)
