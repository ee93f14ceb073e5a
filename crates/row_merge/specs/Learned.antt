-- The rows of a divisor, and the products of learned terms that they still hold.
use Rattle.std.specs.Prelude.{◌≡◌, ℕ, ◌+◌, ◌*◌, ◌<◌, ◌≤◌, List, [], ◌∷◌, ◌++◌, length, drop, slice_index_or, slice_index, slice_set, ◌⊎◌, pos, Option, Some, None, ℤ, ◌^◌, IsPermutation}
use Rattle.std.specs.List.{All, Contains}
use Rattle.sdmp_laws.specs.Order.{Order, ◌⋅◌, IsUnder, degree}
use Rattle.sdmp_laws.specs.Poly.{Term, coef, row, norm, Over, AllBelow, Decreasing, AllDegrees, lm}
use Rattle.sdmp_laws.specs.Division.{AllAtOrBelow}
use Rattle.sdmp_laws.specs.Limits.{greatest_norm}
use Rattle.sdmp_laws.specs.Canonical.{IsCanonical}
use Rattle.canonical_terms.specs.declared.term.TermOf.{TermOf}
use Rattle.canonical_terms.specs.View.{sum_of}
use Rattle.chained_heap.specs.declared.node.Place.{Place}
use Rattle.chained_heap.specs.declared.node.Place.TheVariants.{Out, In, Taken}
use Rattle.chained_heap.specs.Shape.{place_at}

-- what contracts see of the rows of a divisor: the modulus, the divisor, those of its terms that are rows, the terms learned, the products of a row and a learned term that were not handed out, and how many more terms find room
pub record QuotientState : Type 0 where
  pub modulus : ℕ
  pub divisor : List Term
  pub rows : List Term
  pub learned : List Term
  pub unread : List Term
  pub spare : ℕ

-- x is the greatest monomial of A
pub record IsGreatest (ord : Order) (A : List Term) (x : List ℕ) : Type 0 where
  pub some : Term
  pub inside : Contains A some
  pub at : some.monomial ≡ x
  pub below : AllAtOrBelow ord x A

-- ---- inside the rows
-- the products that are left where each row has read so many of the learned terms
unfoldable pub unread : List Term → List ℕ → List Term → List Term
unread [] reads learned = []
unread (s ∷ rows) [] learned = []
unread (s ∷ rows) (r ∷ reads) learned = row s (drop r learned) ++ unread rows reads learned

abbrev pub no_term : Term
no_term = record { monomial = []; coefficient = pos 0 }

-- the monomial of the product of row k and the learned term i
abbrev pub product_at : List Term → List Term → ℕ → ℕ → List ℕ
product_at rows learned k i = (slice_index_or rows k no_term).monomial ⋅ (slice_index_or learned i no_term).monomial

-- how far row k may read before it waits: the first for a term that isn't learned, each other for the row before it
abbrev pub ceiling : List Term → List ℕ → ℕ → ℕ
ceiling learned reads k = slice_index (length learned ∷ reads) k

-- the rows at the greatest monomial x are taken; where there is no x, no row is
unfoldable pub IsTakenAt : Option (List ℕ) → List ℕ → Type 0
IsTakenAt None m = ⊥
IsTakenAt (Some x) m = m ≡ x

-- where a row is: out while it waits, else at its next product m
unfoldable pub IsPlaced : {M : Type 0} → (M → List ℕ) → Order → Option (List ℕ) → Place M → ℕ → ℕ → List ℕ → Type 0
IsPlaced vector ord x Out read top m = read ≡ top
IsPlaced vector ord x (In a) read top m = (read < top) × (vector a ≡ m) × IsUnder ord x m
IsPlaced vector ord x Taken read top m = (read < top) × IsTakenAt x m

-- each row is at its place
pub record AreRows {M : Type 0} (vector : M → List ℕ) (ord : Order) (x : Option (List ℕ)) (learned rows : List Term) (reads : List ℕ) (places : List (Place M)) : Type 0 where
  pub reads_count : length reads ≡ length rows
  pub places_count : length places ≡ length rows
  pub falling : (k : ℕ) → k < length rows → slice_index reads k ≤ ceiling learned reads k
  pub placed : (k : ℕ) → k < length rows → IsPlaced vector ord x (place_at places k) (slice_index reads k) (ceiling learned reads k) (product_at rows learned k (slice_index reads k))

-- the row is put at its product where it no longer waits, and stays where it is else
abbrev pub IsMoved : {M : Type 0} → (M → List ℕ) → ℕ → List ℕ → Type 0 → List (Place M) → List (Place M) → Type 0
IsMoved {M} vector k m opens old new = (opens × ((a : M) × (vector a ≡ m) × (new ≡ slice_set old k (In a)))) ⊎ ((opens → ⊥) × (new ≡ old))

-- row k, one of those taken at some x, was just put out
pub record IsPopped {M : Type 0} (vector : M → List ℕ) (ord : Order) (x : List ℕ) (learned rows : List Term) (reads : List ℕ) (before places : List (Place M)) (k : ℕ) : Type 0 where
  pub rows_are : AreRows vector ord (Some x) learned rows reads before
  pub among : k < length rows
  pub taken : place_at before k ≡ Taken
  pub out : places ≡ slice_set before k Out

pub record HasPopped {M : Type 0} (vector : M → List ℕ) (ord : Order) (learned rows : List Term) (reads : List ℕ) (places : List (Place M)) (k : ℕ) : Type 0 where
  pub x : List ℕ
  pub before : List (Place M)
  pub popped : IsPopped vector ord x learned rows reads before places k

-- what the rows and the learned terms keep
pub record AreLearned (ord : Order) (p n lim : ℕ) (divisor rows learned : List Term) : Type 0 where
  pub divisor_is : IsCanonical ord p n lim divisor
  pub rows_vectors : Over n rows
  pub rows_fall : Decreasing ord rows
  pub rows_degrees : AllDegrees (degree (lm divisor)) rows
  pub rows_norm : norm rows ≤ norm divisor
  pub vectors : Over n learned
  pub fall : Decreasing ord learned
  pub degrees : All (λ t. degree t.monomial + degree (lm divisor) ≤ lim) learned
  pub fits : p ≡ 0 → norm learned * norm divisor ≤ greatest_norm

-- what a value of the rows keeps
pub record AreQuotientRows {M E : Type 0} (vector : M → List ℕ) (value : E → ℤ) (belongs : E → Type 0) (ord : Order) (p n lim : ℕ) (divisor : List Term) (rows learned : List (TermOf M E)) (reads : List ℕ) (places : List (Place M)) : Type 0 where
  pub placed : AreRows vector ord None (sum_of vector value learned) (sum_of vector value rows) reads places
  pub kept : AreLearned ord p n lim divisor (sum_of vector value rows) (sum_of vector value learned)
  pub rows_belong : All (λ t. belongs t.coef) rows
  pub learned_belong : All (λ t. belongs t.coef) learned
  pub few : length rows < 2 ^ 32

-- of the products `before`, those at the monomial of t are taken out, t is their sum, and `after` are the others, all below
pub record TakesOut (ord : Order) (p : ℕ) (before after : List Term) (t : Term) : Type 0 where
  pub taken : List Term
  pub split : IsPermutation before (taken ++ after)
  pub at : All (λ u. u.monomial ≡ t.monomial) taken
  pub below : AllBelow ord t.monomial after
  pub sum : t.coefficient ≡ coef p before t.monomial

-- the rows hand out t, the sum of all their products at the greatest monomial
pub record HandOut (ord : Order) (old new : QuotientState) (t : Term) : Type 0 where
  pub greatest : IsGreatest ord old.unread t.monomial
  pub out : TakesOut ord old.modulus old.unread new.unread t
  pub same : new ≡ record old { unread = new.unread }
