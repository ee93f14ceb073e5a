-- The rule of a row's table: what its words are, and what each seat knows.
use Rattle.std.specs.Prelude.{◌≡◌, ℕ, ◌+◌, ◌*◌, ◌<◌, ◌≤◌, List, length, slice_index, Some}
use mathlib.Core.List.{IsPrefix}
use mathlib.Core.Option.{some}
use lib.ListN.{get_elem?}
use Rattle.atomic_table.specs.Table.{State}
use Rattle.term_ring.specs.declared.view.View.{View}
use Rattle.quotient_row.specs.declared.kind.Kind.{Kind}
use Rattle.quotient_row.specs.declared.kind.Kind.TheVariants.{Spent, Publishing, Looking, Copied}

-- where the word k of the note with the number i stands
abbrev pub place : ℕ → ℕ → ℕ
place i k = 1 + 5 * i + k

-- what the writer knows, where these notes are published and these words of the next one are stored
pub record WriterKnows {N C : Type 0} (name : C) (places : ℕ) (notes : List N) (stored : List ℕ) (writer seat : ℕ) (v : View Kind N C) : Type 0 where
  pub mine : seat ≡ writer
  pub named : v.subject ≡ Some name
  pub sized : v.places ≡ places
  pub all : v.notes ≡ notes
  pub wrote : v.words ≡ stored
  pub heard : IsPrefix v.told notes

-- what a reader knows
pub record ReaderKnows {N C : Type 0} (words : N → List ℕ) (name : C) (places : ℕ) (notes : List N) (v : View Kind N C) : Type 0 where
  pub named : v.subject ≡ Some name
  pub sized : v.places ≡ places
  pub some_of : IsPrefix v.notes notes
  pub saw : v.seen ≤ length notes
  pub ahead : 0 < length v.words → length v.notes < v.seen
  pub read : (n : N) → get_elem? notes (length v.notes) ≡ some n → (k : ℕ) → k < length v.words → slice_index v.words k ≡ slice_index (words n) k
  pub heard : IsPrefix v.told notes

module _ {N C : Type 0} (words : N → List ℕ) (name : C) (places : ℕ) (notes : List N) (stored : List ℕ) (writer seat : ℕ) (v : View Kind N C) where
  abbrev pub KnowsAs : Kind → Type 0
  KnowsAs Spent = Unit {0}
  KnowsAs Publishing = WriterKnows name places notes stored writer seat v
  KnowsAs Looking = ReaderKnows words name places notes v
  KnowsAs Copied = IsPrefix v.notes notes

  abbrev pub Knows : Type 0
  Knows = KnowsAs v.kind

-- The count is the number published, and the five words of each published note spell it. Which notes may be published is said by `legal`, which no step opens.
pub record IsRow {S N C : Type 0} (words : N → List ℕ) (fits : C → N → Type 0) (legal : C → List N → Type 0) (name : C) (places : ℕ) (s : State S (View Kind N C)) : Type 0 where
  pub notes : List N
  -- the words of the next note that the writer has stored
  pub stored : List ℕ
  -- the number of the writer's seat
  pub writer : ℕ
  pub wide : length s.words ≡ 1 + 5 * places
  pub count_is : slice_index s.words 0 ≡ length notes
  pub room : length notes ≤ places
  pub lawful : legal name notes
  pub good : (i : ℕ) (n : N) → get_elem? notes i ≡ some n → fits name n × (length (words n) ≡ 5)
  pub spelt : (i : ℕ) (n : N) → get_elem? notes i ≡ some n → (k : ℕ) → k < 5 → slice_index s.words (place i k) ≡ slice_index (words n) k
  pub free : 0 < length stored → length notes < places
  pub next : (k : ℕ) → k < length stored → slice_index s.words (place (length notes) k) ≡ slice_index stored k
  pub each_seat : (j : ℕ) (v : View Kind N C) → get_elem? s.views j ≡ some v → Knows words name places notes stored writer j v
