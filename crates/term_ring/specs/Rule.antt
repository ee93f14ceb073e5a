-- The rule of a ring's table: what its words are, and what each seat knows.
use Rattle.std.specs.Prelude.{◌≡◌, ◌⊎◌, ℕ, ◌+◌, ◌*◌, ◌%◌, ◌^◌, ◌<◌, ◌≤◌, List, [], ◌++◌, length, slice_index, Some}
use mathlib.Core.List.{IsPrefix}
use mathlib.Core.Option.{some}
use lib.ListN.{get_elem?}
use Rattle.atomic_table.specs.Table.{State}
use Rattle.term_ring.specs.declared.view.View.{View}
use Rattle.term_ring.specs.declared.view.Kind.{Kind}
use Rattle.term_ring.specs.declared.view.Kind.TheVariants.{Spent, First, Writing, Reading, SentCopy, TakenCopy}

-- where the head and the tail stand
abbrev pub head_word : ℕ
head_word = 0

abbrev pub tail_word : ℕ
tail_word = 16

-- how many words a ring of so many places has
abbrev pub words_of_ring : ℕ → ℕ
words_of_ring places = 32 + 5 * places

-- where the word k of the note with the number i stands
abbrev pub place : ℕ → ℕ → ℕ → ℕ
place places i k = 32 + 5 * (i % places) + k

-- after so many notes this head leaves no room for a next one: each place holds a note, or 2^63 notes were sent
abbrev pub LeavesNoRoom : ℕ → ℕ → ℕ → Type 0
LeavesNoRoom head places sent = (head + places ≡ sent) ⊎ (sent ≡ 2 ^ 63)

-- a count goes up by one where P holds, and stays where it doesn't
pub record RisesWhere (P : Type 0) (before after : ℕ) : Type 0 where
  pub raised : P → after ≡ before + 1
  pub stays : ¬ P → after ≡ before

-- what the writer knows, where these notes were taken, these are inside and these words begin the next place
pub record WriterKnows {N C : Type 0} (script : C) (places : ℕ) (taken inside : List N) (stored : List ℕ) (parted writer seat : ℕ) (v : View Kind N C) : Type 0 where
  pub begun : parted ≡ 1
  pub mine : seat ≡ writer
  pub scripted : v.subject ≡ Some script
  pub sized : v.places ≡ places
  pub all : v.notes ≡ taken ++ inside
  pub saw : v.seen ≤ length taken
  pub wrote : v.words ≡ stored
  pub heard : IsPrefix v.told taken

-- what the reader knows
pub record ReaderKnows {N C : Type 0} (words : N → List ℕ) (script : C) (places : ℕ) (taken inside : List N) (parted reader seat : ℕ) (v : View Kind N C) : Type 0 where
  pub begun : parted ≡ 1
  pub mine : seat ≡ reader
  pub scripted : v.subject ≡ Some script
  pub sized : v.places ≡ places
  pub all : v.notes ≡ taken
  pub saw : v.seen ≤ length taken + length inside
  pub short : length v.words ≤ 5
  pub ahead : 0 < length v.words → length taken < v.seen
  pub read : (n : N) → get_elem? inside 0 ≡ some n → (k : ℕ) → k < length v.words → slice_index v.words k ≡ slice_index (words n) k
  pub heard : IsPrefix v.told (taken ++ inside)

-- the table's first seat is alone, and nothing has happened
pub record FirstKnows {N C : Type 0} (script : C) (places : ℕ) (taken inside : List N) (stored : List ℕ) (parted writer seat : ℕ) (v : View Kind N C) : Type 0 where
  pub unbegun : parted ≡ 0
  pub mine : seat ≡ writer
  pub scripted : v.subject ≡ Some script
  pub sized : v.places ≡ places
  pub notes : v.notes ≡ []
  pub seen : v.seen ≡ 0
  pub words : v.words ≡ []
  pub told : v.told ≡ []
  pub taken_none : taken ≡ []
  pub inside_none : inside ≡ []
  pub stored_none : stored ≡ []

module _ {N C : Type 0} (words : N → List ℕ) (script : C) (places : ℕ) (taken inside : List N) (stored : List ℕ) (parted writer reader seat : ℕ) (v : View Kind N C) where
  abbrev pub KnowsAs : Kind → Type 0
  KnowsAs Spent = Unit {0}
  KnowsAs First = FirstKnows script places taken inside stored parted writer seat v
  KnowsAs Writing = WriterKnows script places taken inside stored parted writer seat v
  KnowsAs Reading = ReaderKnows words script places taken inside parted reader seat v
  KnowsAs SentCopy = IsPrefix v.notes (taken ++ inside)
  KnowsAs TakenCopy = IsPrefix v.notes taken

  abbrev pub Knows : Type 0
  Knows = KnowsAs v.kind

-- The head is the number taken and the tail the number sent, and the five words of each note inside spell it. Which notes may be sent is said by `carry`, which no step opens.
pub record IsRing {S N C : Type 0} (words : N → List ℕ) (fits : C → N → Type 0) (carry : C → List N → Type 0) (script : C) (places : ℕ) (s : State S (View Kind N C)) : Type 0 where
  pub taken : List N
  pub inside : List N
  -- the first words of the next place, as far as the writer knows or has stored them
  pub stored : List ℕ
  -- 0 until the reader's seat is split off, and then 1
  pub parted : ℕ
  -- the numbers of the two seats
  pub writer : ℕ
  pub reader : ℕ
  pub some_place : 0 < places
  pub wide : length s.words ≡ words_of_ring places
  pub head_is : slice_index s.words head_word ≡ length taken
  pub tail_is : slice_index s.words tail_word ≡ length taken + length inside
  pub room : length inside ≤ places
  pub few : length taken + length inside ≤ 2 ^ 63
  pub carried : carry script (taken ++ inside)
  pub good : (i : ℕ) (n : N) → get_elem? inside i ≡ some n → fits script n × (length (words n) ≡ 5)
  pub spelt : (i : ℕ) (n : N) → get_elem? inside i ≡ some n → (k : ℕ) → k < 5 → slice_index s.words (place places (length taken + i) k) ≡ slice_index (words n) k
  pub short : length stored ≤ 5
  pub free : 0 < length stored → length inside < places
  pub next : (k : ℕ) → k < length stored → slice_index s.words (place places (length taken + length inside) k) ≡ slice_index stored k
  pub each_seat : (j : ℕ) (v : View Kind N C) → get_elem? s.views j ≡ some v → Knows words script places taken inside stored parted writer reader j v
