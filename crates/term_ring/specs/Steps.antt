-- What each kind of step tells the seat that makes it, and how seats are split and joined.
use Rattle.std.specs.Prelude.{◌≡◌, ℕ, ◌+◌, ◌-◌, ◌^◌, ◌≤◌, List, length, set, Some, None}
use mathlib.Core.List.{IsPrefix}
use Rattle.atomic_table.specs.Table.{Me, Step}
use Rattle.term_ring.specs.declared.view.View.{View}
use Rattle.term_ring.specs.declared.view.Kind.{Kind}
use Rattle.term_ring.specs.declared.view.Kind.TheVariants.{Spent, First, Writing, Reading, SentCopy, TakenCopy}
use Rattle.term_ring.specs.Rule.{LeavesNoRoom, RisesWhere}
use Rattle.term_ring.specs.Views.{Comparable, blank, Gains}

abbrev pub copy_of : Kind → Kind
copy_of Writing = SentCopy
copy_of Reading = TakenCopy
copy_of _ = Spent

module _ {N C : Type 0} where
  -- the view of the table's first seat
  abbrev pub first : C → ℕ → View Kind N C
  first script places = blank First (Some script) places

  abbrev pub spent : View Kind N C
  spent = blank Spent None 0

  abbrev pub writing : View Kind N C → View Kind N C
  writing v = record v { kind = Writing }

  abbrev pub reading : View Kind N C → View Kind N C
  reading v = record v { kind = Reading }

  -- a copy of what an end has sent or taken
  abbrev pub copied : View Kind N C → View Kind N C
  copied v = record v { kind = copy_of v.kind }

module _ {S N C : Type 0} where
  -- a load of the head by the writer, which finds r; it is in vain where r leaves no room
  abbrev pub LooksAtHead : Step S → Me S (View Kind N C) → ℕ → Me S (View Kind N C) → Type 0
  LooksAtHead st m r w =
      (w ≡ (record m.0 { seen = r; looks = w.0.looks }, m.1))
      × RisesWhere (LeavesNoRoom r m.0.places (length m.0.notes)) m.0.looks w.0.looks
      × (m.0.seen ≤ r)
      × (r ≤ length m.0.notes)
      × (length m.0.notes ≤ r + m.0.places)
      × (length m.0.told ≤ r)
      × IsPrefix m.0.told m.0.notes

  -- a store over the last word that the writer knows of the next place
  abbrev pub Puts : Step S → Me S (View Kind N C) → ℕ → Me S (View Kind N C) → Type 0
  Puts st m r w = w ≡ (record m.0 { words = set m.0.words (length m.0.words - 1) st.first }, m.1)

  -- a load of the tail by the reader, which finds r; it is in vain where each note that was sent is taken
  abbrev pub LooksAtTail : Step S → Me S (View Kind N C) → ℕ → Me S (View Kind N C) → Type 0
  LooksAtTail st m r w =
      (w ≡ (record m.0 { seen = r; looks = w.0.looks }, m.1))
      × RisesWhere (r ≡ length m.0.notes) m.0.looks w.0.looks
      × (m.0.seen ≤ r)
      × (length m.0.notes ≤ r)
      × (r ≤ length m.0.notes + m.0.places)
      × (r ≤ 2 ^ 63)
      × (length m.0.told ≤ r)
      × Comparable m.0.notes m.0.told

  -- a store of the head: the note that the words spell is taken
  abbrev pub Takes : (N → List ℕ) → (C → N → Type 0) → (C → List N → Type 0) → Step S → Me S (View Kind N C) → ℕ → Me S (View Kind N C) → Type 0
  Takes words fits carry st m r w = Gains words fits carry m.0.words m w
