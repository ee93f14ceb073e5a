-- What each kind of step tells the seat that makes it, and how seats are split and joined.
use Rattle.std.specs.Prelude.{◌≡◌, ℕ, ◌+◌, ◌≤◌, List, [], ◌∷◌, ◌++◌, length, Some, None}
use mathlib.Core.List.{IsPrefix}
use Rattle.atomic_table.specs.Table.{Me, Step}
use Rattle.term_ring.specs.Views.{Comparable, blank, Gains}
use Rattle.term_ring.specs.declared.view.View.{View}
use Rattle.quotient_row.specs.declared.kind.Kind.{Kind}
use Rattle.quotient_row.specs.declared.kind.Kind.TheVariants.{Spent, Publishing, Looking, Copied}

module _ {N C : Type 0} where
  -- the view of the table's first seat, which is the writer's
  abbrev pub first : C → ℕ → View Kind N C
  first name places = blank Publishing (Some name) places

  abbrev pub spent : View Kind N C
  spent = blank Spent None 0

  -- a new reader, which knows nothing
  abbrev pub fresh : View Kind N C → View Kind N C
  fresh v = blank Looking v.subject v.places

  -- a copy of what an end has published or knows
  abbrev pub copied : View Kind N C → View Kind N C
  copied v = record v { kind = Copied }

module _ {S N C : Type 0} where
  -- a store of a word of the next note
  abbrev pub Puts : Step S → Me S (View Kind N C) → ℕ → Me S (View Kind N C) → Type 0
  Puts st m r w = w ≡ (record m.0 { words = m.0.words ++ st.first ∷ [] }, m.1)

  -- a load of the count by the writer, which changes nothing
  abbrev pub Checks : Step S → Me S (View Kind N C) → ℕ → Me S (View Kind N C) → Type 0
  Checks st m r w = (w ≡ m) × (r ≡ length m.0.notes) × IsPrefix m.0.told m.0.notes

  -- a load of the count by a reader, which finds r
  abbrev pub LooksAtCount : Step S → Me S (View Kind N C) → ℕ → Me S (View Kind N C) → Type 0
  LooksAtCount st m r w =
      (w ≡ (record m.0 { seen = r; looks = m.0.looks + 1 }, m.1))
      × (m.0.seen ≤ r)
      × (length m.0.notes ≤ r)
      × (r ≤ m.0.places)
      × (length m.0.told ≤ r)
      × Comparable m.0.notes m.0.told

  -- a load of the fifth word: the note that the words spell is known
  abbrev pub Learns : (N → List ℕ) → (C → N → Type 0) → (C → List N → Type 0) → Step S → Me S (View Kind N C) → ℕ → Me S (View Kind N C) → Type 0
  Learns words fits legal st m r w = Gains words fits legal (m.0.words ++ r ∷ []) m w
