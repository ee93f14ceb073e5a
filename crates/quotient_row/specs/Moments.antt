-- What holds of a row at each moment between two atomic steps.
use Rattle.std.specs.Prelude.{◌≡◌, ℕ, ◌<◌, ◌≤◌, List, length, slice_index}
use mathlib.Core.List.{IsPrefix}
use mathlib.Core.Option.{some}
use lib.ListN.{get_elem?}
use Rattle.atomic_table.specs.Table.{State}
use Rattle.term_ring.specs.declared.view.View.{View}
use Rattle.quotient_row.specs.declared.kind.Kind.{Kind}
use Rattle.quotient_row.specs.declared.kind.Kind.TheVariants.{Publishing, Looking, Copied}
use Rattle.quotient_row.specs.Rule.{place, IsRow}

module _ {N C : Type 0} (words : N → List ℕ) (legal : C → List N → Type 0) (name : C) (places : ℕ) (s : State (Unit {0}) (View Kind N C)) where
  -- of the words, of the writer's view w and of the view r of any reader
  pub record Moment (w r : View Kind N C) : Type 0 where
    pub lawful : legal name w.notes
    pub room : length w.notes ≤ places
    pub count : slice_index s.words 0 ≡ length w.notes
    -- the five words of each published note spell it
    pub spelt : (i : ℕ) (n : N) → get_elem? w.notes i ≡ some n → (k : ℕ) → k < 5 → slice_index s.words (place i k) ≡ slice_index (words n) k
    -- the words that the writer has stored are the first in the place of its next note
    pub stored : (k : ℕ) → k < length w.words → slice_index s.words (place (length w.notes) k) ≡ slice_index w.words k
    pub stored_within : 0 < length w.words → length w.notes < places
    pub known : IsPrefix r.notes w.notes
    pub count_seen : r.seen ≤ slice_index s.words 0
    -- the words that the reader has read are the first of the note after those that it knows
    pub read : (n : N) → get_elem? w.notes (length r.notes) ≡ some n → (k : ℕ) → k < length r.words → slice_index r.words k ≡ slice_index (words n) k
    pub read_ahead : 0 < length r.words → length r.notes < r.seen
    -- what an end was told of, and each copy, is a beginning
    pub told_reader : IsPrefix r.told w.notes
    pub told_writer : IsPrefix w.told w.notes
    pub copies : (j : ℕ) (v : View Kind N C) → get_elem? s.views j ≡ some v → v.kind ≡ Copied → IsPrefix v.notes w.notes

-- each state that the rule allows is such a moment
abbrev pub AtEachMoment : {N C : Type 0} → (N → List ℕ) → (C → N → Type 0) → (C → List N → Type 0) → Type 0
AtEachMoment {N = N} {C = C} words fits legal =
    (name : C) (places : ℕ) (s : State (Unit {0}) (View Kind N C)) → IsRow words fits legal name places s →
    (i j : ℕ) (w r : View Kind N C) → get_elem? s.views i ≡ some w → w.kind ≡ Publishing → get_elem? s.views j ≡ some r → r.kind ≡ Looking →
    Moment words legal name places s w r
