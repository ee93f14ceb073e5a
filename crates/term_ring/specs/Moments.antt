-- What holds of a ring at each moment between two atomic steps.
use Rattle.std.specs.Prelude.{◌≡◌, ℕ, ◌+◌, ◌<◌, ◌≤◌, List, ◌++◌, length, slice_index}
use mathlib.Core.List.{IsPrefix}
use mathlib.Core.Option.{some}
use lib.ListN.{get_elem?}
use Rattle.atomic_table.specs.Table.{State}
use Rattle.term_ring.specs.declared.view.View.{View}
use Rattle.term_ring.specs.declared.view.Kind.{Kind}
use Rattle.term_ring.specs.declared.view.Kind.TheVariants.{Writing, Reading, SentCopy, TakenCopy}
use Rattle.term_ring.specs.Rule.{head_word, tail_word, place, IsRing}

module _ {N C : Type 0} (words : N → List ℕ) (carry : C → List N → Type 0) (script : C) (places : ℕ) (s : State (Unit {0}) (View Kind N C)) where
  -- of the words, of the writer's view w and of the reader's view r
  pub record Moment (w r : View Kind N C) : Type 0 where
    -- what was sent is what was taken, followed by what is inside
    pub inside : List N
    pub sent : w.notes ≡ r.notes ++ inside
    pub carried : carry script w.notes
    pub room : length inside ≤ places
    -- the five words of each note inside spell it
    pub spelt : (i : ℕ) (n : N) → get_elem? inside i ≡ some n → (k : ℕ) → k < 5 → slice_index s.words (place places (length r.notes + i) k) ≡ slice_index (words n) k
    pub head : slice_index s.words head_word ≡ length r.notes
    pub tail : slice_index s.words tail_word ≡ length w.notes
    pub head_seen : w.seen ≤ slice_index s.words head_word
    pub tail_seen : r.seen ≤ slice_index s.words tail_word
    -- the words that the writer knows or has stored are the first in the place of its next note, which holds no note inside
    pub stored : (k : ℕ) → k < length w.words → slice_index s.words (place places (length w.notes) k) ≡ slice_index w.words k
    pub stored_apart : 0 < length w.words → length inside < places
    -- the words that the reader has read are the first of the next note
    pub read : (n : N) → get_elem? inside 0 ≡ some n → (k : ℕ) → k < length r.words → slice_index r.words k ≡ slice_index (words n) k
    pub read_ahead : 0 < length r.words → length r.notes < r.seen
    -- what an end was told of, and each copy, is a beginning
    pub told_sent : IsPrefix r.told w.notes
    pub told_taken : IsPrefix w.told r.notes
    pub sent_copies : (j : ℕ) (v : View Kind N C) → get_elem? s.views j ≡ some v → v.kind ≡ SentCopy → IsPrefix v.notes w.notes
    pub taken_copies : (j : ℕ) (v : View Kind N C) → get_elem? s.views j ≡ some v → v.kind ≡ TakenCopy → IsPrefix v.notes r.notes

-- each state that the rule allows is such a moment
abbrev pub AtEachMoment : {N C : Type 0} → (N → List ℕ) → (C → N → Type 0) → (C → List N → Type 0) → Type 0
AtEachMoment {N = N} {C = C} words fits carry =
    (script : C) (places : ℕ) (s : State (Unit {0}) (View Kind N C)) → IsRing words fits carry script places s →
    (i j : ℕ) (w r : View Kind N C) → get_elem? s.views i ≡ some w → w.kind ≡ Writing → get_elem? s.views j ≡ some r → r.kind ≡ Reading →
    Moment words carry script places s w r
