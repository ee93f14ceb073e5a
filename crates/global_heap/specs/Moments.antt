-- What a product's merge and the rings of its workers hold together, at each moment at which no worker holds the merge.
use Rattle.std.specs.Prelude.{◌≡◌, ℕ, ◌<◌, ℤ, List, ◌++◌, Option}
use mathlib.Core.Option.{some}
use lib.ListN.{get_elem?}
use Rattle.sdmp_laws.specs.Poly.{Term, Same, times, sum_over}
use Rattle.whole_laws.specs.Notes.{Note, Script, terms_in, owed}
use Rattle.whole_laws.specs.Wholes.{MergeState, head_terms, merge_script}
use Rattle.atomic_table.specs.Table.{State}
use Rattle.term_ring.specs.declared.note.NoteOf.{NoteOf}
use Rattle.term_ring.specs.declared.view.View.{View as RingView}
use Rattle.term_ring.specs.declared.view.Kind.{Kind}
use Rattle.term_ring.specs.declared.view.Kind.TheVariants.{Writing, Reading}
use Rattle.term_ring.specs.Names.{NoneBelow}
use Rattle.term_ring.specs.Rule.{IsRing}
use Rattle.term_ring.specs.Carried.{Carries}
use Rattle.term_ring.specs.Spelling.{notes_of}
use Rattle.turnstile.specs.Turns.{Stays, Kept, IsFree, ValueAtHome}
use Rattle.turnstile.specs.declared.view.View.{View as TurnView}
use Rattle.global_heap.specs.Merges.{MergeView, IsSound, taken_of}
use Rattle.global_heap.specs.Reached.{merge_name, merge_reached}

-- the emitted terms, the heads, the terms inside the workers' rings, and those that the workers haven't sent
abbrev pub all_parts : MergeState → (ℕ → List Note) → (ℕ → List Note) → List Term
all_parts s inside sent =
    s.out ++ (head_terms s.heads ++ (sum_over s.workers (λ w. terms_in (inside w)) ++ sum_over s.workers (λ w. owed (merge_script s w) (sent w))))

-- a ring at a moment: its table, what its writer and its reader know, and the notes inside
pub record RingMoment (M E : Type 0) : Type 0 where
  pub places : ℕ
  pub state : State (Unit {0}) (RingView Kind (NoteOf M E) Script)
  pub writer : RingView Kind (NoteOf M E) Script
  pub reader : RingView Kind (NoteOf M E) Script
  pub inside : List (NoteOf M E)

-- some seat of the table is of this kind and knows this
abbrev pub IsSeated : {N C : Type 0} → State (Unit {0}) (RingView Kind N C) → Kind → RingView Kind N C → Type 0
IsSeated s kind v = (i : ℕ) × (get_elem? s.views i ≡ some v) × (v.kind ≡ kind)

-- a value that the turnstile of the merge `made` may hold
abbrev pub MergeStays : ℕ → MergeView → MergeView → Type 0
MergeStays lim = Stays merge_name merge_reached NoneBelow (IsSound lim)

module _ {M E : Type 0} (words : NoteOf M E → List ℕ) (fits : Script → NoteOf M E → Type 0) (vector : M → List ℕ) (value : E → ℤ) where
  -- the ring of the merge's worker w, in a state that its rule allows
  pub record IsRingOf (v : MergeView) (w : ℕ) (r : RingMoment M E) : Type 0 where
    pub allowed : IsRing words fits (Carries vector value) (merge_script v.state w) r.places r.state
    pub writing : IsSeated r.state Writing r.writer
    pub reading : IsSeated r.state Reading r.reader
    -- what the reader took is what the merge took of w
    pub taken : notes_of vector value r.reader.notes ≡ taken_of v w
    -- what the writer sent is what the reader took, followed by what is inside
    pub sent : r.writer.notes ≡ r.reader.notes ++ r.inside

  -- with the rings of its workers the merge adds up to the product
  abbrev pub AddsUp : MergeView → Type 0
  AddsUp v =
      (rings : ℕ → RingMoment M E) → ((w : ℕ) → w < v.state.workers → IsRingOf v w (rings w)) →
      Same v.state.product.p (all_parts v.state (λ w. notes_of vector value (rings w).inside) (λ w. notes_of vector value (rings w).writer.notes)) (times v.state.product.f v.state.product.g)

  -- each merge that is sound does
  abbrev pub ProductAtEachMoment : ℕ → Type 0
  ProductAtEachMoment lim = (v : MergeView) → IsSound lim v → AddsUp v

  -- in each state of a turnstile in which the flag is 0, the merge with which it was made is at home, or one that follows it, and does
  abbrev pub ProductWhileNobodyHolds : ℕ → Type 0
  ProductWhileNobodyHolds lim =
      (made : MergeView) (s : State (Option MergeView) (TurnView MergeView)) → Kept (MergeStays lim made) s → IsFree s →
      ValueAtHome (λ v. MergeStays lim made v × AddsUp v) s
