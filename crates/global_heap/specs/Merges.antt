-- A merge as contracts see it, and the causes of its answers.
use Rattle.std.specs.Prelude.{◌≡◌, ◌≢◌, ℕ, ◌+◌, ◌<◌, ◌≤◌, ◌⊎◌, ◌^◌, List, [], ◌∷◌, ◌++◌, length, set, true, Option, Some, None, slice_index_or}
use mathlib.Core.List.{IsPrefix}
use Rattle.sdmp_laws.specs.Poly.{Term}
use Rattle.whole_laws.specs.Notes.{Note, TermNote, MarkNote, EndNote, NoEnd, has, terms_in, owed}
use Rattle.whole_laws.specs.Wholes.{MergeState, MergeWhole, IsMergeDone, merge_take, merge_emit, merge_script, head_terms, notes_of, head_of_worker}
use Rattle.term_ring.specs.Names.{RingName, NoneBelow, notes_count}
use Rattle.global_heap.specs.Names.{first_product, HasScripts, IsFit}
use Rattle.global_heap.specs.declared.answer.Advance.{Advance}
use Rattle.global_heap.specs.declared.answer.Advance.TheVariants.{Done, NeedsRing, OutFull}

-- what the merge holds; the rings of its readers; the tail that each reader saw last, and how often it looked in vain; and for how many more terms there is room
pub record MergeView : Type 0 where
  pub state : MergeState
  pub rings : List RingName
  pub tails : List ℕ
  pub looks : List ℕ
  pub spare : ℕ

-- the notes taken of the worker w
abbrev pub taken_of : MergeView → ℕ → List Note
taken_of v w = notes_of v.state.taken w

-- the worker w sent what the merge took of it, followed by what is inside its ring; what the merge still owes of it is the terms inside and those that it hasn't sent
abbrev pub IsOwed : MergeView → ℕ → List Note → Type 0
IsOwed v w sent =
    (inside : List Note) × (sent ≡ taken_of v w ++ inside) × (owed (merge_script v.state w) (taken_of v w) ≡ terms_in inside ++ owed (merge_script v.state w) sent)

-- the worker w has neither a head nor its End
abbrev pub IsWanting : MergeState → ℕ → Type 0
IsWanting s w = (head_of_worker s.heads w ≡ None) × NoEnd (notes_of s.taken w)

-- it has a head, or its End was taken
abbrev pub IsServed : MergeState → ℕ → Type 0
IsServed s w = ((t : Term) × (head_of_worker s.heads w ≡ Some t)) ⊎ ((before : List Note) × (notes_of s.taken w ≡ before ++ EndNote ∷ []))

abbrev pub AllServed : MergeState → Type 0
AllServed s = (w : ℕ) → w < s.workers → IsServed s w

-- w is the least worker with neither a head nor its End
pub record IsFirstWanting (s : MergeState) (w : ℕ) : Type 0 where
  pub worker : w < s.workers
  pub wanting : IsWanting s w
  pub first : (v : ℕ) → v < w → IsServed s v

-- all notes that the reader of w knows of are taken
abbrev pub IsStarved : MergeView → ℕ → Type 0
IsStarved v w = slice_index_or v.tails w 0 ≡ length (taken_of v w)

-- the reader of w looked in vain
abbrev pub FoundEmpty : MergeView → MergeView → ℕ → Type 0
FoundEmpty a b w = slice_index_or a.looks w 0 < slice_index_or b.looks w 0

-- where the answer is Done the merge is done; where it needs a ring or room, this holds of it
abbrev pub IsDoneOr : MergeView → (ℕ → Type 0) → Type 0 → Advance → Type 0
IsDoneOr b needs full Done = IsMergeDone b.state
IsDoneOr b needs full (NeedsRing w) = needs w
IsDoneOr b needs full OutFull = full

-- why the merge answers
abbrev pub IsCause : MergeView → MergeView → Advance → Type 0
IsCause a b =
    IsDoneOr b
    (λ w. IsFirstWanting b.state w × IsStarved b w × FoundEmpty a b w)
    (AllServed b.state × (head_terms b.state.heads ≢ []) × (b.spare ≡ 0))

-- notes were taken and terms emitted, in this order
pub record Grows (a b : MergeView) : Type 0 where
  pub rings : b.rings ≡ a.rings
  pub taken : (w : ℕ) → IsPrefix (taken_of a w) (taken_of b w)
  pub emitted : (more : List Term) × (b.state.out ≡ a.state.out ++ more) × (b.spare + length more ≡ a.spare)
  pub tails : NoneBelow a.tails b.tails
  pub looks : NoneBelow a.looks b.looks

abbrev pub NotMark : Note → Type 0
NotMark (TermNote t) = Unit {0}
NotMark (MarkNote k top) = ⊥
NotMark EndNote = Unit {0}

-- a note of the worker w was taken, and it is served
pub record TakesNote (a b : MergeView) (w : ℕ) : Type 0 where
  pub note : Note
  pub state : b.state ≡ merge_take a.state w note
  pub served : IsServed b.state w
  pub one : NotMark note

-- the reader of w looked for a note
pub record Looks (a b : MergeView) (w : ℕ) : Type 0 where
  pub rings : b.rings ≡ a.rings
  pub spare : b.spare ≡ a.spare
  pub tail : ℕ
  pub tails : b.tails ≡ set a.tails w tail
  pub higher : slice_index_or a.tails w 0 ≤ tail
  pub looks : NoneBelow a.looks b.looks

-- the heads at their greatest monomial were summed and emitted
pub record Emits (a b : MergeView) : Type 0 where
  pub top : List ℕ
  pub there : has top (head_terms a.state.heads) ≡ true
  pub state : b.state ≡ merge_emit a.state top
  pub rings : b.rings ≡ a.rings
  pub tails : b.tails ≡ a.tails
  pub looks : b.looks ≡ a.looks
  pub spare : b.spare + length b.state.out ≡ a.spare + length a.state.out

-- what always holds of a merge
pub record IsSound (lim : ℕ) (v : MergeView) : Type 0 where
  pub whole : MergeWhole v.state
  pub product : v.state.product ≡ first_product v.rings
  pub scripts : HasScripts v.state.product v.rings
  pub fit : IsFit lim v.state.product
  pub some : 0 < v.state.workers
  pub few : v.state.workers < 2 ^ 32
  pub rings_count : length v.rings ≡ v.state.workers
  pub tails_count : length v.tails ≡ v.state.workers
  pub looks_count : length v.looks ≡ v.state.workers
  pub each : (w : ℕ) → w < v.state.workers → NoEnd (taken_of v w) ⊎ ((head_of_worker v.state.heads w ≡ None) × ((before : List Note) × (taken_of v w ≡ before ++ EndNote ∷ [])))

-- the first worker found to be wanting, and that each before it is served
abbrev pub IsStarving : MergeView → MergeView → ℕ → Option ℕ → Type 0
IsStarving a b i None = (k : ℕ) → k < i → IsServed b.state k
IsStarving a b i (Some s) = (s < i) × IsWanting b.state s × ((k : ℕ) → k < s → IsServed b.state k) × IsStarved b s × FoundEmpty a b s

-- each of the first i workers that was wanting was asked once for a note
pub record Fills (a b : MergeView) (i : ℕ) (starved : Option ℕ) : Type 0 where
  pub grows : Grows a b
  pub out : b.state.out ≡ a.state.out
  pub spare : b.spare ≡ a.spare
  pub product : b.state.product ≡ a.state.product
  pub workers : b.state.workers ≡ a.state.workers
  pub counts : (b.state ≡ a.state) ⊎ (notes_count a.state.taken < notes_count b.state.taken)
  pub heads : length (head_terms b.state.heads) + notes_count a.state.taken ≤ length (head_terms a.state.heads) + notes_count b.state.taken
  pub answer : IsStarving a b i starved
