-- What the steps of a merge of a division change.
use Rattle.std.specs.Prelude.{◌≡◌, ◌⊎◌, ℕ, ◌+◌, ◌<◌, ◌≤◌, List, ◌++◌, length, set, Option, Some, None, IfSome, slice_index_or}
use mathlib.Core.List.{IsPrefix}
use Rattle.sdmp_laws.specs.Division.{AtOrAbove}
use Rattle.sdmp_laws.specs.Poly.{Term}
use Rattle.whole_laws.specs.Notes.{Note}
use Rattle.whole_laws.specs.Wholes.{head_of_worker}
use Rattle.dividing_rounds.specs.Runs.{run_take, run_zero, run_rest, run_found, run_front, run_over}
use Rattle.dividing_rounds.specs.Rounds.{progress}
use Rattle.term_ring.specs.Names.{NoneBelow, notes_count}
use Rattle.divide_merge.specs.Verdicts.{Verdict, IsVerdict, kept_of}
use Rattle.divide_merge.specs.Merges.{DivideView, taken_of, free_places, IsStarved, FoundEmpty}
use Rattle.divide_merge.specs.Reached.{divide_reached, RowGrows, Follows}

-- the reader of w looked for a note
pub record Looks (a b : DivideView) (w : ℕ) : Type 0 where
  pub answer : b.answer ≡ a.answer
  pub spare : b.spare ≡ a.spare
  pub rings : b.rings ≡ a.rings
  pub row : b.row ≡ a.row
  pub tail : ℕ
  pub tails : b.tails ≡ set a.tails w tail
  pub higher : slice_index_or a.tails w 0 ≤ tail
  pub looks : NoneBelow a.looks b.looks

-- a note of the worker w was taken
pub record TakesNote (a b : DivideView) (w : ℕ) : Type 0 where
  pub note : Note
  pub run : b.run ≡ run_take a.run w note

-- notes were taken, and nothing else was done
pub record Fills (a b : DivideView) : Type 0 where
  pub run : b.run ≡ record a.run { state = record a.run.state { heads = b.run.state.heads; taken = b.run.state.taken } }
  pub answer : b.answer ≡ a.answer
  pub spare : b.spare ≡ a.spare
  pub rings : b.rings ≡ a.rings
  pub row : b.row ≡ a.row
  pub taken : (w : ℕ) → IsPrefix (taken_of a w) (taken_of b w)
  pub counts : (b.run ≡ a.run) ⊎ (notes_count a.run.state.taken < notes_count b.run.state.taken)
  pub tails : NoneBelow a.tails b.tails
  pub looks : NoneBelow a.looks b.looks

-- the worker w has a head, or was asked in vain since a
abbrev pub IsAskedAll : DivideView → DivideView → ℕ → Type 0
IsAskedAll a b w = head_of_worker b.run.state.heads w ≡ None → IsStarved b w × FoundEmpty a b w

-- of the other workers nothing was taken, and no reader looked
pub record IsLeftAlone (a b : DivideView) (w : ℕ) : Type 0 where
  pub taken : (v : ℕ) → (v ≡ w → ⊥) → taken_of b v ≡ taken_of a v
  pub heads : (v : ℕ) → (v ≡ w → ⊥) → head_of_worker b.run.state.heads v ≡ head_of_worker a.run.state.heads v
  pub tails : (v : ℕ) → (v ≡ w → ⊥) → slice_index_or b.tails v 0 ≡ slice_index_or a.tails v 0

-- the rings, the row and what the readers know of them are as they were
pub record Steady (a b : DivideView) : Type 0 where
  pub rings : b.rings ≡ a.rings
  pub row : b.row ≡ a.row
  pub tails : b.tails ≡ a.tails
  pub looks : b.looks ≡ a.looks

-- x was processed, where the coefficient is zero
pub record PassesOver (a b : DivideView) (x : List ℕ) : Type 0 where
  pub steady : Steady a b
  pub run : b.run ≡ run_zero a.run x
  pub answer : b.answer ≡ a.answer
  pub spare : b.spare ≡ a.spare

-- the quotient term t was found at x and published
pub record FindsTerm (a b : DivideView) (x : List ℕ) (t : Term) : Type 0 where
  pub steady : Steady a b
  pub run : b.run ≡ run_found a.run x t
  pub answer : b.answer ≡ a.answer
  pub spare : b.spare + 1 ≡ a.spare

-- the term at x went to the remainder
pub record KeepsTerm (a b : DivideView) (x : List ℕ) : Type 0 where
  pub steady : Steady a b
  pub run : b.run ≡ run_rest a.run x
  pub answer : b.answer ≡ a.answer
  pub spare : b.spare + 1 ≡ a.spare

-- a front at x or below was published
pub record PublishesFront (a b : DivideView) (x : List ℕ) : Type 0 where
  pub steady : Steady a b
  pub front : List ℕ
  pub no_higher : AtOrAbove a.run.state.division.ord front x
  pub run : b.run ≡ run_front a.run front
  pub answer : b.answer ≡ a.answer
  pub spare : b.spare ≡ a.spare

-- the merge is over with this answer
pub record EndsWith (a b : DivideView) (x : Verdict) : Type 0 where
  pub steady : Steady a b
  pub run : b.run ≡ run_over a.run
  pub answer : b.answer ≡ Some x
  pub spare : b.spare ≡ a.spare

-- the merge answers as it stands then
pub record Answers (a b : DivideView) (x : Verdict) : Type 0 where
  pub cause : IsVerdict b.run.state (free_places b) b.spare x
  pub answer : b.answer ≡ kept_of x
  pub heads : b.run.state.heads ≡ a.run.state.heads
  pub follows : Follows (divide_reached a) (divide_reached b)

-- it has processed one more monomial
pub record GoesFarther (a b : DivideView) : Type 0 where
  pub processed : b.run.processed_count ≡ a.run.processed_count + 1
  pub farther : progress a.run < progress b.run
  pub answer : b.answer ≡ None

-- a monomial was processed, or the merge answered; no note was taken
pub record Turns (a b : DivideView) (x : Option Verdict) : Type 0 where
  pub steady : Steady a b
  pub workers : b.run.state.workers ≡ a.run.state.workers
  pub division : b.run.state.division ≡ a.run.state.division
  pub start : b.run.state.start ≡ a.run.state.start
  pub taken : b.run.state.taken ≡ a.run.state.taken
  pub row_grows : RowGrows a.run b.run
  pub found : List Term
  pub kept : List Term
  pub q : b.run.state.q ≡ a.run.state.q ++ found
  pub r : b.run.state.r ≡ a.run.state.r ++ kept
  pub spare : b.spare + (length found + length kept) ≡ a.spare
  pub ends : IfSome x (λ v. Answers a b v)
  pub goes_on : x ≡ None → GoesFarther a b
