-- A merge of a division as contracts see it, and what its calls change.
use Rattle.std.specs.Prelude.{◌≡◌, ℕ, ◌+◌, ◌-◌, ◌<◌, ◌≤◌, ◌^◌, ◌↔◌, ℤ, List, ◌++◌, length, Option, None, IfSome, slice_index_or}
use mathlib.Core.List.{IsPrefix}
use Rattle.std.specs.Option.{is_some}
use Rattle.sdmp_laws.specs.Poly.{Term}
use Rattle.sdmp_laws.specs.Division.{Division, IsExact, IsRem}
use Rattle.sdmp_laws.specs.LongDivision.{quotient_list}
use Rattle.sdmp_laws.specs.declared.Mode.TheVariants.{Exact, Remainder}
use Rattle.whole_laws.specs.Notes.{Note, terms_in, owed}
use Rattle.whole_laws.specs.Wholes.{notes_of, head_of_worker}
use Rattle.divide_wholes.specs.Wholes.{divide_script}
use Rattle.canonical_terms.specs.View.{term_of}
use Rattle.term_ring.specs.Names.{RingName, NoneBelow}
use Rattle.divide_merge.specs.Names.{RowIdentity, first_division, HasScripts, IsFit}
use Rattle.dividing_rounds.specs.Runs.{DivideRun, RunWhole}
use Rattle.divide_merge.specs.Verdicts.{Verdict, Finishes, HasNone, PassesNorm, PassesCount, IsBlocked, RowIsFull, OutIsFull, IsVerdict, IsFinal}
use Rattle.divide_merge.specs.declared.answer.DivideAdvanceOf.{DivideAdvanceOf}
use Rattle.divide_merge.specs.declared.answer.DivideAdvanceOf.TheVariants as answer

-- what the merge holds and has done, and what it answered where it is over; for how many more terms there is room; the rings of its readers, the tail that each reader saw last and how often it looked in vain; and the row of its writer
pub record DivideView : Type 0 where
  pub run : DivideRun
  pub answer : Option Verdict
  pub spare : ℕ
  pub rings : List RingName
  pub tails : List ℕ
  pub looks : List ℕ
  pub row : RowIdentity

-- the notes taken of the worker w
abbrev pub taken_of : DivideView → ℕ → List Note
taken_of v w = notes_of v.run.state.taken w

-- how many more notes the row takes
abbrev pub free_places : DivideView → ℕ
free_places v = v.row.places - length v.run.notes

-- the worker w sent what the merge took of it, followed by what is inside its ring; what the merge still owes of it is the terms inside and those that it hasn't sent
abbrev pub IsOwed : DivideView → ℕ → List Note → Type 0
IsOwed v w sent =
    (inside : List Note) × (sent ≡ taken_of v w ++ inside) × (owed (divide_script v.run.state w) (taken_of v w) ≡ terms_in inside ++ owed (divide_script v.run.state w) sent)

-- ---- the answers
module _ {M E : Type 0} where
  -- an answer as plain data
  abbrev pub verdict_of : (M → List ℕ) → (E → ℤ) → DivideAdvanceOf M E → Verdict
  verdict_of vector value answer.Finished = Finishes
  verdict_of vector value (answer.NoQuotient at) = HasNone (vector at)
  verdict_of vector value (answer.PassedBound term) = PassesNorm (term_of vector value term)
  verdict_of vector value (answer.PassedTerms term) = PassesCount (term_of vector value term)
  verdict_of vector value (answer.Blocked worker) = IsBlocked worker
  verdict_of vector value answer.RowFull = RowIsFull
  verdict_of vector value answer.OutFull = OutIsFull

-- all notes that the reader of w knows of are taken
abbrev pub IsStarved : DivideView → ℕ → Type 0
IsStarved v w = slice_index_or v.tails w 0 ≡ length (taken_of v w)

-- the reader of w looked in vain
abbrev pub FoundEmpty : DivideView → DivideView → ℕ → Type 0
FoundEmpty a b w = slice_index_or a.looks w 0 < slice_index_or b.looks w 0

-- each worker without a head was asked in vain
abbrev pub AllStarved : DivideView → DivideView → Type 0
AllStarved a b = (w : ℕ) → w < b.run.state.workers → head_of_worker b.run.state.heads w ≡ None → IsStarved b w × FoundEmpty a b w

abbrev pub IsAskedInVain : DivideView → DivideView → Verdict → Type 0
IsAskedInVain a b Finishes = Unit {0}
IsAskedInVain a b (HasNone x) = Unit {0}
IsAskedInVain a b (PassesNorm t) = Unit {0}
IsAskedInVain a b (PassesCount t) = Unit {0}
IsAskedInVain a b (IsBlocked w) = AllStarved a b
IsAskedInVain a b RowIsFull = Unit {0}
IsAskedInVain a b OutIsFull = Unit {0}

-- why the merge answers, by what it holds in the end
abbrev pub IsCause : DivideView → DivideView → Verdict → Type 0
IsCause a b x = IsVerdict b.run.state (free_places b) b.spare x × IsAskedInVain a b x

-- ---- what an advance changes
-- notes were taken and terms found, notes published in the row, and terms given to the remainder, each after those before
pub record Grows (a b : DivideView) : Type 0 where
  pub rings : b.rings ≡ a.rings
  pub row : b.row ≡ a.row
  pub start : b.run.state.start ≡ a.run.state.start
  pub taken : (w : ℕ) → IsPrefix (taken_of a w) (taken_of b w)
  pub notes : IsPrefix a.run.notes b.run.notes
  pub found : List Term
  pub kept : List Term
  pub q : b.run.state.q ≡ a.run.state.q ++ found
  pub r : b.run.state.r ≡ a.run.state.r ++ kept
  pub spare : b.spare + (length found + length kept) ≡ a.spare
  pub tails : NoneBelow a.tails b.tails
  pub looks : NoneBelow a.looks b.looks

-- what always holds of a merge
pub record IsSound (lim : ℕ) (v : DivideView) : Type 0 where
  pub whole : RunWhole v.run
  -- there is a front exactly where a note of the run was published
  pub begun : v.run.state.front ≡ None ↔ (length v.run.state.q + v.run.fronts_count ≡ 0)
  pub over : v.run.over ≡ is_some v.answer
  pub cause : IfSome v.answer (λ x. IsFinal x × IsVerdict v.run.state (free_places v) v.spare x)
  pub division : v.run.state.division ≡ first_division v.rings
  pub scripts : HasScripts v.run.state.division v.rings
  pub fit : IsFit lim v.run.state.division
  pub row_division : v.row.name.division ≡ v.run.state.division
  pub row_start : v.row.name.start ≡ v.run.state.start
  pub row_room : length v.run.notes ≤ v.row.places
  pub some : 0 < v.run.state.workers
  pub few : v.run.state.workers < 2 ^ 32
  pub rings_count : length v.rings ≡ v.run.state.workers
  pub tails_count : length v.tails ≡ v.run.state.workers
  pub looks_count : length v.looks ≡ v.run.state.workers

-- the division found its quotient, or that there is none
abbrev pub IsDone : {M E : Type 0} → DivideAdvanceOf M E → Type 0
IsDone answer.Finished = Unit {0}
IsDone (answer.NoQuotient at) = Unit {0}
IsDone (answer.PassedBound term) = ⊥
IsDone (answer.PassedTerms term) = ⊥
IsDone (answer.Blocked worker) = ⊥
IsDone answer.RowFull = ⊥
IsDone answer.OutFull = ⊥

-- q is the list of quotient terms, and in an exact division the quotient; with r it is the one pair of a division with remainder
pub record IsEnding (d : Division) (q r : List Term) : Type 0 where
  pub all : q ≡ quotient_list d
  pub exact : d.mode ≡ Exact → IsExact d q
  pub remainder : d.mode ≡ Remainder → IsRem d q r
