-- A run of a division's merge: its state, the notes of its row and how much it has done; and that each step keeps it whole.
use Rattle.std.specs.Prelude.{◌≡◌, ℕ, ◌+◌, ◌-◌, ◌*◌, ◌<◌, ◌≤◌, ◌⊎◌, Bool, true, false, List, [], ◌∷◌, ◌++◌, length, Option, Some, None, IfSome}
use Rattle.std.specs.List.{AllByRecursion}
use Rattle.sdmp_laws.specs.Order.{Order, IsUnder, Below}
use Rattle.sdmp_laws.specs.Poly.{Term, times}
use Rattle.sdmp_laws.specs.Division.{Division, IsAccepted, AtOrAbove}
use Rattle.sdmp_laws.specs.Limits.{PassesBound}
use Rattle.whole_laws.specs.Notes.{Note, Carry, after_lead, has}
use Rattle.whole_laws.specs.Wholes.{head_terms, notes_of, head_of_worker}
use Rattle.divide_wholes.specs.Wholes.{DivideState, DivideWhole, IsBound, IsFrontAt, latest_mark, divide_start, divide_take, divide_script, processed, found, kept}
use Rattle.divide_wholes.specs.Row.{RowNote, RowTerm, RowFront, RowMayFollow}
use Rattle.divide_wholes.specs.MergeRow.{HasRow, with_new_row}
use Rattle.dividing_rounds.specs.Found.{IsNext, IsZeroAt, IsQuotientAt, IsRestAt}

-- a merge of a division with the notes of its present row, how many fronts it published in all its rows, how many monomials it processed, and whether it has its last answer
pub record DivideRun : Type 0 where
  pub state : DivideState
  pub notes : List RowNote
  pub fronts_count : ℕ
  pub processed_count : ℕ
  pub over : Bool

-- the terms that a division with the quotient terms q may meet: those of f, and the products of a term of q and a term of g after the first
unfoldable pub workload : Division → List Term → List Term
workload d q = d.f ++ times q (after_lead d.g)

-- how many they are where q has k terms: |f| + k*(|g| - 1)
unfoldable pub workload_count : Division → ℕ → ℕ
workload_count d k = length d.f + k * (length d.g - 1)

-- ---- logs of monomials, the latest first
-- each is below all earlier ones
unfoldable pub Falls : Order → List (List ℕ) → Type 0
Falls ord [] = Unit {0}
Falls ord (x ∷ log) = AllByRecursion (λ y. Below ord x y) log × Falls ord log

-- none is below `low`; before there is a `low` there is none
unfoldable pub StaysAbove : Order → Option (List ℕ) → List (List ℕ) → Type 0
StaysAbove ord None log = log ≡ []
StaysAbove ord (Some m) log = AllByRecursion (λ x. AtOrAbove ord m x) log

-- the monomials fall, down to `low` at most, and each is that of a term of A
pub record IsLog (ord : Order) (low : Option (List ℕ)) (A : List Term) (log : List (List ℕ)) : Type 0 where
  pub falls : Falls ord log
  pub above : StaysAbove ord low log
  pub among : AllByRecursion (λ x. has x A ≡ true) log

-- the whole of a run: that of its state and its row; and the monomials that it processed, and the bounds at which it published fronts, are logs of its workload
pub record RunWhole (r : DivideRun) : Type 0 where
  pub whole : DivideWhole r.state
  pub row : HasRow r.state r.notes
  pub front_vector : IfSome r.state.front (λ m. length m ≡ r.state.division.n)
  pub processed_log : List (List ℕ)
  pub bounds_log : List (List ℕ)
  pub processed_fall : IsLog r.state.division.ord r.state.last (workload r.state.division r.state.q) processed_log
  pub bounds_fall : IsLog r.state.division.ord r.state.front (workload r.state.division r.state.q) bounds_log
  pub processed_length : length processed_log ≡ r.processed_count
  pub bounds_length : length bounds_log ≡ r.fronts_count

-- so there are no more of either than terms in the workload
abbrev pub CountsFit : Type 0
CountsFit =
    (r : DivideRun) → RunWhole r →
    (r.processed_count ≤ workload_count r.state.division (length r.state.q)) × (r.fronts_count ≤ workload_count r.state.division (length r.state.q))

-- x was read, or is the top of a worker's mark that counts all of q
unfoldable pub IsKnownAt : DivideState → List ℕ → Type 0
IsKnownAt s x =
    (has x (s.unread ++ head_terms s.heads) ≡ true)
    ⊎ ((w : ℕ) × (w < s.workers) × (latest_mark (notes_of s.taken w) ≡ (length s.q, Some x)))

-- a bound at such a monomial, hence also a candidate that was read, stands in the workload
abbrev pub BoundInWorkload : Type 0
BoundInWorkload = (s : DivideState) (x : List ℕ) → IsAccepted s.division → DivideWhole s → IsBound s x → IsKnownAt s x → has x (workload s.division s.q) ≡ true

-- the front y may be published for the bound x, which is below the present front; y isn't above x, so that the next bound is below x
pub record IsFrontFor (s : DivideState) (x y : List ℕ) : Type 0 where
  pub bound : IsBound s x
  pub known : IsKnownAt s x
  pub lower : IsUnder s.division.ord s.front x
  pub fits : IsFrontAt s.division x y
  pub no_higher : AtOrAbove s.division.ord y x

-- ---- the steps of a run
unfoldable pub run_start : Division → ℕ → DivideRun
run_start d W = record { state = divide_start d W; notes = []; fronts_count = 0; processed_count = 0; over = false }

-- the worker w's note is taken
unfoldable pub run_take : DivideRun → ℕ → Note → DivideRun
run_take r w n = record r { state = divide_take r.state w n }

-- x is processed, where the coefficient is zero
unfoldable pub run_zero : DivideRun → List ℕ → DivideRun
run_zero r x = record r { state = processed r.state x; processed_count = r.processed_count + 1 }

-- x is processed, and its term goes to the remainder
unfoldable pub run_rest : DivideRun → List ℕ → DivideRun
run_rest r x = record r { state = kept r.state x; processed_count = r.processed_count + 1 }

-- x is processed, and the quotient term t is found there and published
unfoldable pub run_found : DivideRun → List ℕ → Term → DivideRun
run_found r x t = record r { state = found r.state x t; notes = r.notes ++ RowTerm t ∷ []; processed_count = r.processed_count + 1 }

-- the front y is published
unfoldable pub run_front : DivideRun → List ℕ → DivideRun
run_front r y = record r { state = record r.state { front = Some y }; notes = r.notes ++ RowFront y ∷ []; fronts_count = r.fronts_count + 1 }

-- the run goes on with a new row
unfoldable pub run_row : DivideRun → DivideRun
run_row r = record r { state = with_new_row r.state; notes = [] }

-- it has its last answer
unfoldable pub run_over : DivideRun → DivideRun
run_over r = record r { over = true }

-- ---- each step keeps a run whole
abbrev pub RunStart : Type 0
RunStart = (d : Division) (W : ℕ) → 0 < W → (PassesBound d [] → ⊥) → RunWhole (run_start d W)

abbrev pub RunTake : Type 0
RunTake =
    (r : DivideRun) (w : ℕ) (n : Note) → RunWhole r → w < r.state.workers → head_of_worker r.state.heads w ≡ None →
    Carry (divide_script r.state w) (notes_of r.state.taken w ++ n ∷ []) → RunWhole (run_take r w n)

abbrev pub RunZero : Type 0
RunZero = (r : DivideRun) (x : List ℕ) → IsAccepted r.state.division → RunWhole r → IsNext r.state x → IsZeroAt r.state x → RunWhole (run_zero r x)

abbrev pub RunRest : Type 0
RunRest = (r : DivideRun) (x : List ℕ) → IsAccepted r.state.division → RunWhole r → IsNext r.state x → IsRestAt r.state x → RunWhole (run_rest r x)

-- what is published may be
abbrev pub RunFound : Type 0
RunFound =
    (r : DivideRun) (x : List ℕ) (t : Term) → IsAccepted r.state.division → RunWhole r → IsNext r.state x → IsQuotientAt r.state x t →
    RowMayFollow r.state.division r.state.start r.notes (RowTerm t) × RunWhole (run_found r x t)

abbrev pub RunFront : Type 0
RunFront =
    (r : DivideRun) (x y : List ℕ) → IsAccepted r.state.division → RunWhole r → IsFrontFor r.state x y →
    RowMayFollow r.state.division r.state.start r.notes (RowFront y) × RunWhole (run_front r y)

abbrev pub RunRow : Type 0
RunRow = (r : DivideRun) → RunWhole r → RunWhole (run_row r) × RunWhole (run_over r)
