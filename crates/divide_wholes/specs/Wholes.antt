-- What the shared merge of a division holds, said of plain lists.
use Rattle.std.specs.Prelude.{◌≡◌, ℕ, ◌<◌, ◌≤◌, ◌⊎◌, set, replicate, List, [], ◌∷◌, ◌++◌, length, drop, Option, Some, None}
use mathlib.Core.List.{IsPrefix, IsSuffix}
use Rattle.sdmp_laws.specs.Order.{Order, ◌⋅◌, Divides, Below}
use Rattle.sdmp_laws.specs.Poly.{without, Term, coef, Same, times, minus, AllBelow, sum_over, lm, IsPoly}
use Rattle.sdmp_laws.specs.Division.{AllAtOrBelow, Division, NoneDivisible, AtOrAbove}
use Rattle.sdmp_laws.specs.LongDivision.{quotient_list}
use Rattle.sdmp_laws.specs.Limits.{PassesBound}
use Rattle.whole_laws.specs.Notes.{Note, TermNote, MarkNote, EndNote, Script, QuotientScript, Carry, owed, lead_term, after_lead, AboveTop, divisor_rows}
use Rattle.sdmp_laws.specs.declared.Mode.{Mode}
use Rattle.sdmp_laws.specs.declared.Mode.TheVariants.{Exact, Remainder}
use Rattle.whole_laws.specs.Wholes.{head_terms, IsHead, notes_of, head_of_worker, clear_at}

-- the latest mark among the notes, or one that knows nothing
unfoldable pub mark_after : ℕ × Option (List ℕ) → List Note → ℕ × Option (List ℕ)
mark_after m [] = m
mark_after m (TermNote t ∷ notes) = mark_after m notes
mark_after m (MarkNote k top ∷ notes) = mark_after (k, top) notes
mark_after m (EndNote ∷ notes) = mark_after m notes

unfoldable pub latest_mark : List Note → ℕ × Option (List ℕ)
latest_mark notes = mark_after (0, None) notes

-- what a merge of a division holds
pub record DivideState : Type 0 where
  pub division : Division
  pub workers : ℕ
  pub q : List Term
  pub r : List Term
  pub unread : List Term
  pub heads : List (Option Term)
  pub taken : List (List Note)
  pub last : Option (List ℕ)
  pub front : Option (List ℕ)
  pub start : ℕ
  pub published : List Term

unfoldable pub divide_script : DivideState → ℕ → Script
divide_script s w = QuotientScript s.division s.workers w

-- the terms that the workers still owe
unfoldable pub all_owed : DivideState → List Term
all_owed s = sum_over s.workers (λ w. owed (divide_script s w) (notes_of s.taken w))

-- every monomial of A is at m or above
unfoldable pub AllAtOrAbove : Order → List ℕ → List Term → Type 0
AllAtOrAbove ord m [] = Unit {0}
AllAtOrAbove ord m (t ∷ A) = AtOrAbove ord m t.monomial × AllAtOrAbove ord m A

-- all that is still to come lies below the monomial processed last, and all that was found at it or above; before the first monomial nothing was found
unfoldable pub IsPast : DivideState → Option (List ℕ) → Type 0
IsPast s None = (s.q ≡ []) × (s.r ≡ [])
IsPast s (Some m) =
    AllBelow s.division.ord m s.unread × AllBelow s.division.ord m (head_terms s.heads) × AllBelow s.division.ord m (all_owed s)
    × AllAtOrAbove s.division.ord m s.r × AllAtOrAbove s.division.ord m (times s.q (lead_term s.division.g))

-- each term of A times lm(g) is at the front or below
unfoldable pub AllUnderFront : Division → Option (List ℕ) → List Term → Type 0
AllUnderFront d None A = Unit {0}
AllUnderFront d (Some m) [] = Unit {0}
AllUnderFront d (Some m) (t ∷ A) = AtOrAbove d.ord (t.monomial ⋅ lm d.g) m × AllUnderFront d (Some m) A

-- each term of A times lm(g) is below m
unfoldable pub AllBelowFront : Division → List ℕ → List Term → Type 0
AllBelowFront d m [] = Unit {0}
AllBelowFront d m (t ∷ A) = Below d.ord (t.monomial ⋅ lm d.g) m × AllBelowFront d m A

-- x is beyond the frontier of a worker with these rows, which are terms of the divisor, so that no product of a later term with one of them stands at x or above. Where the later terms times lm(g) are at the front or below, x*lm(g) has to be above the front times the first row; where they are below the front, at that product or above
unfoldable pub IsBeyond : Division → List Term → List ℕ → List Term → List ℕ → Type 0
IsBeyond d rows front later x =
    (AllUnderFront d (Some front) later × Below d.ord (front ⋅ lm rows) (x ⋅ lm d.g))
    ⊎ (AllBelowFront d front later × AtOrAbove d.ord (front ⋅ lm rows) (x ⋅ lm d.g))

unfoldable pub RemainderFits : Mode → Division → List Term → Type 0
RemainderFits Exact d r = r ≡ []
RemainderFits Remainder d r = IsPoly d.ord d.p d.n r × NoneDivisible (lm d.g) r

-- the whole of a division, less what concerns the published row
pub record DivideWhole (s : DivideState) : Type 0 where
  pub heads_count : length s.heads ≡ s.workers
  pub taken_count : length s.taken ≡ s.workers
  pub carried : (w : ℕ) → w < s.workers → Carry (divide_script s w) (notes_of s.taken w)
  pub heads_are : (w : ℕ) → w < s.workers → IsHead (head_of_worker s.heads w) (notes_of s.taken w)
  pub sum : Same s.division.p (minus (times s.q (lead_term s.division.g) ++ (s.r ++ s.unread)) (head_terms s.heads ++ all_owed s)) (minus s.division.f (times (quotient_list s.division) (after_lead s.division.g)))
  pub quotient : IsPrefix s.q (quotient_list s.division)
  pub within : PassesBound s.division s.q → ⊥
  pub unread_suffix : IsSuffix s.unread s.division.f
  pub remainder : RemainderFits s.division.mode s.division s.r
  pub past : IsPast s s.last
  pub row_terms : drop s.start s.q ≡ s.published
  pub row_start : s.start ≤ length s.q
  pub under_front : (later : List Term) → s.q ++ later ≡ quotient_list s.division → AllUnderFront s.division s.front later

-- at x and above the worker w owes nothing that counts: it has a head at x or below, or it is current and low, or its part of the divisor has no term
unfoldable pub IsSettled : DivideState → List ℕ → ℕ → Type 0
IsSettled s x w =
    ((t : Term) × (head_of_worker s.heads w ≡ Some t) × AtOrAbove s.division.ord t.monomial x)
    ⊎ (((latest_mark (notes_of s.taken w)).0 ≡ length s.q) × AboveTop s.division.ord (latest_mark (notes_of s.taken w)).1 x)
    ⊎ (divisor_rows s.division.g s.workers w ≡ [])

-- x is a candidate whose coefficient is final: nothing that was read stands above it, and every worker is settled there
pub record IsCandidate (s : DivideState) (x : List ℕ) : Type 0 where
  pub vector : length x ≡ s.division.n
  pub unread_below : AllAtOrBelow s.division.ord x s.unread
  pub heads_below : AllAtOrBelow s.division.ord x (head_terms s.heads)
  pub settled : (w : ℕ) → w < s.workers → IsSettled s x w

-- nothing that was read stands above x, and every worker is settled at each monomial above x: no later quotient term times lm(g) is above x
pub record IsBound (s : DivideState) (x : List ℕ) : Type 0 where
  pub vector : length x ≡ s.division.n
  pub unread_below : AllAtOrBelow s.division.ord x s.unread
  pub heads_below : AllAtOrBelow s.division.ord x (head_terms s.heads)
  pub settled_above : (y : List ℕ) (w : ℕ) → Below s.division.ord x y → w < s.workers → IsSettled s y w

-- y may be the front where x is the bound: each multiple of lm(g) at x or below is at y or below. So may x itself, the greatest such multiple, and 1 where there is none
pub record IsFrontAt (d : Division) (x y : List ℕ) : Type 0 where
  pub vector : length y ≡ d.n
  pub multiples : (m : List ℕ) → length m ≡ d.n → Divides (lm d.g) m → AtOrAbove d.ord m x → AtOrAbove d.ord m y

-- nothing is left to read, and every worker with a part of the divisor knows all of q and holds no product
pub record IsFinished (s : DivideState) : Type 0 where
  pub no_unread : s.unread ≡ []
  pub no_heads : head_terms s.heads ≡ []
  pub settled : (y : List ℕ) (w : ℕ) → w < s.workers → IsSettled s y w

-- a merge of a division before its first note
unfoldable pub divide_start : Division → ℕ → DivideState
divide_start d W = record { division = d; workers = W; q = []; r = []; unread = d.f; heads = replicate W None; taken = replicate W []; last = None; front = None; start = 0; published = [] }

-- the merge of a division after all that was read at x is processed
unfoldable pub processed : DivideState → List ℕ → DivideState
processed s x = record s { unread = without x s.unread; heads = clear_at x s.heads; last = Some x }

-- and the quotient term t was found there
unfoldable pub found : DivideState → List ℕ → Term → DivideState
found s x t = record (processed s x) { q = s.q ++ t ∷ []; published = s.published ++ t ∷ []; front = Some (t.monomial ⋅ lm s.division.g) }

-- or the term goes to the remainder
unfoldable pub kept : DivideState → List ℕ → DivideState
kept s x = record (processed s x) { r = s.r ++ record { monomial = x; coefficient = coef s.division.p (minus s.unread (head_terms s.heads)) x } ∷ [] }

-- the merge of a division after the worker w's note was taken; a term becomes its head
unfoldable pub divide_take : DivideState → ℕ → Note → DivideState
divide_take s w (TermNote t) = record s { heads = set s.heads w (Some t); taken = set s.taken w (notes_of s.taken w ++ TermNote t ∷ []) }
divide_take s w (MarkNote k top) = record s { taken = set s.taken w (notes_of s.taken w ++ MarkNote k top ∷ []) }
divide_take s w EndNote = record s { taken = set s.taken w (notes_of s.taken w ++ EndNote ∷ []) }
