-- The laws of the published row and of the merge of a division.
use Rattle.std.specs.Prelude.{true, ◌≡◌, ◌≢◌, ℕ, ◌<◌, List, [], ◌∷◌, ◌++◌, length, Some, None, ℤ, pos, ◌*ℤ◌}
use mathlib.Core.List.{IsPrefix}
use Rattle.sdmp_laws.specs.Order.{◌⋅◌, Divides, over, Below}
use Rattle.sdmp_laws.specs.Ring.{red, IsReduced}
use Rattle.sdmp_laws.specs.Poly.{Term, coef, times, minus, lm, lc}
use Rattle.sdmp_laws.specs.Division.{Division, IsAccepted, IsExact, IsRem, InScope, AtOrAbove}
use Rattle.sdmp_laws.specs.LongDivision.{quotient_list}
use Rattle.whole_laws.specs.Notes.{Note, QuotientScript, script_list, has, Carry, divisor_rows}
use Rattle.sdmp_laws.specs.Limits.{PassesBound}
use Rattle.divide_wholes.specs.Row.{RowNote, known_after, front_after, RowMayFollow, RowCarry}
use Rattle.whole_laws.specs.Wholes.{head_terms, notes_of, head_of_worker}
use Rattle.divide_wholes.specs.Wholes.{DivideState, DivideWhole, AllUnderFront, IsCandidate, IsBound, IsFinished, divide_start, processed, found, kept, divide_take, divide_script, IsFrontAt, IsBeyond, AllBelowFront}
use Rattle.sdmp_laws.specs.declared.Mode.TheVariants.{Exact, Remainder}

-- at a candidate x no quotient term that was not found yet belongs above x, and the coefficients of f - q*g in scope at x and above are those of the unread part less the heads
abbrev pub CandidateFinal : Type 0
CandidateFinal =
    (s : DivideState) (x : List ℕ) → IsAccepted s.division → DivideWhole s → IsCandidate s x →
    ((later : List Term) → s.q ++ later ≡ quotient_list s.division → AllUnderFront s.division (Some x) later)
    × ((m : List ℕ) → length m ≡ s.division.n → InScope s.division.mode (lm s.division.g) m → AtOrAbove s.division.ord x m →
    coef s.division.p (minus s.division.f (times s.q s.division.g)) m ≡ coef s.division.p (minus s.unread (head_terms s.heads)) m)

-- so a term that fits the coefficient at the candidate is the next one
abbrev pub CandidateTerm : Type 0
CandidateTerm =
    (s : DivideState) (x : List ℕ) (u : ℤ) → IsAccepted s.division → DivideWhole s → IsCandidate s x →
    Divides (lm s.division.g) x → IsReduced s.division.p u →
    coef s.division.p (minus s.unread (head_terms s.heads)) x ≢ pos 0 →
    red s.division.p (u *ℤ lc s.division.g) ≡ coef s.division.p (minus s.unread (head_terms s.heads)) x →
    IsPrefix (s.q ++ record { monomial = over x (lm s.division.g); coefficient = u } ∷ []) (quotient_list s.division)

-- and where none fits, an exact division has no quotient
abbrev pub CandidateNone : Type 0
CandidateNone =
    (s : DivideState) (x : List ℕ) → IsAccepted s.division → DivideWhole s → IsCandidate s x → s.division.mode ≡ Exact →
    coef s.division.p (minus s.unread (head_terms s.heads)) x ≢ pos 0 →
    ((u : ℤ) → Divides (lm s.division.g) x → IsReduced s.division.p u → red s.division.p (u *ℤ lc s.division.g) ≡ coef s.division.p (minus s.unread (head_terms s.heads)) x → ⊥) →
    (q : List Term) → IsExact s.division q → ⊥

-- no later quotient term times lm(g) is above a front at a bound
abbrev pub BoundIsFront : Type 0
BoundIsFront =
    (s : DivideState) (x y : List ℕ) → IsAccepted s.division → DivideWhole s → IsBound s x → IsFrontAt s.division x y →
    (later : List Term) → s.q ++ later ≡ quotient_list s.division → AllUnderFront s.division (Some y) later

-- the front may be the bound itself, a multiple of lm(g) at it or below with no multiple between, and any vector where no multiple is at the bound or below
abbrev pub FrontChoices : Type 0
FrontChoices =
    (d : Division) (x y : List ℕ) → length x ≡ d.n → length y ≡ d.n →
    IsFrontAt d x x
    × (((m : List ℕ) → length m ≡ d.n → Divides (lm d.g) m → Below d.ord y m → AtOrAbove d.ord m x → ⊥) → IsFrontAt d x y)

-- a finished division has found q*, and its remainder is the one of the pair
abbrev pub FinishedIsRight : Type 0
FinishedIsRight =
    (s : DivideState) → IsAccepted s.division → DivideWhole s → IsFinished s →
    (s.q ≡ quotient_list s.division)
    × (s.division.mode ≡ Exact → IsExact s.division s.q)
    × (s.division.mode ≡ Remainder → IsRem s.division s.q s.r)

-- the quotient terms after a known one are below it
abbrev pub LaterBelow : Type 0
LaterBelow =
    (d : Division) (before later : List Term) (t : Term) → IsAccepted d → (before ++ t ∷ []) ++ later ≡ quotient_list d →
    AllBelowFront d (t.monomial ⋅ lm d.g) later

-- what a dividing worker may send: beyond its frontier the quotient terms that it doesn't know add nothing to its list
abbrev pub WorkerFinal : Type 0
WorkerFinal =
    (d : Division) (W w : ℕ) (known later : List Term) (front x : List ℕ) → IsAccepted d →
    known ++ later ≡ quotient_list d → length front ≡ d.n → length x ≡ d.n →
    IsBeyond d (divisor_rows d.g W w) front later x →
    coef d.p (times (quotient_list d) (divisor_rows d.g W w)) x ≡ coef d.p (times known (divisor_rows d.g W w)) x

-- the rule of a published row's notes: a legal note keeps it, each beginning has it, and no quotient term that isn't yet published is above the front
abbrev pub RowLaws : Type 0
RowLaws =
    (d : Division) (start : ℕ) → IsAccepted d →
    ((notes : List RowNote) (x : RowNote) → RowCarry d start notes → RowMayFollow d start notes x → RowCarry d start (notes ++ x ∷ []))
    × ((a b : List RowNote) → RowCarry d start (a ++ b) → RowCarry d start a)
    × ((notes : List RowNote) (later : List Term) → RowCarry d start notes → known_after d start notes ++ later ≡ quotient_list d → AllUnderFront d (front_after d None notes) later)

-- and so is a new merge of a division
abbrev pub DivideStart : Type 0
DivideStart = (d : Division) (W : ℕ) → 0 < W → (PassesBound d [] → ⊥) → DivideWhole (divide_start d W)

-- ---- a merge of a division stays whole when it processes its candidate, which was read
-- where the coefficient is zero
abbrev pub DivideZero : Type 0
DivideZero =
    (s : DivideState) (x : List ℕ) → IsAccepted s.division → DivideWhole s → IsCandidate s x → has x (s.unread ++ head_terms s.heads) ≡ true →
    coef s.division.p (minus s.unread (head_terms s.heads)) x ≡ pos 0 → DivideWhole (processed s x)

-- where a quotient term fits it
abbrev pub DivideFound : Type 0
DivideFound =
    (s : DivideState) (x : List ℕ) (u : ℤ) → IsAccepted s.division → DivideWhole s → IsCandidate s x → has x (s.unread ++ head_terms s.heads) ≡ true →
    Divides (lm s.division.g) x → IsReduced s.division.p u →
    coef s.division.p (minus s.unread (head_terms s.heads)) x ≢ pos 0 →
    red s.division.p (u *ℤ lc s.division.g) ≡ coef s.division.p (minus s.unread (head_terms s.heads)) x →
    (PassesBound s.division (s.q ++ record { monomial = over x (lm s.division.g); coefficient = u } ∷ []) → ⊥) →
    DivideWhole (found s x (record { monomial = over x (lm s.division.g); coefficient = u }))

-- where the term goes to the remainder
abbrev pub DivideKept : Type 0
DivideKept =
    (s : DivideState) (x : List ℕ) → IsAccepted s.division → DivideWhole s → IsCandidate s x → has x (s.unread ++ head_terms s.heads) ≡ true →
    s.division.mode ≡ Remainder → (Divides (lm s.division.g) x → ⊥) →
    coef s.division.p (minus s.unread (head_terms s.heads)) x ≢ pos 0 → DivideWhole (kept s x)

-- where it publishes a front at a bound
abbrev pub DivideFront : Type 0
DivideFront =
    (s : DivideState) (x y : List ℕ) → IsAccepted s.division → DivideWhole s → IsBound s x → IsFrontAt s.division x y →
    DivideWhole (record s { front = Some y })

-- and where it takes the next note of a worker that has no head
abbrev pub DivideTake : Type 0
DivideTake =
    (s : DivideState) (w : ℕ) (x : Note) → DivideWhole s → w < s.workers → head_of_worker s.heads w ≡ None →
    Carry (divide_script s w) (notes_of s.taken w ++ x ∷ []) → DivideWhole (divide_take s w x)

-- so where x is the greatest monomial at which its known products less the terms sent have a coefficient, that is its next term
abbrev pub WorkerNext : Type 0
WorkerNext =
    (d : Division) (W w : ℕ) (known later sent : List Term) (front x : List ℕ) → IsAccepted d →
    known ++ later ≡ quotient_list d → length front ≡ d.n → length x ≡ d.n →
    IsBeyond d (divisor_rows d.g W w) front later x →
    IsPrefix sent (script_list (QuotientScript d W w)) →
    coef d.p (minus (times known (divisor_rows d.g W w)) sent) x ≢ pos 0 →
    ((m : List ℕ) → length m ≡ d.n → Below d.ord x m → coef d.p (minus (times known (divisor_rows d.g W w)) sent) m ≡ pos 0) →
    IsPrefix (sent ++ record { monomial = x; coefficient = coef d.p (minus (times known (divisor_rows d.g W w)) sent) x } ∷ []) (script_list (QuotientScript d W w))
