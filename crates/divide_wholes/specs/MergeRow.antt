-- How the published row of a division's merge says what the merge found.
use Rattle.std.specs.Prelude.{◌≡◌, ◌≢◌, ℕ, List, [], ◌∷◌, ◌++◌, length, Some, None, ℤ, pos, ◌*ℤ◌}
use Rattle.sdmp_laws.specs.Order.{Divides, over, IsUnder}
use Rattle.sdmp_laws.specs.Ring.{red, IsReduced}
use Rattle.sdmp_laws.specs.Poly.{coef, minus, lm, lc}
use Rattle.sdmp_laws.specs.Division.{Division, IsAccepted}
use Rattle.sdmp_laws.specs.Limits.{PassesBound}
use Rattle.whole_laws.specs.Notes.{Note}
use Rattle.divide_wholes.specs.Row.{RowNote, RowTerm, RowFront, RowCarry, RowMayFollow, row_terms, front_after}
use Rattle.whole_laws.specs.Wholes.{head_terms}
use Rattle.divide_wholes.specs.Wholes.{DivideState, DivideWhole, IsCandidate, IsBound, IsFrontAt, divide_start, divide_take, processed, found, kept}

-- these notes are what the merge published in its row: the row's terms are those found since it began, and once there is a note the merge's front is the row's
pub record HasRow (s : DivideState) (notes : List RowNote) : Type 0 where
  pub carried : RowCarry s.division s.start notes
  pub terms : row_terms notes ≡ s.published
  pub front : notes ≢ [] → front_after s.division None notes ≡ s.front
  -- without a front nothing was found
  pub begun : s.front ≡ None → s.q ≡ []

-- the merge goes on with a new published row, in which nothing is published; its front stays
unfoldable pub with_new_row : DivideState → DivideState
with_new_row s = record s { start = length s.q; published = [] }

-- a new merge has an empty published row
abbrev pub RowStart : Type 0
RowStart = (d : Division) (W : ℕ) → HasRow (divide_start d W) []

-- a quotient term that is found may be published, and then the published row says it
abbrev pub RowFound : Type 0
RowFound =
    (s : DivideState) (x : List ℕ) (u : ℤ) (notes : List RowNote) → IsAccepted s.division → DivideWhole s → IsCandidate s x →
    Divides (lm s.division.g) x → IsReduced s.division.p u →
    coef s.division.p (minus s.unread (head_terms s.heads)) x ≢ pos 0 →
    red s.division.p (u *ℤ lc s.division.g) ≡ coef s.division.p (minus s.unread (head_terms s.heads)) x →
    (PassesBound s.division (s.q ++ record { monomial = over x (lm s.division.g); coefficient = u } ∷ []) → ⊥) →
    HasRow s notes →
    RowMayFollow s.division s.start notes (RowTerm (record { monomial = over x (lm s.division.g); coefficient = u }))
    × HasRow (found s x (record { monomial = over x (lm s.division.g); coefficient = u })) (notes ++ RowTerm (record { monomial = over x (lm s.division.g); coefficient = u }) ∷ [])

-- a front at a bound may be published where it is below the present front, and then the published row says it
abbrev pub RowFronted : Type 0
RowFronted =
    (s : DivideState) (x y : List ℕ) (notes : List RowNote) → IsAccepted s.division → DivideWhole s → IsBound s x → IsFrontAt s.division x y → IsUnder s.division.ord s.front y → HasRow s notes →
    RowMayFollow s.division s.start notes (RowFront y) × HasRow (record s { front = Some y }) (notes ++ RowFront y ∷ [])

-- the other steps leave the published row as it is
abbrev pub RowKept : Type 0
RowKept =
    (s : DivideState) (notes : List RowNote) → HasRow s notes →
    ((x : List ℕ) → HasRow (processed s x) notes)
    × ((x : List ℕ) → HasRow (kept s x) notes)
    × ((w : ℕ) (n : Note) → HasRow (divide_take s w n) notes)

-- a merge stays whole when it goes on with a new published row
abbrev pub RowChanged : Type 0
RowChanged = (s : DivideState) (notes : List RowNote) → DivideWhole s → HasRow s notes → DivideWhole (with_new_row s) × HasRow (with_new_row s) []
