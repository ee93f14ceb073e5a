-- The notes of the published row, and the rule that they keep.
use Rattle.std.specs.Prelude.{◌≡◌, ℕ, List, [], ◌∷◌, ◌++◌, length, take, Option, Some, None}
use mathlib.Core.List.{IsPrefix}
use Rattle.sdmp_laws.specs.Order.{◌⋅◌, IsUnder}
use Rattle.sdmp_laws.specs.Poly.{Term, lm}
use Rattle.sdmp_laws.specs.Division.{Division}
use Rattle.sdmp_laws.specs.LongDivision.{quotient_list}
use Rattle.sdmp_laws.specs.Limits.{PassesBound}
use Rattle.divide_wholes.specs.Wholes.{AllUnderFront}

-- the next quotient term, or a monomial that no later term times lm(g) is above
pub data RowNote : Type 0 where
  RowTerm : Term → RowNote
  RowFront : List ℕ → RowNote

-- the terms among the notes, in order
unfoldable pub row_terms : List RowNote → List Term
row_terms [] = []
row_terms (RowTerm t ∷ notes) = t ∷ row_terms notes
row_terms (RowFront m ∷ notes) = row_terms notes

-- the front after the notes, where it was `front` before them
unfoldable pub front_after : Division → Option (List ℕ) → List RowNote → Option (List ℕ)
front_after d front [] = front
front_after d front (RowTerm t ∷ notes) = front_after d (Some (t.monomial ⋅ lm d.g)) notes
front_after d front (RowFront m ∷ notes) = front_after d (Some m) notes

-- the quotient terms known after the notes of a published row that starts at `start`
unfoldable pub known_after : Division → ℕ → List RowNote → List Term
known_after d start notes = take start (quotient_list d) ++ row_terms notes

-- the note x may be published after the notes `before`
unfoldable pub RowMayFollow : Division → ℕ → List RowNote → RowNote → Type 0
RowMayFollow d start before (RowTerm t) =
    IsPrefix (known_after d start before ++ t ∷ []) (quotient_list d) × (PassesBound d (known_after d start before ++ t ∷ []) → ⊥)
RowMayFollow d start before (RowFront m) =
    (length m ≡ d.n) × IsUnder d.ord (front_after d None before) m × ((later : List Term) → known_after d start before ++ later ≡ quotient_list d → AllUnderFront d (Some m) later)

-- each of the notes might follow those before it
unfoldable pub RowCarryAfter : Division → ℕ → List RowNote → List RowNote → Type 0
RowCarryAfter d start before [] = Unit {0}
RowCarryAfter d start before (x ∷ notes) = RowMayFollow d start before x × RowCarryAfter d start (before ++ x ∷ []) notes

-- the rule of the notes of a published row
abbrev pub RowCarry : Division → ℕ → List RowNote → Type 0
RowCarry d start notes = RowCarryAfter d start [] notes
