-- What a row's rule says of its notes.
use Rattle.std.specs.Prelude.{◌≢◌, ℕ, ℤ, List, []}
use mathlib.Core.List.{IsPrefix}
use Rattle.sdmp_laws.specs.Division.{Division}
use Rattle.sdmp_laws.specs.LongDivision.{quotient_list}
use Rattle.sdmp_laws.specs.Limits.{PassesBound}
use Rattle.divide_wholes.specs.Row.{RowNote, RowCarry, row_terms, known_after}
use Rattle.quotient_row.specs.declared.note.RowNoteOf.{RowNoteOf}
use Rattle.quotient_row.specs.Names.{RowName}
use Rattle.quotient_row.specs.Spelling.{Belongs, notes_of}

-- the note is over the ring of the division
abbrev pub Fits : {M E : Type 0} → (ℕ → E → Type 0) → RowName → RowNoteOf M E → Type 0
Fits belongs name x = Belongs (belongs name.division.p) x

-- these notes may be published in the row, in this order
abbrev pub Legal : {M E : Type 0} → (M → List ℕ) → (E → ℤ) → RowName → List (RowNoteOf M E) → Type 0
Legal vector value name notes = RowCarry name.division name.start (notes_of vector value notes)

-- the terms of a row are the next quotient terms after the first `start`, and none of the beginnings that end with one of them passes its bound
abbrev pub TermsAreNext : Type 0
TermsAreNext =
    (d : Division) (start : ℕ) (notes : List RowNote) → RowCarry d start notes →
    IsPrefix (known_after d start notes) (quotient_list d) × (row_terms notes ≢ [] → PassesBound d (known_after d start notes) → ⊥)
