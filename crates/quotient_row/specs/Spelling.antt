-- Notes of a row as words, and as plain data.
use Rattle.std.specs.Prelude.{ℕ, ℤ, List, [], ◌∷◌, ◌++◌, map}
use Rattle.canonical_terms.specs.View.{term_of}
use Rattle.divide_wholes.specs.Row.{RowNote, RowTerm, RowFront}
use Rattle.quotient_row.specs.declared.note.RowNoteOf.{RowNoteOf}
use Rattle.quotient_row.specs.declared.note.RowNoteOf.TheVariants.{Term, Front}

-- the five words that spell a note: its kind, its monomial and its coefficient
abbrev pub words_of : {M E : Type 0} → (M → List ℕ) → (E → List ℕ) → RowNoteOf M E → List ℕ
words_of monomial coefficient (Term t) = 1 ∷ (monomial t.mono ++ coefficient t.coef)
words_of monomial coefficient (Front m) = 5 ∷ (monomial m ++ 0 ∷ 0 ∷ [])

-- the coefficient is one of the ring's
abbrev pub Belongs : {M E : Type 0} → (E → Type 0) → RowNoteOf M E → Type 0
Belongs belongs (Term t) = belongs t.coef
Belongs belongs (Front m) = Unit {0}

-- a note as plain data
abbrev pub note_of : {M E : Type 0} → (M → List ℕ) → (E → ℤ) → RowNoteOf M E → RowNote
note_of vector value (Term t) = RowTerm (term_of vector value t)
note_of vector value (Front m) = RowFront (vector m)

abbrev pub notes_of : {M E : Type 0} → (M → List ℕ) → (E → ℤ) → List (RowNoteOf M E) → List RowNote
notes_of vector value notes = map (note_of vector value) notes
