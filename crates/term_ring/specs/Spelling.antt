-- Notes as words, and as plain data.
use Rattle.std.specs.Prelude.{ℕ, ℤ, ◌^◌, ◌<◌, List, [], ◌∷◌, ◌++◌, map, Some, None}
use Rattle.canonical_terms.specs.View.{term_of}
use Rattle.whole_laws.specs.Notes.{Note, TermNote, MarkNote, EndNote}
use Rattle.term_ring.specs.declared.note.NoteOf.{NoteOf}
use Rattle.term_ring.specs.declared.note.NoteOf.TheVariants.{Term, Mark, End}

-- the five words that spell a note: its kind, its monomial, and its coefficient or the number known
abbrev pub words_of : {M E : Type 0} → (M → List ℕ) → (E → List ℕ) → NoteOf M E → List ℕ
words_of monomial coefficient (Term t) = 1 ∷ (monomial t.mono ++ coefficient t.coef)
words_of monomial coefficient (Mark known None) = 2 ∷ 0 ∷ 0 ∷ known ∷ 0 ∷ []
words_of monomial coefficient (Mark known (Some top)) = 3 ∷ (monomial top ++ known ∷ 0 ∷ [])
words_of monomial coefficient End = 4 ∷ 0 ∷ 0 ∷ 0 ∷ 0 ∷ []

-- the coefficient is one of the ring's, and a number known is a word of 32 bits
abbrev pub Belongs : {M E : Type 0} → (E → Type 0) → NoteOf M E → Type 0
Belongs belongs (Term t) = belongs t.coef
Belongs belongs (Mark known top) = known < 2 ^ 32
Belongs belongs End = Unit {0}

-- a note as plain data
abbrev pub note_of : {M E : Type 0} → (M → List ℕ) → (E → ℤ) → NoteOf M E → Note
note_of vector value (Term t) = TermNote (term_of vector value t)
note_of vector value (Mark known None) = MarkNote known None
note_of vector value (Mark known (Some top)) = MarkNote known (Some (vector top))
note_of vector value End = EndNote

abbrev pub notes_of : {M E : Type 0} → (M → List ℕ) → (E → ℤ) → List (NoteOf M E) → List Note
notes_of vector value notes = map (note_of vector value) notes
