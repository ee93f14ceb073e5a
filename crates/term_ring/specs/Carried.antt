-- What a ring's rule says of its notes.
use Rattle.std.specs.Prelude.{ℕ, ℤ, List, [], ◌∷◌, ◌++◌, map}
use Rattle.whole_laws.specs.Notes.{Script, Carry}
use Rattle.canonical_terms.specs.declared.term.TermOf.{TermOf}
use Rattle.term_ring.specs.declared.note.NoteOf.{NoteOf}
use Rattle.term_ring.specs.declared.note.NoteOf.TheVariants.{Term, End}
use Rattle.term_ring.specs.Spelling.{Belongs, notes_of}
use Rattle.term_ring.specs.Plain.{modulus_of}

-- the note is over the ring of the script
abbrev pub Fits : {M E : Type 0} → (ℕ → E → Type 0) → Script → NoteOf M E → Type 0
Fits belongs s x = Belongs (belongs (modulus_of s)) x

-- these notes may be sent under the script, in this order
abbrev pub Carries : {M E : Type 0} → (M → List ℕ) → (E → ℤ) → Script → List (NoteOf M E) → Type 0
Carries vector value s notes = Carry s (notes_of vector value notes)

-- the terms, and then the end
abbrev pub whole : {M E : Type 0} → List (TermOf M E) → List (NoteOf M E)
whole ts = map (λ t. Term t) ts ++ End ∷ []
