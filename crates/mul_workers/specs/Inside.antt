-- The fields of a sender, and what they keep.
use Rattle.std.specs.Prelude.{◌≡◌, ℕ, ℤ, Bool, true, false, List, [], ◌∷◌, ◌++◌, Option, Some, None}
use Rattle.sdmp_laws.specs.Order.{Order}
use Rattle.sdmp_laws.specs.Poly.{Term}
use Rattle.whole_laws.specs.Notes.{Note, TermNote, MarkNote, EndNote, Script, ProductScript, NoEnd, Carry, terms_in, script_list}
use Rattle.row_merge.specs.Part.{Remaining}
use Rattle.term_ring.specs.Spelling.{Belongs, note_of, notes_of}
use Rattle.term_ring.specs.Ends.{sent}
use Rattle.term_ring.specs.declared.note.NoteOf.{NoteOf}
use Rattle.term_ring.specs.declared.ring.Writer.{Writer}
use Rattle.term_ring.specs.Names.{writer_name, IsWriting}
use Rattle.term_ring.specs.Sending.{whole_script}

-- what the worker of these rows is to send
abbrev pub script_of_rows : Order → ℕ → Remaining → Script
script_of_rows ord n r = ProductScript record { ord = ord; p = r.modulus; n = n; f = r.f; g = r.g } r.workers r.worker

-- of the terms that were not sent the note is the next, and then come the rest
abbrev pub IsNextNote : List Term → Note → List Term → Type 0
IsNextNote unsent (TermNote t) rest = unsent ≡ t ∷ rest
IsNextNote unsent (MarkNote k top) rest = ⊥
IsNextNote unsent EndNote rest = (unsent ≡ []) × (rest ≡ [])

module _ {M E : Type 0} where
  -- the terms that were not sent: those that the rows still hand out, after the note that was kept
  abbrev pub IsUnsent : (M → List ℕ) → (E → ℤ) → List Term → Option (NoteOf M E) → List Term → Type 0
  IsUnsent vector value unsent None rest = unsent ≡ rest
  IsUnsent vector value unsent (Some x) rest = IsNextNote unsent (note_of vector value x) rest

  abbrev pub KeptBelongs : (E → Type 0) → Option (NoteOf M E) → Type 0
  KeptBelongs belongs None = Unit {0}
  KeptBelongs belongs (Some x) = Belongs belongs x

-- what a sender keeps
pub record IsSender {X M E : Type 0} (vector : M → List ℕ) (value : E → ℤ) (belongs : ℕ → E → Type 0) (ord : Order) (n : ℕ) (rows : Remaining) (writer : Writer X M E) (kept : Option (NoteOf M E)) (ended : Bool) (worker : ℕ) : Type 0 where
  pub writing : IsWriting writer
  pub script : (writer_name writer).script ≡ script_of_rows ord n rows
  pub number : worker ≡ rows.worker
  pub carried : Carry (script_of_rows ord n rows) (notes_of vector value (sent writer))
  pub unsent : List Term
  pub all : terms_in (notes_of vector value (sent writer)) ++ unsent ≡ script_list (script_of_rows ord n rows)
  pub next : IsUnsent vector value unsent kept rows.rest
  pub kept_belongs : KeptBelongs (belongs rows.modulus) kept
  pub not_ended : ended ≡ false → NoEnd (notes_of vector value (sent writer))
  pub has_ended : ended ≡ true → notes_of vector value (sent writer) ≡ whole_script (script_of_rows ord n rows)
