-- What the writer of a merge of a division asks for and gives when it publishes.
use Rattle.std.proofs.Common.{◌≡◌, ℕ, ◌<◌, ℤ, true, false, true≢false, List, [], ◌∷◌, ◌++◌, length, Result, Ok, Err, IfOk, IfErr, sym, ap, ◌∙◌, subst, arith}
use Rattle.std.specs.Result.{is_err}
use Rattle.std.proofs.lemmas.List.{length-map, map-append}
use Rattle.sdmp_laws.specs.Division.{Division}
use Rattle.divide_wholes.specs.Row.{RowNote, RowCarry}
use Rattle.quotient_row.specs.Ends.{published, IsWriterOf, name_of, places_of}
use Rattle.quotient_row.specs.Legal.{Legal}
use Rattle.quotient_row.specs.Names.{RowName}
use Rattle.quotient_row.specs.Spelling.{notes_of as row_notes_of, note_of as row_note_of}
use Rattle.quotient_row.specs.declared.note.RowNoteOf.{RowNoteOf}
use Rattle.quotient_row.specs.declared.row.Row.{Row}
use Rattle.quotient_row.specs.declared.row.RowWriter.{RowWriter}
use Rattle.divide_merge.specs.Names.{RowIdentity, row_identity, writer_row, IsPublishing}
use Rattle.divide_merge.specs.Merges.{DivideView, free_places}
use Rattle.divide_merge.specs.Inside.{Held, published_notes}

-- what holds where a call succeeds, and where it fails
pub given : {T E : Type 0} {P : Type 0} (r : Result T E) → is_err r ≡ false → IfOk r (λ _. P) → P
given (Ok x) e h = h
given (Err y) e h = absurd (true≢false e)

pub refused : {T E : Type 0} {P : Type 0} (r : Result T E) → is_err r ≡ true → IfErr r (λ _. P) → P
refused (Ok x) e h = absurd (true≢false (sym e))
refused (Err y) e h = h

module _ {X M E : Type 0} (row : Row X M E) where
  pub writer_of : (w : RowWriter X M E) → IsPublishing w → writer_row w ≡ row_identity row → IsWriterOf row w
  writer_of w k e = (k, ap (λ (i : RowIdentity). i.table) e, ap (λ (i : RowIdentity). i.name) e, ap (λ (i : RowIdentity). i.places) e)

  pub row_of : (w : RowWriter X M E) → IsWriterOf row w → writer_row w ≡ row_identity row
  row_of w o = λ i. record { table = o.1 i; name = o.2 i; places = o.3 i }

  module _ (vector : M → List ℕ) (value : E → ℤ) (h : Held X M E) (e : writer_row h.writer ≡ row_identity row) where
    -- what the rule of the row allows may be published
    pub legal_after : (d : Division) (x : RowNoteOf M E) → (writer_row h.writer).name.division ≡ d → RowCarry d (writer_row h.writer).name.start (published_notes vector value h.writer ++ row_note_of vector value x ∷ []) → Legal vector value (name_of row) (published h.writer ++ x ∷ [])
    legal_after d x f carried =
        subst (λ (name : RowName). Legal vector value name (published h.writer ++ x ∷ [])) (ap (λ (i : RowIdentity). i.name) e)
        (subst (λ (c : Division). RowCarry c (writer_row h.writer).name.start (row_notes_of vector value (published h.writer ++ x ∷ []))) (sym f)
        (subst (RowCarry d (writer_row h.writer).name.start) (sym (map-append (row_note_of vector value) (published h.writer) (x ∷ []))) carried))

  -- a row with a free place isn't full
  pub not_full : (vector : M → List ℕ) (value : E → ℤ) (w : RowWriter X M E) (v : DivideView) → v.row ≡ row_identity row → v.run.notes ≡ published_notes vector value w → 0 < free_places v → length (published w) ≡ places_of row → ⊥
  not_full vector value w v same notes place full =
      let places = ap (λ (i : RowIdentity). i.places) same in
      let long = ap (λ (L : List RowNote). length L) notes ∙ length-map (published w) (row_note_of vector value) in
      omega arith
