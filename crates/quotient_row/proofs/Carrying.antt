-- The rule of the notes, said of typed notes; and what it says of the terms.
use Rattle.std.proofs.Common.{◌≡◌, ◌≢◌, ℕ, ℤ, ◌+◌, ◌<◌, List, [], ◌∷◌, ◌++◌, take, drop, length, get_or, refl, sym, ap, ◌∙◌, subst, append_assoc, append-nil}
use Rattle.std.proofs.lemmas.List.{map-append, take_more, take-append-drop}
use mathlib.Core.List.{IsPrefix}
use Rattle.sdmp_laws.specs.Poly.{Term as PlainTerm}
use Rattle.sdmp_laws.specs.Division.{Division}
use Rattle.sdmp_laws.specs.LongDivision.{quotient_list}
use Rattle.sdmp_laws.specs.Limits.{PassesBound}
use Rattle.divide_wholes.specs.Row.{RowNote, RowTerm, RowFront, RowCarry, RowCarryAfter, RowMayFollow, row_terms, known_after}
use Rattle.divide_wholes.proofs.RowLemmas.{row_front, row_terms-append, row_terms-front}
use Rattle.quotient_row.specs.declared.note.RowNoteOf.{RowNoteOf}
use Rattle.quotient_row.specs.Names.{RowName}
use Rattle.quotient_row.specs.Spelling.{note_of, notes_of}
use Rattle.quotient_row.specs.Legal.{Legal, TermsAreNext}

module _ {M E : Type 0} (vector : M → List ℕ) (value : E → ℤ) (name : RowName) where
  pub legal_none : Legal {M = M} {E = E} vector value name []
  unfolding RowCarryAfter
  legal_none = tt

  -- a beginning of what is legal is legal
  pub legal_front : (notes rest : List (RowNoteOf M E)) (n : RowNoteOf M E) → Legal vector value name (notes ++ n ∷ rest) → Legal vector value name (notes ++ n ∷ [])
  legal_front notes rest n h =
      let both : Legal vector value name ((notes ++ n ∷ []) ++ rest) = subst (Legal vector value name) (sym (append_assoc notes (n ∷ []) rest)) h in
      row_front name.division name.start [] (notes_of vector value (notes ++ n ∷ [])) (notes_of vector value rest)
      (subst (RowCarry name.division name.start) (map-append (note_of vector value) (notes ++ n ∷ []) rest) both)

  -- of a legal list, what was published and the next note is legal
  pub legal_next : (list : List (RowNoteOf M E)) (i : ℕ) (n : RowNoteOf M E) → i < length list → n ≡ get_or list i n → Legal vector value name list → Legal vector value name (take i list ++ n ∷ [])
  legal_next list i n inside is h =
      let front : take (i + 1) list ≡ take i list ++ n ∷ [] = take_more list i n inside ∙ ap (λ x. take i list ++ x ∷ []) (sym is) in
      let split : list ≡ (take i list ++ n ∷ []) ++ drop (i + 1) list = sym (take-append-drop (i + 1) list) ∙ ap (λ l. l ++ drop (i + 1) list) front in
      legal_front (take i list) (drop (i + 1) list) n (subst (Legal vector value name) (split ∙ append_assoc (take i list) (n ∷ []) (drop (i + 1) list)) h)

-- ---- the terms of a row
-- a beginning of the quotient terms that a last term, where there is one, does not take past the bound
Next : Division → ℕ → List RowNote → Type 0
Next d start notes = IsPrefix (known_after d start notes) (quotient_list d) × (row_terms notes ≢ [] → PassesBound d (known_after d start notes) → ⊥)

known_more : (d : Division) (start : ℕ) (before : List RowNote) (t : PlainTerm) → known_after d start before ++ t ∷ [] ≡ known_after d start (before ++ RowTerm t ∷ [])
unfolding known_after row_terms
known_more d start before t =
    append_assoc (take start (quotient_list d)) (row_terms before) (t ∷ []) ∙ ap (λ (L : List PlainTerm). take start (quotient_list d) ++ L) (sym (row_terms-append before (RowTerm t ∷ [])))

next_after : (d : Division) (start : ℕ) (before notes : List RowNote) → Next d start before → RowCarryAfter d start before notes → Next d start (before ++ notes)
unfolding RowCarryAfter RowMayFollow known_after Next
next_after d start before [] h c = subst (Next d start) (sym (append-nil before)) h
next_after d start before (RowTerm t ∷ notes) h c =
    let e = known_more d start before t in
    let now : Next d start (before ++ RowTerm t ∷ []) = (subst (λ (L : List PlainTerm). IsPrefix L (quotient_list d)) e c.0.0, (λ _ p. c.0.1 (subst (PassesBound d) (sym e) p))) in
    subst (Next d start) (append_assoc before (RowTerm t ∷ []) notes) (next_after d start (before ++ RowTerm t ∷ []) notes now c.1)
next_after d start before (RowFront m ∷ notes) h c =
    let e = row_terms-front before m in
    let now : Next d start (before ++ RowFront m ∷ []) = subst (λ (L : List PlainTerm). IsPrefix (take start (quotient_list d) ++ L) (quotient_list d) × (L ≢ [] → PassesBound d (take start (quotient_list d) ++ L) → ⊥)) (sym e) h in
    subst (Next d start) (append_assoc before (RowFront m ∷ []) notes) (next_after d start (before ++ RowFront m ∷ []) notes now c.1)

first_next : (d : Division) (start : ℕ) → Next d start []
unfolding known_after row_terms Next
first_next d start = ((drop start (quotient_list d), ap (λ L. L ++ drop start (quotient_list d)) (append-nil (take start (quotient_list d))) ∙ take-append-drop start (quotient_list d)), (λ some. absurd (some refl)))

pub terms_are_next : TermsAreNext
unfolding Next
terms_are_next d start notes c = next_after d start [] notes (first_next d start) c
