-- The rule of the notes, said of typed notes.
use Rattle.std.proofs.Common.{◌≡◌, ℕ, ℤ, ◌+◌, ◌<◌, List, [], ◌∷◌, ◌++◌, map, take, drop, length, get_or, refl, sym, ap, ◌∙◌, subst, append_assoc, append-nil, All}
use Rattle.std.proofs.lemmas.List.{map-append, take_more, take-append-drop}
use Rattle.std.proofs.lemmas.List.Elements.{All-push, All-map}
use Rattle.sdmp_laws.specs.Poly.{Term as PlainTerm}
use Rattle.canonical_terms.specs.View.{term_of, sum_of}
use Rattle.canonical_terms.specs.declared.term.TermOf.{TermOf}
use Rattle.whole_laws.specs.Notes.{Script, ProductScript, Product, Note, TermNote, MarkNote, EndNote, Carry, CarryAfter, MayFollow, EndMayFollow, NoEnd, terms_in, script_list}
use Rattle.whole_laws.proofs.NotesLemmas.{Carry-front, terms_in-append}
use Rattle.term_ring.specs.declared.note.NoteOf.{NoteOf}
use Rattle.term_ring.specs.declared.note.NoteOf.TheVariants.{Term, End}
use Rattle.term_ring.specs.Plain.{modulus_of}
use Rattle.term_ring.specs.Spelling.{note_of, notes_of}
use Rattle.term_ring.specs.Carried.{Fits, Carries, whole}

module _ {M E : Type 0} (vector : M → List ℕ) (value : E → ℤ) (s : Script) where
  pub carries_none : Carries {M = M} {E = E} vector value s []
  unfolding CarryAfter
  carries_none = tt

  -- a beginning of what may be sent may be sent
  pub carries_front : (notes rest : List (NoteOf M E)) (n : NoteOf M E) → Carries vector value s (notes ++ n ∷ rest) → Carries vector value s (notes ++ n ∷ [])
  carries_front notes rest n h =
      let both : Carries vector value s ((notes ++ n ∷ []) ++ rest) = subst (Carries vector value s) (sym (append_assoc notes (n ∷ []) rest)) h in
      Carry-front s (notes_of vector value (notes ++ n ∷ [])) (notes_of vector value rest) (subst (Carry s) (map-append (note_of vector value) (notes ++ n ∷ []) rest) both)

  -- of a list that may be sent, what was sent and the next note may be sent
  pub carries_next : (list : List (NoteOf M E)) (i : ℕ) (n : NoteOf M E) → i < length list → n ≡ get_or list i n → Carries vector value s list → Carries vector value s (take i list ++ n ∷ [])
  carries_next list i n inside is h =
      let front : take (i + 1) list ≡ take i list ++ n ∷ [] = take_more list i n inside ∙ ap (λ x. take i list ++ x ∷ []) (sym is) in
      let split : list ≡ (take i list ++ n ∷ []) ++ drop (i + 1) list = sym (take-append-drop (i + 1) list) ∙ ap (λ l. l ++ drop (i + 1) list) front in
      carries_front (take i list) (drop (i + 1) list) n (subst (Carries vector value s) (split ∙ append_assoc (take i list) (n ∷ []) (drop (i + 1) list)) h)

still_none : (b : List Note) (t : PlainTerm) → NoEnd b → NoEnd (b ++ TermNote t ∷ [])
unfolding NoEnd
still_none [] t h = tt
still_none (TermNote u ∷ b) t h = still_none b t h
still_none (MarkNote k top ∷ b) t h = still_none b t h
still_none (EndNote ∷ b) t h = absurd h

one_more : (b : List Note) (t : PlainTerm) → terms_in (b ++ TermNote t ∷ []) ≡ terms_in b ++ t ∷ []
unfolding terms_in
one_more b t = terms_in-append b (TermNote t ∷ [])

-- all terms of a product may be sent, and then the end
all_after : (m : Product) (W w : ℕ) (before : List Note) (rest : List PlainTerm) → NoEnd before → terms_in before ++ rest ≡ script_list (ProductScript m W w)
    → CarryAfter (ProductScript m W w) before (map (λ t. TermNote t) rest ++ EndNote ∷ [])
unfolding CarryAfter MayFollow EndMayFollow
all_after m W w before [] none e = ((none, sym (append-nil (terms_in before)) ∙ e), tt)
all_after m W w before (t ∷ rest) none e =
    let more : terms_in (before ++ TermNote t ∷ []) ≡ terms_in before ++ t ∷ [] = one_more before t in
    let now : (terms_in before ++ t ∷ []) ++ rest ≡ script_list (ProductScript m W w) = append_assoc (terms_in before) (t ∷ []) rest ∙ e in
    ((none, (rest, now)), all_after m W w (before ++ TermNote t ∷ []) rest (still_none before t none) (ap (λ L. L ++ rest) more ∙ now))

plain_whole : {M E : Type 0} (vector : M → List ℕ) (value : E → ℤ) (ts : List (TermOf M E)) → notes_of vector value (whole ts) ≡ map (λ t. TermNote t) (sum_of vector value ts) ++ EndNote ∷ []
plain_whole vector value [] = refl
plain_whole vector value (t ∷ ts) = ap (λ l. TermNote (term_of vector value t) ∷ l) (plain_whole vector value ts)

pub carries_whole : {M E : Type 0} (vector : M → List ℕ) (value : E → ℤ) (m : Product) (W w : ℕ) (ts : List (TermOf M E))
    → sum_of vector value ts ≡ script_list (ProductScript m W w) → Carries vector value (ProductScript m W w) (whole ts)
unfolding terms_in NoEnd
carries_whole vector value m W w ts e = subst (Carry (ProductScript m W w)) (sym (plain_whole vector value ts)) (all_after m W w [] (sum_of vector value ts) tt e)

-- a whole list of terms that belong fits
pub fits_whole : {M E : Type 0} (belongs : ℕ → E → Type 0) (s : Script) (ts : List (TermOf M E)) → All (λ t. belongs (modulus_of s) t.coef) ts → All (Fits belongs s) (whole ts)
fits_whole belongs s ts h = All-push (Fits belongs s) (map (λ t. Term t) ts) End (All-map (Fits belongs s) (λ t. Term t) ts h) tt
