-- The rule of the notes, and what is owed.
use Rattle.std.proofs.Common.{◌≡◌, List, [], ◌∷◌, ◌++◌, length, drop, sym, ap, ◌∙◌, append_assoc}
use Rattle.std.proofs.lemmas.List.Prefix.{front_rest}
use Rattle.sdmp_laws.specs.Poly.{Term}
use Rattle.whole_laws.specs.Notes.{Note, TermNote, MarkNote, EndNote, Script, script_list, terms_in, Carry, owed}
use Rattle.whole_laws.specs.WholeLaws.{CarryLaws, OwedLaws, OwedSplit}
use Rattle.whole_laws.proofs.NotesLemmas.{terms_in-append, terms_in-mark, terms_in-end, Carry-push, Carry-front, taken_owed}

pub carry_laws : CarryLaws
carry_laws s = ((λ notes x c m. Carry-push s notes x c m), (λ a b c. Carry-front s a b c), (λ notes c. taken_owed s notes c))

-- ---- what is owed
pub owed_split : OwedSplit
unfolding owed
owed_split s taken inside c =
    let rest = owed s (taken ++ inside) in
    let whole : script_list s ≡ terms_in taken ++ (terms_in inside ++ rest) =
    sym (taken_owed s (taken ++ inside) c) ∙ ap (λ (L : List Term). L ++ rest) (terms_in-append taken inside) ∙ append_assoc (terms_in taken) (terms_in inside) rest in
    front_rest (script_list s) (terms_in taken) (terms_in inside ++ rest) whole

owed_term : (s : Script) (notes : List Note) (t : Term) → Carry s (notes ++ TermNote t ∷ []) → owed s notes ≡ t ∷ owed s (notes ++ TermNote t ∷ [])
unfolding terms_in
owed_term s notes t c = owed_split s notes (TermNote t ∷ []) c

owed_terms : (s : Script) (a b : List Note) → terms_in a ≡ terms_in b → owed s a ≡ owed s b
unfolding owed
owed_terms s a b e = ap (λ (L : List Term). drop (length L) (script_list s)) e

pub owed_laws : OwedLaws
owed_laws s notes = (
  (λ t c. owed_term s notes t c),
  (λ k top. owed_terms s (notes ++ MarkNote k top ∷ []) notes (terms_in-mark notes k top)),
  owed_terms s (notes ++ EndNote ∷ []) notes (terms_in-end notes),
)
