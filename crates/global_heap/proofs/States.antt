-- A merge's plain state, as its fields change.
use Rattle.std.proofs.Common.{◌≡◌, ℕ, ◌<◌, ℤ, List, [], ◌∷◌, ◌++◌, length, get_or, set, map, sym, ap, ◌∙◌, length-set}
use Rattle.std.proofs.lemmas.List.{map-set, map-append, get_or-map}
use Rattle.std.proofs.Math.Seq.{map-set_same}
use Rattle.whole_laws.specs.Notes.{Note, TermNote, EndNote}
use Rattle.whole_laws.specs.Wholes.{merge_take, notes_of as notes_at}
use Rattle.canonical_terms.specs.View.{term_of, sum_of}
use Rattle.canonical_terms.specs.declared.term.TermOf.{TermOf}
use Rattle.term_ring.specs.Spelling.{note_of, notes_of}
use Rattle.term_ring.specs.Ends.{taken}
use Rattle.term_ring.specs.declared.note.NoteOf.{NoteOf}
use Rattle.term_ring.specs.declared.note.NoteOf.TheVariants as note
use Rattle.term_ring.specs.declared.ring.Reader.{Reader}
use Rattle.ring_heads.specs.declared.head.HeadOf.{HeadOf}
use Rattle.ring_heads.specs.declared.head.HeadOf.TheVariants as head
use Rattle.ring_heads.specs.Heads.{plain, plain_heads}
use Rattle.term_ring.specs.Names.{reader_name}
use Rattle.global_heap.specs.Names.{first_product}
use Rattle.global_heap.specs.Inside.{reader_notes, merge_state}

missing_stays : {M E : Type 0} (vector : M → List ℕ) (value : E → ℤ) (hs : List (HeadOf M E)) (w : ℕ) → get_or hs w head.Missing ≡ head.Missing → plain_heads vector value (set hs w head.Ended) ≡ plain_heads vector value hs
missing_stays vector value hs w e = map-set_same (plain vector value) hs w head.Ended head.Missing (sym (ap (plain vector value) e))

module _ {X M E : Type 0} (vector : M → List ℕ) (value : E → ℤ) where
  -- the names of the rings stay
  pub same_names : (rs : List (Reader X M E)) (w : ℕ) (r d : Reader X M E) → reader_name r ≡ reader_name (get_or rs w d) → map reader_name (set rs w r) ≡ map reader_name rs
  same_names rs w r d e = map-set_same reader_name rs w r d e

  pub notes_after : (rs : List (Reader X M E)) (w : ℕ) (r : Reader X M E) → map (reader_notes vector value) (set rs w r) ≡ set (map (reader_notes vector value) rs) w (reader_notes vector value r)
  notes_after rs w r = map-set (reader_notes vector value) rs w r

  pub one_more : (rs : List (Reader X M E)) (w : ℕ) (r d : Reader X M E) (n : NoteOf M E) → w < length rs → taken r ≡ taken (get_or rs w d) ++ n ∷ []
      → reader_notes vector value r ≡ notes_at (map (reader_notes vector value) rs) w ++ note_of vector value n ∷ []
  unfolding notes_at
  one_more rs w r d n l e =
      ap (notes_of vector value) e ∙ map-append (note_of vector value) (taken (get_or rs w d)) (n ∷ [])
      ∙ ap (λ (ns : List Note). ns ++ note_of vector value n ∷ []) (sym (get_or-map (reader_notes vector value) rs w d [] l))

  -- the state after a term was taken
  pub term_state : (rs : List (Reader X M E)) (hs : List (HeadOf M E)) (out : List (TermOf M E)) (w : ℕ) (r d : Reader X M E) (t : TermOf M E) → w < length rs
      → reader_name r ≡ reader_name (get_or rs w d) → taken r ≡ taken (get_or rs w d) ++ note.Term t ∷ []
      → merge_state vector value (set rs w r) (set hs w (head.Term t)) out ≡ merge_take (merge_state vector value rs hs out) w (TermNote (term_of vector value t))
  unfolding merge_take
  term_state rs hs out w r d t l e n =
      let names = same_names rs w r d e in
      let notes = notes_after rs w r ∙ ap (λ (x : List Note). set (map (reader_notes vector value) rs) w x) (one_more rs w r d (note.Term t) l n) in
      λ i. record {
        product = first_product (names i);
        workers = length-set rs w r i;
        out = sum_of vector value out;
        heads = map-set (plain vector value) hs w (head.Term t) i;
        taken = notes i;
      }

  -- the state after an end was taken
  pub end_state : (rs : List (Reader X M E)) (hs : List (HeadOf M E)) (out : List (TermOf M E)) (w : ℕ) (r d : Reader X M E) → w < length rs → get_or hs w head.Missing ≡ head.Missing
      → reader_name r ≡ reader_name (get_or rs w d) → taken r ≡ taken (get_or rs w d) ++ note.End ∷ []
      → merge_state vector value (set rs w r) (set hs w head.Ended) out ≡ merge_take (merge_state vector value rs hs out) w EndNote
  unfolding merge_take
  end_state rs hs out w r d l m e n =
      let names = same_names rs w r d e in
      let notes = notes_after rs w r ∙ ap (λ (x : List Note). set (map (reader_notes vector value) rs) w x) (one_more rs w r d note.End l n) in
      λ i. record {
        product = first_product (names i);
        workers = length-set rs w r i;
        out = sum_of vector value out;
        heads = missing_stays vector value hs w m i;
        taken = notes i;
      }

  -- the state where nothing was taken
  pub idle_state : (rs : List (Reader X M E)) (hs : List (HeadOf M E)) (out : List (TermOf M E)) (w : ℕ) (r d : Reader X M E)
      → reader_name r ≡ reader_name (get_or rs w d) → taken r ≡ taken (get_or rs w d)
      → merge_state vector value (set rs w r) hs out ≡ merge_state vector value rs hs out
  idle_state rs hs out w r d e n =
      let names = same_names rs w r d e in
      let notes = map-set_same (reader_notes vector value) rs w r d (ap (notes_of vector value) n) in
      λ i. record {
        product = first_product (names i);
        workers = length-set rs w r i;
        out = sum_of vector value out;
        heads = plain_heads vector value hs;
        taken = notes i;
      }
