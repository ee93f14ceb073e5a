-- What a merge of a division holds as plain data, as its fields change.
use Rattle.std.proofs.Common.{◌≡◌, ℕ, ◌<◌, ℤ, List, [], ◌∷◌, ◌++◌, length, get_or, set, Option, Some, None, refl, ap, ◌∙◌, length-set}
use Rattle.std.proofs.lemmas.List.{map-set}
use Rattle.std.proofs.Math.Seq.{map-set_same}
use Rattle.whole_laws.specs.Notes.{Note, TermNote, MarkNote, EndNote}
use Rattle.whole_laws.specs.Wholes.{notes_of as notes_at}
use Rattle.divide_wholes.specs.Row.{row_terms}
use Rattle.divide_wholes.specs.Wholes.{divide_take, mark_after, latest_mark}
use Rattle.canonical_terms.specs.View.{term_of, sum_of}
use Rattle.canonical_terms.specs.declared.term.TermOf.{TermOf}
use Rattle.term_ring.specs.Spelling.{note_of, notes_of}
use Rattle.term_ring.specs.Ends.{taken}
use Rattle.term_ring.specs.declared.note.NoteOf.{NoteOf}
use Rattle.term_ring.specs.declared.note.NoteOf.TheVariants as note
use Rattle.term_ring.specs.declared.ring.Reader.{Reader}
use Rattle.term_ring.specs.Names.{reader_name}
use Rattle.ring_heads.specs.declared.head.HeadOf.TheVariants as head
use Rattle.ring_heads.specs.Heads.{plain, plain_heads}
use Rattle.global_heap.specs.Inside.{reader_notes}
use Rattle.global_heap.proofs.States.{same_names, notes_after, one_more}
use Rattle.divide_merge.specs.Names.{writer_row, first_division}
use Rattle.divide_merge.specs.Inside.{Held, vector_of, taken_notes, published_notes, divide_state}
use Rattle.divide_merge.specs.declared.mark.Mark.{Mark}

-- ---- the latest mark
mark_term : (m : ℕ × Option (List ℕ)) (notes : List Note) (x : Note) (n : ℕ × Option (List ℕ)) → mark_after (mark_after m notes) (x ∷ []) ≡ n → mark_after m (notes ++ x ∷ []) ≡ n
unfolding mark_after
mark_term m [] x n e = e
mark_term m (TermNote t ∷ notes) x n e = mark_term m notes x n e
mark_term m (MarkNote k top ∷ notes) x n e = mark_term (k, top) notes x n e
mark_term m (EndNote ∷ notes) x n e = mark_term m notes x n e

pub latest_term : (notes : List Note) (t : _) → latest_mark (notes ++ TermNote t ∷ []) ≡ latest_mark notes
unfolding latest_mark mark_after
latest_term notes t = mark_term (0, None) notes (TermNote t) (mark_after (0, None) notes) refl

pub latest_new : (notes : List Note) (k : ℕ) (top : Option (List ℕ)) → latest_mark (notes ++ MarkNote k top ∷ []) ≡ (k, top)
unfolding latest_mark mark_after
latest_new notes k top = mark_term (0, None) notes (MarkNote k top) (k, top) refl

module _ {X M E : Type 0} (vector : M → List ℕ) (value : E → ℤ) where
  -- the notes after one more
  pub notes_more : (rs : List (Reader X M E)) (w : ℕ) (r d : Reader X M E) (x : NoteOf M E) → w < length rs → taken r ≡ taken (get_or rs w d) ++ x ∷ []
      → taken_notes vector value (set rs w r) ≡ set (taken_notes vector value rs) w (notes_at (taken_notes vector value rs) w ++ note_of vector value x ∷ [])
  notes_more rs w r d x l e = notes_after vector value rs w r ∙ ap (λ (n : List Note). set (taken_notes vector value rs) w n) (one_more vector value rs w r d x l e)

  -- the state after a term was taken
  pub term_state : (h : Held X M E) (w : ℕ) (r d : Reader X M E) (t : TermOf M E) → w < length h.readers
      → reader_name r ≡ reader_name (get_or h.readers w d) → taken r ≡ taken (get_or h.readers w d) ++ note.Term t ∷ []
      → (n : ℕ) → divide_state vector value (record h { readers = set h.readers w r; heads = set h.heads w (head.Term t); taken = n }) ≡ divide_take (divide_state vector value h) w (TermNote (term_of vector value t))
  unfolding divide_take
  term_state h w r d t l e n count = λ i. record {
    division = first_division (same_names vector value h.readers w r d e i);
    workers = length-set h.readers w r i;
    q = sum_of vector value h.found;
    r = sum_of vector value h.rest;
    unread = (divide_state vector value h).unread;
    heads = map-set (plain vector value) h.heads w (head.Term t) i;
    taken = notes_more h.readers w r d (note.Term t) l n i;
    last = vector_of vector h.last;
    front = vector_of vector h.front;
    start = (writer_row h.writer).name.start;
    published = row_terms (published_notes vector value h.writer);
  }

  -- after a mark was taken
  pub mark_state : (h : Held X M E) (w : ℕ) (r d : Reader X M E) (k : ℕ) (top : Option M) → w < length h.readers
      → reader_name r ≡ reader_name (get_or h.readers w d) → taken r ≡ taken (get_or h.readers w d) ++ note.Mark k top ∷ []
      → (ms : List (Mark M)) (n : ℕ) → divide_state vector value (record h { readers = set h.readers w r; marks = ms; taken = n }) ≡ divide_take (divide_state vector value h) w (note_of vector value (note.Mark k top))
  unfolding divide_take
  mark_state h w r d k None l e n ms count = λ i. record {
    division = first_division (same_names vector value h.readers w r d e i);
    workers = length-set h.readers w r i;
    q = sum_of vector value h.found;
    r = sum_of vector value h.rest;
    unread = (divide_state vector value h).unread;
    heads = plain_heads vector value h.heads;
    taken = notes_more h.readers w r d (note.Mark k None) l n i;
    last = vector_of vector h.last;
    front = vector_of vector h.front;
    start = (writer_row h.writer).name.start;
    published = row_terms (published_notes vector value h.writer);
  }
  mark_state h w r d k (Some top) l e n ms count = λ i. record {
    division = first_division (same_names vector value h.readers w r d e i);
    workers = length-set h.readers w r i;
    q = sum_of vector value h.found;
    r = sum_of vector value h.rest;
    unread = (divide_state vector value h).unread;
    heads = plain_heads vector value h.heads;
    taken = notes_more h.readers w r d (note.Mark k (Some top)) l n i;
    last = vector_of vector h.last;
    front = vector_of vector h.front;
    start = (writer_row h.writer).name.start;
    published = row_terms (published_notes vector value h.writer);
  }

  -- where nothing was taken
  pub idle_state : (h : Held X M E) (w : ℕ) (r d : Reader X M E)
      → reader_name r ≡ reader_name (get_or h.readers w d) → taken r ≡ taken (get_or h.readers w d)
      → divide_state vector value (record h { readers = set h.readers w r }) ≡ divide_state vector value h
  idle_state h w r d e n = λ i. record {
    division = first_division (same_names vector value h.readers w r d e i);
    workers = length-set h.readers w r i;
    q = sum_of vector value h.found;
    r = sum_of vector value h.rest;
    unread = (divide_state vector value h).unread;
    heads = plain_heads vector value h.heads;
    taken = map-set_same (reader_notes vector value) h.readers w r d (ap (notes_of vector value) n) i;
    last = vector_of vector h.last;
    front = vector_of vector h.front;
    start = (writer_row h.writer).name.start;
    published = row_terms (published_notes vector value h.writer);
  }
