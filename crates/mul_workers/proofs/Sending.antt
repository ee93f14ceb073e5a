-- A worker's notes follow its script.
use Rattle.std.proofs.Common.{◌≡◌, ℕ, ◌+◌, ◌≤◌, ℤ, Bool, true, false, List, [], ◌∷◌, ◌++◌, length, map, Option, Some, None, refl, sym, ap, ◌∙◌, subst, arith, true≢false, length-append, append-nil, append_assoc}
use Rattle.std.proofs.lemmas.List.{map-append}
use mathlib.Core.List.{IsPrefix}
use Rattle.sdmp_laws.specs.Order.{Order}
use Rattle.sdmp_laws.specs.Poly.{Term}
use Rattle.whole_laws.specs.Notes.{Note, TermNote, MarkNote, EndNote, Product, Script, ProductScript, NoEnd, EndMayFollow, MayFollow, CarryAfter, Carry, terms_in, script_list}
use Rattle.whole_laws.proofs.NotesLemmas.{terms_in-append, Carry-push}
use Rattle.row_merge.specs.Part.{Remaining}
use Rattle.term_ring.specs.Spelling.{Belongs, note_of, notes_of}
use Rattle.term_ring.specs.Carried.{Fits, Carries}
use Rattle.term_ring.specs.Ends.{sent, head_seen, IsWriterOf}
use Rattle.term_ring.specs.declared.note.NoteOf.{NoteOf}
use Rattle.term_ring.specs.declared.note.NoteOf.TheVariants as note
use Rattle.term_ring.specs.declared.ring.Ring.{Ring}
use Rattle.term_ring.specs.declared.ring.Writer.{Writer}
use Rattle.term_ring.specs.Names.{ring_name, writer_name, IsWriting}
use Rattle.global_heap.proofs.Counts.{notes_within, no_mark}
use Rattle.global_heap.proofs.Sound.{NoEnd-more}
use Rattle.term_ring.specs.Sending.{SenderView, sender_view, whole_script, Sends, is_end}
use Rattle.mul_workers.specs.Inside.{script_of_rows, IsNextNote, IsUnsent, KeptBelongs, IsSender}

-- ---- one note of a product's script
may_follow : (m : Product) (W w : ℕ) (notes : List Note) (unsent rest : List Term) (x : Note) → NoEnd notes → terms_in notes ++ unsent ≡ script_list (ProductScript m W w) → IsNextNote unsent x rest → MayFollow (ProductScript m W w) notes x
unfolding MayFollow EndMayFollow
may_follow m W w notes unsent rest (TermNote t) clear all next =
    (clear, (rest, append_assoc (terms_in notes) (t ∷ []) rest ∙ ap (λ (L : List Term). terms_in notes ++ L) (sym next) ∙ all))
may_follow m W w notes unsent rest (MarkNote k top) clear all next = absurd next
may_follow m W w notes unsent rest EndNote clear all next =
    (clear, sym (append-nil (terms_in notes)) ∙ ap (λ (L : List Term). terms_in notes ++ L) (sym next.0) ∙ all)

sent_more : (list : List Term) (notes : List Note) (unsent rest : List Term) (x : Note) → terms_in notes ++ unsent ≡ list → IsNextNote unsent x rest → terms_in (notes ++ x ∷ []) ++ rest ≡ list
unfolding terms_in
sent_more list notes unsent rest (TermNote t) all next =
    ap (λ (L : List Term). L ++ rest) (terms_in-append notes (TermNote t ∷ [])) ∙ append_assoc (terms_in notes) (t ∷ []) rest ∙ ap (λ (L : List Term). terms_in notes ++ L) (sym next) ∙ all
sent_more list notes unsent rest (MarkNote k top) all next = absurd next
sent_more list notes unsent rest EndNote all next =
    ap (λ (L : List Term). L ++ rest) (terms_in-append notes (EndNote ∷ []) ∙ append-nil (terms_in notes)) ∙ ap (λ (L : List Term). terms_in notes ++ L) (next.1 ∙ sym next.0) ∙ all

-- without an end the notes are terms alone
all_terms : (m : Product) (W w : ℕ) (before notes : List Note) → CarryAfter (ProductScript m W w) before notes → NoEnd notes → notes ≡ map (λ (t : Term). TermNote t) (terms_in notes)
unfolding CarryAfter NoEnd terms_in
all_terms m W w before [] c clear = refl
all_terms m W w before (TermNote t ∷ notes) c clear = ap (λ (n : List Note). TermNote t ∷ n) (all_terms m W w (before ++ TermNote t ∷ []) notes c.1 clear)
all_terms m W w before (MarkNote k top ∷ notes) c clear = absurd (no_mark m W w before k top c.0)
all_terms m W w before (EndNote ∷ notes) c clear = absurd clear

whole_at_end : (m : Product) (W w : ℕ) (notes : List Note) (unsent : List Term) → Carry (ProductScript m W w) notes → NoEnd notes → terms_in notes ++ unsent ≡ script_list (ProductScript m W w) → unsent ≡ [] → notes ++ EndNote ∷ [] ≡ whole_script (ProductScript m W w)
whole_at_end m W w notes unsent c clear all none =
    let list : terms_in notes ≡ script_list (ProductScript m W w) = sym (append-nil (terms_in notes)) ∙ ap (λ (L : List Term). terms_in notes ++ L) (sym none) ∙ all in
    ap (λ (n : List Note). n ++ EndNote ∷ []) (all_terms m W w [] notes c clear ∙ ap (λ (L : List Term). map (λ (t : Term). TermNote t) L) list)

-- whether a note is the end
abbrev ends : Note → Bool
ends (TermNote t) = false
ends (MarkNote k top) = false
ends EndNote = true

still_clear : (notes : List Note) (x : Note) → NoEnd notes → ends x ≡ false → NoEnd (notes ++ x ∷ [])
still_clear notes (TermNote t) clear e = NoEnd-more notes (TermNote t) tt clear
still_clear notes (MarkNote k top) clear e = NoEnd-more notes (MarkNote k top) tt clear
still_clear notes EndNote clear e = absurd (true≢false e)

now_whole : (m : Product) (W w : ℕ) (notes : List Note) (unsent rest : List Term) (x : Note) → Carry (ProductScript m W w) notes → NoEnd notes → terms_in notes ++ unsent ≡ script_list (ProductScript m W w) → IsNextNote unsent x rest → ends x ≡ true → notes ++ x ∷ [] ≡ whole_script (ProductScript m W w)
now_whole m W w notes unsent rest (TermNote t) c clear all next e = absurd (true≢false (sym e))
now_whole m W w notes unsent rest (MarkNote k top) c clear all next e = absurd next
now_whole m W w notes unsent rest EndNote c clear all next e = whole_at_end m W w notes unsent c clear all next.0

-- ---- the writer and its ring
module _ {X M E : Type 0} where
  pub writes_to : (ring : Ring X M E) (w : Writer X M E) → IsWriting w → writer_name w ≡ ring_name ring → IsWriterOf ring w
  writes_to ring w k e = (k, ap (λ r. r.table) e, ap (λ r. r.script) e, ap (λ r. r.places) e)

-- rows with the same factors have the same script
pub script_stays : (ord : Order) (n : ℕ) (a b : Remaining) → (b.modulus ≡ a.modulus) × (b.f ≡ a.f) × (b.g ≡ a.g) × (b.workers ≡ a.workers) × (b.worker ≡ a.worker) → script_of_rows ord n b ≡ script_of_rows ord n a
script_stays ord n a b h = λ i. ProductScript record { ord = ord; p = h.0 i; n = n; f = h.1 i; g = h.2 i } (h.3 i) (h.4 i)

module _ {M E : Type 0} (vector : M → List ℕ) (value : E → ℤ) where
  ends_is : (x : NoteOf M E) → is_end x ≡ ends (note_of vector value x)
  ends_is (note.Term t) = refl
  ends_is (note.Mark known None) = refl
  ends_is (note.Mark known (Some top)) = refl
  ends_is note.End = refl

  pub one_sent : (notes later : List (NoteOf M E)) (x : NoteOf M E) → later ≡ notes ++ x ∷ [] → notes_of vector value later ≡ notes_of vector value notes ++ note_of vector value x ∷ []
  one_sent notes later x e = ap (notes_of vector value) e ∙ map-append (note_of vector value) notes (x ∷ [])

module _ {X M E : Type 0} (vector : M → List ℕ) (value : E → ℤ) (belongs : ℕ → E → Type 0) (ord : Order) (n : ℕ) where
  -- the note x is the next one, after which these rows are left
  pub record Ready (rows left : Remaining) (w : Writer X M E) (kept : Option (NoteOf M E)) (ended : Bool) (worker : ℕ) (x : NoteOf M E) : Type 0 where
    pub sender : IsSender vector value belongs ord n rows w kept ended worker
    pub factors : (left.modulus ≡ rows.modulus) × (left.f ≡ rows.f) × (left.g ≡ rows.g) × (left.workers ≡ rows.workers) × (left.worker ≡ rows.worker)
    pub next : (unsent : List Term) → IsUnsent vector value unsent kept rows.rest → IsNextNote unsent (note_of vector value x) left.rest
    pub mine : KeptBelongs (belongs rows.modulus) kept → Belongs (belongs rows.modulus) x
    pub clear : NoEnd (notes_of vector value (sent w))

  pub ready : (rows left : Remaining) (w : Writer X M E) (kept : Option (NoteOf M E)) (ended : Bool) (worker : ℕ) (x : NoteOf M E) (v : SenderView) → sender_view vector value worker w ≡ v → IsSender vector value belongs ord n rows w kept ended worker
      → (left.modulus ≡ rows.modulus) × (left.f ≡ rows.f) × (left.g ≡ rows.g) × (left.workers ≡ rows.workers) × (left.worker ≡ rows.worker)
      → ((unsent : List Term) → IsUnsent vector value unsent kept rows.rest → IsNextNote unsent (note_of vector value x) left.rest)
      → (KeptBelongs (belongs rows.modulus) kept → Belongs (belongs rows.modulus) x) → NoEnd v.sent → Ready rows left w kept ended worker x
  ready rows left w kept ended worker x v view s f next mine clear = record {
    sender = s;
    factors = f;
    next = next;
    mine = mine;
    clear = subst (λ (u : SenderView). NoEnd u.sent) (sym view) clear;
  }

  module _ (rows left : Remaining) (w : Writer X M E) (kept : Option (NoteOf M E)) (ended : Bool) (worker : ℕ) (x : NoteOf M E) (r : Ready rows left w kept ended worker x) where
    its_note : IsNextNote r.sender.unsent (note_of vector value x) left.rest
    its_note = r.next r.sender.unsent r.sender.next

    pub fits_ring : (s : Script) → s ≡ script_of_rows ord n rows → Fits belongs s x
    fits_ring s e = subst (λ (u : Script). Fits belongs u x) (sym e) (r.mine r.sender.kept_belongs)

    next_carried : Carry (script_of_rows ord n rows) (notes_of vector value (sent w) ++ note_of vector value x ∷ [])
    next_carried = Carry-push (script_of_rows ord n rows) (notes_of vector value (sent w)) (note_of vector value x) r.sender.carried
        (may_follow record { ord = ord; p = rows.modulus; n = n; f = rows.f; g = rows.g } rows.workers rows.worker (notes_of vector value (sent w)) r.sender.unsent left.rest (note_of vector value x) r.clear r.sender.all its_note)

    pub carries_ring : (s : Script) → s ≡ script_of_rows ord n rows → Carries vector value s (sent w ++ x ∷ [])
    carries_ring s e = subst (λ (u : Script). Carry u (notes_of vector value (sent w ++ x ∷ []))) (sym e)
        (subst (Carry (script_of_rows ord n rows)) (sym (one_sent vector value (sent w) (sent w ++ x ∷ []) x refl)) next_carried)

    -- a note that a full ring refused is kept
    pub keeps_note : (v : Writer X M E) → IsWriting v → (writer_name v).script ≡ script_of_rows ord n rows → sent v ≡ sent w → IsSender vector value belongs ord n left v (Some x) ended worker
    keeps_note v k s e =
        let same : script_of_rows ord n left ≡ script_of_rows ord n rows = script_stays ord n rows left r.factors in
        let notes : notes_of vector value (sent v) ≡ notes_of vector value (sent w) = ap (notes_of vector value) e in
        record {
          writing = k;
          script = s ∙ sym same;
          number = r.sender.number ∙ sym r.factors.4;
          carried = subst (λ (u : Script). Carry u (notes_of vector value (sent v))) (sym same) (subst (Carry (script_of_rows ord n rows)) (sym notes) r.sender.carried);
          unsent = r.sender.unsent;
          all = ap (λ (a : List Note). terms_in a ++ r.sender.unsent) notes ∙ r.sender.all ∙ ap script_list (sym same);
          next = its_note;
          kept_belongs = subst (λ (p : ℕ). Belongs (belongs p) x) (sym r.factors.0) (r.mine r.sender.kept_belongs);
          not_ended = λ b. subst NoEnd (sym notes) (r.sender.not_ended b);
          has_ended = λ b. notes ∙ r.sender.has_ended b ∙ ap whole_script (sym same);
        }

    -- one that was sent is kept no longer
    pub sends_note : (v : Writer X M E) (b : Bool) → IsWriting v → (writer_name v).script ≡ script_of_rows ord n rows → sent v ≡ sent w ++ x ∷ [] → b ≡ is_end x → IsSender vector value belongs ord n left v None b worker
    sends_note v b k s e is =
        let m : Product = record { ord = ord; p = rows.modulus; n = n; f = rows.f; g = rows.g } in
        let same : script_of_rows ord n left ≡ script_of_rows ord n rows = script_stays ord n rows left r.factors in
        let notes : notes_of vector value (sent v) ≡ notes_of vector value (sent w) ++ note_of vector value x ∷ [] = one_sent vector value (sent w) (sent v) x e in
        let last : b ≡ ends (note_of vector value x) = is ∙ ends_is vector value x in
        record {
          writing = k;
          script = s ∙ sym same;
          number = r.sender.number ∙ sym r.factors.4;
          carried = subst (λ (u : Script). Carry u (notes_of vector value (sent v))) (sym same) (subst (Carry (script_of_rows ord n rows)) (sym notes) next_carried);
          unsent = left.rest;
          all = ap (λ (a : List Note). terms_in a ++ left.rest) notes ∙ sent_more (script_list (script_of_rows ord n rows)) (notes_of vector value (sent w)) r.sender.unsent left.rest (note_of vector value x) r.sender.all its_note ∙ ap script_list (sym same);
          next = refl;
          kept_belongs = tt;
          not_ended = λ f. subst NoEnd (sym notes) (still_clear (notes_of vector value (sent w)) (note_of vector value x) r.clear (sym last ∙ f));
          has_ended = λ t. notes ∙ now_whole m rows.workers rows.worker (notes_of vector value (sent w)) r.sender.unsent left.rest (note_of vector value x) r.sender.carried r.clear r.sender.all its_note (sym last ∙ t) ∙ ap whole_script (sym same);
        }

  -- no more notes are sent than the script has
  pub within_script : (rows : Remaining) (w : Writer X M E) (kept : Option (NoteOf M E)) (ended : Bool) (worker : ℕ) → IsSender vector value belongs ord n rows w kept ended worker → length (notes_of vector value (sent w)) ≤ length (script_list (writer_name w).script) + 1
  within_script rows w kept ended worker k =
      subst (λ (s : Script). length (notes_of vector value (sent w)) ≤ length (script_list s) + 1) (sym k.script)
      (notes_within record { ord = ord; p = rows.modulus; n = n; f = rows.f; g = rows.g } rows.workers rows.worker (notes_of vector value (sent w)) k.carried)

  pub carried_by : (rows : Remaining) (w : Writer X M E) (kept : Option (NoteOf M E)) (ended : Bool) (worker : ℕ) → IsSender vector value belongs ord n rows w kept ended worker → Carry (writer_name w).script (notes_of vector value (sent w))
  carried_by rows w kept ended worker k = subst (λ (s : Script). Carry s (notes_of vector value (sent w))) (sym k.script) k.carried

  pub whole_by : (rows : Remaining) (w : Writer X M E) (kept : Option (NoteOf M E)) (worker : ℕ) (b : Bool) → IsSender vector value belongs ord n rows w kept b worker → b ≡ true → notes_of vector value (sent w) ≡ whole_script (writer_name w).script
  whole_by rows w kept worker b k e = k.has_ended e ∙ ap whole_script (sym k.script)

  -- a writer that met its reader is as it was
  pub met_sender : (rows : Remaining) (w v : Writer X M E) (kept : Option (NoteOf M E)) (ended : Bool) (worker : ℕ) → IsSender vector value belongs ord n rows w kept ended worker → IsWriting v → writer_name v ≡ writer_name w → sent v ≡ sent w → IsSender vector value belongs ord n rows v kept ended worker
  met_sender rows w v kept ended worker r k name e =
      let notes : notes_of vector value (sent v) ≡ notes_of vector value (sent w) = ap (notes_of vector value) e in
      record {
        writing = k;
        script = ap (λ a. a.script) name ∙ r.script;
        number = r.number;
        carried = subst (Carry (script_of_rows ord n rows)) (sym notes) r.carried;
        unsent = r.unsent;
        all = ap (λ (a : List Note). terms_in a ++ r.unsent) notes ∙ r.all;
        next = r.next;
        kept_belongs = r.kept_belongs;
        not_ended = λ b. subst NoEnd (sym notes) (r.not_ended b);
        has_ended = λ b. notes ∙ r.has_ended b;
      }

  -- a sender begins with nothing sent
  pub begins : (rows : Remaining) (w : Writer X M E) (worker : ℕ) → worker ≡ rows.worker → IsWriting w → (writer_name w).script ≡ script_of_rows ord n rows → rows.rest ≡ script_list (script_of_rows ord n rows) → sent w ≡ [] → IsSender vector value belongs ord n rows w None false worker
  unfolding CarryAfter terms_in NoEnd
  begins rows w worker number k s rest none =
      let notes : notes_of vector value (sent w) ≡ [] = ap (notes_of vector value) none in
      record {
        writing = k;
        script = s;
        number = number;
        carried = subst (Carry (script_of_rows ord n rows)) (sym notes) tt;
        unsent = rows.rest;
        all = ap (λ (a : List Note). terms_in a ++ rows.rest) notes ∙ rest;
        next = refl;
        kept_belongs = tt;
        not_ended = λ b. subst NoEnd (sym notes) tt;
        has_ended = λ b. absurd (true≢false (sym b));
      }

-- ---- calls of a sender
prefix_same : {A : Type 0} (a b : List A) → b ≡ a → IsPrefix a b
prefix_same a b e = ([], append-nil a ∙ sym e)

prefix_one : {A : Type 0} (a b : List A) (x : A) → b ≡ a ++ x ∷ [] → IsPrefix a b
prefix_one a b x e = (x ∷ [], sym e)

pub Sends-refl : (a : SenderView) → Sends a a
Sends-refl a = record { ring = refl; worker = refl; sent = prefix_same a.sent a.sent refl; head = omega arith }

pub Sends-trans : (a b c : SenderView) → Sends a b → Sends b c → Sends a c
Sends-trans a b c x y = record {
  ring = y.ring ∙ x.ring;
  worker = y.worker ∙ x.worker;
  sent = (x.sent.0 ++ y.sent.0, sym (append_assoc a.sent x.sent.0 y.sent.0) ∙ ap (λ (l : List Note). l ++ y.sent.0) x.sent.1 ∙ y.sent.1);
  head = let p = x.head in let q = y.head in omega arith;
}

pub sends_length : (a b : SenderView) → Sends a b → length a.sent ≤ length b.sent
sends_length a b s = let l = length-append a.sent s.sent.0 in let e = ap (λ (n : List Note). length n) s.sent.1 in omega arith

module _ {X M E : Type 0} (vector : M → List ℕ) (value : E → ℤ) where
  -- nothing was sent
  pub sends_none : (worker : ℕ) (w v : Writer X M E) → writer_name v ≡ writer_name w → sent v ≡ sent w → head_seen w ≤ head_seen v → Sends (sender_view vector value worker w) (sender_view vector value worker v)
  sends_none worker w v name e h = record {
    ring = name;
    worker = refl;
    sent = prefix_same (notes_of vector value (sent w)) (notes_of vector value (sent v)) (ap (notes_of vector value) e);
    head = h;
  }

  pub sends_one : (worker : ℕ) (w v : Writer X M E) (x : NoteOf M E) → writer_name v ≡ writer_name w → sent v ≡ sent w ++ x ∷ [] → head_seen w ≤ head_seen v → Sends (sender_view vector value worker w) (sender_view vector value worker v)
  sends_one worker w v x name e h = record {
    ring = name;
    worker = refl;
    sent = prefix_one (notes_of vector value (sent w)) (notes_of vector value (sent v)) (note_of vector value x) (one_sent vector value (sent w) (sent v) x e);
    head = h;
  }
