-- A merge stays as it is to be when it takes a note.
use Rattle.std.proofs.Common.{◌≡◌, ℕ, zero, suc, ◌+◌, ◌<◌, ◌≤◌, ◌^◌, ℤ, false, List, [], ◌∷◌, ◌++◌, length, get_or, set, map, Option, Some, None, refl, sym, ap, ◌∙◌, subst, arith, length-set}
use Rattle.std.proofs.lemmas.List as lists
use Rattle.std.proofs.lemmas.List.{length-map, map-set, get_or-set_same}
use mathlib.Core.List.{IsPrefix}
use Rattle.sdmp_laws.specs.Order.{Order}
use Rattle.whole_laws.specs.Notes.{Note, TermNote, EndNote, Script, ProductScript, Carry}
use Rattle.whole_laws.specs.Wholes.{MergeState, MergeWhole, merge_take, merge_script, notes_of as notes_at}
use Rattle.whole_laws.proofs.StepLemmas.{merge_take_law}
use Rattle.canonical_terms.specs.View.{term_of}
use Rattle.canonical_terms.specs.declared.term.TermOf.{TermOf}
use Rattle.term_ring.specs.Spelling.{note_of, notes_of}
use Rattle.term_ring.specs.Plain.{modulus_of}
use Rattle.term_ring.specs.Carried.{Fits, Carries}
use Rattle.term_ring.specs.Ends.{taken, tail_seen, empty_looks, script_in, IsReaderOf}
use Rattle.term_ring.specs.declared.note.NoteOf.{NoteOf}
use Rattle.term_ring.specs.declared.note.NoteOf.TheVariants as note
use Rattle.term_ring.specs.declared.ring.Ring.{Ring}
use Rattle.term_ring.specs.declared.ring.Reader.{Reader}
use Rattle.ring_heads.specs.declared.head.HeadOf.{HeadOf}
use Rattle.ring_heads.specs.declared.head.HeadOf.TheVariants as head
use Rattle.ring_heads.specs.Heads.{is_missing}
use Rattle.term_ring.specs.Names.{RingName, NoneBelow, reader_name, ring_name}
use Rattle.global_heap.specs.Names.{first_product, notes_total}
use Rattle.global_heap.specs.Merges.{IsWanting, IsStarved, Looks, TakesNote, NotMark}
use Rattle.global_heap.specs.Inside.{reader_notes, merge_state, merge_view, IsMerge}
use Rattle.global_heap.proofs.Steps.{NoneBelow-set, count_one, taking}
use Rattle.global_heap.proofs.Counts.{count_within, few_notes, no_mark_last}
use Rattle.global_heap.proofs.States.{same_names, one_more, term_state, end_state}
use Rattle.global_heap.proofs.Sound.{NoEnd-more, Took, name_stays, missing_here, served_is, still}

-- what is read at a place does not depend on the default
pub read_is : {Y : Type 0} (ys : List Y) (w : ℕ) (d x : Y) → w < length ys → d ≡ get_or ys w d → get_or ys w x ≡ d
read_is [] w d x l e = absurd (omega arith)
read_is (y ∷ ys) zero d x l e = sym e
read_is (y ∷ ys) (suc w) d x l e = read_is ys w d x (omega arith) e

module _ {X M E : Type 0} (vector : M → List ℕ) (value : E → ℤ) (belongs : ℕ → E → Type 0) (ord : Order) (n lim p : ℕ) where
  pub ring_script : (rs : List (Reader X M E)) (hs : List (HeadOf M E)) (out : List (TermOf M E)) (count w : ℕ) (ring : Ring X M E) → IsMerge vector value belongs ord n lim p rs hs out count → w < length rs → ((a : RingName) → get_or (map reader_name rs) w a ≡ ring_name ring)
      → script_in ring ≡ ProductScript (first_product (map reader_name rs)) (length rs) w
  ring_script rs hs out count w ring k l is =
      ap (λ (a : RingName). a.script) (sym (is (ring_name ring))) ∙ k.scripts w (ring_name ring) (let e = length-map rs reader_name in omega arith)
      ∙ ap (λ (c : ℕ). ProductScript (first_product (map reader_name rs)) c w) (length-map rs reader_name)

  -- the rule of the notes after one more
  carried : (rs : List (Reader X M E)) (hs : List (HeadOf M E)) (out : List (TermOf M E)) (count w : ℕ) (ring : Ring X M E) (r d : Reader X M E) (x : NoteOf M E) → IsMerge vector value belongs ord n lim p rs hs out count → w < length rs → ((a : RingName) → get_or (map reader_name rs) w a ≡ ring_name ring)
      → taken r ≡ taken (get_or rs w d) ++ x ∷ [] → Carries vector value (script_in ring) (taken r)
      → Carry (ProductScript (first_product (map reader_name rs)) (length rs) w) (notes_at (map (reader_notes vector value) rs) w ++ note_of vector value x ∷ [])
  carried rs hs out count w ring r d x k l is e c =
      subst (λ (s : Script). Carry s (notes_at (map (reader_notes vector value) rs) w ++ note_of vector value x ∷ [])) (ring_script rs hs out count w ring k l is)
      (subst (λ (ns : List Note). Carry (script_in ring) ns) (one_more vector value rs w r d x l e) c)

  pub no_mark_taken : (rs : List (Reader X M E)) (hs : List (HeadOf M E)) (out : List (TermOf M E)) (count w : ℕ) (ring : Ring X M E) (r d : Reader X M E) (known : ℕ) (top : Option M) → IsMerge vector value belongs ord n lim p rs hs out count → w < length rs → ((a : RingName) → get_or (map reader_name rs) w a ≡ ring_name ring)
      → taken r ≡ taken (get_or rs w d) ++ note.Mark known top ∷ [] → Carries vector value (script_in ring) (taken r) → ⊥
  no_mark_taken rs hs out count w ring r d known None k l is e c = no_mark_last (first_product (map reader_name rs)) (length rs) w _ known None (carried rs hs out count w ring r d (note.Mark known None) k l is e c)
  no_mark_taken rs hs out count w ring r d known (Some top) k l is e c = no_mark_last (first_product (map reader_name rs)) (length rs) w _ known (Some (vector top)) (carried rs hs out count w ring r d (note.Mark known (Some top)) k l is e c)

  -- the count of notes has room
  pub count_room : (rs : List (Reader X M E)) (hs : List (HeadOf M E)) (out : List (TermOf M E)) (count w : ℕ) (ring : Ring X M E) (r d : Reader X M E) (x : NoteOf M E) → IsMerge vector value belongs ord n lim p rs hs out count → w < length rs → ((a : RingName) → get_or (map reader_name rs) w a ≡ ring_name ring)
      → IsWanting (merge_state vector value rs hs out) w → taken r ≡ taken (get_or rs w d) ++ x ∷ [] → Carries vector value (script_in ring) (taken r) → count + 1 < 2 ^ 61
  unfolding merge_script
  count_room rs hs out count w ring r d x k l is want e c =
      let s : MergeState = merge_state vector value rs hs out in
      let y : Note = note_of vector value x in
      let whole : MergeWhole (merge_take s w y) = merge_take_law s w y k.whole l want.0 (carried rs hs out count w ring r d x k l is e c) in
      let t = taking s w y in
      let one = count_one s (merge_take s w y) w y (let z = k.whole.taken_count in omega arith) t in
      let within = count_within (merge_take s w y) whole in
      let total : notes_total (merge_take s w y).product (merge_take s w y).workers ≡ notes_total s.product s.workers = λ i. notes_total (t.product i) (t.workers i) in
      let few = few_notes lim s.product s.workers k.fit k.few in
      let counted = k.counted in
      omega arith

  pub took_term : (rs : List (Reader X M E)) (hs : List (HeadOf M E)) (out : List (TermOf M E)) (count w : ℕ) (ring : Ring X M E) (r d : Reader X M E) (t : TermOf M E) → IsMerge vector value belongs ord n lim p rs hs out count → w < length rs → ((a : RingName) → get_or (map reader_name rs) w a ≡ ring_name ring)
      → IsWanting (merge_state vector value rs hs out) w → IsReaderOf ring r → taken r ≡ taken (get_or rs w d) ++ note.Term t ∷ [] → Carries vector value (script_in ring) (taken r) → Fits belongs (script_in ring) (note.Term t)
      → Took vector value belongs ord n lim p rs hs out w r (head.Term t) (TermNote (term_of vector value t))
  took_term rs hs out count w ring r d t k l is want of e c fits = record {
    below = l;
    name = name_stays vector value belongs ord n lim p rs w ring r is of;
    state = term_state vector value rs hs out w r d t l (name_stays vector value belongs ord n lim p rs w ring r is of d l) e;
    carries = carried rs hs out count w ring r d (note.Term t) k l is e c;
    fits = NoEnd-more (notes_at (map (reader_notes vector value) rs) w) (TermNote (term_of vector value t)) tt want.1;
    mine = subst (λ (q : ℕ). belongs q t.coef) (ap modulus_of (ring_script rs hs out count w ring k l is) ∙ k.modulus) fits;
    reading = of.0;
  }

  pub took_end : (rs : List (Reader X M E)) (hs : List (HeadOf M E)) (out : List (TermOf M E)) (count w : ℕ) (ring : Ring X M E) (r d : Reader X M E) → IsMerge vector value belongs ord n lim p rs hs out count → w < length rs → ((a : RingName) → get_or (map reader_name rs) w a ≡ ring_name ring)
      → IsWanting (merge_state vector value rs hs out) w → IsReaderOf ring r → taken r ≡ taken (get_or rs w d) ++ note.End ∷ [] → Carries vector value (script_in ring) (taken r)
      → Took vector value belongs ord n lim p rs hs out w r head.Ended EndNote
  took_end rs hs out count w ring r d k l is want of e c = record {
    below = l;
    name = name_stays vector value belongs ord n lim p rs w ring r is of;
    state = end_state vector value rs hs out w r d l (missing_here vector value belongs ord n lim p rs hs out count w k l want) (name_stays vector value belongs ord n lim p rs w ring r is of d l) e;
    carries = carried rs hs out count w ring r d note.End k l is e c;
    fits = (notes_at (map (reader_notes vector value) rs) w, refl);
    mine = tt;
    reading = of.0;
  }

  -- what the views show of it
  pub looks_at : (rs : List (Reader X M E)) (hs hs' : List (HeadOf M E)) (out : List (TermOf M E)) (w spare : ℕ) (r d : Reader X M E) → w < length rs → reader_name r ≡ reader_name (get_or rs w d) → tail_seen (get_or rs w d) ≤ tail_seen r → empty_looks (get_or rs w d) ≤ empty_looks r
      → Looks (merge_view vector value rs hs out spare) (merge_view vector value (set rs w r) hs' out spare) w
  looks_at rs hs hs' out w spare r d l name higher looks = record {
    rings = same_names vector value rs w r d name;
    spare = refl;
    tail = tail_seen r;
    tails = map-set tail_seen rs w r;
    higher = let e = lists.get_or-map tail_seen rs w d 0 l in omega arith;
    looks = subst (NoneBelow (map empty_looks rs)) (sym (map-set empty_looks rs w r)) (NoneBelow-set (map empty_looks rs) w (empty_looks r) (let e = lists.get_or-map empty_looks rs w d 0 l in omega arith));
  }

  pub takes : (rs : List (Reader X M E)) (hs : List (HeadOf M E)) (out : List (TermOf M E)) (count w spare : ℕ) (r : Reader X M E) (h : HeadOf M E) (x : Note) → IsMerge vector value belongs ord n lim p rs hs out count → IsWanting (merge_state vector value rs hs out) w → Took vector value belongs ord n lim p rs hs out w r h x
      → is_missing h ≡ false → NotMark x → TakesNote (merge_view vector value rs hs out spare) (merge_view vector value (set rs w r) (set hs w h) out spare) w
  takes rs hs out count w spare r h x k want took filled one = record {
    note = x;
    state = took.state;
    served =
        served_is vector value belongs ord n lim p (set rs w r) (set hs w h) out (count + 1) w (still vector value belongs ord n lim p rs hs out count w r h x k want took) (let e = length-set rs w r in let b = took.below in omega arith)
        (ap is_missing (get_or-set_same hs w h head.Missing (let e = k.long in let b = took.below in omega arith)) ∙ filled);
    one = one;
  }

  pub starves : (rs : List (Reader X M E)) (hs : List (HeadOf M E)) (out : List (TermOf M E)) (w spare : ℕ) (r d : Reader X M E) → w < length rs → taken r ≡ taken (get_or rs w d) → tail_seen r ≡ length (taken (get_or rs w d)) → IsStarved (merge_view vector value (set rs w r) hs out spare) w
  unfolding notes_at
  starves rs hs out w spare r d l same dry =
      let inside : w < length (set rs w r) = let e = length-set rs w r in omega arith in
      let here = get_or-set_same rs w r d l in
      let tail = lists.get_or-map tail_seen (set rs w r) w d 0 inside ∙ ap (λ (q : Reader X M E). tail_seen q) here in
      let notes = lists.get_or-map (reader_notes vector value) (set rs w r) w d [] inside ∙ ap (reader_notes vector value) here in
      tail ∙ dry ∙ ap (λ (ns : List (NoteOf M E)). length ns) (sym same) ∙ sym (ap (λ (ns : List Note). length ns) notes ∙ length-map (taken r) (note_of vector value))

-- ---- what is read of a reader that was put back
module _ {X M E : Type 0} (vector : M → List ℕ) (value : E → ℤ) where
  pub notes_now : (rs : List (Reader X M E)) (w : ℕ) (r : Reader X M E) → w < length rs → notes_at (map (reader_notes vector value) (set rs w r)) w ≡ reader_notes vector value r
  unfolding notes_at
  notes_now rs w r l =
      let inside : w < length (set rs w r) = let e = length-set rs w r in omega arith in
      lists.get_or-map (reader_notes vector value) (set rs w r) w r [] inside ∙ ap (reader_notes vector value) (get_or-set_same rs w r r l)

  pub met_prefix : (rs : List (Reader X M E)) (w : ℕ) (r : Reader X M E) (xs : List (NoteOf M E)) → w < length rs → IsPrefix (taken r) xs → IsPrefix (notes_at (map (reader_notes vector value) (set rs w r)) w) (notes_of vector value xs)
  met_prefix rs w r xs l p = (
    notes_of vector value p.0,
    ap (λ (ns : List Note). ns ++ notes_of vector value p.0) (notes_now rs w r l) ∙ sym (lists.map-append (note_of vector value) (taken r) p.0) ∙ ap (notes_of vector value) p.1,
  )

  pub met_count : (rs : List (Reader X M E)) (w : ℕ) (r : Reader X M E) → w < length rs → length (notes_at (map (reader_notes vector value) (set rs w r)) w) ≡ length (taken r)
  met_count rs w r l = ap (λ (ns : List Note). length ns) (notes_now rs w r l) ∙ length-map (taken r) (note_of vector value)

pub met_tail : {X M E : Type 0} (rs : List (Reader X M E)) (w : ℕ) (r : Reader X M E) → w < length rs → get_or (map tail_seen (set rs w r)) w 0 ≡ tail_seen r
met_tail rs w r l =
    let inside : w < length (set rs w r) = let e = length-set rs w r in omega arith in
    lists.get_or-map tail_seen (set rs w r) w r 0 inside ∙ ap (λ (q : Reader _ _ _). tail_seen q) (get_or-set_same rs w r r l)

pub met_looks : {X M E : Type 0} (rs : List (Reader X M E)) (w : ℕ) (r : Reader X M E) → w < length rs → get_or (map empty_looks (set rs w r)) w 0 ≡ empty_looks r
met_looks rs w r l =
    let inside : w < length (set rs w r) = let e = length-set rs w r in omega arith in
    lists.get_or-map empty_looks (set rs w r) w r 0 inside ∙ ap (λ (q : Reader _ _ _). empty_looks q) (get_or-set_same rs w r r l)
