-- A worker's reader is asked for a note, or meets its writer, and is put back.
use Rattle.std.proofs.Common.{◌≡◌, ℕ, ◌+◌, ◌<◌, ◌≤◌, ◌^◌, ℤ, false, List, [], ◌∷◌, ◌++◌, length, get_or, set, map, refl, sym, ap, ◌∙◌, subst, arith}
use Rattle.std.proofs.lemmas.List as lists
use Rattle.std.proofs.lemmas.List.{map-set}
use mathlib.Core.List.{IsPrefix}
use Rattle.sdmp_laws.specs.Order.{Order}
use Rattle.whole_laws.specs.Notes.{Note, TermNote, EndNote, Script, ProductScript, Carry, terms_in, owed}
use Rattle.whole_laws.specs.Wholes.{MergeState, merge_script}
use Rattle.whole_laws.proofs.OwedLemmas.{owed_split}
use Rattle.canonical_terms.specs.View.{term_of}
use Rattle.canonical_terms.specs.declared.term.TermOf.{TermOf}
use Rattle.term_ring.specs.Spelling.{notes_of}
use Rattle.term_ring.specs.Carried.{Fits, Carries}
use Rattle.term_ring.specs.Ends.{taken, tail_seen, empty_looks, script_in, IsReaderOf}
use Rattle.term_ring.specs.Names.{RingName, NoneBelow, reader_name, ring_name}
use Rattle.term_ring.specs.declared.note.NoteOf.{NoteOf}
use Rattle.term_ring.specs.declared.note.NoteOf.TheVariants as note
use Rattle.term_ring.specs.declared.ring.Ring.{Ring}
use Rattle.term_ring.specs.declared.ring.Reader.{Reader}
use Rattle.ring_heads.specs.declared.head.HeadOf.{HeadOf}
use Rattle.ring_heads.specs.declared.head.HeadOf.TheVariants as head
use Rattle.ring_heads.specs.Heads.{is_missing}
use Rattle.global_heap.specs.Merges.{MergeView, IsWanting, IsStarved, FoundEmpty, Looks, TakesNote, NotMark, IsSound, IsOwed, taken_of}
use Rattle.global_heap.specs.Names.{first_product}
use Rattle.global_heap.specs.Inside.{merge_state, merge_view, IsMerge}
use Rattle.global_heap.proofs.Steps.{NoneBelow-set}
use Rattle.global_heap.proofs.States.{idle_state, same_names}
use Rattle.global_heap.proofs.Sound.{is_sound, missing_here, Took, still, still_idle, reader_of, name_stays}
use Rattle.global_heap.proofs.Taking.{read_is, no_mark_taken, count_room, took_term, took_end, looks_at, takes, starves, met_prefix, met_count, met_tail, met_looks, ring_script}

-- what a view shows where nothing was taken
pub record Idle (lim w : ℕ) (v u : MergeView) : Type 0 where
  pub sound : IsSound lim u
  pub state : u.state ≡ v.state
  pub looks : Looks v u w

-- what it shows after the reader met its writer, which had sent these notes, so many, and has seen this head
pub record Met (w : ℕ) (v u : MergeView) (sent : List Note) (count head : ℕ) : Type 0 where
  pub state : u.state ≡ v.state
  pub rings : u.rings ≡ v.rings
  pub spare : u.spare ≡ v.spare
  pub tails : NoneBelow v.tails u.tails
  pub prefix : IsPrefix (taken_of u w) sent
  pub reader_seen : count ≤ get_or u.tails w 0
  pub writer_seen : length (taken_of u w) ≤ head

-- and where a note was
pub record Found (Kept : Type 0) (lim w : ℕ) (v u : MergeView) : Type 0 where
  pub kept : Kept
  pub sound : IsSound lim u
  pub looks : Looks v u w
  pub took : TakesNote v u w

-- d is the reader of w, whose ring this is
pub record Asked {X M E : Type 0} (vector : M → List ℕ) (value : E → ℤ) (belongs : ℕ → E → Type 0) (ord : Order) (n lim p : ℕ) (rs : List (Reader X M E)) (hs : List (HeadOf M E)) (out : List (TermOf M E)) (count w : ℕ) (ring : Ring X M E) (d : Reader X M E) : Type 0 where
  pub kept : IsMerge vector value belongs ord n lim p rs hs out count
  pub below : w < length rs
  pub at : (a : RingName) → get_or (map reader_name rs) w a ≡ ring_name ring
  pub was : d ≡ get_or rs w d

module _ {X M E : Type 0} {vector : M → List ℕ} {value : E → ℤ} {belongs : ℕ → E → Type 0} {ord : Order} {n lim p : ℕ} where
  pub asked : {rs : List (Reader X M E)} {hs : List (HeadOf M E)} {out : List (TermOf M E)} {count w spare : ℕ} {d : Reader X M E} {v : MergeView} (ring : Ring X M E) → IsMerge vector value belongs ord n lim p rs hs out count → merge_view vector value rs hs out spare ≡ v → w < v.state.workers → ((a : RingName) → get_or v.rings w a ≡ ring_name ring) → d ≡ get_or rs w d
      → Asked vector value belongs ord n lim p rs hs out count w ring d
  asked {w = w} ring k view worker of was = record {
    kept = k;
    below = subst (λ (u : MergeView). w < u.state.workers) (sym view) worker;
    at = λ a. ap (λ (u : MergeView). get_or u.rings w a) view ∙ of a;
    was = was;
  }

  module _ {rs : List (Reader X M E)} {hs : List (HeadOf M E)} {out : List (TermOf M E)} {count w : ℕ} {ring : Ring X M E} {d : Reader X M E} where
    module _ (a : Asked vector value belongs ord n lim p rs hs out count w ring d) where
      pub own_reader : IsReaderOf ring d
      own_reader = subst (λ (q : Reader X M E). IsReaderOf ring q) (sym a.was) (reader_of vector value belongs ord n lim p rs hs out count w ring d a.kept a.below a.at)

      here : (r : Reader X M E) → get_or rs w r ≡ d
      here r = read_is rs w d r a.below a.was

      name : (r : Reader X M E) → IsReaderOf ring r → reader_name r ≡ reader_name (get_or rs w r)
      name r of = name_stays vector value belongs ord n lim p rs w ring r a.at of r a.below

      same : (r : Reader X M E) → taken r ≡ taken d → taken r ≡ taken (get_or rs w r)
      same r e = e ∙ ap (λ (q : Reader X M E). taken q) (sym (here r))

      -- ---- nothing was taken
      pub idle_kept : (r : Reader X M E) → IsReaderOf ring r → taken r ≡ taken d → IsMerge vector value belongs ord n lim p (set rs w r) hs out count
      idle_kept r of e = still_idle vector value belongs ord n lim p rs hs out count w r a.kept (name r of) (same r e) of.0

      pub idle : {v : MergeView} {spare : ℕ} (r : Reader X M E) → merge_view vector value rs hs out spare ≡ v → IsReaderOf ring r → taken r ≡ taken d → tail_seen d ≤ tail_seen r → empty_looks d ≤ empty_looks r → Idle lim w v (merge_view vector value (set rs w r) hs out spare)
      idle {spare = spare} r view of e tail looks = record {
        sound = is_sound vector value belongs ord n lim p (set rs w r) hs out count spare (idle_kept r of e);
        state = idle_state vector value rs hs out w r r (name r of) (same r e) ∙ ap (λ (u : MergeView). u.state) view;
        looks = subst (λ (u : MergeView). Looks u (merge_view vector value (set rs w r) hs out spare) w) view
            (looks_at vector value belongs ord n lim p rs hs hs out w spare r r a.below (name r of) (let z = ap (λ (q : Reader X M E). tail_seen q) (here r) in omega arith) (let z = ap (λ (q : Reader X M E). empty_looks q) (here r) in omega arith));
      }

      -- the reader met its writer
      pub met : {v : MergeView} {spare head : ℕ} {xs : List (NoteOf M E)} (r : Reader X M E) → merge_view vector value rs hs out spare ≡ v → IsReaderOf ring r → taken r ≡ taken d → tail_seen d ≤ tail_seen r → IsPrefix (taken r) xs → length (taken r) ≤ head → length xs ≤ tail_seen r
          → Met w v (merge_view vector value (set rs w r) hs out spare) (notes_of vector value xs) (length xs) head
      met {spare = spare} {xs = xs} r view of e tail begins head seen = record {
        state = idle_state vector value rs hs out w r r (name r of) (same r e) ∙ ap (λ (u : MergeView). u.state) view;
        rings = same_names vector value rs w r r (name r of) ∙ ap (λ (u : MergeView). u.rings) view;
        spare = ap (λ (u : MergeView). u.spare) view;
        tails = subst (λ (u : MergeView). NoneBelow u.tails (map tail_seen (set rs w r))) view
            (subst (NoneBelow (map tail_seen rs)) (sym (map-set tail_seen rs w r)) (NoneBelow-set (map tail_seen rs) w (tail_seen r) (let z = ap (λ (q : Reader X M E). tail_seen q) (here r) in let m = lists.get_or-map tail_seen rs w r 0 a.below in omega arith)));
        prefix = met_prefix vector value rs w r xs a.below begins;
        reader_seen = let m = met_tail rs w r a.below in omega arith;
        writer_seen = let m = met_count vector value rs w r a.below in omega arith;
      }

      pub met_owed : {v : MergeView} {spare : ℕ} {xs : List (NoteOf M E)} (r : Reader X M E) → merge_view vector value rs hs out spare ≡ v → IsReaderOf ring r → taken r ≡ taken d → IsPrefix (taken r) xs → Carries vector value (script_in ring) xs
          → IsOwed (merge_view vector value (set rs w r) hs out spare) w (notes_of vector value xs)
      unfolding merge_script
      met_owed {spare = spare} {xs = xs} r view of e begins carries =
          let u : MergeView = merge_view vector value (set rs w r) hs out spare in
          let script : Script = ProductScript (first_product (map reader_name rs)) (length rs) w in
          let still : merge_state vector value (set rs w r) hs out ≡ merge_state vector value rs hs out = idle_state vector value rs hs out w r r (name r of) (same r e) in
          let own : merge_script u.state w ≡ script = ap (λ (s : MergeState). ProductScript s.product s.workers w) still in
          let q : IsPrefix (taken_of u w) (notes_of vector value xs) = met_prefix vector value rs w r xs a.below begins in
          let mine : Carry script (notes_of vector value xs) = subst (λ (s : Script). Carry s (notes_of vector value xs)) (ring_script vector value belongs ord n lim p rs hs out count w ring a.kept a.below a.at) carries in
          let whole : Carry (merge_script u.state w) (taken_of u w ++ q.0) = subst (λ (ns : List Note). Carry (merge_script u.state w) ns) (sym q.1) (subst (λ (s : Script). Carry s (notes_of vector value xs)) (sym own) mine) in
          (q.0, sym q.1, owed_split (merge_script u.state w) (taken_of u w) q.0 whole ∙ ap (λ (ns : List Note). terms_in q.0 ++ owed (merge_script u.state w) ns) q.1)

      pub dry : {v : MergeView} {spare : ℕ} (r : Reader X M E) → merge_view vector value rs hs out spare ≡ v → taken r ≡ taken d → tail_seen r ≡ length (taken d) → IsStarved (merge_view vector value (set rs w r) hs out spare) w
      dry {spare = spare} r view e z = starves vector value belongs ord n lim p rs hs out w spare r r a.below (same r e) (z ∙ ap (λ (q : Reader X M E). length (taken q)) (sym (here r)))

      pub empty : {v : MergeView} {spare : ℕ} (r : Reader X M E) → merge_view vector value rs hs out spare ≡ v → empty_looks r ≡ empty_looks d + 1 → FoundEmpty v (merge_view vector value (set rs w r) hs out spare) w
      empty {spare = spare} r view e =
          subst (λ (u : MergeView). FoundEmpty u (merge_view vector value (set rs w r) hs out spare) w) view
          (let before = lists.get_or-map empty_looks rs w r 0 a.below in let z = ap (λ (q : Reader X M E). empty_looks q) (here r) in let after = met_looks rs w r a.below in omega arith)

      -- ---- a note was taken
      wanted : {v : MergeView} {spare : ℕ} → merge_view vector value rs hs out spare ≡ v → IsWanting v.state w → IsWanting (merge_state vector value rs hs out) w
      wanted view want = subst (λ (u : MergeView). IsWanting u.state w) (sym view) want

      next : (r : Reader X M E) (x : NoteOf M E) → taken r ≡ taken d ++ x ∷ [] → taken r ≡ taken (get_or rs w d) ++ x ∷ []
      next r x e = e ∙ ap (λ (q : Reader X M E). taken q ++ x ∷ []) a.was

      pub room : {v : MergeView} {spare : ℕ} (r : Reader X M E) (x : NoteOf M E) → merge_view vector value rs hs out spare ≡ v → IsWanting v.state w → taken r ≡ taken d ++ x ∷ [] → Carries vector value (script_in ring) (taken r) → count + 1 < 2 ^ 61
      room r x view want e c = count_room vector value belongs ord n lim p rs hs out count w ring r d x a.kept a.below a.at (wanted view want) (next r x e) c

      pub unmarked : (r : Reader X M E) (known : ℕ) (top : _) → taken r ≡ taken d ++ note.Mark known top ∷ [] → Carries vector value (script_in ring) (taken r) → ⊥
      unmarked r known top e c = no_mark_taken vector value belongs ord n lim p rs hs out count w ring r d known top a.kept a.below a.at (next r (note.Mark known top) e) c

      pub missing : {v : MergeView} {spare : ℕ} → merge_view vector value rs hs out spare ≡ v → IsWanting v.state w → get_or hs w head.Missing ≡ head.Missing
      missing view want = missing_here vector value belongs ord n lim p rs hs out count w a.kept a.below (wanted view want)

      found : {v : MergeView} {spare : ℕ} (r : Reader X M E) (hs' : List (HeadOf M E)) (h : HeadOf M E) (x : Note) → merge_view vector value rs hs out spare ≡ v → IsWanting v.state w → IsReaderOf ring r → tail_seen d ≤ tail_seen r → empty_looks r ≡ empty_looks d
          → Took vector value belongs ord n lim p rs hs out w r h x → is_missing h ≡ false → NotMark x → hs' ≡ set hs w h → Found (IsMerge vector value belongs ord n lim p (set rs w r) hs' out (count + 1)) lim w v (merge_view vector value (set rs w r) hs' out spare)
      found {v = v} {spare = spare} r hs' h x view want of tail looks took filled one put =
          subst (λ (ks : List (HeadOf M E)). Found (IsMerge vector value belongs ord n lim p (set rs w r) ks out (count + 1)) lim w v (merge_view vector value (set rs w r) ks out spare)) (sym put)
          (let stays = still vector value belongs ord n lim p rs hs out count w r h x a.kept (wanted view want) took in record {
            kept = stays;
            sound = is_sound vector value belongs ord n lim p (set rs w r) (set hs w h) out (count + 1) spare stays;
            looks = subst (λ (u : MergeView). Looks u (merge_view vector value (set rs w r) (set hs w h) out spare) w) view
                (looks_at vector value belongs ord n lim p rs hs (set hs w h) out w spare r r a.below (name r of) (let z = ap (λ (q : Reader X M E). tail_seen q) (here r) in omega arith) (let z = ap (λ (q : Reader X M E). empty_looks q) (here r) in omega arith));
            took = subst (λ (u : MergeView). TakesNote u (merge_view vector value (set rs w r) (set hs w h) out spare) w) view
                (takes vector value belongs ord n lim p rs hs out count w spare r h x a.kept (wanted view want) took filled one);
          })

      pub found_term : {v : MergeView} {spare : ℕ} (r : Reader X M E) (hs' : List (HeadOf M E)) (y : NoteOf M E) (t : TermOf M E) → merge_view vector value rs hs out spare ≡ v → IsWanting v.state w → IsReaderOf ring r → tail_seen d ≤ tail_seen r → empty_looks r ≡ empty_looks d
          → taken r ≡ taken d ++ y ∷ [] → Carries vector value (script_in ring) (taken r) → Fits belongs (script_in ring) y → y ≡ note.Term t → hs' ≡ set hs w (head.Term t) → Found (IsMerge vector value belongs ord n lim p (set rs w r) hs' out (count + 1)) lim w v (merge_view vector value (set rs w r) hs' out spare)
      found_term r hs' y t view want of tail looks e c fits is put =
          found r hs' (head.Term t) (TermNote (term_of vector value t)) view want of tail looks
          (took_term vector value belongs ord n lim p rs hs out count w ring r d t a.kept a.below a.at (wanted view want) of (next r (note.Term t) (e ∙ ap (λ (z : NoteOf M E). taken d ++ z ∷ []) is)) c (subst (Fits belongs (script_in ring)) is fits)) refl tt put

      pub found_end : {v : MergeView} {spare : ℕ} (r : Reader X M E) (hs' : List (HeadOf M E)) (y : NoteOf M E) → merge_view vector value rs hs out spare ≡ v → IsWanting v.state w → IsReaderOf ring r → tail_seen d ≤ tail_seen r → empty_looks r ≡ empty_looks d
          → taken r ≡ taken d ++ y ∷ [] → Carries vector value (script_in ring) (taken r) → y ≡ note.End → hs' ≡ set hs w head.Ended → Found (IsMerge vector value belongs ord n lim p (set rs w r) hs' out (count + 1)) lim w v (merge_view vector value (set rs w r) hs' out spare)
      found_end r hs' y view want of tail looks e c is put =
          found r hs' head.Ended EndNote view want of tail looks
          (took_end vector value belongs ord n lim p rs hs out count w ring r d a.kept a.below a.at (wanted view want) of (next r note.End (e ∙ ap (λ (z : NoteOf M E). taken d ++ z ∷ []) is)) c) refl tt put
