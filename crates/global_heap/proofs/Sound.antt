-- A merge stays as it is to be.
use Rattle.std.proofs.Common.{◌≡◌, ◌⊎◌, inl, inr, ℕ, ◌+◌, ◌<◌, ◌^◌, ℤ, true, false, List, [], ◌∷◌, ◌++◌, length, get_or, set, map, Some, None, is_some, refl, sym, ap, ◌∙◌, subst, arith, true≢false, length-set}
use Rattle.std.proofs.lemmas.List.{length-map, get_or-set_same, get_or-set_other}
use Rattle.std.proofs.Math.ListN.{get_or-map}
use Rattle.std.proofs.lemmas.List.Elements.{All-set}
use Rattle.sdmp_laws.specs.Order.{Order}
use Rattle.sdmp_laws.specs.Poly.{Term}
use Rattle.whole_laws.specs.Notes.{Note, TermNote, MarkNote, EndNote, ProductScript, NoEnd, Carry}
use Rattle.whole_laws.specs.Wholes.{MergeState, MergeWhole, merge_take, merge_script, notes_of as notes_at, head_of_worker}
use Rattle.whole_laws.proofs.StepLemmas.{merge_take_law, each_worker}
use Rattle.canonical_terms.specs.declared.term.TermOf.{TermOf}
use Rattle.term_ring.specs.Ends.{taken, tail_seen, empty_looks, IsReaderOf}
use Rattle.term_ring.specs.declared.ring.Ring.{Ring}
use Rattle.term_ring.specs.declared.ring.Reader.{Reader}
use Rattle.ring_heads.specs.declared.head.HeadOf.{HeadOf}
use Rattle.ring_heads.specs.declared.head.HeadOf.TheVariants as head
use Rattle.ring_heads.specs.Heads.{plain, plain_heads, is_missing, HeadBelongs}
use Rattle.term_ring.specs.Names.{RingName, notes_count, reader_name, ring_name, IsReading}
use Rattle.global_heap.specs.Names.{first_product, HasScripts, IsFit}
use Rattle.global_heap.specs.Merges.{IsWanting, IsServed, IsSound}
use Rattle.global_heap.specs.Inside.{reader_notes, merge_state, merge_view, HeadFits, IsMerge}
use Rattle.global_heap.proofs.Steps.{count_one, taking, taken_here, taken_there}
use Rattle.global_heap.proofs.Counts.{after_end}
use Rattle.global_heap.proofs.States.{same_names, idle_state}

abbrev NotEnd : Note → Type 0
NotEnd (TermNote t) = Unit {0}
NotEnd (MarkNote k top) = Unit {0}
NotEnd EndNote = ⊥

-- no End is added by a note that is none
pub NoEnd-more : (before : List Note) (x : Note) → NotEnd x → NoEnd before → NoEnd (before ++ x ∷ [])
unfolding NoEnd
NoEnd-more [] (TermNote t) n h = tt
NoEnd-more [] (MarkNote k top) n h = tt
NoEnd-more [] EndNote n h = absurd n
NoEnd-more (TermNote t ∷ before) x n h = NoEnd-more before x n h
NoEnd-more (MarkNote k top ∷ before) x n h = NoEnd-more before x n h
NoEnd-more (EndNote ∷ before) x n h = absurd h

module _ {M E : Type 0} where
  missing_is : (h : HeadOf M E) → is_missing h ≡ true → h ≡ head.Missing
  missing_is head.Missing e = refl
  missing_is (head.Term t) e = absurd (true≢false (sym e))
  missing_is head.Ended e = absurd (true≢false (sym e))

module _ {M E : Type 0} (vector : M → List ℕ) (value : E → ℤ) where
  -- the head of a worker as plain data
  head_at : (hs : List (HeadOf M E)) (w : ℕ) → get_or (plain_heads vector value hs) w None ≡ plain vector value (get_or hs w head.Missing)
  head_at hs w = get_or-map (plain vector value) hs w head.Missing

  wants_or_served : (hs : List (HeadOf M E)) (w : ℕ) (notes : List Note) (h : HeadOf M E) → get_or hs w head.Missing ≡ h → HeadFits h notes
      → NoEnd notes ⊎ ((get_or (plain_heads vector value hs) w None ≡ None) × ((before : List Note) × (notes ≡ before ++ EndNote ∷ [])))
  wants_or_served hs w notes head.Missing e f = inl f
  wants_or_served hs w notes (head.Term t) e f = inl f
  wants_or_served hs w notes head.Ended e f = inr (head_at hs w ∙ ap (plain vector value) e, f)

  served_by : (hs : List (HeadOf M E)) (w : ℕ) (notes : List Note) (h : HeadOf M E) → get_or hs w head.Missing ≡ h → HeadFits h notes → is_missing h ≡ false
      → ((t : Term) × (get_or (plain_heads vector value hs) w None ≡ Some t)) ⊎ ((before : List Note) × (notes ≡ before ++ EndNote ∷ []))
  served_by hs w notes head.Missing e f m = absurd (true≢false m)
  served_by hs w notes (head.Term t) e f m = inl (_, head_at hs w ∙ ap (plain vector value) e)
  served_by hs w notes head.Ended e f m = inr f

  missing_by : (hs : List (HeadOf M E)) (w : ℕ) (notes : List Note) (h : HeadOf M E) → get_or hs w head.Missing ≡ h → HeadFits h notes → get_or (plain_heads vector value hs) w None ≡ None → NoEnd notes → h ≡ head.Missing
  missing_by hs w notes head.Missing e f none clear = refl
  missing_by hs w notes (head.Term t) e f none clear = absurd (true≢false (ap is_some (sym (ap (plain vector value) e) ∙ sym (head_at hs w) ∙ none)))
  missing_by hs w notes head.Ended e f none clear = absurd (after_end f.0 (subst NoEnd f.1 clear))

module _ {X M E : Type 0} (vector : M → List ℕ) (value : E → ℤ) (belongs : ℕ → E → Type 0) (ord : Order) (n lim p : ℕ) where
  abbrev State : List (Reader X M E) → List (HeadOf M E) → List (TermOf M E) → MergeState
  State rs hs out = merge_state vector value rs hs out

  abbrev Kept : List (Reader X M E) → List (HeadOf M E) → List (TermOf M E) → ℕ → Type 0
  Kept rs hs out count = IsMerge vector value belongs ord n lim p rs hs out count

  pub is_sound : (rs : List (Reader X M E)) (hs : List (HeadOf M E)) (out : List (TermOf M E)) (count spare : ℕ) → IsMerge vector value belongs ord n lim p rs hs out count → IsSound lim (merge_view vector value rs hs out spare)
  unfolding head_of_worker
  is_sound rs hs out count spare k = record {
    whole = k.whole;
    product = refl;
    scripts = k.scripts;
    fit = k.fit;
    some = k.some;
    few = k.few;
    rings_count = length-map rs reader_name;
    tails_count = length-map rs tail_seen;
    looks_count = length-map rs empty_looks;
    each = λ w l. wants_or_served vector value hs w (notes_at (map (reader_notes vector value) rs) w) (get_or hs w head.Missing) refl (k.each w l);
  }

  -- ---- what the flag of a worker's head tells
  pub wanting_is : (rs : List (Reader X M E)) (hs : List (HeadOf M E)) (out : List (TermOf M E)) (count w : ℕ) → IsMerge vector value belongs ord n lim p rs hs out count → w < length rs → is_missing (get_or hs w head.Missing) ≡ true → IsWanting (merge_state vector value rs hs out) w
  unfolding head_of_worker
  wanting_is rs hs out count w k l e =
      let m = missing_is (get_or hs w head.Missing) e in (
        head_at vector value hs w ∙ ap (plain vector value) m,
        subst (λ h. HeadFits h (notes_at (map (reader_notes vector value) rs) w)) m (k.each w l),
      )

  pub served_is : (rs : List (Reader X M E)) (hs : List (HeadOf M E)) (out : List (TermOf M E)) (count w : ℕ) → IsMerge vector value belongs ord n lim p rs hs out count → w < length rs → is_missing (get_or hs w head.Missing) ≡ false → IsServed (merge_state vector value rs hs out) w
  unfolding head_of_worker
  served_is rs hs out count w k l e = served_by vector value hs w (notes_at (map (reader_notes vector value) rs) w) (get_or hs w head.Missing) refl (k.each w l) e

  pub missing_here : (rs : List (Reader X M E)) (hs : List (HeadOf M E)) (out : List (TermOf M E)) (count w : ℕ) → IsMerge vector value belongs ord n lim p rs hs out count → w < length rs → IsWanting (merge_state vector value rs hs out) w → get_or hs w head.Missing ≡ head.Missing
  unfolding head_of_worker
  missing_here rs hs out count w k l want = missing_by vector value hs w (notes_at (map (reader_notes vector value) rs) w) (get_or hs w head.Missing) refl (k.each w l) want.0 want.1

  -- ---- a note is taken
  -- what changes beside the readers and the heads
  pub record Took (rs : List (Reader X M E)) (hs : List (HeadOf M E)) (out : List (TermOf M E)) (w : ℕ) (r : Reader X M E) (h : HeadOf M E) (x : Note) : Type 0 where
    pub below : w < length rs
    pub name : (d : Reader X M E) → w < length rs → reader_name r ≡ reader_name (get_or rs w d)
    pub state : merge_state vector value (set rs w r) (set hs w h) out ≡ merge_take (merge_state vector value rs hs out) w x
    pub carries : Carry (ProductScript (first_product (map reader_name rs)) (length rs) w) (notes_at (map (reader_notes vector value) rs) w ++ x ∷ [])
    pub fits : HeadFits h (notes_at (map (reader_notes vector value) rs) w ++ x ∷ [])
    pub mine : HeadBelongs (belongs p) h
    pub reading : IsReading r

  pub still : (rs : List (Reader X M E)) (hs : List (HeadOf M E)) (out : List (TermOf M E)) (count w : ℕ) (r : Reader X M E) (h : HeadOf M E) (x : Note)
      → Kept rs hs out count → IsWanting (State rs hs out) w → Took rs hs out w r h x → Kept (set rs w r) (set hs w h) out (count + 1)
  unfolding merge_script
  still rs hs out count w r h x k want took =
      let names = same_names vector value rs w r r (took.name r took.below) in
      let s : MergeState = State rs hs out in
      let t : MergeState = State (set rs w r) (set hs w h) out in
      let back : merge_take s w x ≡ t = sym took.state in
      let k' = taking s w x in
      let wide = length-set rs w r in
      let inside : w < length s.taken = let c = k.whole.taken_count in let b = took.below in omega arith in
      let notes : t.taken ≡ set s.taken w (notes_at s.taken w ++ x ∷ []) = ap (λ (u : MergeState). u.taken) took.state ∙ k'.taken in
      record {
        whole = subst MergeWhole back (merge_take_law s w x k.whole took.below want.0 (took.carries));
        scripts = subst (λ (ns : List RingName). HasScripts (first_product ns) ns) (sym names) k.scripts;
        fit = subst (λ (ns : List RingName). IsFit lim (first_product ns)) (sym names) k.fit;
        ordered = ap (λ (ns : List RingName). (first_product ns).ord) names ∙ k.ordered;
        variables = ap (λ (ns : List RingName). (first_product ns).n) names ∙ k.variables;
        modulus = ap (λ (ns : List RingName). (first_product ns).p) names ∙ k.modulus;
        reading = All-set IsReading rs w r took.reading k.reading;
        some = let a = k.some in omega arith;
        few = subst (λ (m : ℕ). m < 2 ^ 32) (sym wide) k.few;
        long = length-set hs w h ∙ k.long ∙ sym wide;
        each = λ v l.
            each_worker (λ u. u < length rs → HeadFits (get_or (set hs w h) u head.Missing) (notes_at (map (reader_notes vector value) (set rs w r)) u)) w v
            (λ b. subst (λ (g : HeadOf M E). HeadFits g (notes_at t.taken w)) (sym (get_or-set_same hs w h head.Missing (let e = k.long in omega arith)))
            (subst (λ (ns : List Note). HeadFits h ns) (sym (ap (λ (ts : List (List Note)). notes_at ts w) notes ∙ taken_here s w x inside)) took.fits))
            (λ other b. subst (λ (g : HeadOf M E). HeadFits g (notes_at t.taken v)) (sym (get_or-set_other hs w v h head.Missing other))
            (subst (λ (ns : List Note). HeadFits (get_or hs v head.Missing) ns) (sym (ap (λ (ts : List (List Note)). notes_at ts v) notes ∙ taken_there s w v _ other)) (k.each v b)))
            (let e = wide in omega arith);
        heads_belong = All-set (HeadBelongs (belongs p)) hs w h took.mine k.heads_belong;
        out_belongs = k.out_belongs;
        counted = ap (λ (m : ℕ). m + 1) k.counted ∙ sym (count_one s (merge_take s w x) w x inside k') ∙ ap (λ (u : MergeState). notes_count u.taken) back;
      }

  -- where nothing was taken
  pub still_idle : (rs : List (Reader X M E)) (hs : List (HeadOf M E)) (out : List (TermOf M E)) (count w : ℕ) (r : Reader X M E)
      → Kept rs hs out count → reader_name r ≡ reader_name (get_or rs w r) → taken r ≡ taken (get_or rs w r) → IsReading r → Kept (set rs w r) hs out count
  still_idle rs hs out count w r k name same reads =
      let names = same_names vector value rs w r r name in
      let st = idle_state vector value rs hs out w r r name same in
      let wide = length-set rs w r in
      let notes : map (reader_notes vector value) (set rs w r) ≡ map (reader_notes vector value) rs = ap (λ (u : MergeState). u.taken) st in
      record {
        whole = subst MergeWhole (sym st) k.whole;
        scripts = subst (λ (ns : List RingName). HasScripts (first_product ns) ns) (sym names) k.scripts;
        fit = subst (λ (ns : List RingName). IsFit lim (first_product ns)) (sym names) k.fit;
        ordered = ap (λ (ns : List RingName). (first_product ns).ord) names ∙ k.ordered;
        variables = ap (λ (ns : List RingName). (first_product ns).n) names ∙ k.variables;
        modulus = ap (λ (ns : List RingName). (first_product ns).p) names ∙ k.modulus;
        reading = All-set IsReading rs w r reads k.reading;
        some = let a = k.some in omega arith;
        few = subst (λ (m : ℕ). m < 2 ^ 32) (sym wide) k.few;
        long = k.long ∙ sym wide;
        each = λ v l. subst (λ (ns : List (List Note)). HeadFits (get_or hs v head.Missing) (notes_at ns v)) (sym notes) (k.each v (let e = wide in omega arith));
        heads_belong = k.heads_belong;
        out_belongs = k.out_belongs;
        counted = k.counted ∙ ap notes_count (sym notes);
      }

  -- ---- what the reader's pop tells
  pub script_here : (rs : List (Reader X M E)) (hs : List (HeadOf M E)) (out : List (TermOf M E)) (count w : ℕ) (d : Reader X M E) → Kept rs hs out count → w < length rs → (get_or rs w d).end.script.value ≡ ProductScript (first_product (map reader_name rs)) (length rs) w
  script_here rs hs out count w d k l =
      let m = k.scripts w (reader_name d) (let e = length-map rs reader_name in omega arith) in
      ap (λ (a : RingName). a.script) (sym (get_or-map reader_name rs w d)) ∙ m ∙ ap (λ (c : ℕ). ProductScript (first_product (map reader_name rs)) c w) (length-map rs reader_name)

  -- the reader of a ring
  pub reader_of : (rs : List (Reader X M E)) (hs : List (HeadOf M E)) (out : List (TermOf M E)) (count w : ℕ) (ring : Ring X M E) (d : Reader X M E) → Kept rs hs out count → w < length rs → ((a : RingName) → get_or (map reader_name rs) w a ≡ ring_name ring) → IsReaderOf ring (get_or rs w d)
  reader_of rs hs out count w ring d k l is =
      let e : reader_name (get_or rs w d) ≡ ring_name ring = sym (get_or-map reader_name rs w d) ∙ is (reader_name d) in
      (k.reading w d l, ap (λ (a : RingName). a.table) e, ap (λ (a : RingName). a.script) e, ap (λ (a : RingName). a.places) e)

  -- a reader that popped has the name that it had
  pub name_stays : (rs : List (Reader X M E)) (w : ℕ) (ring : Ring X M E) (r : Reader X M E) → ((a : RingName) → get_or (map reader_name rs) w a ≡ ring_name ring) → IsReaderOf ring r → (d : Reader X M E) → w < length rs → reader_name r ≡ reader_name (get_or rs w d)
  name_stays rs w ring r is of d l =
      let e : reader_name (get_or rs w d) ≡ ring_name ring = sym (get_or-map reader_name rs w d) ∙ is (reader_name d) in
      (λ i. record { table = of.1 i; script = of.2 i; places = of.3 i }) ∙ sym e
