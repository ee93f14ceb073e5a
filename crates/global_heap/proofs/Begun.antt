-- A merge as it begins and as it ends.
use Rattle.std.proofs.Common.{◌≡◌, ℕ, zero, suc, ◌<◌, ◌^◌, ℤ, List, [], ◌∷◌, ◌++◌, length, get_or, map, replicate, All, Option, None, refl, sym, ap, ◌∙◌, subst, arith}
use Rattle.std.proofs.lemmas.List.{length-replicate, get_or-replicate}
use Rattle.std.proofs.Math.ListN.{get_or-map}
use Rattle.std.proofs.lemmas.List.Sums.{sum_by-cons}
use Rattle.sdmp_laws.specs.Order.{Order}
use Rattle.sdmp_laws.specs.Poly.{Term, terms, times}
use Rattle.sdmp_laws.specs.Canonical.{IsCanonical}
use Rattle.whole_laws.specs.Notes.{Note, EndNote, NoEnd}
use Rattle.whole_laws.specs.Wholes.{MergeWhole, merge_start, head_terms, notes_of as notes_at, IsMergeDone}
use Rattle.whole_laws.proofs.StartLemmas.{merge_start_law}
use Rattle.whole_laws.proofs.MergeLemmas.{merge_done}
use Rattle.canonical_terms.specs.View.{sum_of}
use Rattle.canonical_terms.specs.declared.term.TermOf.{TermOf}
use Rattle.term_ring.specs.Spelling.{notes_of}
use Rattle.term_ring.specs.Ends.{taken}
use Rattle.term_ring.specs.declared.ring.Reader.{Reader}
use Rattle.ring_heads.specs.declared.head.HeadOf.{HeadOf}
use Rattle.ring_heads.specs.declared.head.HeadOf.TheVariants as head
use Rattle.ring_heads.specs.Heads.{plain, plain_heads, HeadBelongs}
use Rattle.term_ring.specs.Names.{notes_count, reader_name, IsReading}
use Rattle.global_heap.specs.Names.{first_product, HasScripts, IsFit}
use Rattle.global_heap.specs.Inside.{reader_notes, merge_state, HeadFits, IsMerge}
use Rattle.global_heap.proofs.Counts.{after_end}
use Rattle.global_heap.proofs.Running.{no_head}
use Rattle.global_heap.proofs.Finish.{product_canonical}

plain_missing : {M E : Type 0} (vector : M → List ℕ) (value : E → ℤ) (k : ℕ) → plain_heads vector value (replicate k head.Missing) ≡ replicate k None
plain_missing vector value zero = refl
plain_missing vector value (suc k) = ap (λ (L : List (Option Term)). None ∷ L) (plain_missing vector value k)

ended_live : {M E : Type 0} (vector : M → List ℕ) (value : E → ℤ) (hs : List (HeadOf M E)) → ((w : ℕ) → w < length hs → get_or hs w head.Missing ≡ head.Ended) → head_terms (plain_heads vector value hs) ≡ []
unfolding head_terms
ended_live vector value [] h = refl
ended_live vector value (k ∷ hs) h =
    ap (λ (g : HeadOf _ _). head_terms (plain vector value g ∷ plain_heads vector value hs)) (h 0 (omega arith)) ∙ ended_live vector value hs (λ w l. h (suc w) (omega arith))

module _ {X M E : Type 0} (vector : M → List ℕ) (value : E → ℤ) where
  nothing_taken : (rs : List (Reader X M E)) → All (λ r. taken r ≡ []) rs → map (reader_notes vector value) rs ≡ replicate (length rs) []
  nothing_taken [] a = refl
  nothing_taken (r ∷ rs) a =
      let here : reader_notes vector value r ≡ [] = ap (notes_of vector value) (a 0 r (omega arith)) in
      let rest = nothing_taken rs (λ k d l. a (suc k) d (omega arith)) in
      λ i. here i ∷ rest i

  pub start_state : (rs : List (Reader X M E)) → All (λ r. taken r ≡ []) rs → merge_state vector value rs (replicate (length rs) head.Missing) [] ≡ merge_start (first_product (map reader_name rs)) (length rs)
  unfolding merge_start
  start_state rs a = λ i. record {
    product = first_product (map reader_name rs);
    workers = length rs;
    out = [];
    heads = plain_missing vector value (length rs) i;
    taken = nothing_taken rs a i;
  }

missing_all : (M E : Type 0) (m k : ℕ) (d : HeadOf M E) → k < length (replicate {A = HeadOf M E} m head.Missing) → get_or (replicate m head.Missing) k d ≡ head.Missing
missing_all M E zero k d l = absurd (omega arith)
missing_all M E (suc m) zero d l = refl
missing_all M E (suc m) (suc k) d l = missing_all M E m k d (omega arith)

ended_by : {M E : Type 0} (vector : M → List ℕ) (value : E → ℤ) (hs : List (HeadOf M E)) (w : ℕ) (notes : List Note) (h : HeadOf M E) → get_or hs w head.Missing ≡ h → HeadFits h notes → head_terms (plain_heads vector value hs) ≡ [] → ((before : List Note) × (notes ≡ before ++ EndNote ∷ [])) → h ≡ head.Ended
ended_by vector value hs w notes head.Missing e f none end = absurd (after_end end.0 (subst NoEnd end.1 f))
ended_by vector value hs w notes (head.Term t) e f none end = absurd (no_head (plain_heads vector value hs) w _ none (get_or-map (plain vector value) hs w head.Missing ∙ ap (plain vector value) e))
ended_by vector value hs w notes head.Ended e f none end = refl

pub no_count : (k : ℕ) → notes_count (replicate k []) ≡ 0
no_count zero = refl
no_count (suc k) = let i = no_count k in let c = sum_by-cons (λ (n : List Note). length n) [] (replicate k []) in omega arith

no_end : NoEnd []
unfolding NoEnd
no_end = tt

module _ {X M E : Type 0} (vector : M → List ℕ) (value : E → ℤ) (belongs : ℕ → E → Type 0) (ord : Order) (n lim p : ℕ) where
  pub begins : (rs : List (Reader X M E)) (hs : List (HeadOf M E)) → 0 < length rs → length rs < 2 ^ 32 → HasScripts (first_product (map reader_name rs)) (map reader_name rs) → IsFit lim (first_product (map reader_name rs))
      → (first_product (map reader_name rs)).ord ≡ ord → (first_product (map reader_name rs)).n ≡ n → (first_product (map reader_name rs)).p ≡ p → All IsReading rs → All (λ r. taken r ≡ []) rs
      → hs ≡ replicate (length rs) head.Missing → IsMerge vector value belongs ord n lim p rs hs [] 0
  unfolding notes_at
  begins rs hs some few scripts fit o v m reading none e = subst (λ (h : List (HeadOf M E)). IsMerge vector value belongs ord n lim p rs h [] 0) (sym e) record {
    whole = subst MergeWhole (sym (start_state vector value rs none)) (merge_start_law (first_product (map reader_name rs)) (length rs) some);
    scripts = scripts;
    fit = fit;
    ordered = o;
    variables = v;
    modulus = m;
    reading = reading;
    some = some;
    few = few;
    long = length-replicate {A = HeadOf M E} (length rs) head.Missing;
    each = λ w l.
        subst (λ (h : HeadOf M E). HeadFits h (get_or (map (reader_notes vector value) rs) w [])) (sym (get_or-replicate {A = HeadOf M E} (length rs) w head.Missing head.Missing l))
        (subst (λ (ts : List (List Note)). NoEnd (get_or ts w [])) (sym (nothing_taken vector value rs none)) (subst NoEnd (sym (get_or-replicate {A = List Note} (length rs) w [] [] l)) no_end));
    heads_belong = λ k d l. subst (HeadBelongs (belongs p)) (sym (missing_all M E (length rs) k d l)) tt;
    out_belongs = λ k d l. absurd (omega arith);
    counted = sym (ap notes_count (nothing_taken vector value rs none) ∙ no_count (length rs));
  }

  -- ---- the end
  pub done_from : (rs : List (Reader X M E)) (hs : List (HeadOf M E)) (out : List (TermOf M E)) (count : ℕ) → IsMerge vector value belongs ord n lim p rs hs out count → ((w : ℕ) → w < length hs → get_or hs w head.Missing ≡ head.Ended) → IsMergeDone (merge_state vector value rs hs out)
  done_from rs hs out count k h = record {
    no_heads = ended_live vector value hs h;
    ended = λ w l. subst (λ (g : HeadOf M E). HeadFits g (notes_at (map (reader_notes vector value) rs) w)) (h w (let e = k.long in omega arith)) (k.each w l);
  }

  pub done_to : (rs : List (Reader X M E)) (hs : List (HeadOf M E)) (out : List (TermOf M E)) (count : ℕ) → IsMerge vector value belongs ord n lim p rs hs out count → IsMergeDone (merge_state vector value rs hs out) → (w : ℕ) → w < length hs → get_or hs w head.Missing ≡ head.Ended
  done_to rs hs out count k d w l =
      let inside : w < length rs = let e = k.long in omega arith in
      ended_by vector value hs w (notes_at (map (reader_notes vector value) rs) w) (get_or hs w head.Missing) refl (k.each w inside) d.no_heads (d.ended w inside)

  -- what a merge that is done has emitted
  pub emitted_all : (rs : List (Reader X M E)) (hs : List (HeadOf M E)) (out : List (TermOf M E)) (count : ℕ) → IsMerge vector value belongs ord n lim p rs hs out count → IsMergeDone (merge_state vector value rs hs out)
      → sum_of vector value out ≡ terms ord (first_product (map reader_name rs)).p (times (first_product (map reader_name rs)).f (first_product (map reader_name rs)).g)
  emitted_all rs hs out count k d =
      let m = first_product (map reader_name rs) in
      merge_done (merge_state vector value rs hs out) k.fit.left.poly.vectors k.fit.right.poly.vectors k.whole d ∙ ap (λ (o : Order). terms o m.p (times m.f m.g)) k.ordered

  pub finished : (rs : List (Reader X M E)) (hs : List (HeadOf M E)) (out : List (TermOf M E)) (count : ℕ) → IsMerge vector value belongs ord n lim p rs hs out count → IsMergeDone (merge_state vector value rs hs out) → IsCanonical ord p n lim (sum_of vector value out)
  finished rs hs out count k d =
      let m = first_product (map reader_name rs) in
      let e = merge_done (merge_state vector value rs hs out) k.fit.left.poly.vectors k.fit.right.poly.vectors k.whole d in
      let L : List Term = sum_of vector value out in
      subst (λ (o : Order). IsCanonical o p n lim L) k.ordered
      (subst (λ (q : ℕ). IsCanonical m.ord q n lim L) k.modulus
      (subst (λ (v : ℕ). IsCanonical m.ord m.p v lim L) k.variables
      (subst (λ (K : List Term). IsCanonical m.ord m.p m.n lim K) (sym e) (product_canonical lim m k.fit))))
