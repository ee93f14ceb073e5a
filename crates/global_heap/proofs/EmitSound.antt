-- A merge stays as it is to be when it emits.
use Rattle.std.proofs.Common.{◌≡◌, ◌≢◌, ℕ, ◌+◌, ◌<◌, ℤ, pos, Bool, true, false, cond, List, [], ◌∷◌, ◌++◌, length, length-append, get_or, map, All, refl, sym, ap, ◌∙◌, subst, arith}
use Rattle.std.specs.declared.cmp.Ordering.{Ordering}
use Rattle.std.specs.Ordering.{is_eq}
use Rattle.std.proofs.lemmas.List.{length-map, map-append}
use Rattle.std.proofs.Math.ListN.{get_or-map}
use Rattle.std.proofs.lemmas.List as lists
use Rattle.std.proofs.lemmas.List.Elements.{All-push}
use Rattle.sdmp_laws.specs.Order.{Order, alike}
use Rattle.sdmp_laws.specs.Poly.{Term, coef, is_zero}
use Rattle.sdmp_laws.proofs.TermsLemmas.{is_zero_yes}
use Rattle.whole_laws.specs.Notes.{Note}
use Rattle.whole_laws.specs.Wholes.{MergeState, MergeWhole, merge_emit, head_terms, notes_of as notes_at}
use Rattle.whole_laws.proofs.StepLemmas.{merge_emit_law}
use Rattle.canonical_terms.specs.View.{term_of, sum_of}
use Rattle.canonical_terms.specs.declared.term.TermOf.{TermOf}
use Rattle.term_ring.specs.declared.ring.Reader.{Reader}
use Rattle.ring_heads.specs.declared.head.HeadOf.{HeadOf}
use Rattle.ring_heads.specs.declared.head.HeadOf.TheVariants as head
use Rattle.ring_heads.specs.Heads.{plain_heads, missing_at, HeadBelongs, IsTopSum}
use Rattle.global_heap.specs.Names.{first_product}
use Rattle.term_ring.specs.Names.{reader_name}
use Rattle.global_heap.specs.Merges.{MergeView, AllServed, Emits, IsSound}
use Rattle.global_heap.specs.Inside.{reader_notes, merge_state, merge_view, HeadFits, IsMerge}
use Rattle.ring_heads.proofs.HeadLemmas.{cleared_plain}
use Rattle.global_heap.proofs.Emitting.{is_candidate}
use Rattle.global_heap.proofs.Sound.{is_sound}

zero_yes : (x : ℤ) → x ≡ pos 0 → is_zero x ≡ true
unfolding is_zero
zero_yes x e = ap is_zero e

zero_no : (x : ℤ) → x ≢ pos 0 → is_zero x ≡ false
zero_no x n = pick (is_zero x) refl
  where
    pick : (b : Bool) → is_zero x ≡ b → is_zero x ≡ false
    pick true e = absurd (n (is_zero_yes x e))
    pick false e = e

fits_cleared : {M E : Type 0} (cmp : M → M → Ordering) (x : M) (h : HeadOf M E) (notes : List Note) → HeadFits h notes → HeadFits (missing_at cmp x h) notes
fits_cleared cmp x head.Missing notes f = f
fits_cleared cmp x (head.Term t) notes f = pick (is_eq (cmp t.mono x))
  where
    pick : (b : Bool) → HeadFits (cond b head.Missing (head.Term t)) notes
    pick true = f
    pick false = f
fits_cleared cmp x head.Ended notes f = f

module _ {M E : Type 0} (cmp : M → M → Ordering) (belongs : E → Type 0) where
  belongs_cleared : (x : M) (h : HeadOf M E) → HeadBelongs belongs h → HeadBelongs belongs (missing_at cmp x h)
  belongs_cleared x head.Missing f = tt
  belongs_cleared x (head.Term t) f = pick (is_eq (cmp t.mono x))
    where
      pick : (b : Bool) → HeadBelongs belongs (cond b head.Missing (head.Term t))
      pick true = tt
      pick false = f
  belongs_cleared x head.Ended f = tt

  pub all_cleared : (x : M) (hs : List (HeadOf M E)) → All (HeadBelongs belongs) hs → All (HeadBelongs belongs) (map (missing_at cmp x) hs)
  all_cleared x hs a k d l =
      let inside : k < length hs = let e = length-map hs (missing_at cmp x) in omega arith in
      subst (HeadBelongs belongs) (sym (lists.get_or-map (missing_at cmp x) hs k d d inside)) (belongs_cleared x (get_or hs k d) (a k d inside))

module _ {X M E : Type 0} (cmp : M → M → Ordering) (vector : M → List ℕ) (value : E → ℤ) (belongs : ℕ → E → Type 0) (ord : Order) (n lim p : ℕ) (law : (a b : M) → is_eq (cmp a b) ≡ alike (vector a) (vector b)) where
  sum_is : (rs : List (Reader X M E)) (hs : List (HeadOf M E)) (out : List (TermOf M E)) (count : ℕ) (t : TermOf M E) → IsMerge vector value belongs ord n lim p rs hs out count → IsTopSum ord p (plain_heads vector value hs) (term_of vector value t)
      → coef (first_product (map reader_name rs)).p (head_terms (plain_heads vector value hs)) (vector t.mono) ≡ value t.coef
  sum_is rs hs out count t k top = ap (λ (q : ℕ). coef q (head_terms (plain_heads vector value hs)) (vector t.mono)) k.modulus ∙ sym top.sum

  -- the state where the sum is zero, and where it is not
  zero_state : (rs : List (Reader X M E)) (hs : List (HeadOf M E)) (out : List (TermOf M E)) (count : ℕ) (t : TermOf M E) → IsMerge vector value belongs ord n lim p rs hs out count → IsTopSum ord p (plain_heads vector value hs) (term_of vector value t)
      → value t.coef ≡ pos 0 → merge_state vector value rs (map (missing_at cmp t.mono) hs) out ≡ merge_emit (merge_state vector value rs hs out) (vector t.mono)
  unfolding merge_emit
  zero_state rs hs out count t k top z =
      let s : MergeState = merge_state vector value rs hs out in
      let c : ℤ = coef s.product.p (head_terms s.heads) (vector t.mono) in
      let more : List Term = s.out ++ record { monomial = vector t.mono; coefficient = c } ∷ [] in
      let none : is_zero c ≡ true = zero_yes c (sum_is rs hs out count t k top ∙ z) in
      λ i. record s { out = sym (ap (λ (b : Bool). cond b s.out more) none) i; heads = cleared_plain vector value cmp t.mono law hs i }

  more_state : (rs : List (Reader X M E)) (hs : List (HeadOf M E)) (out : List (TermOf M E)) (count : ℕ) (t : TermOf M E) → IsMerge vector value belongs ord n lim p rs hs out count → IsTopSum ord p (plain_heads vector value hs) (term_of vector value t)
      → value t.coef ≢ pos 0 → merge_state vector value rs (map (missing_at cmp t.mono) hs) (out ++ t ∷ []) ≡ merge_emit (merge_state vector value rs hs out) (vector t.mono)
  unfolding merge_emit
  more_state rs hs out count t k top z =
      let s : MergeState = merge_state vector value rs hs out in
      let c : ℤ = coef s.product.p (head_terms s.heads) (vector t.mono) in
      let sum = sum_is rs hs out count t k top in
      let more : List Term = s.out ++ record { monomial = vector t.mono; coefficient = c } ∷ [] in
      let some : is_zero c ≡ false = zero_no c (λ e. z (sym sum ∙ e)) in
      let pushed : sum_of vector value (out ++ t ∷ []) ≡ more = map-append (term_of vector value) out (t ∷ []) ∙ (λ i. s.out ++ record { monomial = vector t.mono; coefficient = sym sum i } ∷ []) in
      λ i. record s { out = (pushed ∙ sym (ap (λ (b : Bool). cond b s.out more) some)) i; heads = cleared_plain vector value cmp t.mono law hs i }

  -- what was emitted
  record Emitted (rs : List (Reader X M E)) (hs : List (HeadOf M E)) (out out' : List (TermOf M E)) (t : TermOf M E) : Type 0 where
    state : merge_state vector value rs (map (missing_at cmp t.mono) hs) out' ≡ merge_emit (merge_state vector value rs hs out) (vector t.mono)
    belongs_out : All (λ u. belongs p u.coef) out'

  emitted_zero : (rs : List (Reader X M E)) (hs : List (HeadOf M E)) (out : List (TermOf M E)) (count : ℕ) (t : TermOf M E) → IsMerge vector value belongs ord n lim p rs hs out count → IsTopSum ord p (plain_heads vector value hs) (term_of vector value t)
      → value t.coef ≡ pos 0 → Emitted rs hs out out t
  emitted_zero rs hs out count t k top z = record { state = zero_state rs hs out count t k top z; belongs_out = k.out_belongs }

  emitted_more : (rs : List (Reader X M E)) (hs : List (HeadOf M E)) (out : List (TermOf M E)) (count : ℕ) (t : TermOf M E) → IsMerge vector value belongs ord n lim p rs hs out count → IsTopSum ord p (plain_heads vector value hs) (term_of vector value t)
      → value t.coef ≢ pos 0 → belongs p t.coef → Emitted rs hs out (out ++ t ∷ []) t
  emitted_more rs hs out count t k top z b = record { state = more_state rs hs out count t k top z; belongs_out = All-push (λ u. belongs p u.coef) out t k.out_belongs b }

  emit_keeps : (rs : List (Reader X M E)) (hs : List (HeadOf M E)) (out out' : List (TermOf M E)) (count : ℕ) (t : TermOf M E) → IsMerge vector value belongs ord n lim p rs hs out count → IsTopSum ord p (plain_heads vector value hs) (term_of vector value t)
      → AllServed (merge_state vector value rs hs out) → length (vector t.mono) ≡ n → Emitted rs hs out out' t → IsMerge vector value belongs ord n lim p rs (map (missing_at cmp t.mono) hs) out' count
  emit_keeps rs hs out out' count t k top served long e =
      let s : MergeState = merge_state vector value rs hs out in
      let top' : IsTopSum s.product.ord p s.heads (term_of vector value t) = subst (λ (o : Order). IsTopSum o p s.heads (term_of vector value t)) (sym k.ordered) top in
      record {
        whole = subst MergeWhole (sym e.state) (merge_emit_law s (vector t.mono) k.fit.left.poly.vectors k.fit.right.poly.vectors k.whole (is_candidate s p (term_of vector value t) served top' (long ∙ sym k.variables)));
        scripts = k.scripts;
        fit = k.fit;
        ordered = k.ordered;
        variables = k.variables;
        modulus = k.modulus;
        reading = k.reading;
        some = k.some;
        few = k.few;
        long = length-map hs (missing_at cmp t.mono) ∙ k.long;
        each = λ v l. subst (λ (h : HeadOf M E). HeadFits h (notes_at (map (reader_notes vector value) rs) v)) (sym (get_or-map (missing_at cmp t.mono) hs v head.Missing)) (fits_cleared cmp t.mono (get_or hs v head.Missing) (notes_at (map (reader_notes vector value) rs) v) (k.each v l));
        heads_belong = all_cleared cmp (belongs p) t.mono hs k.heads_belong;
        out_belongs = e.belongs_out;
        counted = k.counted;
      }

  -- what a merge is once the heads at t's monomial were summed and emitted, and what its view shows
  pub record Emission (rs : List (Reader X M E)) (hs' : List (HeadOf M E)) (out' : List (TermOf M E)) (count spare' : ℕ) (v : MergeView) : Type 0 where
    pub kept : IsMerge vector value belongs ord n lim p rs hs' out' count
    pub sound : IsSound lim (merge_view vector value rs hs' out' spare')
    pub emits : Emits v (merge_view vector value rs hs' out' spare')

  emission : (rs : List (Reader X M E)) (hs hs' : List (HeadOf M E)) (out out' : List (TermOf M E)) (count spare spare' : ℕ) (v : MergeView) (t : TermOf M E) → IsMerge vector value belongs ord n lim p rs hs out count → merge_view vector value rs hs out spare ≡ v → AllServed v.state
      → IsTopSum ord p (plain_heads vector value hs) (term_of vector value t) → length (vector t.mono) ≡ n → hs' ≡ map (missing_at cmp t.mono) hs → spare' + length out' ≡ spare + length out → Emitted rs hs out out' t → Emission rs hs' out' count spare' v
  emission rs hs hs' out out' count spare spare' v t k view served top long e room em =
      let served' : AllServed (merge_state vector value rs hs out) = subst (λ (u : MergeView). AllServed u.state) (sym view) served in
      let kept : IsMerge vector value belongs ord n lim p rs hs' out' count = subst (λ (h : List (HeadOf M E)). IsMerge vector value belongs ord n lim p rs h out' count) (sym e) (emit_keeps rs hs out out' count t k top served' long em) in
      record {
        kept = kept;
        sound = is_sound vector value belongs ord n lim p rs hs' out' count spare' kept;
        emits = subst (λ (u : MergeView). Emits u (merge_view vector value rs hs' out' spare')) view (record {
          top = vector t.mono;
          there = top.top.there;
          state = ap (λ (h : List (HeadOf M E)). merge_state vector value rs h out') e ∙ em.state;
          rings = refl;
          tails = refl;
          looks = refl;
          spare = let a = length-map out (term_of vector value) in let b = length-map out' (term_of vector value) in omega arith;
        });
      }

  -- the sum is not zero and was pushed
  pub pushed : (rs : List (Reader X M E)) (hs hs' : List (HeadOf M E)) (out out' : List (TermOf M E)) (count spare spare' : ℕ) (v : MergeView) (t : TermOf M E) → IsMerge vector value belongs ord n lim p rs hs out count → merge_view vector value rs hs out spare ≡ v → AllServed v.state
      → IsTopSum ord p (plain_heads vector value hs) (term_of vector value t) → length (vector t.mono) ≡ n → hs' ≡ map (missing_at cmp t.mono) hs → value t.coef ≢ pos 0 → belongs p t.coef → out' ≡ out ++ t ∷ [] → spare' + 1 ≡ spare → Emission rs hs' out' count spare' v
  pushed rs hs hs' out out' count spare spare' v t k view served top long e z b o room =
      emission rs hs hs' out out' count spare spare' v t k view served top long e (let l = ap (λ (L : List (TermOf M E)). length L) o in let a = length-append out (t ∷ []) in omega arith)
      (subst (λ (L : List (TermOf M E)). Emitted rs hs out L t) (sym o) (emitted_more rs hs out count t k top z b))

  -- it is zero
  pub passed : (rs : List (Reader X M E)) (hs hs' : List (HeadOf M E)) (out : List (TermOf M E)) (count spare : ℕ) (v : MergeView) (t : TermOf M E) → IsMerge vector value belongs ord n lim p rs hs out count → merge_view vector value rs hs out spare ≡ v → AllServed v.state
      → IsTopSum ord p (plain_heads vector value hs) (term_of vector value t) → length (vector t.mono) ≡ n → hs' ≡ map (missing_at cmp t.mono) hs → value t.coef ≡ pos 0 → Emission rs hs' out count spare v
  passed rs hs hs' out count spare v t k view served top long e z = emission rs hs hs' out out count spare spare v t k view served top long e refl (emitted_zero rs hs out count t k top z)
