-- How a merge emits the sum of its greatest heads.
use Rattle.std.proofs.Common.{◌≡◌, ◌⊎◌, inl, inr, ℕ, zero, suc, ◌<◌, ◌≤◌, Bool, true, false, cond, ◌||◌, List, [], ◌∷◌, ◌++◌, length, get_or, Option, Some, None, refl, sym, ap, ◌∙◌, subst, arith, true≢false, length-append, append-nil}
use Rattle.sdmp_laws.specs.Order.{Order, alike}
use Rattle.sdmp_laws.specs.Poly.{Term, coef, is_zero, without}
use Rattle.sdmp_laws.specs.Division.{AllAtOrBelow, AtOrAbove}
use Rattle.sdmp_laws.proofs.PolyLemmas.{length_without}
use Rattle.whole_laws.specs.Notes.{Note, EndNote, NoEnd, has}
use Rattle.whole_laws.specs.Wholes.{MergeState, head_terms, notes_of, head_of_worker, merge_emit, clear_at, IsReady, IsMergeCandidate}
use Rattle.whole_laws.proofs.StepLemmas.{cleared}
use Rattle.ring_heads.specs.Heads.{IsTopSum}
use Rattle.term_ring.specs.Names.{NoneBelow}
use Rattle.global_heap.specs.Merges.{MergeView, taken_of, IsWanting, IsServed, AllServed, Grows, Emits, IsSound}
use Rattle.global_heap.proofs.Steps.{NoneBelow-refl}

-- ---- the candidate
head_in : (ord : Order) (x : List ℕ) (heads : List (Option Term)) (w : ℕ) (t : Term) → AllAtOrBelow ord x (head_terms heads) → get_or heads w None ≡ Some t → AtOrAbove ord t.monomial x
unfolding AllAtOrBelow head_terms
head_in ord x [] w t a e = absurd (none_some t e)
  where
    none_some : (t : Term) → None ≡ Some t → ⊥
    none_some t e = true≢false (sym (ap (λ (o : Option Term). elim o as (λ _. Bool) [ None ↦ false | Some u ↦ true ]) e))
head_in ord x (None ∷ heads) zero t a e = absurd (true≢false (sym (ap (λ (o : Option Term). elim o as (λ _. Bool) [ None ↦ false | Some u ↦ true ]) e)))
head_in ord x (Some u ∷ heads) zero t a e = subst (λ (o : Option Term). elim o as (λ _. Type 0) [ None ↦ Unit {0} | Some u ↦ AtOrAbove ord u.monomial x ]) e a.0
head_in ord x (None ∷ heads) (suc w) t a e = head_in ord x heads w t a e
head_in ord x (Some u ∷ heads) (suc w) t a e = head_in ord x heads w t a.1 e

pub is_candidate : (s : MergeState) (p : ℕ) (t : Term) → AllServed s → IsTopSum s.product.ord p s.heads t → length t.monomial ≡ s.product.n → IsMergeCandidate s t.monomial
unfolding IsReady head_of_worker
is_candidate s p t served top l = record { vector = l; heads_below = top.top.greatest; ready = λ w h. pick w (served w h) }
  where
    pick : (w : ℕ) → IsServed s w → IsReady s t.monomial w
    pick w (inl a) = inl (a.0, a.1, head_in s.product.ord t.monomial s.heads w a.0 top.top.greatest a.1)
    pick w (inr b) = inr b

-- ---- fewer heads
without_less : (x : List ℕ) (L : List Term) → has x L ≡ true → length (without x L) < length L
unfolding without has
without_less x [] h = absurd (true≢false (sym h))
without_less x (t ∷ L) h = pick (alike t.monomial x) (without_less x L) h
  where
    pick : (b : Bool) → (has x L ≡ true → length (without x L) < length L) → (b || has x L) ≡ true → length (cond b (without x L) (t ∷ without x L)) < length (t ∷ L)
    pick true i h = let w = length_without x L in omega arith
    pick false i h = let w = i h in omega arith

emit_heads : (s : MergeState) (x : List ℕ) → (merge_emit s x).heads ≡ clear_at x s.heads
unfolding merge_emit
emit_heads s x = refl

emit_taken : (s : MergeState) (x : List ℕ) → (merge_emit s x).taken ≡ s.taken
unfolding merge_emit
emit_taken s x = refl

emit_product : (s : MergeState) (x : List ℕ) → (merge_emit s x).product ≡ s.product
unfolding merge_emit
emit_product s x = refl

emit_workers : (s : MergeState) (x : List ℕ) → (merge_emit s x).workers ≡ s.workers
unfolding merge_emit
emit_workers s x = refl

emit_out : (s : MergeState) (x : List ℕ) → (more : List Term) × ((merge_emit s x).out ≡ s.out ++ more)
unfolding merge_emit
emit_out s x = pick (is_zero (coef s.product.p (head_terms s.heads) x))
  where
    one : List Term
    one = record { monomial = x; coefficient = coef s.product.p (head_terms s.heads) x } ∷ []

    pick : (b : Bool) → (more : List Term) × (cond b s.out (s.out ++ one) ≡ s.out ++ more)
    pick true = ([], sym (append-nil s.out))
    pick false = (one, refl)

pub emits_fewer : (a b : MergeView) → Emits a b → length (head_terms b.state.heads) < length (head_terms a.state.heads)
emits_fewer a b e =
    subst (λ (n : ℕ). n < length (head_terms a.state.heads)) (sym (ap (λ (s : MergeState). length (head_terms s.heads)) e.state ∙ ap (λ (h : List (Option Term)). length (head_terms h)) (emit_heads a.state e.top) ∙ ap (λ (L : List Term). length L) (cleared e.top a.state.heads)))
    (without_less e.top (head_terms a.state.heads) e.there)

pub emits_taken : (a b : MergeView) → Emits a b → b.state.taken ≡ a.state.taken
emits_taken a b e = ap (λ (s : MergeState). s.taken) e.state ∙ emit_taken a.state e.top

pub emits_workers : (a b : MergeView) → Emits a b → b.state.workers ≡ a.state.workers
emits_workers a b e = ap (λ (s : MergeState). s.workers) e.state ∙ emit_workers a.state e.top

pub emits_product : (a b : MergeView) → Emits a b → b.state.product ≡ a.state.product
emits_product a b e = ap (λ (s : MergeState). s.product) e.state ∙ emit_product a.state e.top

pub emits_grows : (a b : MergeView) → Emits a b → Grows a b
emits_grows a b e =
    let out = emit_out a.state e.top in
    let more : b.state.out ≡ a.state.out ++ out.0 = ap (λ (s : MergeState). s.out) e.state ∙ out.1 in
    record {
      rings = e.rings;
      taken = λ w. ([], append-nil (taken_of a w) ∙ ap (λ (n : List (List Note)). notes_of n w) (sym (emits_taken a b e)));
      emitted = (out.0, more, let l = ap (λ (L : List Term). length L) more in let k = length-append a.state.out out.0 in let s = e.spare in omega arith);
      tails = subst (NoneBelow a.tails) (sym e.tails) (NoneBelow-refl a.tails);
      looks = subst (NoneBelow a.looks) (sym e.looks) (NoneBelow-refl a.looks);
    }

-- ---- the worker whose head was summed is wanting
cleared_one : (x : List ℕ) (heads : List (Option Term)) → has x (head_terms heads) ≡ true → (w : ℕ) × (w < length heads) × (get_or (clear_at x heads) w None ≡ None) × (get_or heads w None ≡ None → ⊥)
unfolding has head_terms clear_at
cleared_one x [] h = absurd (true≢false (sym h))
cleared_one x (None ∷ heads) h = let i = cleared_one x heads h in (suc i.0, (let l = i.1 in omega arith), i.2, i.3)
cleared_one x (Some t ∷ heads) h = pick (alike t.monomial x) (cleared_one x heads) h
  where
    Found : List (Option Term) → List (Option Term) → Type 0
    Found after before = (w : ℕ) × (w < length before) × (get_or after w None ≡ None) × (get_or before w None ≡ None → ⊥)

    pick : (b : Bool) → (has x (head_terms heads) ≡ true → Found (clear_at x heads) heads) → (b || has x (head_terms heads)) ≡ true → Found (cond b None (Some t) ∷ clear_at x heads) (Some t ∷ heads)
    pick true i h = (0, omega arith, refl, λ e. true≢false (ap (λ (o : Option Term). elim o as (λ _. Bool) [ None ↦ false | Some u ↦ true ]) e))
    pick false i h = let k = i h in (suc k.0, (let l = k.1 in omega arith), k.2, k.3)

pub emits_wanting : (lim : ℕ) (a b : MergeView) → IsSound lim a → Emits a b → (w : ℕ) × (w < a.state.workers) × IsWanting b.state w
unfolding head_of_worker
emits_wanting lim a b sound e =
    let one = cleared_one e.top a.state.heads e.there in
    let inside : one.0 < a.state.workers = let l = one.1 in let k = sound.whole.heads_count in omega arith in (
      one.0,
      inside,
      (
        ap (λ (s : MergeState). get_or s.heads one.0 None) e.state ∙ ap (λ (h : List (Option Term)). get_or h one.0 None) (emit_heads a.state e.top) ∙ one.2,
        subst (λ (n : List (List Note)). NoEnd (notes_of n one.0)) (sym (emits_taken a b e)) (pick one.0 one.3 (sound.each one.0 inside)),
      ),
    )
  where
    pick : (w : ℕ) → (get_or a.state.heads w None ≡ None → ⊥) → NoEnd (taken_of a w) ⊎ ((get_or a.state.heads w None ≡ None) × ((before : List Note) × (taken_of a w ≡ before ++ EndNote ∷ []))) → NoEnd (taken_of a w)
    pick w n (inl f) = f
    pick w n (inr f) = absurd (n f.0)
