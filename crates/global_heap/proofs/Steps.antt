-- How a merge changes as it takes notes and emits terms.
use Rattle.std.proofs.Common.{◌≡◌, ◌⊎◌, inl, inr, ℕ, zero, suc, ◌+◌, ◌<◌, ◌≤◌, Bool, true, false, List, [], ◌∷◌, ◌++◌, length, get_or, set, Option, Some, None, is_some, not, true≢false, refl, sym, ap, ◌∙◌, subst, arith, length-set, length-append, append_assoc, append-nil, get_or-set_same, get_or-set_other}
use Rattle.std.proofs.lemmas.List.Sums.{sum_by-set}
use mathlib.Core.List.{IsPrefix}
use Rattle.sdmp_laws.specs.Poly.{Term}
use Rattle.sdmp_laws.proofs.OrderLemmas.{Three, is_less, is_equal, is_greater, numbers}
use Rattle.whole_laws.specs.Notes.{Note, TermNote, MarkNote, EndNote, NoEnd}
use Rattle.whole_laws.specs.Wholes.{MergeState, head_terms, notes_of, head_of_worker, merge_take}
use Rattle.whole_laws.proofs.StepLemmas.{each_worker}
use Rattle.term_ring.specs.Names.{NoneBelow, notes_count}
use Rattle.term_ring.proofs.Lists.{prefix_self, prefix_trans}
use Rattle.global_heap.specs.Merges.{MergeView, taken_of, IsWanting, IsServed, IsStarved, FoundEmpty, Grows, TakesNote, Looks, IsSound, IsStarving, Fills}

-- ---- lists of numbers
pub NoneBelow-refl : (a : List ℕ) → NoneBelow a a
NoneBelow-refl a = record { long = refl; each = λ k. omega arith }

pub NoneBelow-trans : (a b c : List ℕ) → NoneBelow a b → NoneBelow b c → NoneBelow a c
NoneBelow-trans a b c x y = record { long = y.long ∙ x.long; each = λ k. let p = x.each k in let q = y.each k in omega arith }

nothing_past : (b : List ℕ) (v : ℕ) → length b ≤ v → get_or b v 0 ≡ 0
nothing_past [] v l = refl
nothing_past (x ∷ b) zero l = absurd (omega arith)
nothing_past (x ∷ b) (suc v) l = nothing_past b v (omega arith)

set_here : (a : List ℕ) (w n : ℕ) → get_or a w 0 ≤ n → Three (w < length a) (w ≡ length a) (length a < w) → get_or a w 0 ≤ get_or (set a w n) w 0
set_here a w n h (is_less l) = let e = get_or-set_same a w n 0 l in omega arith
set_here a w n h (is_equal l) = let e = nothing_past a w (omega arith) in omega arith
set_here a w n h (is_greater l) = let e = nothing_past a w (omega arith) in omega arith

pub NoneBelow-set : (a : List ℕ) (w n : ℕ) → get_or a w 0 ≤ n → NoneBelow a (set a w n)
NoneBelow-set a w n h = record {
  long = length-set a w n;
  each = λ k. each_worker (λ v. get_or a v 0 ≤ get_or (set a w n) v 0) w k (set_here a w n h (numbers w (length a))) (λ other. let e = get_or-set_other a w k n 0 other in omega arith);
}

-- ---- prefixes
-- ---- growing
pub Grows-refl : (a : MergeView) → Grows a a
Grows-refl a = record {
  rings = refl;
  taken = λ w. prefix_self (taken_of a w);
  emitted = ([], sym (append-nil a.state.out), omega arith);
  tails = NoneBelow-refl a.tails;
  looks = NoneBelow-refl a.looks;
}

pub Grows-trans : (a b c : MergeView) → Grows a b → Grows b c → Grows a c
Grows-trans a b c x y = record {
  rings = y.rings ∙ x.rings;
  taken = λ w. prefix_trans (taken_of a w) (taken_of b w) (taken_of c w) (x.taken w) (y.taken w);
  emitted = (
    x.emitted.0 ++ y.emitted.0,
    y.emitted.1 ∙ ap (λ (l : List Term). l ++ y.emitted.0) x.emitted.1 ∙ append_assoc a.state.out x.emitted.0 y.emitted.0,
    let p = x.emitted.2 in let q = y.emitted.2 in let l = length-append x.emitted.0 y.emitted.0 in omega arith,
  );
  tails = NoneBelow-trans a.tails b.tails c.tails x.tails y.tails;
  looks = NoneBelow-trans a.looks b.looks c.looks x.looks y.looks;
}

-- ---- one note of the worker w
pub taken_here : (s : MergeState) (w : ℕ) (x : Note) → w < length s.taken → notes_of (set s.taken w (notes_of s.taken w ++ x ∷ [])) w ≡ notes_of s.taken w ++ x ∷ []
unfolding notes_of
taken_here s w x l = get_or-set_same s.taken w (get_or s.taken w [] ++ x ∷ []) [] l

pub taken_there : (s : MergeState) (w v : ℕ) (n : List Note) → (v ≡ w → ⊥) → notes_of (set s.taken w n) v ≡ notes_of s.taken v
unfolding notes_of
taken_there s w v n other = get_or-set_other s.taken w v n [] other

-- what taking a note changes
pub record Taking (s t : MergeState) (w : ℕ) (x : Note) : Type 0 where
  pub taken : t.taken ≡ set s.taken w (notes_of s.taken w ++ x ∷ [])
  pub out : t.out ≡ s.out
  pub product : t.product ≡ s.product
  pub workers : t.workers ≡ s.workers
  pub others : (v : ℕ) → (v ≡ w → ⊥) → head_of_worker t.heads v ≡ head_of_worker s.heads v
  pub heads : length (head_terms t.heads) ≤ length (head_terms s.heads) + 1

one_head_more : (heads : List (Option Term)) (w : ℕ) (t : Term) → length (head_terms (set heads w (Some t))) ≤ length (head_terms heads) + 1
unfolding head_terms
one_head_more [] w t = omega arith
one_head_more (None ∷ heads) zero t = omega arith
one_head_more (Some u ∷ heads) zero t = omega arith
one_head_more (None ∷ heads) (suc w) t = one_head_more heads w t
one_head_more (Some u ∷ heads) (suc w) t = let i = one_head_more heads w t in omega arith

pub taking : (s : MergeState) (w : ℕ) (x : Note) → Taking s (merge_take s w x) w x
unfolding merge_take head_of_worker
taking s w (TermNote t) = record { taken = refl; out = refl; product = refl; workers = refl; others = λ v other. get_or-set_other s.heads w v (Some t) None other; heads = one_head_more s.heads w t }
taking s w (MarkNote k top) = record { taken = refl; out = refl; product = refl; workers = refl; others = λ v other. refl; heads = omega arith }
taking s w EndNote = record { taken = refl; out = refl; product = refl; workers = refl; others = λ v other. refl; heads = omega arith }

pub count_one : (s t : MergeState) (w : ℕ) (x : Note) → w < length s.taken → Taking s t w x → notes_count t.taken ≡ notes_count s.taken + 1
unfolding notes_of
count_one s t w x l k =
    let c = sum_by-set (λ (n : List Note). length n) s.taken w (get_or s.taken w [] ++ x ∷ []) [] l in
    let n = length-append (get_or s.taken w []) (x ∷ []) in
    let e = ap notes_count k.taken in
    omega arith

taken_prefix : (s t : MergeState) (w v : ℕ) (x : Note) → w < length s.taken → Taking s t w x → IsPrefix (notes_of s.taken v) (notes_of t.taken v)
taken_prefix s t w v x l k =
    subst (λ (ns : List (List Note)). IsPrefix (notes_of s.taken v) (notes_of ns v)) (sym k.taken)
    (each_worker (λ u. IsPrefix (notes_of s.taken u) (notes_of (set s.taken w (notes_of s.taken w ++ x ∷ [])) u)) w v
    (x ∷ [], sym (taken_here s w x l)) (λ other. ([], append-nil (notes_of s.taken v) ∙ sym (taken_there s w v _ other))))

-- a served worker stays served, and another that is wanting stays so
stays_served : (s t : MergeState) (w v : ℕ) (x : Note) → Taking s t w x → IsServed t w → IsServed s v → IsServed t v
stays_served s t w v x k here h =
    each_worker (λ u. IsServed s u → IsServed t u) w v (λ _. here) (λ other old. pick other old) h
  where
    pick : (v ≡ w → ⊥) → IsServed s v → IsServed t v
    pick other (inl a) = inl (a.0, k.others v other ∙ a.1)
    pick other (inr a) = inr (a.0, ap (λ (ns : List (List Note)). notes_of ns v) k.taken ∙ taken_there s w v _ other ∙ a.1)

stays_wanting : (s t : MergeState) (w v : ℕ) (x : Note) → (v ≡ w → ⊥) → Taking s t w x → IsWanting s v → IsWanting t v
stays_wanting s t w v x other k h = (k.others v other ∙ h.0, subst NoEnd (sym (ap (λ (ns : List (List Note)). notes_of ns v) k.taken ∙ taken_there s w v _ other)) h.1)

stays_starved : (a b : MergeView) (w v : ℕ) (x : Note) → (v ≡ w → ⊥) → Looks a b w → Taking a.state b.state w x → IsStarved a v → IsStarved b v
stays_starved a b w v x other l k h =
    ap (λ (ts : List ℕ). get_or ts v 0) l.tails ∙ get_or-set_other a.tails w v l.tail 0 other ∙ h ∙ ap (λ (n : List Note). length n) (sym (ap (λ (ns : List (List Note)). notes_of ns v) k.taken ∙ taken_there a.state w v _ other))

-- ---- the loop that asks each wanting worker once
pub fill_begins : (a : MergeView) → Fills a a 0 None
fill_begins a = record { grows = Grows-refl a; out = refl; spare = refl; product = refl; workers = refl; counts = inl refl; heads = omega arith; answer = λ k l. absurd (omega arith) }

pub fill_served : (a b : MergeView) (i : ℕ) (o : Option ℕ) → Fills a b i o → IsServed b.state i → Fills a b (i + 1) o
fill_served a b i o f h = record { grows = f.grows; out = f.out; spare = f.spare; product = f.product; workers = f.workers; counts = f.counts; heads = f.heads; answer = pick o f.answer }
  where
    pick : (o : Option ℕ) → IsStarving a b i o → IsStarving a b (i + 1) o
    pick None g = λ k l. each_worker (λ v. v < i + 1 → IsServed b.state v) i k (λ _. h) (λ other m. g k (omega (arith, other, m))) l
    pick (Some s) g = (let l = g.0 in omega arith, g.1, g.2, g.3, g.4)

looked_grows : (a b : MergeView) (w : ℕ) → Looks a b w → b.state.out ≡ a.state.out → ((v : ℕ) → IsPrefix (taken_of a v) (taken_of b v)) → Grows a b
looked_grows a b w l out taken = record {
  rings = l.rings;
  taken = taken;
  emitted = ([], out ∙ sym (append-nil a.state.out), let s = l.spare in omega arith);
  tails = subst (NoneBelow a.tails) (sym l.tails) (NoneBelow-set a.tails w l.tail l.higher);
  looks = l.looks;
}

pub fill_takes : (lim : ℕ) (a b c : MergeView) (i : ℕ) (o : Option ℕ) → Fills a b i o → IsSound lim b → i < b.state.workers → Looks b c i → TakesNote b c i → Fills a c (i + 1) o
fill_takes lim a b c i o f sound l look took =
    let k : Taking b.state c.state i took.note = subst (λ (s : MergeState). Taking b.state s i took.note) (sym took.state) (taking b.state i took.note) in
    let here : i < length b.state.taken = let n = sound.whole.taken_count in omega arith in
    let one = count_one b.state c.state i took.note here k in
    record {
      grows = Grows-trans a b c f.grows (looked_grows b c i look k.out (λ v. taken_prefix b.state c.state i v took.note here k));
      out = k.out ∙ f.out;
      spare = look.spare ∙ f.spare;
      product = k.product ∙ f.product;
      workers = k.workers ∙ f.workers;
      counts = inr (rose f.counts one);
      heads = let h = k.heads in let g = f.heads in omega arith;
      answer = pick k o f.answer;
    }
  where
    rose : (b.state ≡ a.state) ⊎ (notes_count a.state.taken < notes_count b.state.taken) → notes_count c.state.taken ≡ notes_count b.state.taken + 1 → notes_count a.state.taken < notes_count c.state.taken
    rose (inl e) one = let n = ap (λ (s : MergeState). notes_count s.taken) e in omega arith
    rose (inr m) one = omega arith

    pick : Taking b.state c.state i took.note → (o : Option ℕ) → IsStarving a b i o → IsStarving a c (i + 1) o
    pick k None g = λ v m. each_worker (λ u. u < i + 1 → IsServed c.state u) i v (λ _. took.served) (λ other n. stays_served b.state c.state i v took.note k took.served (g v (omega (arith, other, n)))) m
    pick k (Some s) g =
        let apart : s ≡ i → ⊥ = λ e. let m = g.0 in omega arith in (
          (let m = g.0 in omega arith),
          stays_wanting b.state c.state i s took.note apart k g.1,
          (λ v m. stays_served b.state c.state i v took.note k took.served (g.2 v m)),
          stays_starved b c i s took.note apart look k g.3,
          (let n = look.looks.each s in let m = g.4 in omega arith),
        )

-- the first worker that was asked for nothing
abbrev pub first_starved : Option ℕ → ℕ → Option ℕ
first_starved None i = Some i
first_starved (Some s) i = Some s

pub fill_misses : (a b c : MergeView) (i : ℕ) (o : Option ℕ) → Fills a b i o → Looks b c i → c.state ≡ b.state → IsStarved c i → FoundEmpty b c i → IsWanting b.state i → Fills a c (i + 1) (first_starved o i)
fill_misses a b c i o f look same dry empty want =
    record {
      grows = Grows-trans a b c f.grows (looked_grows b c i look (ap (λ (s : MergeState). s.out) same) (λ v. subst (λ (s : MergeState). IsPrefix (taken_of b v) (notes_of s.taken v)) (sym same) (prefix_self (taken_of b v))));
      out = ap (λ (s : MergeState). s.out) same ∙ f.out;
      spare = look.spare ∙ f.spare;
      product = ap (λ (s : MergeState). s.product) same ∙ f.product;
      workers = ap (λ (s : MergeState). s.workers) same ∙ f.workers;
      counts = subst (λ (s : MergeState). (s ≡ a.state) ⊎ (notes_count a.state.taken < notes_count s.taken)) (sym same) f.counts;
      heads = subst (λ (s : MergeState). length (head_terms s.heads) + notes_count a.state.taken ≤ length (head_terms a.state.heads) + notes_count s.taken) (sym same) f.heads;
      answer = pick o f.answer;
    }
  where
    unmoved : (v : ℕ) → length (taken_of c v) ≡ length (taken_of b v)
    unmoved v = ap (λ (s : MergeState). length (notes_of s.taken v)) same

    pick : (o : Option ℕ) → IsStarving a b i o → IsStarving a c (i + 1) (first_starved o i)
    pick None g = (
      omega arith,
      subst (λ (s : MergeState). IsWanting s i) (sym same) want,
      (λ k m. subst (λ (s : MergeState). IsServed s k) (sym same) (g k m)),
      dry,
      (let m = f.grows.looks.each i in omega arith),
    )
    pick (Some s) g =
        let apart : s ≡ i → ⊥ = λ e. let m = g.0 in omega arith in (
          (let m = g.0 in omega arith),
          subst (λ (t : MergeState). IsWanting t s) (sym same) g.1,
          (λ k m. subst (λ (t : MergeState). IsServed t k) (sym same) (g.2 k m)),
          ap (λ (ts : List ℕ). get_or ts s 0) look.tails ∙ get_or-set_other b.tails i s look.tail 0 apart ∙ g.3 ∙ sym (unmoved s),
          (let n = look.looks.each s in let m = g.4 in omega arith),
        )

pub first_is : (o : Option ℕ) (b : Bool) (i : ℕ) → is_some o ≡ not b → b ≡ true → first_starved o i ≡ Some i
first_is None b i e t = refl
first_is (Some s) b i e t = absurd (true≢false (e ∙ ap not t))

pub first_stays : (o : Option ℕ) (b : Bool) (i : ℕ) → is_some o ≡ not b → b ≡ false → first_starved o i ≡ o
first_stays None b i e f = absurd (true≢false (sym (e ∙ ap not f)))
first_stays (Some s) b i e f = refl
