-- Where the rows are: below what is greatest, after the greatest are taken, after one is read and moved on, and after a term is learned.
use Rattle.std.proofs.Common.{◌≡◌, ℕ, zero, suc, ◌<◌, ◌≤◌, inl, inr, Bool, true, false, cond, ltb, true≢false, ltb-true, ltb-false, List, [], ◌∷◌, length, map, get_or, Option, Some, None, refl, sym, ap, ◌∙◌, subst, arith, All}
use Rattle.std.specs.declared.cmp.Ordering.{Ordering}
use Rattle.std.specs.Ordering.{is_eq, is_gt}
use Rattle.std.proofs.lemmas.List.{get_or_past, length-map}
use Rattle.std.proofs.lemmas.List.Elements.{All-head, All-tail}
use Rattle.std.proofs.lemmas.List.Sorted.{IsPermutation-sym, Contains-permutation}
use Rattle.sdmp_laws.specs.Order.{Order, ◌⋅◌, Below, compare, IsUnder}
use Rattle.sdmp_laws.specs.Poly.{Term, term_times, Over, AllBelow, Decreasing}
use Rattle.sdmp_laws.specs.Division.{AtOrAbove, AllAtOrBelow}
use Rattle.sdmp_laws.proofs.OrderLemmas.{Three, is_less, is_equal, is_greater, below_total, order_facts, length_times}
use Rattle.sdmp_laws.proofs.CompareLemmas.{compare_less, compare_greater, compare_same}
use Rattle.sdmp_laws.proofs.NextTerm.{below_then_at}
use Rattle.std.proofs.Math.ListN.{get_or-map}
use Rattle.chained_heap.specs.declared.node.Place.{Place}
use Rattle.chained_heap.specs.declared.node.Place.TheVariants.{Out, In, Taken}
use Rattle.chained_heap.specs.Shape.{place_at, is_at, is_taken, taken_at, IsTop, IsEmpty}
use Rattle.row_merge.specs.Learned.{unread, no_term, product_at, ceiling, IsTakenAt, IsPlaced, AreRows, IsGreatest}
use Rattle.row_merge.proofs.Products.{Falls, read_one, length_at, next_lower, all_left}

place_cases : {M : Type 0} (A : Type 0) (p : Place M) → (p ≡ Out → A) → ((a : M) → p ≡ In a → A) → (p ≡ Taken → A) → A
place_cases A Out o i t = o refl
place_cases A (In a) o i t = i a refl
place_cases A Taken o i t = t refl

in_not_out : {M : Type 0} (a : M) → Out ≡ In a → ⊥
in_not_out a e = cc

-- a row that isn't out is one of the rows
in_range : {M : Type 0} (places : List (Place M)) (k : ℕ) (a : M) → place_at places k ≡ In a → k < length places
in_range places k a e = pick (ltb k (length places)) refl
  where
    pick : (b : Bool) → ltb k (length places) ≡ b → k < length places
    pick true f = ltb-true k (length places) f
    pick false f = absurd (in_not_out a (sym (get_or_past places k Out (ltb-false k (length places) f)) ∙ e))

placed_under : {M : Type 0} (vector : M → List ℕ) (ord : Order) (x : List ℕ) (a : M) (read top : ℕ) (m : List ℕ) → IsPlaced vector ord (Some x) (In a) read top m → Below ord (vector a) x
unfolding IsPlaced IsUnder
placed_under vector ord x a read top m q = subst (λ (v : List ℕ). Below ord v x) (sym q.1) q.2

module _ {M : Type 0} (vector : M → List ℕ) (ord : Order) (x : Option (List ℕ)) (L rows : List Term) (reads : List ℕ) (places : List (Place M)) where
  pub ceiling_low : AreRows vector ord x L rows reads places → (k : ℕ) → k < length rows → ceiling L reads k ≤ length L
  ceiling_low a zero h = omega arith
  ceiling_low a (suc k) h =
      let i = ceiling_low a k (omega arith) in
      let f = a.falling k (omega arith) in
      omega (arith, i, f)

  pub read_low : AreRows vector ord x L rows reads places → (k : ℕ) → k < length rows → get_or reads k 0 ≤ length L
  read_low a k h = omega (arith, a.falling k h, ceiling_low a k h)

  -- what holds of the rows in the heap and of the taken ones holds of the first product of each row
  placed_low : (n : ℕ) (Q : List ℕ → Type 0) → Falls ord n Q → AreRows vector ord x L rows reads places → Decreasing ord rows → Over n rows → Over n L
      → ((k : ℕ) (a : M) → k < length rows → place_at places k ≡ In a → IsUnder ord x (vector a) → Q (vector a)) → ((m : List ℕ) → IsTakenAt x m → Q m)
      → (k : ℕ) → k < length rows → get_or reads k 0 < length L → Q (product_at rows L k (get_or reads k 0))
  unfolding IsPlaced
  placed_low n Q f a d o w inq tq zero h l = pick (place_at places zero) refl (a.placed zero h)
    where
      pick : (p : Place M) → place_at places zero ≡ p → IsPlaced vector ord x p (get_or reads zero 0) (length L) (product_at rows L zero (get_or reads zero 0)) → Q (product_at rows L zero (get_or reads zero 0))
      pick Out e q = absurd (omega (arith, q, l))
      pick (In b) e q = subst Q q.1 (inq zero b h e (subst (λ (m : List ℕ). IsUnder ord x m) (sym q.1) q.2))
      pick Taken e q = tq _ q.1
  placed_low n Q f a d o w inq tq (suc j) h l = pick (λ m. placed_low n Q f a d o w inq tq j (omega arith) m) (place_at places (suc j)) refl (a.placed (suc j) h)
    where
      s : Term
      s = get_or rows (suc j) no_term

      t : Term
      t = get_or L (get_or reads (suc j) 0) no_term

      lengths : (i : ℕ) → i < length rows → length ((get_or rows i no_term).monomial ⋅ t.monomial) ≡ n
      lengths i z = length_times (get_or rows i no_term).monomial t.monomial (length_at n rows i o z ∙ sym (length_at n L (get_or reads (suc j) 0) w l)) ∙ length_at n rows i o z

      pick : (get_or reads j 0 < length L → Q (product_at rows L j (get_or reads j 0))) → (p : Place M) → place_at places (suc j) ≡ p → IsPlaced vector ord x p (get_or reads (suc j) 0) (get_or reads j 0) (product_at rows L (suc j) (get_or reads (suc j) 0)) → Q (product_at rows L (suc j) (get_or reads (suc j) 0))
      pick ih Out e q =
          f (s.monomial ⋅ t.monomial) ((get_or rows j no_term).monomial ⋅ t.monomial) (lengths (suc j) h) (lengths j (omega arith))
          ((order_facts ord).compatible s.monomial (get_or rows j no_term).monomial t.monomial (length_at n rows (suc j) o h ∙ sym (length_at n rows j o (omega arith))) (next_lower ord rows j d h))
          (subst (λ (r : ℕ). Q ((get_or rows j no_term).monomial ⋅ (get_or L r no_term).monomial)) (sym q) (ih (omega (arith, q, l))))
      pick ih (In b) e q = subst Q q.1 (inq (suc j) b h e (subst (λ (m : List ℕ). IsUnder ord x m) (sym q.1) q.2))
      pick ih Taken e q = tq _ q.1

  pub all_low : (n : ℕ) (Q : List ℕ → Type 0) → Falls ord n Q → AreRows vector ord x L rows reads places → Decreasing ord rows → Over n rows → Decreasing ord L → Over n L
      → ((k : ℕ) (a : M) → k < length rows → place_at places k ≡ In a → IsUnder ord x (vector a) → Q (vector a)) → ((m : List ℕ) → IsTakenAt x m → Q m)
      → All (λ (u : Term). Q u.monomial) (unread rows reads L)
  all_low n Q f a d o dl w inq tq = all_left ord n Q L reads rows f dl w o a.reads_count (placed_low n Q f a d o w inq tq)

-- ---- the greatest of the heap
-- what the proofs know of the type of monomials
pub record AreOrdered {M : Type 0} (vector : M → List ℕ) (ord : Order) (n : ℕ) (cmp : M → M → Ordering) : Type 0 where
  pub vars : (m : M) → length (vector m) ≡ n
  pub ordered : (a b : M) → cmp a b ≡ compare ord (vector a) (vector b)

gt_of : (r s : Ordering) → r ≡ s → is_gt r ≡ true → is_gt s ≡ false → ⊥
gt_of r s e t f = true≢false (sym t ∙ ap is_gt e ∙ f)

pub all_at_or_below : (ord : Order) (x : List ℕ) (A : List Term) → All (λ (u : Term). AtOrAbove ord u.monomial x) A → AllAtOrBelow ord x A
unfolding AllAtOrBelow
all_at_or_below ord x [] h = tt
all_at_or_below ord x (u ∷ A) h = (All-head (λ (v : Term). AtOrAbove ord v.monomial x) u A h, all_at_or_below ord x A (All-tail (λ (v : Term). AtOrAbove ord v.monomial x) u A h))

pub all_below : (ord : Order) (x : List ℕ) (A : List Term) → All (λ (u : Term). Below ord u.monomial x) A → AllBelow ord x A
unfolding AllBelow
all_below ord x [] h = tt
all_below ord x (u ∷ A) h = (All-head (λ (v : Term). Below ord v.monomial x) u A h, all_below ord x A (All-tail (λ (v : Term). Below ord v.monomial x) u A h))

none_in : (A : List Term) → All (λ (u : Term). ⊥) A → A ≡ []
none_in [] h = refl
none_in (u ∷ A) h = absurd (All-head (λ (v : Term). ⊥) u A h)

module _ {M : Type 0} (vector : M → List ℕ) (ord : Order) (n : ℕ) (cmp : M → M → Ordering) where
  at_or_below : AreOrdered vector ord n cmp → (a x : M) → is_gt (cmp a x) ≡ false → AtOrAbove ord (vector a) (vector x)
  at_or_below o a x g = pick (below_total ord (vector a) (vector x) (o.vars a ∙ sym (o.vars x)))
    where
      pick : Three (Below ord (vector a) (vector x)) (vector a ≡ vector x) (Below ord (vector x) (vector a)) → AtOrAbove ord (vector a) (vector x)
      pick (is_less b) = inr b
      pick (is_equal e) = inl e
      pick (is_greater b) = absurd (gt_of _ _ (sym (o.ordered a x ∙ compare_greater ord (vector a) (vector x) b)) refl g)

  same_if_equal : AreOrdered vector ord n cmp → (a x : M) → is_eq (cmp a x) ≡ true → vector a ≡ vector x
  same_if_equal o a x g = pick (below_total ord (vector a) (vector x) (o.vars a ∙ sym (o.vars x)))
    where
      pick : Three (Below ord (vector a) (vector x)) (vector a ≡ vector x) (Below ord (vector x) (vector a)) → vector a ≡ vector x
      pick (is_less b) = absurd (true≢false (sym g ∙ ap is_eq (o.ordered a x ∙ compare_less ord (vector a) (vector x) b)))
      pick (is_equal e) = e
      pick (is_greater b) = absurd (true≢false (sym g ∙ ap is_eq (o.ordered a x ∙ compare_greater ord (vector a) (vector x) b)))

  below_if_not_equal : AreOrdered vector ord n cmp → (a x : M) → is_eq (cmp a x) ≡ false → is_gt (cmp a x) ≡ false → Below ord (vector a) (vector x)
  below_if_not_equal o a x e g = pick (at_or_below o a x g)
    where
      pick : AtOrAbove ord (vector a) (vector x) → Below ord (vector a) (vector x)
      pick (inr b) = b
      pick (inl s) = absurd (true≢false (sym (ap is_eq (o.ordered a x ∙ ap (λ (v : List ℕ). compare ord v (vector x)) s ∙ compare_same ord (vector x))) ∙ e))

  -- the heap's greatest monomial is that of all products that are left
  pub top_is_greatest : AreOrdered vector ord n cmp → (L rows : List Term) (reads : List ℕ) (places : List (Place M)) (x : M) → AreRows vector ord None L rows reads places → Decreasing ord rows → Over n rows → Decreasing ord L → Over n L → IsTop cmp places x → IsGreatest ord (unread rows reads L) (vector x)
  unfolding IsPlaced IsTakenAt term_times
  top_is_greatest o L rows reads places x a d w dl wl t = pick (place_at places t.row) refl
    where
      k : ℕ
      k = t.row

      low : AllAtOrBelow ord (vector x) (unread rows reads L)
      low = all_at_or_below ord (vector x) (unread rows reads L)
          (all_low vector ord None L rows reads places n (λ (y : List ℕ). AtOrAbove ord y (vector x)) (λ u v lu lv b h. inr (below_then_at ord u v (vector x) b h)) a d w dl wl
          (λ i m h e u. at_or_below o m x (t.above i m e)) (λ m h. absurd h))

      at : (m : M) → place_at places k ≡ In m → IsPlaced vector ord None (In m) (get_or reads k 0) (ceiling L reads k) (product_at rows L k (get_or reads k 0)) → k < length rows → is_eq (cmp m x) ≡ true → IsGreatest ord (unread rows reads L) (vector x)
      at m e q h g =
          let l : get_or reads k 0 < length L = omega (arith, q.0, ceiling_low vector ord None L rows reads places a k h) in
          let u = term_times (get_or rows k no_term) (get_or L (get_or reads k 0) no_term) in
          record {
            some = u;
            inside = Contains-permutation _ _ u (IsPermutation-sym _ _ (read_one L reads rows k a.reads_count h l)) (zero, omega arith, refl);
            at = sym q.1 ∙ same_if_equal o m x g;
            below = low;
          }

      pick : (p : Place M) → place_at places k ≡ p → IsGreatest ord (unread rows reads L) (vector x)
      pick Out e = absurd (true≢false (sym (sym (ap (is_at cmp x) e) ∙ t.here)))
      pick Taken e = absurd (true≢false (sym (sym (ap (is_at cmp x) e) ∙ t.here)))
      pick (In m) e =
          let h : k < length rows = omega (arith, in_range places k m e, a.places_count) in
          at m e (subst (λ (p : Place M). IsPlaced vector ord None p (get_or reads k 0) (ceiling L reads k) (product_at rows L k (get_or reads k 0))) e (a.placed k h)) h (sym (ap (is_at cmp x) e) ∙ t.here)

  -- an empty heap has no product left
  pub empty_has_none : (L rows : List Term) (reads : List ℕ) (places : List (Place M)) → AreRows vector ord None L rows reads places → Decreasing ord rows → Over n rows → Decreasing ord L → Over n L → IsEmpty places → unread rows reads L ≡ []
  unfolding IsTakenAt
  empty_has_none L rows reads places a d w dl wl t =
      none_in (unread rows reads L) (all_low vector ord None L rows reads places n (λ y. ⊥) (λ u v lu lv b h. h) a d w dl wl (λ i m h e u. t i m e) (λ m h. h))

  -- the rows at the greatest monomial are taken
  pub taken_rows : AreOrdered vector ord n cmp → (L rows : List Term) (reads : List ℕ) (places : List (Place M)) (x : M) → AreRows vector ord None L rows reads places → IsTop cmp places x → AreRows vector ord (Some (vector x)) L rows reads (map (taken_at cmp x) places)
  unfolding IsPlaced IsTakenAt IsUnder
  taken_rows o L rows reads places x a t = record {
    reads_count = a.reads_count;
    places_count = length-map places (taken_at cmp x) ∙ a.places_count;
    falling = a.falling;
    placed = λ k h. subst (λ (p : Place M). IsPlaced vector ord (Some (vector x)) p (get_or reads k 0) (ceiling L reads k) (product_at rows L k (get_or reads k 0))) (sym (get_or-map (taken_at cmp x) places k Out)) (pick k (place_at places k) refl (a.placed k h));
  }
    where
      at : (k : ℕ) (m : M) → place_at places k ≡ In m → (b : Bool) → is_eq (cmp m x) ≡ b → IsPlaced vector ord None (In m) (get_or reads k 0) (ceiling L reads k) (product_at rows L k (get_or reads k 0)) → IsPlaced vector ord (Some (vector x)) (cond b Taken (In m)) (get_or reads k 0) (ceiling L reads k) (product_at rows L k (get_or reads k 0))
      at k m e true g q = (q.0, sym q.1 ∙ same_if_equal o m x g)
      at k m e false g q = (q.0, q.1, subst (λ (v : List ℕ). Below ord v (vector x)) q.1 (below_if_not_equal o m x g (t.above k m e)))

      pick : (k : ℕ) (p : Place M) → place_at places k ≡ p → IsPlaced vector ord None p (get_or reads k 0) (ceiling L reads k) (product_at rows L k (get_or reads k 0)) → IsPlaced vector ord (Some (vector x)) (taken_at cmp x p) (get_or reads k 0) (ceiling L reads k) (product_at rows L k (get_or reads k 0))
      pick k Out e q = q
      pick k Taken e q = absurd q.1
      pick k (In m) e q = at k m e (is_eq (cmp m x)) refl q

-- ---- when no row is taken any more
module _ {M : Type 0} (vector : M → List ℕ) (ord : Order) (x : List ℕ) (L rows : List Term) (reads : List ℕ) (places : List (Place M)) where
  pub untaken_rows : AreRows vector ord (Some x) L rows reads places → ((r : ℕ) → is_taken (place_at places r) ≡ false) → AreRows vector ord None L rows reads places
  unfolding IsPlaced IsTakenAt IsUnder
  untaken_rows a none = record {
    reads_count = a.reads_count;
    places_count = a.places_count;
    falling = a.falling;
    placed = λ k h. pick k (place_at places k) refl (a.placed k h);
  }
    where
      pick : (k : ℕ) (p : Place M) → place_at places k ≡ p → IsPlaced vector ord (Some x) p (get_or reads k 0) (ceiling L reads k) (product_at rows L k (get_or reads k 0)) → IsPlaced vector ord None p (get_or reads k 0) (ceiling L reads k) (product_at rows L k (get_or reads k 0))
      pick k Out e q = q
      pick k (In m) e q = (q.0, q.1, tt)
      pick k Taken e q = absurd (true≢false (sym (ap is_taken e) ∙ none k))

  pub left_below : (n : ℕ) → length x ≡ n → AreRows vector ord (Some x) L rows reads places → ((r : ℕ) → is_taken (place_at places r) ≡ false) → Decreasing ord rows → Over n rows → Decreasing ord L → Over n L → All (λ (u : Term). Below ord u.monomial x) (unread rows reads L)
  unfolding IsTakenAt IsUnder
  left_below n lx a none d w dl wl =
      all_low vector ord None L rows reads places n (λ (y : List ℕ). Below ord y x) (λ u v lu lv b h. (order_facts ord).transitive u v x b h) (untaken_rows a none) d w dl wl
      (λ i m h e u. under i m h e) (λ m h. absurd h)
    where
      under : (i : ℕ) (m : M) → i < length rows → place_at places i ≡ In m → Below ord (vector m) x
      under i m h e = pick (subst (λ (p : Place M). IsPlaced vector ord (Some x) p (get_or reads i 0) (ceiling L reads i) (product_at rows L i (get_or reads i 0))) e (a.placed i h))
        where
          pick : IsPlaced vector ord (Some x) (In m) (get_or reads i 0) (ceiling L reads i) (product_at rows L i (get_or reads i 0)) → Below ord (vector m) x
          pick q = placed_under vector ord x m _ _ _ q
