-- The rows after one was read and moved on, and after a term was learned.
use Rattle.std.proofs.Common.{◌≡◌, ◌≢◌, ℕ, zero, suc, ◌+◌, ◌<◌, ◌≤◌, ◌⊎◌, inl, inr, Bool, true, false, eqb, true≢false, eqb-true, eq-eqb, List, [], ◌∷◌, ◌++◌, length, set, replicate, get_or, Some, None, refl, sym, ap, ◌∙◌, subst, arith, get_or-set_same, get_or-set_other}
use Rattle.std.proofs.lemmas.Bool.{cases_lt}
use Rattle.std.proofs.lemmas.List.{length-set, get_or_past, length-replicate, get_or-replicate, get_or_append_left, drop_all, length_push}
use Rattle.sdmp_laws.specs.Order.{Order, ◌⋅◌, Below, IsUnder}
use Rattle.sdmp_laws.specs.Poly.{Term, row, Over, Decreasing}
use Rattle.sdmp_laws.proofs.OrderLemmas.{order_facts}
use Rattle.chained_heap.specs.declared.node.Place.{Place}
use Rattle.chained_heap.specs.declared.node.Place.TheVariants.{Out, In, Taken}
use Rattle.chained_heap.specs.Shape.{place_at, is_taken}
use Rattle.row_merge.specs.Learned.{unread, no_term, product_at, ceiling, IsTakenAt, IsPlaced, AreRows, IsMoved, IsPopped}
use Rattle.row_merge.proofs.Products.{length_at, next_lower}
use Rattle.row_merge.proofs.Places.{ceiling_low}
use Rattle.sdmp_laws.proofs.DivisionLemmas.{below_left}

not_equal : (i k : ℕ) → eqb i k ≡ false → i ≢ k
not_equal i k e z = true≢false (sym (eq-eqb i k z) ∙ e)

-- the ceilings after row k read one more
ceiling_other : (L : List Term) (reads : List ℕ) (k i r : ℕ) → i ≢ suc k → ceiling L (set reads k r) i ≡ ceiling L reads i
ceiling_other L reads k zero r n = refl
ceiling_other L reads k (suc j) r n = get_or-set_other reads k j r 0 (λ e. n (ap suc e))

moved_other : {M : Type 0} (vector : M → List ℕ) (k i : ℕ) (m : List ℕ) (opens : Type 0) (old new : List (Place M)) → IsMoved vector k m opens old new → i ≢ k → place_at new i ≡ place_at old i
moved_other vector k i m opens old new (inl h) n = ap (λ ps. place_at ps i) h.1.2 ∙ get_or-set_other old k i (In h.1.0) Out n
moved_other vector k i m opens old new (inr h) n = ap (λ ps. place_at ps i) h.1

pub moved_count : {M : Type 0} (vector : M → List ℕ) (k : ℕ) (m : List ℕ) (opens : Type 0) (old new : List (Place M)) → IsMoved vector k m opens old new → length new ≡ length old
moved_count vector k m opens old new (inl h) = ap length h.1.2 ∙ length-set old k (In h.1.0)
moved_count vector k m opens old new (inr h) = ap length h.1

moved_place : {M : Type 0} (vector : M → List ℕ) (k : ℕ) (m : List ℕ) (opens : Type 0) (old new : List (Place M)) → IsMoved vector k m opens old new → k < length old → (opens × (a : M) × (vector a ≡ m) × (place_at new k ≡ In a)) ⊎ ((opens → ⊥) × (place_at new k ≡ place_at old k))
moved_place vector k m opens old new (inl h) l = inl (h.0, h.1.0, h.1.1, ap (λ ps. place_at ps k) h.1.2 ∙ get_or-set_same old k (In h.1.0) Out l)
moved_place vector k m opens old new (inr h) l = inr (h.0, ap (λ ps. place_at ps k) h.1)

module _ {M : Type 0} (vector : M → List ℕ) (ord : Order) (x : List ℕ) (L rows : List Term) where
  -- a row that stays
  placed_same : (k : ℕ) (p q : Place M) (r r' t t' : ℕ) → p ≡ q → r ≡ r' → t ≡ t' → IsPlaced vector ord (Some x) p r t (product_at rows L k r) → IsPlaced vector ord (Some x) q r' t' (product_at rows L k r')
  placed_same k p q r r' t t' e f g h =
      subst (λ (y : Place M). IsPlaced vector ord (Some x) y r' t' (product_at rows L k r')) e
      (subst (λ (y : ℕ). IsPlaced vector ord (Some x) p y t' (product_at rows L k y)) f
      (subst (λ (y : ℕ). IsPlaced vector ord (Some x) p r y (product_at rows L k r)) g h))

  pub taken_facts : (r t : ℕ) (m : List ℕ) → IsPlaced vector ord (Some x) Taken r t m → (r < t) × (m ≡ x)
  unfolding IsPlaced IsTakenAt IsUnder ◌⋅◌
  taken_facts r t m h = h

  -- a row put at a lower product
  placed_in : (a : M) (r t : ℕ) (m : List ℕ) → r < t → vector a ≡ m → Below ord m x → IsPlaced vector ord (Some x) (In a) r t m
  unfolding IsPlaced IsUnder
  placed_in a r t m l e b = (l, e, b)

  placed_out : (r t : ℕ) (m : List ℕ) → r ≡ t → IsPlaced vector ord (Some x) Out r t m
  unfolding IsPlaced
  placed_out r t m e = e

  -- a row that doesn't wait, under a higher ceiling
  placed_up : (p : Place M) (r t : ℕ) (m : List ℕ) → r ≢ t → IsPlaced vector ord (Some x) p r t m → IsPlaced vector ord (Some x) p r (t + 1) m
  unfolding IsPlaced
  placed_up Out r t m n h = absurd (n h)
  placed_up (In a) r t m n h = (omega (arith, h.0), h.1, h.2)
  placed_up Taken r t m n h = (omega (arith, h.0), h.1)

  -- row k has read one more, and it and the row behind it are moved on
  pub rows_step : (n : ℕ) (reads : List ℕ) (before places one two : List (Place M)) (k : ℕ) → Decreasing ord rows → Over n rows → Decreasing ord L → Over n L
      → IsPopped vector ord x L rows reads before places k
      → IsMoved vector k (product_at rows L k (get_or reads k 0 + 1)) (get_or reads k 0 + 1 < ceiling L reads k) places one
      → IsMoved vector (suc k) (product_at rows L (suc k) (get_or reads k 0)) ((suc k < length rows) × (get_or reads (suc k) 0 ≡ get_or reads k 0)) one two
      → AreRows vector ord (Some x) L rows (set reads k (get_or reads k 0 + 1)) two
  rows_step n reads before places one two k d w dl wl b mo mt = record {
    reads_count = length-set reads k (r + 1) ∙ a.reads_count;
    places_count = count;
    falling = λ i h. falls i h (eqb i k) refl (eqb i (suc k)) refl;
    placed = λ i h. at i h (eqb i k) refl (eqb i (suc k)) refl;
  }
    where
      a : AreRows vector ord (Some x) L rows reads before
      a = b.rows_are

      r : ℕ
      r = get_or reads k 0

      here : (r < ceiling L reads k) × (product_at rows L k r ≡ x)
      here = taken_facts r (ceiling L reads k) (product_at rows L k r) (subst (λ (p : Place M). IsPlaced vector ord (Some x) p r (ceiling L reads k) (product_at rows L k r)) b.taken (a.placed k b.among))

      top_low : ceiling L reads k ≤ length L
      top_low = ceiling_low vector ord (Some x) L rows reads before a k b.among

      out_count : length places ≡ length rows
      out_count = ap length b.out ∙ length-set before k Out ∙ a.places_count

      one_count : length one ≡ length rows
      one_count = moved_count vector k _ _ places one mo ∙ out_count

      count : length two ≡ length rows
      count = moved_count vector (suc k) _ _ one two mt ∙ one_count

      read_here : get_or (set reads k (r + 1)) k 0 ≡ r + 1
      read_here = get_or-set_same reads k (r + 1) 0 (omega (arith, a.reads_count, b.among))

      read_other : (i : ℕ) → i ≢ k → get_or (set reads k (r + 1)) i 0 ≡ get_or reads i 0
      read_other i e = get_or-set_other reads k i (r + 1) 0 e

      falls : (i : ℕ) → i < length rows → (u : Bool) → eqb i k ≡ u → (v : Bool) → eqb i (suc k) ≡ v → get_or (set reads k (r + 1)) i 0 ≤ ceiling L (set reads k (r + 1)) i
      falls i h true e v f =
          let z = eqb-true i k e in
          subst (λ (j : ℕ). get_or (set reads k (r + 1)) j 0 ≤ ceiling L (set reads k (r + 1)) j) (sym z)
          (let c : ceiling L (set reads k (r + 1)) k ≡ ceiling L reads k = ceiling_other L reads k k (r + 1) (omega arith) in omega (arith, read_here, c, here.0))
      falls i h false e true f =
          let z = eqb-true i (suc k) f in
          subst (λ (j : ℕ). get_or (set reads k (r + 1)) j 0 ≤ ceiling L (set reads k (r + 1)) j) (sym z)
          (let o = read_other (suc k) (omega arith) in let q = a.falling (suc k) (subst (λ (j : ℕ). j < length rows) z h) in omega (arith, o, read_here, q))
      falls i h false e false f = omega (arith, read_other i (not_equal i k e), ceiling_other L reads k i (r + 1) (not_equal i (suc k) f), a.falling i h)

      at_here : IsPlaced vector ord (Some x) (place_at two k) (get_or (set reads k (r + 1)) k 0) (ceiling L (set reads k (r + 1)) k) (product_at rows L k (get_or (set reads k (r + 1)) k 0))
      at_here =
          placed_same k (place_at one k) (place_at two k) (r + 1) (get_or (set reads k (r + 1)) k 0) (ceiling L reads k) (ceiling L (set reads k (r + 1)) k)
          (sym (moved_other vector (suc k) k _ _ one two mt (omega arith))) (sym read_here) (sym (ceiling_other L reads k k (r + 1) (omega arith)))
          (pick (moved_place vector k _ _ places one mo (omega (arith, out_count, b.among))))
        where
          lower : r + 1 < length L → Below ord (product_at rows L k (r + 1)) x
          lower l =
              subst (λ (y : List ℕ). Below ord (product_at rows L k (r + 1)) y) here.1
              (below_left ord (get_or L (r + 1) no_term).monomial (get_or L r no_term).monomial (get_or rows k no_term).monomial
              (length_at n L (r + 1) wl l ∙ sym (length_at n L r wl (omega arith)))
              (let s : r + 1 ≡ suc r = omega arith in subst (λ (j : ℕ). Below ord (get_or L j no_term).monomial (get_or L r no_term).monomial) (sym s) (next_lower ord L r dl (omega (arith, l)))))

          pick : ((r + 1 < ceiling L reads k) × (m : M) × (vector m ≡ product_at rows L k (r + 1)) × (place_at one k ≡ In m)) ⊎ ((r + 1 < ceiling L reads k → ⊥) × (place_at one k ≡ place_at places k)) → IsPlaced vector ord (Some x) (place_at one k) (r + 1) (ceiling L reads k) (product_at rows L k (r + 1))
          pick (inl h) = subst (λ (p : Place M). IsPlaced vector ord (Some x) p (r + 1) (ceiling L reads k) (product_at rows L k (r + 1))) (sym h.3) (placed_in h.1 (r + 1) (ceiling L reads k) (product_at rows L k (r + 1)) h.0 h.2 (lower (omega (arith, h.0, top_low))))
          pick (inr h) =
              subst (λ (p : Place M). IsPlaced vector ord (Some x) p (r + 1) (ceiling L reads k) (product_at rows L k (r + 1)))
              (sym (h.1 ∙ ap (λ ps. place_at ps k) b.out ∙ get_or-set_same before k Out Out (omega (arith, a.places_count, b.among))))
              (placed_out (r + 1) (ceiling L reads k) (product_at rows L k (r + 1)) (omega (arith, here.0, h.0)))

      at_next : suc k < length rows → IsPlaced vector ord (Some x) (place_at two (suc k)) (get_or (set reads k (r + 1)) (suc k) 0) (ceiling L (set reads k (r + 1)) (suc k)) (product_at rows L (suc k) (get_or (set reads k (r + 1)) (suc k) 0))
      at_next l =
          placed_same (suc k) (place_at two (suc k)) (place_at two (suc k)) s (get_or (set reads k (r + 1)) (suc k) 0) (r + 1) (ceiling L (set reads k (r + 1)) (suc k)) refl (sym (read_other (suc k) (omega arith))) (sym read_here)
          (pick (moved_place vector (suc k) _ _ one two mt (omega (arith, one_count, l))))
        where
          s : ℕ
          s = get_or reads (suc k) 0

          lower : Below ord (product_at rows L (suc k) r) x
          lower =
              subst (λ (y : List ℕ). Below ord (product_at rows L (suc k) r) y) here.1
              ((order_facts ord).compatible (get_or rows (suc k) no_term).monomial (get_or rows k no_term).monomial (get_or L r no_term).monomial
              (length_at n rows (suc k) w l ∙ sym (length_at n rows k w b.among)) (next_lower ord rows k d l))

          was : place_at one (suc k) ≡ place_at before (suc k)
          was = moved_other vector k (suc k) _ _ places one mo (omega arith) ∙ ap (λ ps. place_at ps (suc k)) b.out ∙ get_or-set_other before k (suc k) Out Out (omega arith)

          pick : (((suc k < length rows) × (s ≡ r)) × (m : M) × (vector m ≡ product_at rows L (suc k) r) × (place_at two (suc k) ≡ In m)) ⊎ (((suc k < length rows) × (s ≡ r) → ⊥) × (place_at two (suc k) ≡ place_at one (suc k))) → IsPlaced vector ord (Some x) (place_at two (suc k)) s (r + 1) (product_at rows L (suc k) s)
          pick (inl h) =
              subst (λ (p : Place M). IsPlaced vector ord (Some x) p s (r + 1) (product_at rows L (suc k) s)) (sym h.3)
              (subst (λ (j : ℕ). IsPlaced vector ord (Some x) (In h.1) j (r + 1) (product_at rows L (suc k) j)) (sym h.0.1) (placed_in h.1 r (r + 1) (product_at rows L (suc k) r) (omega arith) h.2 lower))
          pick (inr h) =
              subst (λ (p : Place M). IsPlaced vector ord (Some x) p s (r + 1) (product_at rows L (suc k) s)) (sym (h.1 ∙ was))
              (placed_up (place_at before (suc k)) s r (product_at rows L (suc k) s) (λ e. h.0 (l, e)) (a.placed (suc k) l))

      at : (i : ℕ) → i < length rows → (u : Bool) → eqb i k ≡ u → (v : Bool) → eqb i (suc k) ≡ v → IsPlaced vector ord (Some x) (place_at two i) (get_or (set reads k (r + 1)) i 0) (ceiling L (set reads k (r + 1)) i) (product_at rows L i (get_or (set reads k (r + 1)) i 0))
      at i h true e v f = subst (λ (j : ℕ). IsPlaced vector ord (Some x) (place_at two j) (get_or (set reads k (r + 1)) j 0) (ceiling L (set reads k (r + 1)) j) (product_at rows L j (get_or (set reads k (r + 1)) j 0))) (sym (eqb-true i k e)) at_here
      at i h false e true f = subst (λ (j : ℕ). IsPlaced vector ord (Some x) (place_at two j) (get_or (set reads k (r + 1)) j 0) (ceiling L (set reads k (r + 1)) j) (product_at rows L j (get_or (set reads k (r + 1)) j 0))) (sym (eqb-true i (suc k) f)) (at_next (subst (λ (j : ℕ). j < length rows) (eqb-true i (suc k) f) h))
      at i h false e false f =
          placed_same i (place_at before i) (place_at two i) (get_or reads i 0) (get_or (set reads k (r + 1)) i 0) (ceiling L reads i) (ceiling L (set reads k (r + 1)) i)
          (sym (moved_other vector (suc k) i _ _ one two mt (not_equal i (suc k) f) ∙ moved_other vector k i _ _ places one mo (not_equal i k e) ∙ ap (λ ps. place_at ps i) b.out ∙ get_or-set_other before k i Out Out (not_equal i k e)))
          (sym (read_other i (not_equal i k e))) (sym (ceiling_other L reads k i (r + 1) (not_equal i (suc k) f))) (a.placed i h)

-- ---- a term is learned
module _ {M : Type 0} (vector : M → List ℕ) (ord : Order) (L rows : List Term) (t : Term) where
  learned_at : (i : ℕ) → i < length L → get_or (L ++ t ∷ []) i no_term ≡ get_or L i no_term
  learned_at i h = get_or_append_left L (t ∷ []) no_term i h

  -- a row that doesn't wait for the new term
  learned_same : (k : ℕ) (p : Place M) (r top top' : ℕ) → r ≢ length L → top ≤ length L → (r ≢ top → r < top') → (r ≡ top → r ≡ top') → IsPlaced vector ord None p r top (product_at rows L k r) → IsPlaced vector ord None p r top' (product_at rows (L ++ t ∷ []) k r)
  unfolding IsPlaced IsTakenAt IsUnder ◌⋅◌
  learned_same k Out r top top' n l f g h = g h
  learned_same k (In a) r top top' n l f g h =
      (f (λ z. omega (arith, z, h.0)), h.1 ∙ ap (λ (u : Term). (get_or rows k no_term).monomial ⋅ u.monomial) (sym (learned_at r (omega (arith, h.0)))), h.2)
  learned_same k Taken r top top' n l f g h = absurd h.1

  stays : (k : ℕ) (p : Place M) (r top : ℕ) → top ≤ length L → IsPlaced vector ord None p r top (product_at rows L k r) → IsPlaced vector ord None p r top (product_at rows (L ++ t ∷ []) k r)
  unfolding IsPlaced IsTakenAt IsUnder ◌⋅◌
  stays k Out r top l h = h
  stays k (In a) r top l h = (h.0, h.1 ∙ ap (λ (u : Term). (get_or rows k no_term).monomial ⋅ u.monomial) (sym (learned_at r (omega (arith, h.0)))), h.2)
  stays k Taken r top l h = absurd h.1

  placed_first : (a : M) (r top : ℕ) (m : List ℕ) → r < top → vector a ≡ m → IsPlaced vector ord None (In a) r top m
  unfolding IsPlaced IsUnder
  placed_first a r top m l e = (l, e, tt)

  pub rows_learned : (reads : List ℕ) (places new : List (Place M)) → AreRows vector ord None L rows reads places
      → IsMoved vector 0 (product_at rows (L ++ t ∷ []) 0 (length L)) ((0 < length rows) × (get_or reads 0 0 ≡ length L)) places new
      → AreRows vector ord None (L ++ t ∷ []) rows reads new
  rows_learned reads places new a mo = record {
    reads_count = a.reads_count;
    places_count = moved_count vector 0 _ _ places new mo ∙ a.places_count;
    falling = falls;
    placed = at;
  }
    where
      longer : length (L ++ t ∷ []) ≡ length L + 1
      longer = length_push L t

      falls : (k : ℕ) → k < length rows → get_or reads k 0 ≤ ceiling (L ++ t ∷ []) reads k
      falls zero h = omega (arith, longer, a.falling zero h)
      falls (suc j) h = a.falling (suc j) h

      first : (h : 0 < length rows) → ((((0 < length rows) × (get_or reads 0 0 ≡ length L)) × (m : M) × (vector m ≡ product_at rows (L ++ t ∷ []) 0 (length L)) × (place_at new 0 ≡ In m)) ⊎ (((0 < length rows) × (get_or reads 0 0 ≡ length L) → ⊥) × (place_at new 0 ≡ place_at places 0))) → IsPlaced vector ord None (place_at new 0) (get_or reads 0 0) (length (L ++ t ∷ [])) (product_at rows (L ++ t ∷ []) 0 (get_or reads 0 0))
      first h (inl q) =
          subst (λ (p : Place M). IsPlaced vector ord None p (get_or reads 0 0) (length (L ++ t ∷ [])) (product_at rows (L ++ t ∷ []) 0 (get_or reads 0 0))) (sym q.3)
          (placed_first q.1 (get_or reads 0 0) (length (L ++ t ∷ [])) (product_at rows (L ++ t ∷ []) 0 (get_or reads 0 0)) (omega (arith, longer, q.0.1))
          (q.2 ∙ ap (λ (j : ℕ). product_at rows (L ++ t ∷ []) 0 j) (sym q.0.1)))
      first h (inr q) =
          let n : get_or reads 0 0 ≢ length L = λ e. q.0 (h, e) in
          subst (λ (p : Place M). IsPlaced vector ord None p (get_or reads 0 0) (length (L ++ t ∷ [])) (product_at rows (L ++ t ∷ []) 0 (get_or reads 0 0))) (sym q.1)
          (learned_same 0 (place_at places 0) (get_or reads 0 0) (length L) (length (L ++ t ∷ [])) n (omega arith) (λ m. omega (arith, longer, a.falling 0 h)) (λ e. absurd (n e)) (a.placed 0 h))

      later : (j : ℕ) → suc j < length rows → IsPlaced vector ord None (place_at new (suc j)) (get_or reads (suc j) 0) (get_or reads j 0) (product_at rows (L ++ t ∷ []) (suc j) (get_or reads (suc j) 0))
      later j h =
          subst (λ (p : Place M). IsPlaced vector ord None p (get_or reads (suc j) 0) (get_or reads j 0) (product_at rows (L ++ t ∷ []) (suc j) (get_or reads (suc j) 0)))
          (sym (moved_other vector 0 (suc j) _ _ places new mo (omega arith)))
          (stays (suc j) (place_at places (suc j)) (get_or reads (suc j) 0) (get_or reads j 0) (ceiling_low vector ord None L rows reads places a (suc j) h) (a.placed (suc j) h))

      at : (k : ℕ) → k < length rows → IsPlaced vector ord None (place_at new k) (get_or reads k 0) (ceiling (L ++ t ∷ []) reads k) (product_at rows (L ++ t ∷ []) k (get_or reads k 0))
      at zero h = first h (moved_place vector 0 _ _ places new mo (omega (arith, a.places_count, h)))
      at (suc j) h = later j h

-- before any term is learned
zero_at : (rows : List Term) (k : ℕ) → k < length rows → get_or {A = ℕ} (replicate (length rows) 0) k 0 ≡ 0
zero_at rows k h = get_or-replicate {A = ℕ} (length rows) k 0 0 h

pub rows_start : {M : Type 0} (vector : M → List ℕ) (ord : Order) (rows : List Term) → AreRows vector ord None [] rows (replicate (length rows) 0) (replicate (length rows) Out)
unfolding IsPlaced
rows_start {M} vector ord rows = record {
  reads_count = length-replicate (length rows) 0;
  places_count = length-replicate (length rows) Out;
  falling = λ k h. omega (arith, zero_at rows k h);
  placed = λ k h. subst (λ (p : Place M). IsPlaced vector ord None p (get_or (replicate (length rows) 0) k 0) (ceiling [] (replicate (length rows) 0) k) (product_at rows [] k (get_or (replicate (length rows) 0) k 0))) (sym (get_or-replicate (length rows) k Out Out h)) (out k h);
}
  where
    out : (k : ℕ) → k < length rows → get_or (replicate (length rows) 0) k 0 ≡ ceiling [] (replicate (length rows) 0) k
    out zero h = zero_at rows zero h
    out (suc j) h = zero_at rows (suc j) h ∙ sym (zero_at rows j (omega arith))

-- the first row begins, where there is a product: until then no column was seen
pub rows_begin : {M : Type 0} (vector : M → List ℕ) (ord : Order) (B A : List Term) (reads : List ℕ) (places new : List (Place M)) (opens : Type 0) → AreRows vector ord None [] A reads places
    → (opens → (0 < length A) × (0 < length B)) → ((0 < length A) × (0 < length B) → opens)
    → IsMoved vector 0 (product_at A B 0 0) opens places new → AreRows vector ord None B A reads new
unfolding IsPlaced IsTakenAt IsUnder
rows_begin {M} vector ord B A reads places new opens a f f' mo = record {
  reads_count = a.reads_count;
  places_count = moved_count vector 0 _ _ places new mo ∙ a.places_count;
  falling = falls;
  placed = at;
}
  where
    unread : (k : ℕ) → k < length A → get_or reads k 0 ≡ 0
    unread zero h = omega (arith, a.falling zero h)
    unread (suc j) h = let z = unread j (omega arith) in omega (arith, a.falling (suc j) h, z)

    falls : (k : ℕ) → k < length A → get_or reads k 0 ≤ ceiling B reads k
    falls zero h = omega (arith, unread zero h)
    falls (suc j) h = a.falling (suc j) h

    top : (k : ℕ) → k < length A → ceiling [] reads k ≡ 0
    top zero h = refl
    top (suc j) h = unread j (omega arith)

    out : (k : ℕ) → k < length A → (p : Place M) → IsPlaced vector ord None p (get_or reads k 0) (ceiling [] reads k) (product_at A [] k (get_or reads k 0)) → p ≡ Out
    out k h Out q = refl
    out k h (In b) q = absurd (let t = top k h in omega (arith, t, q.0))
    out k h Taken q = absurd q.1

    was_out : (k : ℕ) → k < length A → place_at places k ≡ Out
    was_out k h = out k h (place_at places k) (a.placed k h)

    first : (h : 0 < length A) → (opens × (m : M) × (vector m ≡ product_at A B 0 0) × (place_at new 0 ≡ In m)) ⊎ ((opens → ⊥) × (place_at new 0 ≡ place_at places 0)) → IsPlaced vector ord None (place_at new 0) (get_or reads 0 0) (length B) (product_at A B 0 (get_or reads 0 0))
    first h (inl q) =
        subst (λ (p : Place M). IsPlaced vector ord None p (get_or reads 0 0) (length B) (product_at A B 0 (get_or reads 0 0))) (sym q.3)
        (let z = unread 0 h in let b = (f q.0).1 in (omega (arith, z, b), q.2 ∙ ap (λ (j : ℕ). product_at A B 0 j) (sym z), tt))
    first h (inr q) =
        subst (λ (p : Place M). IsPlaced vector ord None p (get_or reads 0 0) (length B) (product_at A B 0 (get_or reads 0 0))) (sym (q.1 ∙ was_out 0 h))
        (let z = unread 0 h in let n : 0 < length B → ⊥ = λ b. q.0 (f' (h, b)) in omega (arith, z, n))

    at : (k : ℕ) → k < length A → IsPlaced vector ord None (place_at new k) (get_or reads k 0) (ceiling B reads k) (product_at A B k (get_or reads k 0))
    at zero h = first h (moved_place vector 0 _ _ places new mo (omega (arith, a.places_count, h)))
    at (suc j) h =
        subst (λ (p : Place M). IsPlaced vector ord None p (get_or reads (suc j) 0) (get_or reads j 0) (product_at A B (suc j) (get_or reads (suc j) 0)))
        (sym (moved_other vector 0 (suc j) _ _ places new mo (omega arith) ∙ was_out (suc j) h))
        (unread (suc j) h ∙ sym (unread j (omega arith)))

-- no row is in the heap before a column is seen
pub none_out : {M : Type 0} (vector : M → List ℕ) (ord : Order) (A : List Term) (reads : List ℕ) (places : List (Place M)) → AreRows vector ord None [] A reads places → 0 < length A → place_at places 0 ≡ Out
unfolding IsPlaced IsTakenAt
none_out {M} vector ord A reads places a h = pick (place_at places 0) (a.placed 0 h)
  where
    pick : (p : Place M) → IsPlaced vector ord None p (get_or reads 0 0) 0 (product_at A [] 0 (get_or reads 0 0)) → p ≡ Out
    pick Out q = refl
    pick (In b) q = absurd (omega (arith, q.0))
    pick Taken q = absurd q.1

-- no row is taken between calls
pub none_taken : {M : Type 0} (vector : M → List ℕ) (ord : Order) (B A : List Term) (reads : List ℕ) (places : List (Place M)) → AreRows vector ord None B A reads places → (r : ℕ) → is_taken (place_at places r) ≡ false
unfolding IsPlaced IsTakenAt
none_taken {M} vector ord B A reads places a r = by (cases_lt r (length A))
  where
    pick : (p : Place M) (i t : ℕ) (m : List ℕ) → IsPlaced vector ord None p i t m → is_taken p ≡ false
    pick Out i t m q = refl
    pick (In b) i t m q = refl
    pick Taken i t m q = absurd q.1

    by : (r < length A) ⊎ (length A ≤ r) → is_taken (place_at places r) ≡ false
    by (inl h) = pick (place_at places r) _ _ _ (a.placed r h)
    by (inr h) = ap is_taken (get_or_past places r Out (omega (arith, h, a.places_count)))

pub none_left : (reads : List ℕ) (rows : List Term) → unread rows reads [] ≡ []
unfolding unread row
none_left [] [] = refl
none_left [] (s ∷ rows) = refl
none_left (r ∷ reads) [] = refl
none_left (r ∷ reads) (s ∷ rows) = ap (λ (A : List Term). row s A ++ unread rows reads []) (drop_all r [] (omega arith)) ∙ none_left reads rows
