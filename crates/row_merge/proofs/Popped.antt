-- What is known of a row that was just put out, and of a row that learns.
use Rattle.std.proofs.Common.{◌≡◌, ℕ, suc, ◌+◌, ◌<◌, ◌≤◌, inl, inr, List, ◌∷◌, length, set, get_or, Option, Some, refl, sym, ap, ◌∙◌, subst, arith, get_or-set_same, get_or-set_other}
use Rattle.std.proofs.lemmas.List.{length-set}
use Rattle.sdmp_laws.specs.Order.{Order}
use Rattle.sdmp_laws.specs.Poly.{Term, Over, Decreasing}
use Rattle.chained_heap.specs.declared.node.Place.{Place}
use Rattle.chained_heap.specs.declared.node.Place.TheVariants.{Out, In, Taken}
use Rattle.chained_heap.specs.Shape.{place_at}
use Rattle.row_merge.specs.Learned.{product_at, ceiling, IsPlaced, AreRows, IsMoved, IsPopped, HasPopped}
use Rattle.row_merge.proofs.Places.{ceiling_low}
use Rattle.row_merge.proofs.RowSteps.{rows_step, taken_facts}

-- what a row is whose read is at its ceiling
pub waits_out : {M : Type 0} (vector : M → List ℕ) (ord : Order) (x : Option (List ℕ)) (p : Place M) (r top : ℕ) (m : List ℕ) → r ≡ top → IsPlaced vector ord x p r top m → p ≡ Out
unfolding IsPlaced
waits_out vector ord x Out r top m e h = refl
waits_out vector ord x (In a) r top m e h = absurd (omega (arith, e, h.0))
waits_out vector ord x Taken r top m e h = absurd (omega (arith, e, h.0))

pub moved_same : {M : Type 0} (vector : M → List ℕ) (k : ℕ) (m : List ℕ) (A B : Type 0) (old new : List (Place M)) → (A → B) → (B → A) → IsMoved vector k m A old new → IsMoved vector k m B old new
moved_same vector k m A B old new f g (inl h) = inl (f h.0, h.1)
moved_same vector k m A B old new f g (inr h) = inr ((λ b. h.0 (g b)), h.1)

module _ {M : Type 0} (vector : M → List ℕ) (ord : Order) (L rows : List Term) (reads : List ℕ) (places : List (Place M)) (k : ℕ) where
  pub popped_read : HasPopped vector ord L rows reads places k → get_or reads k 0 < ceiling L reads k
  popped_read h =
      let p = h.popped in
      (taken_facts vector ord h.x L rows (get_or reads k 0) (ceiling L reads k) (product_at rows L k (get_or reads k 0))
      (subst (λ (q : Place M). IsPlaced vector ord (Some h.x) q (get_or reads k 0) (ceiling L reads k) (product_at rows L k (get_or reads k 0))) p.taken (p.rows_are.placed k p.among))).0

  pub popped_top : HasPopped vector ord L rows reads places k → ceiling L reads k ≤ length L
  popped_top h = ceiling_low vector ord (Some h.x) L rows reads h.before h.popped.rows_are k h.popped.among

  pub popped_reads : HasPopped vector ord L rows reads places k → length reads ≡ length rows
  popped_reads h = h.popped.rows_are.reads_count

  pub popped_places : HasPopped vector ord L rows reads places k → length places ≡ length rows
  popped_places h = ap length h.popped.out ∙ length-set h.before k Out ∙ h.popped.rows_are.places_count

  pub popped_out : HasPopped vector ord L rows reads places k → place_at places k ≡ Out
  popped_out h = ap (λ ps. place_at ps k) h.popped.out ∙ get_or-set_same h.before k Out Out (omega (arith, h.popped.among, h.popped.rows_are.places_count))

  pub behind_out : HasPopped vector ord L rows reads places k → suc k < length rows → get_or reads (suc k) 0 ≡ get_or reads k 0 → place_at places (suc k) ≡ Out
  behind_out h l e =
      ap (λ ps. place_at ps (suc k)) h.popped.out ∙ get_or-set_other h.before k (suc k) Out Out (omega arith)
      ∙ waits_out vector ord (Some h.x) (place_at h.before (suc k)) (get_or reads (suc k) 0) (get_or reads k 0) (product_at rows L (suc k) (get_or reads (suc k) 0)) e (h.popped.rows_are.placed (suc k) l)

  -- the row behind, after the row itself was moved on
  pub behind_still_out : (one : List (Place M)) (m : List ℕ) (A : Type 0) → HasPopped vector ord L rows reads places k → IsMoved vector k m A places one → suc k < length rows → get_or reads (suc k) 0 ≡ get_or reads k 0 → (suc k < length one) × (place_at one (suc k) ≡ Out)
  behind_still_out one m A h (inl mo) l e = (omega (arith, ap length mo.1.2, length-set places k (In mo.1.0), popped_places h), ap (λ ps. place_at ps (suc k)) mo.1.2 ∙ get_or-set_other places k (suc k) (In mo.1.0) Out (omega arith) ∙ behind_out h l e)
  behind_still_out one m A h (inr mo) l e = (omega (arith, ap length mo.1, popped_places h), ap (λ ps. place_at ps (suc k)) mo.1 ∙ behind_out h l e)

module _ {M : Type 0} (vector : M → List ℕ) (ord : Order) (n : ℕ) (L rows : List Term) (reads : List ℕ) (places one two : List (Place M)) (k known top : ℕ) (opens behind : Type 0) where
  -- the row and the row behind it, moved on by tests that decide whether they still wait
  pub moved_on : Decreasing ord rows → Over n rows → Decreasing ord L → Over n L → HasPopped vector ord L rows reads places k → known ≡ length L → top ≡ get_or (known ∷ reads) k 0
      → (opens → get_or reads k 0 + 1 < top) → (get_or reads k 0 + 1 < top → opens)
      → (behind → (k + 1 < length reads) × (get_or reads (k + 1) 0 ≡ get_or reads k 0)) → ((k + 1 < length reads) × (get_or reads (k + 1) 0 ≡ get_or reads k 0) → behind)
      → IsMoved vector k (product_at rows L k (get_or reads k 0 + 1)) opens places one
      → IsMoved vector (k + 1) (product_at rows L (k + 1) (get_or reads k 0)) behind one two
      → (x : List ℕ) (before : List (Place M)) → IsPopped vector ord x L rows reads before places k
      → AreRows vector ord (Some x) L rows (set reads k (get_or reads k 0 + 1)) two
  moved_on d w dl wl h kn t f f' b b' mo mt x before p =
      rows_step vector ord x L rows n reads before places one two k d w dl wl p
      (moved_same vector k (product_at rows L k (get_or reads k 0 + 1)) opens (get_or reads k 0 + 1 < ceiling L reads k) places one
      (λ o. omega (arith, f o, same)) (λ l. f' (omega (arith, l, same))) mo)
      (moved_same vector (suc k) (product_at rows L (suc k) (get_or reads k 0)) behind ((suc k < length rows) × (get_or reads (suc k) 0 ≡ get_or reads k 0)) one two
      (λ o. let q = b o in (omega (arith, q.0, count), at_suc q.1))
      (λ q. b' (omega (arith, q.0, count), at_plus q.1))
      (subst (λ (j : ℕ). IsMoved vector j (product_at rows L j (get_or reads k 0)) behind one two) plus mt))
    where
      plus : k + 1 ≡ suc k
      plus = omega arith

      count : length reads ≡ length rows
      count = popped_reads vector ord L rows reads places k h

      same : top ≡ ceiling L reads k
      same = t ∙ ap (λ (j : ℕ). get_or (j ∷ reads) k 0) kn

      at_suc : get_or reads (k + 1) 0 ≡ get_or reads k 0 → get_or reads (suc k) 0 ≡ get_or reads k 0
      at_suc e = ap (λ (j : ℕ). get_or reads j 0) (sym plus) ∙ e

      at_plus : get_or reads (suc k) 0 ≡ get_or reads k 0 → get_or reads (k + 1) 0 ≡ get_or reads k 0
      at_plus e = ap (λ (j : ℕ). get_or reads j 0) plus ∙ e

  -- what the two insertions ask
  pub may_open : HasPopped vector ord L rows reads places k → known ≡ length L → top ≡ get_or (known ∷ reads) k 0 → get_or reads k 0 + 1 < top → (k < length rows) × (get_or reads k 0 + 1 < length L) × (k < length places) × (place_at places k ≡ Out)
  may_open h kn t l =
      let same : top ≡ ceiling L reads k = t ∙ ap (λ (j : ℕ). get_or (j ∷ reads) k 0) kn in
      (h.popped.among, omega (arith, l, same, popped_top vector ord L rows reads places k h), omega (arith, popped_places vector ord L rows reads places k h, h.popped.among), popped_out vector ord L rows reads places k h)

  pub may_follow : HasPopped vector ord L rows reads places k → IsMoved vector k (product_at rows L k (get_or reads k 0 + 1)) opens places one → (k + 1 < length reads) × (get_or reads (k + 1) 0 ≡ get_or reads k 0) → (k + 1 < length rows) × (get_or reads k 0 < length L) × (k + 1 < length one) × (place_at one (k + 1) ≡ Out)
  may_follow h mo q =
      let plus : k + 1 ≡ suc k = omega arith in
      let l : suc k < length rows = omega (arith, q.0, popped_reads vector ord L rows reads places k h) in
      let o = behind_still_out vector ord L rows reads places k one (product_at rows L k (get_or reads k 0 + 1)) opens h mo l (ap (λ (j : ℕ). get_or reads j 0) (sym plus) ∙ q.1) in
      (omega (arith, l), omega (arith, popped_read vector ord L rows reads places k h, popped_top vector ord L rows reads places k h), omega (arith, o.0), ap (λ (j : ℕ). place_at one j) plus ∙ o.1)
