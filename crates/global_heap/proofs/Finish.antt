-- The heads stay within the norms, and the product that is finished is canonical.
use Rattle.std.proofs.Common.{◌≡◌, ◌≢◌, ℕ, zero, suc, ◌+◌, ◌*◌, ◌<◌, ◌≤◌, Bool, true, false, List, [], ◌∷◌, ◌++◌, length, get_or, sum_by, Option, Some, None, unsigned_abs, refl, sym, ap, subst, arith, true≢false}
use Rattle.std.proofs.Math.Nat.{mul-le-mul}
use mathlib.Core.List.{IsPrefix}
use Rattle.sdmp_laws.proofs.ListLemmas.{length-times, AllDegrees-up}
use Rattle.global_heap.proofs.Counts.{rows_from, rows_le, spread}
use Rattle.sdmp_laws.specs.Order.{Order, degree}
use Rattle.sdmp_laws.specs.Poly.{Term, terms, times, every, part, norm, lm, AllDegrees, IsPoly}
use Rattle.sdmp_laws.specs.Limits.{greatest_norm, IsDegreeOver}
use Rattle.sdmp_laws.specs.Canonical.{IsCanonical}
use Rattle.sdmp_laws.proofs.Parts.{norm_nil, norm_cons, norm_append, norm_times}
use Rattle.sdmp_laws.proofs.NormLemmas.{terms_norm}
use Rattle.sdmp_laws.proofs.DegreeLemmas.{degree_laws}
use Rattle.sdmp_laws.proofs.TermsLemmas.{terms_poly}
use Rattle.sdmp_laws.proofs.LongLemmas.{Over-times}
use Rattle.ring_heads.specs.Heads.{TopFits}
use Rattle.ring_heads.proofs.HeadLemmas.{size_within}
use Rattle.whole_laws.specs.Notes.{Note, Product, ProductScript, script_list, Carry}
use Rattle.whole_laws.specs.Wholes.{MergeState, MergeWhole, head_terms, notes_of, head_of_worker, merge_script, IsHead}
use Rattle.whole_laws.proofs.NotesLemmas.{Carry-prefix}
use Rattle.global_heap.specs.Names.{IsFit}
use Rattle.sdmp_laws.proofs.OrderLemmas.{Three, is_less, is_equal, is_greater, numbers}

-- ---- degrees, norm and canonical form of the product
degrees_nil : (D : ℕ) → AllDegrees D []
unfolding AllDegrees
degrees_nil D = tt

times_nil_left : (B : List Term) → times [] B ≡ []
unfolding times
times_nil_left B = refl

empty : (L : List Term) → length L ≡ 0 → L ≡ []
empty [] e = refl
empty (t ∷ L) e = absurd (omega arith)

times_nil_right : (A : List Term) → times A [] ≡ []
times_nil_right A = empty (times A []) (let l = length-times A [] in omega arith)

product_degrees : (ord : Order) (p n lim : ℕ) (f g : List Term) → IsPoly ord p n f → IsPoly ord p n g → (IsDegreeOver lim f g → ⊥) → AllDegrees lim (times f g)
product_degrees ord p n lim [] g a b room = subst (AllDegrees lim) (sym (times_nil_left g)) (degrees_nil lim)
product_degrees ord p n lim (t ∷ f) [] a b room = subst (AllDegrees lim) (sym (times_nil_right (t ∷ f))) (degrees_nil lim)
product_degrees ord p n lim (t ∷ f) (u ∷ g) a b room =
    let laws = degree_laws ord p n in
    let D : ℕ = degree (lm (t ∷ f)) in
    let E : ℕ = degree (lm (u ∷ g)) in
    AllDegrees-up (D + E) lim (times (t ∷ f) (u ∷ g)) (small (numbers lim (D + E))) (laws.1 D E (t ∷ f) (u ∷ g) (laws.0 (t ∷ f) a) (laws.0 (u ∷ g) b))
  where
    cons_nil : (v : Term) (L : List Term) → v ∷ L ≢ []
    cons_nil v L e = true≢false (ap (λ (K : List Term). elim K as (λ _. Bool) [ [] ↦ false | w ∷ M ↦ true ]) e)

    small : Three (lim < degree (lm (t ∷ f)) + degree (lm (u ∷ g))) (lim ≡ degree (lm (t ∷ f)) + degree (lm (u ∷ g))) (degree (lm (t ∷ f)) + degree (lm (u ∷ g)) < lim) → degree (lm (t ∷ f)) + degree (lm (u ∷ g)) ≤ lim
    small (is_less l) = absurd (room record { left = cons_nil t f; right = cons_nil u g; over = l })
    small (is_equal l) = omega arith
    small (is_greater l) = omega arith

room_norm : (lim : ℕ) (m : Product) → IsFit lim m → m.p ≡ 0 → norm m.f * norm m.g ≤ greatest_norm
room_norm lim m fit i = pick (numbers greatest_norm (norm m.f * norm m.g))
  where
    pick : Three (greatest_norm < norm m.f * norm m.g) (greatest_norm ≡ norm m.f * norm m.g) (norm m.f * norm m.g < greatest_norm) → norm m.f * norm m.g ≤ greatest_norm
    pick (is_less l) = absurd (fit.room.norm_fits record { integers = i; over = l })
    pick (is_equal e) = omega arith
    pick (is_greater l) = omega arith

pub product_canonical : (lim : ℕ) (m : Product) → IsFit lim m → IsCanonical m.ord m.p m.n lim (terms m.ord m.p (times m.f m.g))
product_canonical lim m fit = record {
  poly = terms_poly m.ord m.p m.n (times m.f m.g) (Over-times m.n m.f m.g fit.left.poly.vectors fit.right.poly.vectors);
  degrees = (degree_laws m.ord m.p m.n).2 lim (times m.f m.g) (product_degrees m.ord m.p m.n lim m.f m.g fit.left.poly fit.right.poly fit.room.degree_fits);
  norm_fits = λ i.
      let t = terms_norm m.ord (times m.f m.g) in
      let n = norm_times m.f m.g in
      let e = ap (λ (p : ℕ). norm (terms m.ord p (times m.f m.g))) i in
      let r = room_norm lim m fit i in
      omega arith;
}

-- ---- the norm of the heads
-- the absolute value of a coefficient
abbrev size : Term → ℕ
size t = unsigned_abs t.coefficient

-- the norms of the lists of the k workers from w on
norms_from : Product → ℕ → ℕ → ℕ → ℕ
norms_from m W w zero = 0
norms_from m W w (suc k) = norm (script_list (ProductScript m W w)) + norms_from m W (suc w) k

script_norm : (m : Product) (W w : ℕ) → m.p ≡ 0 → norm (script_list (ProductScript m W w)) ≤ norm (every W w 0 m.f) * norm m.g
unfolding script_list part
script_norm m W w i =
    let t = terms_norm m.ord (times (every W w 0 m.f) m.g) in
    let e = ap (λ (p : ℕ). norm (terms m.ord p (times (every W w 0 m.f) m.g))) i in
    let l = norm_times (every W w 0 m.f) m.g in
    omega arith

pub norm_is : (A : List Term) → sum_by size A ≡ norm A
unfolding norm
norm_is A = refl

norms_rows : (m : Product) (W w k : ℕ) → m.p ≡ 0 → norms_from m W w k ≤ rows_from size W m.f 0 w k * norm m.g
unfolding norms_from rows_from
norms_rows m W w zero i = omega arith
norms_rows m W w (suc k) i =
    let s = script_norm m W w i in
    let r = norms_rows m W (suc w) k i in
    let d = spread (sum_by size (every W w 0 m.f)) (rows_from size W m.f 0 (suc w) k) (norm m.g) in
    let c = ap (λ (n : ℕ). n * norm m.g) (norm_is (every W w 0 m.f)) in
    omega arith

norms_all : (m : Product) (W : ℕ) → m.p ≡ 0 → norms_from m W 0 W ≤ norm m.f * norm m.g
norms_all m W i =
    let r = norms_rows m W 0 W i in
    let l = rows_le size W m.f 0 in
    let c = norm_is m.f in
    let p : rows_from size W m.f 0 0 W * norm m.g ≤ norm m.f * norm m.g = mul-le-mul (let e : rows_from size W m.f 0 0 W ≤ norm m.f = omega arith in e) (let e : norm m.g ≤ norm m.g = omega arith in e) in
    omega arith

head_size : (before : List Term) (t : Term) (L : List Term) → IsPrefix (before ++ t ∷ []) L → size t ≤ norm L
head_size before t L p =
    let a = ap norm p.1 in
    let b = norm_append (before ++ t ∷ []) p.0 in
    let c = norm_append before (t ∷ []) in
    let d = norm_cons t [] in
    omega arith

head_within : (m : Product) (W w : ℕ) (notes : List Note) (t : Term) → Carry (ProductScript m W w) notes → IsHead (Some t) notes → size t ≤ norm (script_list (ProductScript m W w))
unfolding IsHead
head_within m W w notes t c h =
    head_size h.0 t (script_list (ProductScript m W w)) (subst (λ (L : List Term). IsPrefix L (script_list (ProductScript m W w))) h.1 (Carry-prefix (ProductScript m W w) notes c))

heads_from : (m : Product) (W w : ℕ) (heads : List (Option Term)) → ((v : ℕ) (t : Term) → v < length heads → get_or heads v None ≡ Some t → size t ≤ norm (script_list (ProductScript m W (w + v)))) → norm (head_terms heads) ≤ norms_from m W w (length heads)
unfolding head_terms norms_from
heads_from m W w [] h = let n = norm_nil in omega arith
heads_from m W w (None ∷ heads) h =
    let i = heads_from m W (suc w) heads (λ v t l e. subst (λ (u : ℕ). size t ≤ norm (script_list (ProductScript m W u))) (let e : w + suc v ≡ suc w + v = omega arith in e) (h (suc v) t (omega arith) e)) in
    omega arith
heads_from m W w (Some t ∷ heads) h =
    let i = heads_from m W (suc w) heads (λ v t l e. subst (λ (u : ℕ). size t ≤ norm (script_list (ProductScript m W u))) (let e : w + suc v ≡ suc w + v = omega arith in e) (h (suc v) t (omega arith) e)) in
    let here = h 0 t (omega arith) refl in
    let z = ap (λ (u : ℕ). norm (script_list (ProductScript m W u))) (let e : w + 0 ≡ w = omega arith in e) in
    let c = norm_cons t (head_terms heads) in
    omega arith

-- the heads add up to no more than the norms allow
heads_norm : (lim : ℕ) (s : MergeState) → MergeWhole s → IsFit lim s.product → s.product.p ≡ 0 → norm (head_terms s.heads) ≤ greatest_norm
unfolding merge_script head_of_worker
heads_norm lim s whole fit i =
    let h = heads_from s.product s.workers 0 s.heads (λ v t l e.
    let inside : v < s.workers = let c = whole.heads_count in omega arith in
    subst (λ (u : ℕ). size t ≤ norm (script_list (ProductScript s.product s.workers u))) (let z : v ≡ 0 + v = omega arith in z)
    (head_within s.product s.workers v (notes_of s.taken v) t (whole.carried v inside) (subst (λ (o : Option Term). IsHead o (notes_of s.taken v)) e (whole.heads_are v inside)))) in
    let c = ap (λ (k : ℕ). norms_from s.product s.workers 0 k) whole.heads_count in
    let n = norms_all s.product s.workers i in
    let r = room_norm lim s.product fit i in
    omega arith

-- so what stands at the greatest monomial does
pub top_fits : (lim : ℕ) (ord : Order) (s : MergeState) → MergeWhole s → IsFit lim s.product → s.product.p ≡ 0 → TopFits ord s.heads
top_fits lim ord s whole fit i x top = let n = heads_norm lim s whole fit i in let k = size_within x (head_terms s.heads) in omega arith
