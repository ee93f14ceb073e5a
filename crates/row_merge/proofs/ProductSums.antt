-- The products at one monomial are summed up, row by row.
use Rattle.std.proofs.Common.{◌≡◌, ℕ, ◌+◌, ◌<◌, ◌≤◌, Bool, cond, List, [], ◌∷◌, ◌++◌, length, set, get_or, Some, ℤ, pos, ◌+ℤ◌, ◌*ℤ◌, unsigned_abs, refl, sym, ap, ◌∙◌, subst, arith, All}
use Rattle.std.specs.List.Sorted.{IsPermutation}
use Rattle.std.proofs.lemmas.List.{map-id, get_or-map}
use Rattle.std.proofs.lemmas.List.Elements.{All-nil, All-push}
use Rattle.std.proofs.lemmas.List.Sorted.{IsPermutation-refl, IsPermutation-pop_more, sum_by-IsPermutation, length_permutation}
use Rattle.sdmp_laws.specs.Order.{Order, alike}
use Rattle.sdmp_laws.specs.Ring.{red}
use Rattle.sdmp_laws.specs.Poly.{Term, term_times, total, coef, norm, AllBelow}
use Rattle.sdmp_laws.proofs.Ints.{red_add, red_red, red_zero, add_zero}
use Rattle.sdmp_laws.proofs.OrderLemmas.{alike_self}
use Rattle.sdmp_laws.proofs.PolyLemmas.{total_append}
use Rattle.sdmp_laws.proofs.TermsLemmas.{total_nil, total_one, total_above}
use Rattle.sdmp_laws.proofs.Parts.{norm_append, norm_cons, norm_permutation, total-le-norm}
use Rattle.sdmp_laws.proofs.Permutations.{total_permutation}
use Rattle.canonical_terms.specs.declared.term.TermOf.{TermOf}
use Rattle.canonical_terms.specs.View.{term_of, sum_of}
use Rattle.chained_heap.specs.declared.node.Place.{Place}
use Rattle.chained_heap.specs.declared.node.Place.TheVariants.{Taken}
use Rattle.chained_heap.specs.Shape.{place_at}
use Rattle.row_merge.specs.Learned.{unread, no_term, product_at, ceiling, IsPlaced, AreRows, TakesOut}
use Rattle.row_merge.proofs.Products.{read_one}
use Rattle.row_merge.proofs.Places.{ceiling_low}
use Rattle.row_merge.proofs.RowSteps.{taken_facts}

-- the products taken so far, their sum, and what is left
pub record Summing (ord : Order) (p : ℕ) (x : List ℕ) (before left : List Term) (sum : ℤ) : Type 0 where
  pub taken : List Term
  pub split : IsPermutation before (taken ++ left)
  pub at : All (λ u. u.monomial ≡ x) taken
  pub is : red p (total taken x) ≡ sum

pub sum_begins : (ord : Order) (p : ℕ) (x : List ℕ) (before : List Term) → Summing ord p x before before (pos 0)
sum_begins ord p x before = record { taken = []; split = IsPermutation-refl before; at = All-nil _; is = ap (red p) (total_nil x) ∙ red_zero p }

total_push : (A : List Term) (t : Term) (x : List ℕ) → t.monomial ≡ x → total (A ++ t ∷ []) x ≡ total A x +ℤ t.coefficient
total_push A t x e =
    total_append A (t ∷ []) x
    ∙ ap (λ (z : ℤ). total A x +ℤ z) (total_one t x ∙ ap (λ (b : Bool). cond b t.coefficient (pos 0)) (ap (λ (v : List ℕ). alike v x) e ∙ alike_self x))

pub sum_more : (ord : Order) (p : ℕ) (x : List ℕ) (before left rest : List Term) (t : Term) (sum product new : ℤ) → Summing ord p x before left sum → IsPermutation left (t ∷ rest) → t.monomial ≡ x → product ≡ t.coefficient → new ≡ red p (sum +ℤ product) → Summing ord p x before rest new
sum_more ord p x before left rest t sum product new s h e f g = record {
  taken = s.taken ++ t ∷ [];
  split = IsPermutation-pop_more before s.taken left rest t s.split h;
  at = All-push (λ (u : Term). u.monomial ≡ x) s.taken t s.at e;
  is = ap (red p) (total_push s.taken t x e)
      ∙ sym (red_add p (red p (total s.taken x)) (total s.taken x) t.coefficient t.coefficient (red_red p (total s.taken x)) refl)
      ∙ (λ i. red p (s.is i +ℤ sym f i)) ∙ sym g;
}

-- each sum and each product fits
pub sum_size : (ord : Order) (x : List ℕ) (before left rest : List Term) (t : Term) (sum product : ℤ) → Summing ord 0 x before left sum → IsPermutation left (t ∷ rest) → t.monomial ≡ x → product ≡ t.coefficient → unsigned_abs (sum +ℤ product) ≤ norm before
sum_size ord x before left rest t sum product s h e f =
    let z : sum +ℤ product ≡ total (s.taken ++ t ∷ []) x = sym (total_push s.taken t x e ∙ (λ i. s.is i +ℤ sym f i)) in
    let all : IsPermutation before ((s.taken ++ t ∷ []) ++ rest) = IsPermutation-pop_more before s.taken left rest t s.split h in
    let n : norm ((s.taken ++ t ∷ []) ++ rest) ≡ norm before = norm_permutation before _ all in
    let a = total-le-norm (s.taken ++ t ∷ []) x in
    let b : unsigned_abs (sum +ℤ product) ≡ unsigned_abs (total (s.taken ++ t ∷ []) x) = ap unsigned_abs z in
    omega (arith, n, a, b, norm_append (s.taken ++ t ∷ []) rest)

pub product_size : (ord : Order) (p : ℕ) (x : List ℕ) (before left rest : List Term) (t : Term) (sum : ℤ) → Summing ord p x before left sum → IsPermutation left (t ∷ rest) → unsigned_abs t.coefficient ≤ norm before
product_size ord p x before left rest t sum s h =
    omega (arith, norm_permutation before (s.taken ++ left) s.split, norm_append s.taken left, norm_permutation left (t ∷ rest) h, norm_cons t rest)

pub fewer_left : (left rest : List Term) (t : Term) → IsPermutation left (t ∷ rest) → length rest < length left
fewer_left left rest t h = omega (arith, length_permutation left (t ∷ rest) h)

-- all products at x are taken
pub sum_ends : (ord : Order) (p : ℕ) (before left : List Term) (t : Term) → Summing ord p t.monomial before left t.coefficient → AllBelow ord t.monomial left → TakesOut ord p before left t
unfolding coef
sum_ends ord p before left t s b = record {
  taken = s.taken;
  split = s.split;
  at = s.at;
  below = b;
  sum = sym (ap (red p) (sym (total_permutation t.monomial before (s.taken ++ left) s.split) ∙ total_append s.taken left t.monomial ∙ ap (λ (z : ℤ). total s.taken t.monomial +ℤ z) (total_above ord t.monomial left b) ∙ add_zero (total s.taken t.monomial)) ∙ s.is);
}

-- the product that a row reads next
pub taken_product : List Term → List Term → List ℕ → ℕ → Term
taken_product L rows reads k = term_times (get_or rows k no_term) (get_or L (get_or reads k 0) no_term)

-- the product of a row that is put out
module _ {M : Type 0} (vector : M → List ℕ) (ord : Order) (x : List ℕ) (L rows : List Term) (reads : List ℕ) (places : List (Place M)) (k : ℕ) where
  pub taken_row : AreRows vector ord (Some x) L rows reads places → k < length rows → place_at places k ≡ Taken → (get_or reads k 0 < length L) × (product_at rows L k (get_or reads k 0) ≡ x)
  taken_row a h e =
      let f = taken_facts vector ord x L rows (get_or reads k 0) (ceiling L reads k) (product_at rows L k (get_or reads k 0))
      (subst (λ (q : Place M). IsPlaced vector ord (Some x) q (get_or reads k 0) (ceiling L reads k) (product_at rows L k (get_or reads k 0))) e (a.placed k h)) in
      (omega (arith, f.0, ceiling_low vector ord (Some x) L rows reads places a k h), f.1)

  pub taken_split : AreRows vector ord (Some x) L rows reads places → k < length rows → place_at places k ≡ Taken → IsPermutation (unread rows reads L) (taken_product L rows reads k ∷ unread rows (set reads k (get_or reads k 0 + 1)) L)
  unfolding taken_product
  taken_split a h e = read_one L reads rows k a.reads_count h (taken_row a h e).0

  pub taken_mono : AreRows vector ord (Some x) L rows reads places → k < length rows → place_at places k ≡ Taken → (taken_product L rows reads k).monomial ≡ x
  unfolding taken_product term_times
  taken_mono a h e = (taken_row a h e).1

pub coef_of : {M E : Type 0} (vector : M → List ℕ) (value : E → ℤ) (ts : List (TermOf M E)) (k : ℕ) (d : TermOf M E) → k < length ts → value (get_or ts k d).coef ≡ (get_or (sum_of vector value ts) k no_term).coefficient
coef_of vector value ts k d l = sym (ap (λ (u : Term). u.coefficient) (get_or-map (term_of vector value) ts k d no_term l))

-- the product of the coefficients is that of the terms
pub coefs_of : {M E : Type 0} (vector : M → List ℕ) (value : E → ℤ) (rows learned : List (TermOf M E)) (reads : List ℕ) (k : ℕ) (d e : TermOf M E) → k < length rows → get_or reads k 0 < length learned
    → value (get_or rows k d).coef *ℤ value (get_or learned (get_or reads k 0) e).coef ≡ (taken_product (sum_of vector value learned) (sum_of vector value rows) reads k).coefficient
unfolding taken_product term_times
coefs_of vector value rows learned reads k d e l m = λ i. coef_of vector value rows k d l i *ℤ coef_of vector value learned (get_or reads k 0) e m i
