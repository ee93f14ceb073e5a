-- A division on one thread keeps what it holds at each step, and its end is an answer.
use Rattle.std.proofs.Common.{◌≡◌, ◌≢◌, ℕ, zero, suc, ◌+◌, ◌*◌, ◌<◌, ◌≤◌, inl, inr, Bool, true, false, cond, ltb, ltb-true, true≢false, List, [], ◌∷◌, ◌++◌, length, drop, ℤ, pos, ◌+ℤ◌, ◌*ℤ◌, neg_ℤ, unsigned_abs, refl, sym, ap, ◌∙◌, subst, arith, All, append-nil, length-append, mul-le-mul_right, mul-le-mul_left}
use Rattle.std.proofs.lemmas.Int.{ints, unsigned_abs-mul}
use Rattle.std.specs.List.Sorted.{IsPermutation}
use Rattle.std.proofs.lemmas.List.{length_push}
use Rattle.std.proofs.lemmas.Bool.{ltb-false}
use Rattle.std.proofs.lemmas.List.Elements.{All-nil, All-cons, All-head, All-tail, All-append, All-push, All-weaker}
use Rattle.std.proofs.lemmas.List.Sorted.{All-permutation, length_permutation}
use mathlib.Core.List.{IsPrefix}
use Rattle.sdmp_laws.specs.Order.{Order, ◌⋅◌, Below, alike, degree, Divides, over}
use Rattle.sdmp_laws.specs.Ring.{red, IsReduced}
use Rattle.sdmp_laws.specs.Poly.{Term, term_times, total, coef, Same, row, times, minus, norm, Over, AllBelow, Decreasing, IsPoly, lm, lc}
use Rattle.sdmp_laws.specs.Division.{Division, IsAccepted, IsExact, IsRem, NoneDivisible, InScope, Turn, Ends, IsFront}
use Rattle.sdmp_laws.specs.LongDivision.{quotient_list}
use Rattle.sdmp_laws.specs.Limits.{greatest_norm, quotient_terms_limit, Passes, PassesBound}
use Rattle.sdmp_laws.specs.declared.Mode.{Mode}
use Rattle.sdmp_laws.specs.declared.Mode.TheVariants.{Exact, Remainder}
use Rattle.sdmp_laws.proofs.Ints.{red_add, red_red, red_zero, zero_add}
use Rattle.sdmp_laws.proofs.OrderLemmas.{Three, is_less, is_equal, is_greater, below_total, order_facts, times_cancel, alike_same, alike_self, length_times}
use Rattle.sdmp_laws.proofs.PolyLemmas.{total_append, total_minus, from_total, times_append_left}
use Rattle.sdmp_laws.proofs.TermsLemmas.{total_above, total_nil, total_cons, total_one, total_other, nil_poly, head_facts}
use Rattle.sdmp_laws.proofs.Parts.{norm_append, norm_cons, norm_nil, norm_row, norm_permutation, total-le-norm}
use Rattle.sdmp_laws.proofs.Merging.{Over-push, Proper-push}
use Rattle.sdmp_laws.proofs.NextTerm.{back_poly}
use Rattle.sdmp_laws.proofs.PlaceLemmas.{passes_grows, norm_prefix}
use Rattle.sdmp_laws.proofs.DivisionLemmas.{below_left, divides_scope, divides_times, Turns-push, turns_agree, length_lm, in_scope, turns_poly, quotient_list_unique, left_is_rest}
use Rattle.sdmp_laws.proofs.LongLemmas.{quotient_list_is, over_times, length_over, prefix_begins, begins_prefix, fronts_unique, exact_is_list, below_degree, all_in_scope}
use Rattle.sdmp_laws.proofs.Permutations.{total_permutation}
use Rattle.sdmp_laws.proofs.ListLemmas.{All-front, All-back, each_below, below_each, vectors_each}
use Rattle.division_laws.specs.Outcome.{PassesEarly, IsLong, IsWithin}
use Rattle.divide_core.specs.Dividing.{TakesNext, Dividing, IsTermQuotient}
use Rattle.std.proofs.Math.Nat.{add-mul}

-- ---- sums in which nothing stands at a monomial
total_none : (y : List ℕ) (A : List Term) → All (λ s. s.monomial ≡ y → ⊥) A → total A y ≡ pos 0
total_none y [] h = total_nil y
total_none y (s ∷ A) h = total_other s A y (All-head (λ (t : Term). t.monomial ≡ y → ⊥) s A h) ∙ total_none y A (All-tail (λ (t : Term). t.monomial ≡ y → ⊥) s A h)

not_itself : (ord : Order) (a b : List ℕ) → Below ord a b → a ≡ b → ⊥
not_itself ord a b h e = (order_facts ord).irreflexive b (subst (λ (x : List ℕ). Below ord x b) e h)

-- what stands at m or below has nothing above m
above_none : (ord : Order) (m y : List ℕ) (A B : List Term) → All (λ u. u.monomial ≡ m) A → AllBelow ord m B → Below ord m y → total (A ++ B) y ≡ pos 0
above_none ord m y A B h k b =
    total_none y (A ++ B)
    (All-append (λ (s : Term). s.monomial ≡ y → ⊥) A B
    (All-weaker (λ (u : Term). u.monomial ≡ m) (λ (s : Term). s.monomial ≡ y → ⊥) (λ u e z. not_itself ord m y b (sym e ∙ z)) A h)
    (All-weaker (λ (t : Term). Below ord t.monomial m) (λ (s : Term). s.monomial ≡ y → ⊥) (λ u c z. not_itself ord u.monomial y ((order_facts ord).transitive u.monomial m y c b) z) B (each_below ord m B k)))

-- at m there is only what stands at m, elsewhere only the others
other_same : (m y : List ℕ) (A B : List Term) → All (λ u. u.monomial ≡ m) A → (m ≡ y → ⊥) → total (A ++ B) y ≡ total B y
other_same m y A B h n =
    total_append A B y ∙ ap (λ (z : ℤ). z +ℤ total B y) (total_none y A (All-weaker (λ (u : Term). u.monomial ≡ m) (λ (s : Term). s.monomial ≡ y → ⊥) (λ u e z. n (sym e ∙ z)) A h)) ∙ zero_add (total B y)

-- ---- what is known at the greatest monomial
module _ (d : Division) (lim : ℕ) (q r u v u' v' : List Term) (t : Term) where
  nothing_above : Dividing d lim q r u v → TakesNext d.ord d.p u u' v v' t → (y : List ℕ) → InScope d.mode (lm d.g) y → Below d.ord t.monomial y → coef d.p (minus d.f (times q d.g)) y ≡ pos 0
  unfolding coef
  nothing_above s n y c b =
      let zr = total_none y r (All-weaker (λ (s : Term). InScope d.mode (lm d.g) s.monomial → ⊥) (λ (s : Term). s.monomial ≡ y → ⊥) (λ x o e. o (subst (λ (m : List ℕ). InScope d.mode (lm d.g) m) (sym e) c)) r s.outside) in
      let zu : total u y ≡ pos 0 = ap (λ (A : List Term). total A y) n.read_split ∙ above_none d.ord t.monomial y n.read u' n.read_at n.read_below b in
      let zv : total v y ≡ pos 0 = sym (total_permutation y v (n.handed ++ v') n.handed_split) ∙ above_none d.ord t.monomial y n.handed v' n.handed_at n.handed_below b in
      s.whole y ∙ ap (red d.p) (omega (arith, ints, zr, zu, zv)) ∙ red_zero d.p

  coefficient_here : Dividing d lim q r u v → TakesNext d.ord d.p u u' v v' t → InScope d.mode (lm d.g) t.monomial → coef d.p (minus d.f (times q d.g)) t.monomial ≡ t.coefficient
  unfolding coef
  coefficient_here s n c =
      let zr = total_none t.monomial r (All-weaker (λ (s : Term). InScope d.mode (lm d.g) s.monomial → ⊥) (λ (s : Term). s.monomial ≡ t.monomial → ⊥) (λ x o e. o (subst (λ (m : List ℕ). InScope d.mode (lm d.g) m) (sym e) c)) r s.outside) in
      s.whole t.monomial ∙ ap (red d.p) (omega (arith, ints, zr)) ∙ sym n.sum

  -- the greatest monomial is below the rest, a vector, and of a degree within the limit
  greatest_all : (P : List ℕ → Type 0) → TakesNext d.ord d.p u u' v v' t → All (λ s. P s.monomial) u → All (λ s. P s.monomial) v → P t.monomial
  greatest_all P n hu hv = pick n.read n.handed n.some n.read_at n.handed_at (read_part n.read u' (subst (λ (A : List Term). All (λ (s : Term). P s.monomial) A) n.read_split hu)) (read_part n.handed v' (All-permutation (λ (s : Term). P s.monomial) v (n.handed ++ v') n.handed_split hv))
    where
      read_part : (A B : List Term) → All (λ (s : Term). P s.monomial) (A ++ B) → All (λ (s : Term). P s.monomial) A
      read_part A B h = All-front (λ (s : Term). P s.monomial) A B h

      pick : (A B : List Term) → A ++ B ≢ [] → All (λ (s : Term). s.monomial ≡ t.monomial) A → All (λ (s : Term). s.monomial ≡ t.monomial) B → All (λ (s : Term). P s.monomial) A → All (λ (s : Term). P s.monomial) B → P t.monomial
      pick [] [] z a b f g = absurd (z refl)
      pick [] (s ∷ B) z a b f g = subst P (All-head (λ (x : Term). x.monomial ≡ t.monomial) s B b) (All-head (λ (x : Term). P x.monomial) s B g)
      pick (s ∷ A) B z a b f g = subst P (All-head (λ (x : Term). x.monomial ≡ t.monomial) s A a) (All-head (λ (x : Term). P x.monomial) s A f)

-- the sums that are left, at each monomial
module _ (ord : Order) (p : ℕ) (u v u' v' : List Term) (t : Term) where
  left_other : TakesNext ord p u u' v v' t → (y : List ℕ) → (t.monomial ≡ y → ⊥) → (total u y ≡ total u' y) × (total v y ≡ total v' y)
  left_other n y z = (
    ap (λ (A : List Term). total A y) n.read_split ∙ other_same t.monomial y n.read u' n.read_at z,
    sym (total_permutation y v (n.handed ++ v') n.handed_split) ∙ other_same t.monomial y n.handed v' n.handed_at z,
  )

  left_here : TakesNext ord p u u' v v' t → (total u' t.monomial ≡ pos 0) × (total v' t.monomial ≡ pos 0)
  left_here n = (total_above ord t.monomial u' n.read_below, total_above ord t.monomial v' n.handed_below)

  left_norms : (n : TakesNext ord p u u' v v' t) → (norm n.read + norm u' ≡ norm u) × (norm n.handed + norm v' ≡ norm v)
  left_norms n = (sym (norm_append n.read u') ∙ ap norm (sym n.read_split), sym (norm_append n.handed v') ∙ norm_permutation v (n.handed ++ v') n.handed_split)

  pub fewer : TakesNext ord p u u' v v' t → length u' + length v' < length u + length v
  fewer n =
      let a : 0 < length (n.read ++ n.handed) = positive (n.read ++ n.handed) n.some in
      omega (arith, ap length n.read_split, length-append n.read u', length_permutation v (n.handed ++ v') n.handed_split, length-append n.handed v', length-append n.read n.handed, a)
    where
      positive : (A : List Term) → A ≢ [] → 0 < length A
      positive [] z = absurd (z refl)
      positive (s ∷ A) z = omega arith

  -- what holds of all that was to come holds of what is left
  kept_unread : (P : Term → Type 0) → TakesNext ord p u u' v v' t → All P u → All P u'
  kept_unread P n h = All-back P n.read u' (subst (λ (A : List Term). All P A) n.read_split h)

  kept_owed : (P : Term → Type 0) → TakesNext ord p u u' v v' t → All P v → All P v'
  kept_owed P n h = All-back P n.handed v' (All-permutation P v (n.handed ++ v') n.handed_split h)

  -- over the integers the difference of the sums is no greater than what was taken
  size : TakesNext ord 0 u u' v v' t → unsigned_abs t.coefficient + (norm u' + norm v') ≤ norm u + norm v
  size n =
      let e : t.coefficient ≡ total u t.monomial +ℤ neg_ℤ (total v t.monomial) = n.sum in
      let a : total u t.monomial ≡ total n.read t.monomial +ℤ total u' t.monomial = ap (λ (A : List Term). total A t.monomial) n.read_split ∙ total_append n.read u' t.monomial in
      let b : total v t.monomial ≡ total n.handed t.monomial +ℤ total v' t.monomial = sym (total_permutation t.monomial v (n.handed ++ v') n.handed_split) ∙ total_append n.handed v' t.monomial in
      let zu = total_above ord t.monomial u' n.read_below in
      let zv = total_above ord t.monomial v' n.handed_below in
      let f : unsigned_abs t.coefficient ≤ unsigned_abs (total n.read t.monomial) + unsigned_abs (total n.handed t.monomial) = omega (arith, ints, e, a, b, zu, zv) in
      let nu : norm n.read + norm u' ≡ norm u = sym (norm_append n.read u') ∙ ap norm (sym n.read_split) in
      let nv : norm n.handed + norm v' ≡ norm v = sym (norm_append n.handed v') ∙ norm_permutation v (n.handed ++ v') n.handed_split in
      omega (arith, f, total-le-norm n.read t.monomial, total-le-norm n.handed t.monomial, nu, nv)

suffix_poly : (ord : Order) (p n : ℕ) (u A B : List Term) → u ≡ A ++ B → IsPoly ord p n u → IsPoly ord p n B
suffix_poly ord p n u A B e i = back_poly ord p n A B (subst (λ (L : List Term). IsPoly ord p n L) e i)

regroup : (a b c : ℤ) → (a +ℤ b) +ℤ c ≡ a +ℤ (b +ℤ c)
regroup a b c = omega (arith, ints)

pub not_passed : (d : Division) (q : List Term) → d.p ≡ 0 → (PassesBound d q → ⊥) → norm d.f + norm q * norm d.g ≤ greatest_norm
not_passed d q z h = pick (ltb greatest_norm (norm d.f + norm q * norm d.g)) refl
  where
    pick : (b : Bool) → ltb greatest_norm (norm d.f + norm q * norm d.g) ≡ b → norm d.f + norm q * norm d.g ≤ greatest_norm
    pick true e = absurd (h (inl (record { integers = z; over = ltb-true greatest_norm (norm d.f + norm q * norm d.g) e })))
    pick false e = ltb-false greatest_norm (norm d.f + norm q * norm d.g) e

below_push : (ord : Order) (m : List ℕ) (A : List Term) (t : Term) → AllBelow ord m A → Below ord t.monomial m → AllBelow ord m (A ++ t ∷ [])
below_push ord m A t h b = below_each ord m (A ++ t ∷ []) (All-push (λ (x : Term). Below ord x.monomial m) A t (each_below ord m A h) b)

falls_push : (ord : Order) (A : List Term) (t : Term) → Decreasing ord A → All (λ s. Below ord t.monomial s.monomial) A → Decreasing ord (A ++ t ∷ [])
unfolding Decreasing AllBelow
falls_push ord [] t d h = (tt, tt)
falls_push ord (s ∷ A) t d h = (below_push ord s.monomial A t d.0 (All-head (λ (x : Term). Below ord t.monomial x.monomial) s A h), falls_push ord A t d.1 (All-tail (λ (x : Term). Below ord t.monomial x.monomial) s A h))

pub poly_push : (ord : Order) (p n : ℕ) (A : List Term) (t : Term) → IsPoly ord p n A → length t.monomial ≡ n → IsReduced p t.coefficient → (t.coefficient ≢ pos 0) → All (λ s. Below ord t.monomial s.monomial) A → IsPoly ord p n (A ++ t ∷ [])
poly_push ord p n A t i l r z h = record { vectors = Over-push n A t i.vectors l; decreasing = falls_push ord A t i.decreasing h; proper = Proper-push p A t i.proper r z }

module _ (d : Division) (lim : ℕ) (q r u v u' v' : List Term) (t : Term) where
  under_left : Dividing d lim q r u v → TakesNext d.ord d.p u u' v v' t → All (λ s. All (λ x. Below d.ord x.monomial s.monomial) u' × All (λ x. Below d.ord x.monomial s.monomial) v') r
  under_left s n =
      All-weaker (λ (y : Term). All (λ x. Below d.ord x.monomial y.monomial) u × All (λ x. Below d.ord x.monomial y.monomial) v)
      (λ (y : Term). All (λ x. Below d.ord x.monomial y.monomial) u' × All (λ x. Below d.ord x.monomial y.monomial) v')
      (λ y h. (kept_unread d.ord d.p u v u' v' t (λ (x : Term). Below d.ord x.monomial y.monomial) n h.0, kept_owed d.ord d.p u v u' v' t (λ (x : Term). Below d.ord x.monomial y.monomial) n h.1)) r s.under

  -- the greatest monomial stands below the rest
  below_rest : Dividing d lim q r u v → TakesNext d.ord d.p u u' v v' t → All (λ s. Below d.ord t.monomial s.monomial) r
  below_rest s n =
      All-weaker (λ (y : Term). All (λ x. Below d.ord x.monomial y.monomial) u × All (λ x. Below d.ord x.monomial y.monomial) v) (λ (y : Term). Below d.ord t.monomial y.monomial)
      (λ y h. greatest_all d lim q r u v u' v' t (λ (m : List ℕ). Below d.ord m y.monomial) n h.0 h.1) r s.under

  pub vector_here : Dividing d lim q r u v → TakesNext d.ord d.p u u' v v' t → length t.monomial ≡ d.n
  vector_here s n = greatest_all d lim q r u v u' v' t (λ (m : List ℕ). length m ≡ d.n) n (vectors_each d.n u s.unread_is.vectors) s.vectors

  pub degree_here : Dividing d lim q r u v → TakesNext d.ord d.p u u' v v' t → degree t.monomial ≤ lim
  degree_here s n = greatest_all d lim q r u v u' v' t (λ (m : List ℕ). degree m ≤ lim) n s.low.0 s.low.1

  pub size_here : Dividing d lim q r u v → TakesNext d.ord d.p u u' v v' t → d.p ≡ 0 → (unsigned_abs t.coefficient ≤ greatest_norm) × (norm r + (unsigned_abs t.coefficient + (norm u' + norm v')) ≤ norm d.f + norm q * norm d.g)
  size_here s n z =
      let k = size d.ord d.p u v u' v' t (subst (λ (p : ℕ). TakesNext d.ord p u u' v v' t) z n) in
      let w = s.weight z in
      let f : norm d.f + norm q * norm d.g ≤ greatest_norm = not_passed d q z s.within in
      (omega (arith, k, w, f), omega (arith, k, w))

  reduced_here : TakesNext d.ord d.p u u' v v' t → IsReduced d.p t.coefficient
  reduced_here n = ap (red d.p) n.sum ∙ red_red d.p _ ∙ sym n.sum

  -- ---- the coefficient is zero
  pub turn_zero : Dividing d lim q r u v → TakesNext d.ord d.p u u' v v' t → t.coefficient ≡ pos 0 → Dividing d lim q r u' v'
  turn_zero s n z = record {
    begun = s.begun;
    within = s.within;
    whole = λ y. s.whole y ∙ same y (alike t.monomial y) refl;
    rest = s.rest;
    outside = s.outside;
    under = under_left s n;
    unread_is = suffix_poly d.ord d.p d.n u n.read u' n.read_split s.unread_is;
    vectors = kept_owed d.ord d.p u v u' v' t (λ (x : Term). length x.monomial ≡ d.n) n s.vectors;
    low = (kept_unread d.ord d.p u v u' v' t (λ (x : Term). degree x.monomial ≤ lim) n s.low.0, kept_owed d.ord d.p u v u' v' t (λ (x : Term). degree x.monomial ≤ lim) n s.low.1, s.low.2);
    weight = λ e. let k = left_norms d.ord d.p u v u' v' t n in omega (arith, k.0, k.1, s.weight e);
  }
    where
      same : (y : List ℕ) (b : Bool) → alike t.monomial y ≡ b → red d.p ((total r y +ℤ total u y) +ℤ neg_ℤ (total v y)) ≡ red d.p ((total r y +ℤ total u' y) +ℤ neg_ℤ (total v' y))
      same y false e =
          let o = left_other d.ord d.p u v u' v' t n y (λ k. true≢false (sym (ap (λ (x : List ℕ). alike t.monomial x) (sym k) ∙ alike_self t.monomial) ∙ e)) in
          λ i. red d.p ((total r y +ℤ o.0 i) +ℤ neg_ℤ (o.1 i))
      same y true e =
          let k : t.monomial ≡ y = alike_same t.monomial y e in
          subst (λ (x : List ℕ). red d.p ((total r x +ℤ total u x) +ℤ neg_ℤ (total v x)) ≡ red d.p ((total r x +ℤ total u' x) +ℤ neg_ℤ (total v' x))) k
          (let h = left_here d.ord d.p u v u' v' t n in
          let g : red d.p (total u t.monomial +ℤ neg_ℤ (total v t.monomial)) ≡ red d.p (pos 0) = sym n.sum ∙ z ∙ sym (red_zero d.p) in
          ap (red d.p) (regroup (total r t.monomial) (total u t.monomial) (neg_ℤ (total v t.monomial)))
          ∙ red_add d.p (total r t.monomial) (total r t.monomial) (total u t.monomial +ℤ neg_ℤ (total v t.monomial)) (pos 0) refl g
          ∙ ap (red d.p) (omega (arith, ints, h.0, h.1)))

  -- ---- no turn is possible at a monomial that is out of scope, and it goes to the rest
  pub turn_kept : Dividing d lim q r u v → TakesNext d.ord d.p u u' v v' t → t.coefficient ≢ pos 0 → (InScope d.mode (lm d.g) t.monomial → ⊥) → Dividing d lim q (r ++ t ∷ []) u' v'
  turn_kept s n z o = record {
    begun = s.begun;
    within = s.within;
    whole = λ y. s.whole y ∙ same y (alike t.monomial y) refl;
    rest = poly_push d.ord d.p d.n r t s.rest (vector_here s n) (reduced_here n) z (below_rest s n);
    outside = All-push (λ (x : Term). InScope d.mode (lm d.g) x.monomial → ⊥) r t s.outside o;
    under = All-push (λ (y : Term). All (λ x. Below d.ord x.monomial y.monomial) u' × All (λ x. Below d.ord x.monomial y.monomial) v') r t (under_left s n) (each_below d.ord t.monomial u' n.read_below, each_below d.ord t.monomial v' n.handed_below);
    unread_is = suffix_poly d.ord d.p d.n u n.read u' n.read_split s.unread_is;
    vectors = kept_owed d.ord d.p u v u' v' t (λ (x : Term). length x.monomial ≡ d.n) n s.vectors;
    low = (kept_unread d.ord d.p u v u' v' t (λ (x : Term). degree x.monomial ≤ lim) n s.low.0, kept_owed d.ord d.p u v u' v' t (λ (x : Term). degree x.monomial ≤ lim) n s.low.1, All-push (λ (x : Term). degree x.monomial ≤ lim) r t s.low.2 (degree_here s n));
    weight = λ e. omega (arith, norm_append r (t ∷ []), norm_cons t [], norm_nil, (size_here s n e).1);
  }
    where
      more : (y : List ℕ) → total (r ++ t ∷ []) y ≡ total r y +ℤ total (t ∷ []) y
      more y = total_append r (t ∷ []) y

      same : (y : List ℕ) (b : Bool) → alike t.monomial y ≡ b → red d.p ((total r y +ℤ total u y) +ℤ neg_ℤ (total v y)) ≡ red d.p ((total (r ++ t ∷ []) y +ℤ total u' y) +ℤ neg_ℤ (total v' y))
      same y false e =
          let o = left_other d.ord d.p u v u' v' t n y (λ k. true≢false (sym (ap (λ (x : List ℕ). alike t.monomial x) (sym k) ∙ alike_self t.monomial) ∙ e)) in
          let w : total (t ∷ []) y ≡ pos 0 = total_one t y ∙ ap (λ b. cond b t.coefficient (pos 0)) e in
          ap (red d.p) (omega (arith, ints, o.0, o.1, more y, w))
      same y true e =
          let k : t.monomial ≡ y = alike_same t.monomial y e in
          subst (λ (x : List ℕ). red d.p ((total r x +ℤ total u x) +ℤ neg_ℤ (total v x)) ≡ red d.p ((total (r ++ t ∷ []) x +ℤ total u' x) +ℤ neg_ℤ (total v' x))) k
          (let h = left_here d.ord d.p u v u' v' t n in
          let w : total (t ∷ []) t.monomial ≡ t.coefficient = total_one t t.monomial ∙ ap (λ b. cond b t.coefficient (pos 0)) (alike_self t.monomial) in
          let g : red d.p (total u t.monomial +ℤ neg_ℤ (total v t.monomial)) ≡ red d.p t.coefficient = sym n.sum ∙ sym (reduced_here n) in
          ap (red d.p) (regroup (total r t.monomial) (total u t.monomial) (neg_ℤ (total v t.monomial)))
          ∙ red_add d.p (total r t.monomial) (total r t.monomial) (total u t.monomial +ℤ neg_ℤ (total v t.monomial)) t.coefficient refl g
          ∙ ap (red d.p) (omega (arith, ints, h.0, h.1, more t.monomial, w)))

-- ---- a quotient term is found
-- t1 takes away the coefficient at the greatest monomial
abbrev pub Fits : Division → Term → Term → Type 0
Fits d t t1 = IsTermQuotient d.p (lm d.g) (lc d.g) t t1

-- the terms of the divisor after the first
pub later : List Term → List Term
later [] = []
later (t ∷ g) = g

pub later_is : (g : List Term) → later g ≡ drop 1 g
unfolding later
later_is [] = refl
later_is (t ∷ g) = refl

first_and_later : (t1 : Term) (g : List Term) (y : List ℕ) → g ≢ [] → total (row t1 g) y ≡ total (record { monomial = t1.monomial ⋅ lm g; coefficient = t1.coefficient *ℤ lc g } ∷ []) y +ℤ total (row t1 (later g)) y
unfolding row term_times lm lc later
first_and_later t1 [] y n = absurd (n refl)
first_and_later t1 (s ∷ g) y n = total_cons (term_times t1 s) (row t1 g) y

zero_times : (a b : ℕ) → a ≡ 0 → a * b ≡ 0
zero_times zero b e = omega arith
zero_times (suc a) b e = absurd (omega (arith, e))

row_each : (P : List ℕ → Type 0) (t1 : Term) (B : List Term) → All (λ s. P (t1.monomial ⋅ s.monomial)) B → All (λ s. P s.monomial) (row t1 B)
unfolding row term_times
row_each P t1 [] h = All-nil _
row_each P t1 (s ∷ B) h = All-cons (λ (x : Term). P x.monomial) (term_times t1 s) (row t1 B) (All-head (λ (x : Term). P (t1.monomial ⋅ x.monomial)) s B h) (row_each P t1 B (All-tail (λ (x : Term). P (t1.monomial ⋅ x.monomial)) s B h))

times_push : (q : List Term) (t1 : Term) (g : List Term) (y : List ℕ) → total (times (q ++ t1 ∷ []) g) y ≡ total (times q g) y +ℤ total (row t1 g) y
unfolding times
times_push q t1 g y = ap (λ (A : List Term). total A y) (times_append_left q (t1 ∷ []) g) ∙ total_append (times q g) (row t1 g ++ []) y ∙ ap (λ (A : List Term). total (times q g) y +ℤ total A y) (append-nil (row t1 g))

-- the later terms of a divisor
later_below : (ord : Order) (p n : ℕ) (g : List Term) → IsPoly ord p n g → All (λ s. Below ord s.monomial (lm g)) (later g)
unfolding lm later
later_below ord p n [] i = All-nil _
later_below ord p n (t ∷ g) i = each_below ord t.monomial g (head_facts ord p n t g i).1

later_vectors : (n : ℕ) (g : List Term) → Over n g → All (λ s. length s.monomial ≡ n) (later g)
unfolding later
later_vectors n [] o = All-nil _
later_vectors n (t ∷ g) o = All-tail (λ (u : Term). length u.monomial ≡ n) t g (vectors_each n (t ∷ g) o)

later_norm : (g : List Term) → norm (later g) ≤ norm g
unfolding later
later_norm [] = omega arith
later_norm (t ∷ g) = omega (arith, norm_cons t g)

All-both : (P Q R : Term → Type 0) → ((x : Term) → P x → Q x → R x) → (A : List Term) → All P A → All Q A → All R A
All-both P Q R f [] h k = All-nil R
All-both P Q R f (s ∷ A) h k = All-cons R s A (f s (All-head P s A h) (All-head Q s A k)) (All-both P Q R f A (All-tail P s A h) (All-tail Q s A k))

-- the products of a found term and the later terms of the divisor
module _ (d : Division) (lim : ℕ) (t t1 : Term) where
  found_at : Fits d t t1 → (t1.monomial ⋅ lm d.g) ≡ t.monomial
  found_at f = ap (λ (m : List ℕ). m ⋅ lm d.g) f.at ∙ over_times t.monomial (lm d.g) f.divides

  pub found_vector : Fits d t t1 → length t.monomial ≡ d.n → length t1.monomial ≡ d.n
  found_vector f l = ap length f.at ∙ length_over t.monomial (lm d.g) f.divides ∙ l

  products : IsAccepted d → Fits d t t1 → length t.monomial ≡ d.n → All (λ s. Below d.ord s.monomial t.monomial × (length s.monomial ≡ d.n)) (row t1 (later d.g))
  products a f l =
      row_each (λ (m : List ℕ). Below d.ord m t.monomial × (length m ≡ d.n)) t1 (later d.g)
      (All-both (λ (s : Term). Below d.ord s.monomial (lm d.g)) (λ (s : Term). length s.monomial ≡ d.n) (λ (s : Term). Below d.ord (t1.monomial ⋅ s.monomial) t.monomial × (length (t1.monomial ⋅ s.monomial) ≡ d.n))
      (λ s b k. (subst (λ (m : List ℕ). Below d.ord (t1.monomial ⋅ s.monomial) m) (found_at f) (below_left d.ord s.monomial (lm d.g) t1.monomial (k ∙ sym (length_lm d a)) b), length_times t1.monomial s.monomial (found_vector f l ∙ sym k) ∙ found_vector f l))
      (later d.g) (later_below d.ord d.p d.n d.g a.divisor) (later_vectors d.n d.g a.divisor.vectors))

shuffle : (x u v p l : ℤ) → ((x +ℤ u) +ℤ neg_ℤ v) +ℤ (neg_ℤ p +ℤ neg_ℤ l) ≡ ((u +ℤ neg_ℤ v) +ℤ neg_ℤ p) +ℤ (x +ℤ neg_ℤ l)
shuffle x u v p l = omega (arith, ints)

module _ (d : Division) (lim : ℕ) (q r u v u' v' : List Term) (t t1 : Term) where
  turn_of : IsAccepted d → Dividing d lim q r u v → TakesNext d.ord d.p u u' v v' t → t.coefficient ≢ pos 0 → Fits d t t1 → Turn d (minus d.f (times q d.g)) t1
  turn_of a s n z f =
      let e : (t1.monomial ⋅ lm d.g) ≡ t.monomial = found_at d lim t t1 f in
      let h : coef d.p (minus d.f (times q d.g)) (t1.monomial ⋅ lm d.g) ≡ t.coefficient = ap (λ (m : List ℕ). coef d.p (minus d.f (times q d.g)) m) e ∙ coefficient_here d lim q r u v u' v' t s n (divides_scope d.mode (lm d.g) t.monomial f.divides) in
      record {
        vector = found_vector d lim t t1 f (vector_here d lim q r u v u' v' t s n);
        reduced = f.reduced;
        present = λ k. z (sym h ∙ k);
        fits = f.product ∙ sym h;
        top = λ m l c b. nothing_above d lim q r u v u' v' t s n m c (subst (λ (x : List ℕ). Below d.ord x m) e b);
      }

  pub found_begun : IsAccepted d → Dividing d lim q r u v → TakesNext d.ord d.p u u' v v' t → t.coefficient ≢ pos 0 → Fits d t t1 → IsPrefix (q ++ t1 ∷ []) (quotient_list d)
  found_begun a s n z f = begins_prefix d (q ++ t1 ∷ []) a (Turns-push d d.f q t1 (prefix_begins d q a s.begun) (turn_of a s n z f))

  pub turn_found : IsAccepted d → Dividing d lim q r u v → TakesNext d.ord d.p u u' v v' t → t.coefficient ≢ pos 0 → Fits d t t1 → (PassesBound d (q ++ t1 ∷ []) → ⊥) → (w : List Term) → IsPermutation (v' ++ row t1 (later d.g)) w → Dividing d lim (q ++ t1 ∷ []) r u' w
  turn_found a s n z f b w pw = record {
    begun = found_begun a s n z f;
    within = b;
    whole = whole;
    rest = s.rest;
    outside = s.outside;
    under = All-both (λ (y : Term). All (λ x. Below d.ord x.monomial y.monomial) u' × All (λ x. Below d.ord x.monomial y.monomial) v') (λ (y : Term). Below d.ord t.monomial y.monomial)
        (λ (y : Term). All (λ x. Below d.ord x.monomial y.monomial) u' × All (λ x. Below d.ord x.monomial y.monomial) w)
        (λ y h k. (h.0, new (λ (m : List ℕ). Below d.ord m y.monomial) h.1 (λ x i. (order_facts d.ord).transitive x t.monomial y.monomial i.0 k))) r (under_left d lim q r u v u' v' t s n) (below_rest d lim q r u v u' v' t s n);
    unread_is = suffix_poly d.ord d.p d.n u n.read u' n.read_split s.unread_is;
    vectors = new (λ (m : List ℕ). length m ≡ d.n) (kept_owed d.ord d.p u v u' v' t (λ (x : Term). length x.monomial ≡ d.n) n s.vectors) (λ x i. i.1);
    low = (
      kept_unread d.ord d.p u v u' v' t (λ (x : Term). degree x.monomial ≤ lim) n s.low.0,
      new (λ (m : List ℕ). degree m ≤ lim) (kept_owed d.ord d.p u v u' v' t (λ (x : Term). degree x.monomial ≤ lim) n s.low.1) (λ x i. omega (arith, below_degree d.ord x t.monomial i.0, degree_here d lim q r u v u' v' t s n)),
      s.low.2,
    );
    weight = λ e. heavy (size_here d lim q r u v u' v' t s n e).1;
  }
    where
      new : (P : List ℕ → Type 0) → All (λ x. P x.monomial) v' → ((x : List ℕ) → Below d.ord x t.monomial × (length x ≡ d.n) → P x) → All (λ x. P x.monomial) w
      new P h k =
          All-permutation (λ (x : Term). P x.monomial) (v' ++ row t1 (later d.g)) w pw
          (All-append (λ (x : Term). P x.monomial) v' (row t1 (later d.g)) h
          (All-weaker (λ (x : Term). Below d.ord x.monomial t.monomial × (length x.monomial ≡ d.n)) (λ (x : Term). P x.monomial) (λ x i. k x.monomial i) (row t1 (later d.g)) (products d lim t t1 a f (vector_here d lim q r u v u' v' t s n))))

      heavy : norm r + (unsigned_abs t.coefficient + (norm u' + norm v')) ≤ norm d.f + norm q * norm d.g → norm r + (norm u' + norm w) ≤ norm d.f + norm (q ++ t1 ∷ []) * norm d.g
      heavy k =
          let nw : norm w ≡ norm v' + unsigned_abs t1.coefficient * norm (later d.g) = norm_permutation (v' ++ row t1 (later d.g)) w pw ∙ norm_append v' (row t1 (later d.g)) ∙ ap (λ (x : ℕ). norm v' + x) (norm_row t1 (later d.g)) in
          let nq : norm (q ++ t1 ∷ []) ≡ norm q + unsigned_abs t1.coefficient = omega (arith, norm_append q (t1 ∷ []), norm_cons t1 [], norm_nil) in
          let m : unsigned_abs t1.coefficient * norm (later d.g) ≤ unsigned_abs t1.coefficient * norm d.g = mul-le-mul_left (unsigned_abs t1.coefficient) (later_norm d.g) in
          let p : norm (q ++ t1 ∷ []) * norm d.g ≡ norm q * norm d.g + unsigned_abs t1.coefficient * norm d.g = ap (λ (x : ℕ). x * norm d.g) nq ∙ add-mul (norm q) (unsigned_abs t1.coefficient) (norm d.g) in
          omega (arith, k, nw, m, p)

      lead : Term
      lead = record { monomial = t1.monomial ⋅ lm d.g; coefficient = t1.coefficient *ℤ lc d.g }

      taken : (y : List ℕ) (b : Bool) → alike t.monomial y ≡ b → red d.p ((total u y +ℤ neg_ℤ (total v y)) +ℤ neg_ℤ (total (lead ∷ []) y)) ≡ red d.p (total u' y +ℤ neg_ℤ (total v' y))
      taken y false e =
          let o = left_other d.ord d.p u v u' v' t n y (λ k. true≢false (sym (ap (λ (x : List ℕ). alike t.monomial x) (sym k) ∙ alike_self t.monomial) ∙ e)) in
          let w0 : total (lead ∷ []) y ≡ pos 0 = total_one lead y ∙ ap (λ (m : List ℕ). cond (alike m y) lead.coefficient (pos 0)) (found_at d lim t t1 f) ∙ ap (λ b. cond b lead.coefficient (pos 0)) e in
          ap (red d.p) (omega (arith, ints, o.0, o.1, w0))
      taken y true e =
          let k : t.monomial ≡ y = alike_same t.monomial y e in
          subst (λ (x : List ℕ). red d.p ((total u x +ℤ neg_ℤ (total v x)) +ℤ neg_ℤ (total (lead ∷ []) x)) ≡ red d.p (total u' x +ℤ neg_ℤ (total v' x))) k
          (let h = left_here d.ord d.p u v u' v' t n in
          let w0 : total (lead ∷ []) t.monomial ≡ t1.coefficient *ℤ lc d.g = total_one lead t.monomial ∙ ap (λ (m : List ℕ). cond (alike m t.monomial) lead.coefficient (pos 0)) (found_at d lim t t1 f) ∙ ap (λ b. cond b lead.coefficient (pos 0)) (alike_self t.monomial) in
          let g : red d.p (total u t.monomial +ℤ neg_ℤ (total v t.monomial)) ≡ red d.p (total (lead ∷ []) t.monomial) = sym n.sum ∙ sym f.product ∙ ap (red d.p) (sym w0) in
          red_add d.p (total u t.monomial +ℤ neg_ℤ (total v t.monomial)) (total (lead ∷ []) t.monomial) (neg_ℤ (total (lead ∷ []) t.monomial)) (neg_ℤ (total (lead ∷ []) t.monomial)) g refl
          ∙ ap (red d.p) (omega (arith, ints, h.0, h.1)))

      whole : (y : List ℕ) → red d.p (total (minus d.f (times (q ++ t1 ∷ []) d.g)) y) ≡ red d.p ((total r y +ℤ total u' y) +ℤ neg_ℤ (total w y))
      whole y =
          let one : total (minus d.f (times (q ++ t1 ∷ []) d.g)) y ≡ total (minus d.f (times q d.g)) y +ℤ (neg_ℤ (total (lead ∷ []) y) +ℤ neg_ℤ (total (row t1 (later d.g)) y)) =
          omega (arith, ints, total_minus d.f (times (q ++ t1 ∷ []) d.g) y, total_minus d.f (times q d.g) y, times_push q t1 d.g y, first_and_later t1 d.g y a.nonzero) in
          let ww : total w y ≡ total v' y +ℤ total (row t1 (later d.g)) y = total_permutation y (v' ++ row t1 (later d.g)) w pw ∙ total_append v' (row t1 (later d.g)) y in
          ap (red d.p) one
          ∙ red_add d.p (total (minus d.f (times q d.g)) y) ((total r y +ℤ total u y) +ℤ neg_ℤ (total v y)) (neg_ℤ (total (lead ∷ []) y) +ℤ neg_ℤ (total (row t1 (later d.g)) y)) (neg_ℤ (total (lead ∷ []) y) +ℤ neg_ℤ (total (row t1 (later d.g)) y)) (s.whole y) refl
          ∙ ap (red d.p) (shuffle (total r y) (total u y) (total v y) (total (lead ∷ []) y) (total (row t1 (later d.g)) y))
          ∙ red_add d.p ((total u y +ℤ neg_ℤ (total v y)) +ℤ neg_ℤ (total (lead ∷ []) y)) (total u' y +ℤ neg_ℤ (total v' y)) (total r y +ℤ neg_ℤ (total (row t1 (later d.g)) y)) (total r y +ℤ neg_ℤ (total (row t1 (later d.g)) y)) (taken y (alike t.monomial y) refl) refl
          ∙ ap (red d.p) (omega (arith, ints, ww))

-- ---- how a division begins
pub begins : (d : Division) (lim : ℕ) → IsAccepted d → (d.p ≡ 0 → norm d.f ≤ greatest_norm) → All (λ t. degree t.monomial ≤ lim) d.f → Dividing d lim [] [] d.f []
unfolding times
begins d lim a b l = record {
  begun = (quotient_list d, refl);
  within = none_passed;
  whole = λ m. ap (red d.p) (omega (arith, ints, total_minus d.f [] m, total_nil m));
  rest = nil_poly d.ord d.p d.n;
  outside = All-nil _;
  under = All-nil _;
  unread_is = a.dividend;
  vectors = All-nil _;
  low = (l, All-nil _, All-nil _);
  weight = λ z. omega (arith, norm_nil, zero_times (norm []) (norm d.g) norm_nil);
}
  where
    none_passed : PassesBound d [] → ⊥
    none_passed (inl h) = omega (arith, h.over, zero_times (norm []) (norm d.g) norm_nil, b h.integers)
    none_passed (inr h) = omega (arith, h)

-- ---- how a division ends
no_scope_exact : (l : List ℕ) (r : List Term) → All (λ s. InScope Exact l s.monomial → ⊥) r → r ≡ []
unfolding InScope
no_scope_exact l [] h = refl
no_scope_exact l (s ∷ r) h = absurd (All-head (λ (x : Term). Unit {0} → ⊥) s r h tt)

none_divisible : (l : List ℕ) (r : List Term) → All (λ s. InScope Remainder l s.monomial → ⊥) r → NoneDivisible l r
unfolding NoneDivisible InScope
none_divisible l [] h = tt
none_divisible l (s ∷ r) h = (All-head (λ (x : Term). Divides l x.monomial → ⊥) s r h, none_divisible l r (All-tail (λ (x : Term). Divides l x.monomial → ⊥) s r h))

-- no front passes a bound that the whole list of quotient terms doesn't pass
pub list_within : (d : Division) → IsAccepted d → (PassesBound d (quotient_list d) → ⊥) → IsWithin d
list_within d a b = record {
  accepted = a;
  fits = λ h. b (passes_grows d h.front (quotient_list d) ((fronts_unique d a).1 h.front h.is) (inl h.over));
  short = λ h. b (passes_grows d h.front (quotient_list d) ((fronts_unique d a).1 h.front h.is) (inr (many h.front h.many)));
}
  where
    many : (q : List Term) → length q ≡ quotient_terms_limit → quotient_terms_limit ≤ length q
    many q e = subst (λ (n : ℕ). n ≤ length q) e (self (length q))
      where
        self : (n : ℕ) → n ≤ n
        self n = omega arith

module _ (d : Division) (lim : ℕ) (q r : List Term) where
  done_same : Dividing d lim q r [] [] → Same d.p d.f (times q d.g ++ r)
  done_same s = from_total d.p d.f (times q d.g ++ r) (λ m.
      ap (red d.p) (let k = total_minus d.f (times q d.g) m in omega (arith, ints, k))
      ∙ red_add d.p (total (minus d.f (times q d.g)) m) (total r m) (total (times q d.g) m) (total (times q d.g) m) (s.whole m ∙ ap (red d.p) (omega (arith, ints, total_nil m))) refl
      ∙ ap (red d.p) (omega (arith, ints, total_append (times q d.g) r m)))

  quotient_poly : IsAccepted d → Dividing d lim q r [] [] → IsPoly d.ord d.p d.n q
  quotient_poly a s = turns_poly d d.f q a (prefix_begins d q a s.begun)

  done_list : IsAccepted d → Dividing d lim q r [] [] → q ≡ quotient_list d
  unfolding coef
  done_list a s =
      quotient_list_unique d q (quotient_list d) a (record { turns = prefix_begins d q a s.begun; ends = λ x turn. turn.present (clear (x.monomial ⋅ lm d.g) (in_scope d.mode x.monomial (lm d.g) (turn.vector ∙ sym (length_lm d a)))) }) (quotient_list_is d a)
    where
      clear : (m : List ℕ) → InScope d.mode (lm d.g) m → red d.p (total (minus d.f (times q d.g)) m) ≡ pos 0
      clear m c =
          let z = total_none m r (All-weaker (λ (x : Term). InScope d.mode (lm d.g) x.monomial → ⊥) (λ (x : Term). x.monomial ≡ m → ⊥) (λ x o e. o (subst (λ (y : List ℕ). InScope d.mode (lm d.g) y) (sym e) c)) r s.outside) in
          s.whole m ∙ ap (red d.p) (omega (arith, ints, z, total_nil m)) ∙ red_zero d.p

  pub done_within : IsAccepted d → Dividing d lim q r [] [] → IsWithin d
  done_within a s = list_within d a (subst (λ (x : List Term). PassesBound d x → ⊥) (done_list a s) s.within)

  pub done_exact : IsAccepted d → Dividing d lim q r [] [] → d.mode ≡ Exact → IsExact d q × (r ≡ [])
  done_exact a s m =
      let e : r ≡ [] = no_scope_exact (lm d.g) r (subst (λ (y : Mode). All (λ x. InScope y (lm d.g) x.monomial → ⊥) r) m s.outside) in
      (record { quotient = quotient_poly a s; same = subst (λ (A : List Term). Same d.p d.f A) (ap (λ (A : List Term). times q d.g ++ A) e ∙ append-nil (times q d.g)) (done_same s) }, e)

  pub done_remainder : IsAccepted d → Dividing d lim q r [] [] → d.mode ≡ Remainder → IsRem d q r
  done_remainder a s m = record {
    quotient = quotient_poly a s;
    remainder = s.rest;
    same = done_same s;
    none_divisible = none_divisible (lm d.g) r (subst (λ (y : Mode). All (λ x. InScope y (lm d.g) x.monomial → ⊥) r) m s.outside);
  }

-- ---- no term fits in an exact division
module _ (d : Division) (lim : ℕ) (q r u v u' v' : List Term) (t : Term) where
  exact_scope : (mode : Mode) (l m : List ℕ) → mode ≡ Exact → InScope mode l m
  exact_scope mode l m e = subst (λ (y : Mode). InScope y l m) (sym e) (all_in_scope l m)

  ended : IsAccepted d → Dividing d lim q r u v → TakesNext d.ord d.p u u' v v' t → d.mode ≡ Exact → t.coefficient ≢ pos 0 → ((t1 : Term) → Fits d t t1 → ⊥) → Ends d (minus d.f (times q d.g))
  ended a s n m z none x turn = pick (below_total d.ord (x.monomial ⋅ lm d.g) t.monomial (lx ∙ sym (vector_here d lim q r u v u' v' t s n)))
    where
      lg : length x.monomial ≡ length (lm d.g)
      lg = turn.vector ∙ sym (length_lm d a)

      lx : length (x.monomial ⋅ lm d.g) ≡ d.n
      lx = length_times x.monomial (lm d.g) lg ∙ turn.vector

      here : coef d.p (minus d.f (times q d.g)) t.monomial ≡ t.coefficient
      here = coefficient_here d lim q r u v u' v' t s n (exact_scope d.mode (lm d.g) t.monomial m)

      pick : Three (Below d.ord (x.monomial ⋅ lm d.g) t.monomial) ((x.monomial ⋅ lm d.g) ≡ t.monomial) (Below d.ord t.monomial (x.monomial ⋅ lm d.g)) → ⊥
      pick (is_less b) = z (sym here ∙ turn.top t.monomial (vector_here d lim q r u v u' v' t s n) (exact_scope d.mode (lm d.g) t.monomial m) b)
      pick (is_equal e) = none x (record {
        divides = subst (λ (y : List ℕ). Divides (lm d.g) y) e (divides_times x.monomial (lm d.g) lg);
        at = times_cancel x.monomial (over t.monomial (lm d.g)) (lm d.g) (turn.vector ∙ sym (length_over t.monomial (lm d.g) (subst (λ (y : List ℕ). Divides (lm d.g) y) e (divides_times x.monomial (lm d.g) lg)) ∙ vector_here d lim q r u v u' v' t s n))
            (e ∙ sym (over_times t.monomial (lm d.g) (subst (λ (y : List ℕ). Divides (lm d.g) y) e (divides_times x.monomial (lm d.g) lg))));
        reduced = turn.reduced;
        product = turn.fits ∙ ap (λ (y : List ℕ). coef d.p (minus d.f (times q d.g)) y) e ∙ here;
      })
      pick (is_greater b) = turn.present (nothing_above d lim q r u v u' v' t s n (x.monomial ⋅ lm d.g) (exact_scope d.mode (lm d.g) (x.monomial ⋅ lm d.g) m) b)

  ended_list : IsAccepted d → Dividing d lim q r u v → Ends d (minus d.f (times q d.g)) → q ≡ quotient_list d
  ended_list a s e = quotient_list_unique d q (quotient_list d) a (record { turns = prefix_begins d q a s.begun; ends = e }) (quotient_list_is d a)

  pub none_fits : IsAccepted d → Dividing d lim q r u v → TakesNext d.ord d.p u u' v v' t → d.mode ≡ Exact → t.coefficient ≢ pos 0 → ((t1 : Term) → Fits d t t1 → ⊥) → IsWithin d × ((x : List Term) → IsExact d x → ⊥)
  unfolding coef
  none_fits a s n m z none =
      let l = ended_list a s (ended a s n m z none) in (
        list_within d a (subst (λ (x : List Term). PassesBound d x → ⊥) l s.within),
        λ x e.
            let k : x ≡ q = exact_is_list d x a e ∙ sym l in
            let f : Same d.p (minus d.f (times q d.g)) [] = left_is_rest d.p d.f (times q d.g) [] (subst (λ (A : List Term). Same d.p d.f A) (ap (λ (y : List Term). times y d.g) k ∙ sym (append-nil (times q d.g))) e.same) in
            z (sym (coefficient_here d lim q r u v u' v' t s n (exact_scope d.mode (lm d.g) t.monomial m)) ∙ f.at t.monomial ∙ ap (red d.p) (total_nil t.monomial) ∙ red_zero d.p),
      )

-- ---- a found term passes a bound
module _ (d : Division) (q : List Term) (t1 : Term) where
  push_nonempty : q ++ t1 ∷ [] ≢ []
  push_nonempty e = omega (arith, ap length e, length_push q t1)

  front_push : IsAccepted d → IsPrefix (q ++ t1 ∷ []) (quotient_list d) → IsFront d (q ++ t1 ∷ [])
  front_push a i = (fronts_unique d a).2 (q ++ t1 ∷ []) push_nonempty i

  under_limit : (k n : ℕ) → (k ≤ n → ⊥) → n < k
  under_limit k n h = pick (ltb n k) refl
    where
      pick : (b : Bool) → ltb n k ≡ b → n < k
      pick true e = ltb-true n k e
      pick false e = absurd (h (ltb-false n k e))

  few : (k : ℕ) → (k ≤ length q → ⊥) → length (q ++ t1 ∷ []) ≤ k
  few k h = omega (arith, under_limit k (length q) h, length_push q t1)

  pub passes_now : IsAccepted d → IsPrefix (q ++ t1 ∷ []) (quotient_list d) → (PassesBound d q → ⊥) → Passes d (q ++ t1 ∷ []) → PassesEarly d
  passes_now a i b h = record { front = q ++ t1 ∷ []; is = front_push a i; few = few quotient_terms_limit (λ l. b (inr l)); over = h }

  -- a front of at most as many terms begins it
  shorter : IsAccepted d → IsPrefix (q ++ t1 ∷ []) (quotient_list d) → (x : List Term) → IsFront d x → length x ≤ length (q ++ t1 ∷ []) → IsPrefix x (q ++ t1 ∷ [])
  shorter a i x f l = turns_agree d d.f x (q ++ t1 ∷ []) a (prefix_begins d x a ((fronts_unique d a).1 x f)) (prefix_begins d (q ++ t1 ∷ []) a i) l

  pub long_now : IsAccepted d → IsPrefix (q ++ t1 ∷ []) (quotient_list d) → (Passes d (q ++ t1 ∷ []) → ⊥) → length (q ++ t1 ∷ []) ≡ quotient_terms_limit → (PassesEarly d → ⊥) × IsLong d
  long_now a i p e =
      ((λ h. not_early h), record { front = q ++ t1 ∷ []; is = front_push a i; many = e })
    where
      not_early : PassesEarly d → ⊥
      not_early h = p (grown h.front (shorter a i h.front h.is (subst (λ (n : ℕ). length h.front ≤ n) (sym e) h.few)) h.over)
        where
          grown : (x : List Term) → IsPrefix x (q ++ t1 ∷ []) → Passes d x → Passes d (q ++ t1 ∷ [])
          grown x j k =
              record { integers = k.integers; over = omega (arith, k.over, mul-le-mul_right (norm d.g) (norm_prefix x (q ++ t1 ∷ []) j)) }

  -- and where it passes none, it passes neither bound
  pub passes_none : (Passes d (q ++ t1 ∷ []) → ⊥) → (PassesBound d q → ⊥) → (length (q ++ t1 ∷ []) ≢ quotient_terms_limit) → PassesBound d (q ++ t1 ∷ []) → ⊥
  passes_none p b n h = pick h
    where
      equal : (k m : ℕ) → m ≤ k → k ≤ m → m ≡ k
      equal k m a c = omega arith

      pick : PassesBound d (q ++ t1 ∷ []) → ⊥
      pick (inl k) = p k
      pick (inr k) = n (equal quotient_terms_limit (length (q ++ t1 ∷ [])) (few quotient_terms_limit (λ l. b (inr l))) k)
