-- Sums of products of quotients and divisors, the leading term of one product, and what lists of terms keep.
use Rattle.std.proofs.Common.{◌≡◌, ℕ, Bool, true, false, cond, List, [], ◌∷◌, ◌++◌, length, ℤ, pos, ◌+ℤ◌, ◌*ℤ◌, neg_ℤ, refl, sym, ap, ◌∙◌, All}
use Rattle.std.proofs.lemmas.List.Elements.{All-nil, All-cons, All-head, All-tail, All-append}
use Rattle.sdmp_laws.specs.Order.{Order, ◌⋅◌, alike, Below, is_below}
use Rattle.sdmp_laws.specs.Ring.{red, IsUnit}
use Rattle.sdmp_laws.specs.Poly.{Term, total, term_times, row, times, term_neg, negated, minus, Over, AllBelow, IsPoly, is_zero, keep, term_plus, put, terms}
use Rattle.sdmp_laws.proofs.Ints.{red_mul, mul_assoc, mul_one, add_zero}
use Rattle.sdmp_laws.proofs.OrderLemmas.{order_facts}
use Rattle.sdmp_laws.proofs.TermsLemmas.{total_at_head, total_above, AllBelow-up, below_cons, head_facts, tail_poly}
use Rattle.sdmp_laws.proofs.DivisionLemmas.{AllBelow-append, row_below}

-- ---- the list of terms of a sum has its monomials alone
module _ (P : List ℕ → Type 0) where
  all_negated : (A : List Term) → All (λ t. P t.monomial) A → All (λ t. P t.monomial) (negated A)
  unfolding negated term_neg
  all_negated [] h = All-nil _
  all_negated (t ∷ A) h = All-cons (λ (x : Term). P x.monomial) (record { monomial = t.monomial; coefficient = neg_ℤ t.coefficient }) (negated A) (All-head (λ (x : Term). P x.monomial) t A h) (all_negated A (All-tail (λ (x : Term). P x.monomial) t A h))

  pub all_minus : (A B : List Term) → All (λ t. P t.monomial) A → All (λ t. P t.monomial) B → All (λ t. P t.monomial) (minus A B)
  unfolding minus
  all_minus A B h k = All-append (λ (x : Term). P x.monomial) A (negated B) h (all_negated B k)

  all_keep : (p : ℕ) (t : Term) (L : List Term) → P t.monomial → All (λ s. P s.monomial) L → All (λ s. P s.monomial) (keep p t L)
  unfolding keep
  all_keep p t L h k = pick (is_zero (red p t.coefficient))
    where
      pick : (b : Bool) → All (λ s. P s.monomial) (cond b L (record { monomial = t.monomial; coefficient = red p t.coefficient } ∷ L))
      pick true = k
      pick false = All-cons (λ (x : Term). P x.monomial) (record { monomial = t.monomial; coefficient = red p t.coefficient }) L h k

  all_put : (ord : Order) (p : ℕ) (t : Term) (L : List Term) → P t.monomial → All (λ s. P s.monomial) L → All (λ s. P s.monomial) (put ord p t L)
  unfolding put term_plus
  all_put ord p t [] h k = all_keep p t [] h k
  all_put ord p t (u ∷ L) h k = pick (all_put ord p t L h (All-tail (λ (x : Term). P x.monomial) u L k)) (alike t.monomial u.monomial) (is_below ord u.monomial t.monomial)
    where
      pick : All (λ s. P s.monomial) (put ord p t L) → (b c : Bool) → All (λ s. P s.monomial) (cond b (keep p (term_plus t u) L) (cond c (keep p t (u ∷ L)) (u ∷ put ord p t L)))
      pick ih true c = all_keep p (term_plus t u) L (All-head (λ (x : Term). P x.monomial) u L k) (All-tail (λ (x : Term). P x.monomial) u L k)
      pick ih false true = all_keep p t (u ∷ L) h k
      pick ih false false = All-cons (λ (x : Term). P x.monomial) u (put ord p t L) (All-head (λ (x : Term). P x.monomial) u L k) ih

  pub all_terms : (ord : Order) (p : ℕ) (F : List Term) → All (λ t. P t.monomial) F → All (λ t. P t.monomial) (terms ord p F)
  unfolding terms
  all_terms ord p [] h = All-nil _
  all_terms ord p (t ∷ F) h = all_put ord p t (terms ord p F) (All-head (λ (x : Term). P x.monomial) t F h) (all_terms ord p F (All-tail (λ (x : Term). P x.monomial) t F h))

-- ---- the leading term of a product
-- the products of the terms of Q stand below t*lm(g), for t above Q
times_below : (ord : Order) (p n : ℕ) (t u : Term) (Q g : List Term) → length t.monomial ≡ n → Over n Q → AllBelow ord t.monomial Q → IsPoly ord p n (u ∷ g) → AllBelow ord (t.monomial ⋅ u.monomial) (times Q (u ∷ g))
unfolding AllBelow Over times row term_times
times_below ord p n t u [] g l o h a = tt
times_below ord p n t u (s ∷ Q) g l o h a =
    let f = head_facts ord p n u g a in
    let x : Below ord (s.monomial ⋅ u.monomial) (t.monomial ⋅ u.monomial) = (order_facts ord).compatible s.monomial t.monomial u.monomial (o.0 ∙ sym l) h.0 in
    AllBelow-append ord (t.monomial ⋅ u.monomial) (row s (u ∷ g)) (times Q (u ∷ g))
    (x, AllBelow-up ord (s.monomial ⋅ u.monomial) (t.monomial ⋅ u.monomial) (row s g) x (row_below ord n s u.monomial g f.0 a.vectors.1 f.1))
    (times_below ord p n t u Q g l o.1 h.1 a)

-- the other products of the terms of t ∷ Q and of u ∷ g
others : Term → List Term → Term → List Term → List Term
others t Q u g = row t g ++ times Q (u ∷ g)

others_below : (ord : Order) (p n : ℕ) (t u : Term) (Q g : List Term) → IsPoly ord p n (t ∷ Q) → IsPoly ord p n (u ∷ g) → AllBelow ord (t.monomial ⋅ u.monomial) (others t Q u g)
unfolding others
others_below ord p n t u Q g i a =
    let k = head_facts ord p n t Q i in
    let f = head_facts ord p n u g a in
    AllBelow-append ord (t.monomial ⋅ u.monomial) (row t g) (times Q (u ∷ g))
    (row_below ord n t u.monomial g f.0 (tail_poly ord p n u g a).vectors f.1)
    (times_below ord p n t u Q g k.0 (tail_poly ord p n t Q i).vectors k.1 a)

first_product : (t u : Term) (Q g : List Term) → times (t ∷ Q) (u ∷ g) ≡ record { monomial = t.monomial ⋅ u.monomial; coefficient = t.coefficient *ℤ u.coefficient } ∷ others t Q u g
unfolding times row term_times others
first_product t u Q g = refl

-- the product of the leading terms stands alone at its monomial
pub total_lead : (ord : Order) (p n : ℕ) (t u : Term) (Q g : List Term) → IsPoly ord p n (t ∷ Q) → IsPoly ord p n (u ∷ g) → total (times (t ∷ Q) (u ∷ g)) (t.monomial ⋅ u.monomial) ≡ t.coefficient *ℤ u.coefficient
total_lead ord p n t u Q g i a =
    let x = t.monomial ⋅ u.monomial in
    ap (λ (A : List Term). total A x) (first_product t u Q g)
    ∙ total_at_head (record { monomial = x; coefficient = t.coefficient *ℤ u.coefficient }) (others t Q u g)
    ∙ ap (λ (z : ℤ). t.coefficient *ℤ u.coefficient +ℤ z) (total_above ord x (others t Q u g) (others_below ord p n t u Q g i a))
    ∙ add_zero (t.coefficient *ℤ u.coefficient)

-- and nothing of the product stands above
pub total_over_lead : (ord : Order) (p n : ℕ) (t u : Term) (Q g : List Term) (m : List ℕ) → IsPoly ord p n (t ∷ Q) → IsPoly ord p n (u ∷ g) → Below ord (t.monomial ⋅ u.monomial) m → total (times (t ∷ Q) (u ∷ g)) m ≡ pos 0
total_over_lead ord p n t u Q g m i a b =
    let x = t.monomial ⋅ u.monomial in
    ap (λ (A : List Term). total A m) (first_product t u Q g)
    ∙ total_above ord m (record { monomial = x; coefficient = t.coefficient *ℤ u.coefficient } ∷ others t Q u g)
    (below_cons ord m (record { monomial = x; coefficient = t.coefficient *ℤ u.coefficient }) (others t Q u g) b (others_below ord p n t u Q g i a))

-- a unit cancels
pub unit_cancels : (p : ℕ) (c u v : ℤ) → IsUnit p c → red p (u *ℤ c) ≡ red p (v *ℤ c) → red p u ≡ red p v
unit_cancels p c u v i e =
    let w = i.1.0 in
    let back = λ (x : ℤ). sym (ap (red p) (mul_assoc x c w) ∙ red_mul p x x (c *ℤ w) (pos 1) refl i.1.1 ∙ ap (red p) (mul_one x)) in
    back u ∙ red_mul p (u *ℤ c) (v *ℤ c) w w e refl ∙ sym (back v)
