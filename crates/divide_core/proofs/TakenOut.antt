-- What is taken out at the greatest monomial.
use Rattle.std.proofs.Common.{◌≡◌, ◌≢◌, ℕ, ◌+◌, ◌<◌, ◌≤◌, ◌⊎◌, inl, inr, Bool, true, false, ltb, ltb-true, List, [], ◌∷◌, ◌++◌, length, drop, get_or, Option, Some, None, MatchOption, ℤ, ◌+ℤ◌, neg_ℤ, unsigned_abs, refl, sym, ap, ◌∙◌, subst, arith, All}
use Rattle.std.proofs.lemmas.Int.{ints}
use Rattle.std.specs.List.{Contains}
use Rattle.std.specs.List.Sorted.{IsPermutation}
use Rattle.std.proofs.lemmas.List.Elements.{All-nil, All-cons, All-contains, All-weaker}
use Rattle.std.proofs.lemmas.List.{drop_all, drop_more}
use Rattle.std.proofs.lemmas.Bool.{ltb-false}
use Rattle.std.specs.declared.cmp.Ordering.{Ordering}
use Rattle.std.specs.declared.cmp.Ordering.TheVariants.{Less, Equal, Greater}
use Rattle.std.proofs.lemmas.List.Sorted.{IsPermutation-refl, Contains-permutation}
use Rattle.sdmp_laws.specs.Order.{Order, Below, compare}
use Rattle.sdmp_laws.specs.Ring.{red, IsReduced}
use Rattle.sdmp_laws.specs.Poly.{Term, total, coef, norm, AllBelow, Decreasing}
use Rattle.sdmp_laws.specs.Division.{AtOrAbove, AllAtOrBelow}
use Rattle.sdmp_laws.proofs.Ints.{red_add, red_neg, red_red, add_zero}
use Rattle.sdmp_laws.proofs.OrderLemmas.{Three, is_less, is_equal, is_greater, below_total, order_facts}
use Rattle.sdmp_laws.proofs.CompareLemmas.{compare_less, compare_greater, compare_same}
use Rattle.sdmp_laws.proofs.NextTerm.{at_then_below}
use Rattle.sdmp_laws.proofs.TermsLemmas.{total_above, total_at_head, below_cons, nothing_below}
use Rattle.sdmp_laws.proofs.Parts.{total-le-norm, norm_cons}
use Rattle.row_merge.specs.Learned.{QuotientState, IsGreatest, TakesOut}
use Rattle.row_merge.proofs.Places.{all_below}
use Rattle.canonical_terms.specs.declared.term.TermOf.{TermOf}
use Rattle.canonical_terms.specs.View.{term_of, sum_of}
use Rattle.divide_core.specs.Dividing.{TakesNext, IsOwed, IsCompared}
use Rattle.sdmp_laws.proofs.ListLemmas.{each_below}

at_or_below_all : (ord : Order) (m : List ℕ) (A : List Term) → AllAtOrBelow ord m A → All (λ t. AtOrAbove ord t.monomial m) A
unfolding AllAtOrBelow
at_or_below_all ord m [] h = All-nil _
at_or_below_all ord m (t ∷ A) h = All-cons (λ (u : Term). AtOrAbove ord u.monomial m) t A h.0 (at_or_below_all ord m A h.1)

-- there is one greatest monomial
greatest_at : (ord : Order) (A : List Term) (x y : List ℕ) → IsGreatest ord A x → IsGreatest ord A y → AtOrAbove ord x y
greatest_at ord A x y g h = subst (λ (m : List ℕ). AtOrAbove ord m y) g.at (All-contains (λ (t : Term). AtOrAbove ord t.monomial y) A g.some (at_or_below_all ord y A h.below) g.inside)

pub one_greatest : (ord : Order) (A : List Term) (x y : List ℕ) → IsGreatest ord A x → IsGreatest ord A y → x ≡ y
one_greatest ord A x y g h = pick (greatest_at ord A x y g h) (greatest_at ord A y x h g)
  where
    pick : AtOrAbove ord x y → AtOrAbove ord y x → x ≡ y
    pick (inl e) k = e
    pick (inr b) (inl e) = sym e
    pick (inr b) (inr c) = absurd ((order_facts ord).irreflexive x ((order_facts ord).transitive x y x b c))

-- what is taken out at the greatest monomial isn't nothing
some_taken : (ord : Order) (A taken rest : List Term) (m : List ℕ) → IsGreatest ord A m → IsPermutation A (taken ++ rest) → AllBelow ord m rest → taken ≢ []
some_taken ord A [] rest m g p b e =
    (order_facts ord).irreflexive m (subst (λ (x : List ℕ). Below ord x m) g.at (All-contains (λ (t : Term). Below ord t.monomial m) rest g.some (each_below ord m rest b) (Contains-permutation A rest g.some p g.inside)))
some_taken ord A (t ∷ taken) rest m g p b e = absurd (let k : (t ∷ taken) ≡ [] = e in cc)

append_some : (A B : List Term) → B ≢ [] → A ++ B ≢ []
append_some [] B n e = n e
append_some (t ∷ A) B n e = cc

module _ (ord : Order) (p : ℕ) (unread owed rest owed' : List Term) where
  -- the next unread term alone
  pub read_alone : (t : Term) → unread ≡ t ∷ rest → IsReduced p t.coefficient → AllBelow ord t.monomial rest → AllBelow ord t.monomial owed → TakesNext ord p unread rest owed owed t
  read_alone t e r b c = record {
    read = t ∷ [];
    read_split = e;
    read_at = All-cons (λ (u : Term). u.monomial ≡ t.monomial) t [] refl (All-nil _);
    read_below = b;
    handed = [];
    handed_split = IsPermutation-refl owed;
    handed_at = All-nil _;
    handed_below = c;
    some = λ z. cc;
    sum =
        let u : total unread t.monomial ≡ t.coefficient = ap (λ (A : List Term). total A t.monomial) e ∙ total_at_head t rest ∙ ap (λ (z : ℤ). t.coefficient +ℤ z) (total_above ord t.monomial rest b) ∙ add_zero t.coefficient in
        let v = total_above ord t.monomial owed c in
        sym (ap (red p) (omega (arith, ints, u, v)) ∙ r);
  }

  -- the products owed alone
  pub owed_alone : (t product : Term) → TakesOut ord p owed owed' product → IsGreatest ord owed product.monomial → t.monomial ≡ product.monomial → t.coefficient ≡ red p (neg_ℤ product.coefficient) → AllBelow ord product.monomial unread → TakesNext ord p unread unread owed owed' t
  unfolding coef
  owed_alone t q o g e f b = record {
    read = [];
    read_split = refl;
    read_at = All-nil _;
    read_below = subst (λ (m : List ℕ). AllBelow ord m unread) (sym e) b;
    handed = o.taken;
    handed_split = o.split;
    handed_at = subst (λ (m : List ℕ). All (λ (u : Term). u.monomial ≡ m) o.taken) (sym e) o.at;
    handed_below = subst (λ (m : List ℕ). AllBelow ord m owed') (sym e) o.below;
    some = some_taken ord owed o.taken owed' q.monomial g o.split o.below;
    sum = f ∙ negative
        ∙ ap (red p) (let u = total_above ord q.monomial unread b in omega (arith, ints, u))
        ∙ ap (λ (m : List ℕ). red p (total unread m +ℤ neg_ℤ (total owed m))) (sym e);
  }
    where
      negative : red p (neg_ℤ q.coefficient) ≡ red p (neg_ℤ (total owed q.monomial))
      negative = red_neg p q.coefficient (total owed q.monomial) (ap (red p) o.sum ∙ red_red p (total owed q.monomial))

  -- both
  pub read_and_owed : (head t product : Term) → unread ≡ head ∷ rest → AllBelow ord head.monomial rest → TakesOut ord p owed owed' product → head.monomial ≡ product.monomial → t.monomial ≡ head.monomial → t.coefficient ≡ red p (head.coefficient +ℤ red p (neg_ℤ product.coefficient)) → TakesNext ord p unread rest owed owed' t
  unfolding coef
  read_and_owed h t q e b o g k f = record {
    read = h ∷ [];
    read_split = e;
    read_at = All-cons (λ (u : Term). u.monomial ≡ t.monomial) h [] (sym k) (All-nil _);
    read_below = subst (λ (m : List ℕ). AllBelow ord m rest) (sym k) b;
    handed = o.taken;
    handed_split = o.split;
    handed_at = subst (λ (m : List ℕ). All (λ (u : Term). u.monomial ≡ m) o.taken) (sym (k ∙ g)) o.at;
    handed_below = subst (λ (m : List ℕ). AllBelow ord m owed') (sym (k ∙ g)) o.below;
    some = λ z. cc;
    sum = f
        ∙ red_add p h.coefficient h.coefficient (red p (neg_ℤ q.coefficient)) (neg_ℤ (total owed q.monomial)) refl (red_red p (neg_ℤ q.coefficient) ∙ negative)
        ∙ ap (red p) (ap (λ (z : ℤ). z +ℤ neg_ℤ (total owed q.monomial)) (sym here))
        ∙ ap (λ (m : List ℕ). red p (total unread m +ℤ neg_ℤ (total owed m))) (sym (k ∙ g));
  }
    where
      negative : red p (neg_ℤ q.coefficient) ≡ red p (neg_ℤ (total owed q.monomial))
      negative = red_neg p q.coefficient (total owed q.monomial) (ap (red p) o.sum ∙ red_red p (total owed q.monomial))

      here : total unread q.monomial ≡ h.coefficient
      here =
          ap (λ (m : List ℕ). total unread m) (sym g) ∙ ap (λ (A : List Term). total A h.monomial) e ∙ total_at_head h rest
          ∙ ap (λ (z : ℤ). h.coefficient +ℤ z) (total_above ord h.monomial rest b) ∙ add_zero h.coefficient

-- the first of a list that decreases
pub falls_head : (ord : Order) (A : List Term) (t : Term) (rest : List Term) → Decreasing ord A → A ≡ t ∷ rest → AllBelow ord t.monomial rest
unfolding Decreasing
falls_head ord A t rest d e = at (subst (λ (L : List Term). Decreasing ord L) e d)
  where
    at : Decreasing ord (t ∷ rest) → AllBelow ord t.monomial rest
    at h = h.0

-- ---- how the next unread term compares
greater_of : (ord : Order) (unread owed : List Term) (t : Term) (rest : List Term) → unread ≡ t ∷ rest → AllBelow ord t.monomial owed → IsCompared ord unread owed Greater
unfolding IsCompared
greater_of ord unread owed t rest e b = (t, rest, e, b)

compared_terms : (ord : Order) (unread owed : List Term) (t : Term) (rest : List Term) (m : List ℕ) (o : Ordering) → length t.monomial ≡ length m → Decreasing ord unread → unread ≡ t ∷ rest → IsGreatest ord owed m → o ≡ compare ord t.monomial m → IsCompared ord unread owed o
unfolding IsCompared
compared_terms ord unread owed t rest m o l d e g f = pick (below_total ord t.monomial m l)
  where
    below : AllBelow ord t.monomial rest
    below = falls_head ord unread t rest d e

    pick : Three (Below ord t.monomial m) (t.monomial ≡ m) (Below ord m t.monomial) → IsCompared ord unread owed o
    pick (is_less b) =
        subst (λ (z : Ordering). IsCompared ord unread owed z) (sym (f ∙ compare_less ord t.monomial m b))
        (m, g, subst (λ (A : List Term). AllBelow ord m A) (sym e) (below_cons ord m t rest b below))
    pick (is_equal k) =
        subst (λ (z : Ordering). IsCompared ord unread owed z) (sym (f ∙ ap (λ (y : List ℕ). compare ord y m) k ∙ compare_same ord m))
        (t, rest, e, subst (λ (y : List ℕ). IsGreatest ord owed y) (sym k) g)
    pick (is_greater b) =
        subst (λ (z : Ordering). IsCompared ord unread owed z) (sym (f ∙ compare_greater ord t.monomial m b))
        (t, rest, e, all_below ord t.monomial owed (All-weaker (λ (u : Term). AtOrAbove ord u.monomial m) (λ (u : Term). Below ord u.monomial t.monomial) (λ u a. at_then_below ord u.monomial m t.monomial a b) owed (at_or_below_all ord m owed g.below)))

-- ---- lists of terms of the program
module _ {M E : Type 0} (vector : M → List ℕ) (value : E → ℤ) where
  pub within_list : (ts : List (TermOf M E)) (at : ℕ) (t : Term) (rest : List Term) → sum_of vector value (drop at ts) ≡ t ∷ rest → at < length ts
  within_list ts at t rest e = pick (ltb at (length ts)) refl
    where
      pick : (b : Bool) → ltb at (length ts) ≡ b → at < length ts
      pick true f = ltb-true at (length ts) f
      pick false f = absurd (let k : [] ≡ t ∷ rest = sym (ap (sum_of vector value) (drop_all at ts (ltb-false at (length ts) f))) ∙ e in cc)

  pub next_in_list : (ts : List (TermOf M E)) (at : ℕ) (x : TermOf M E) → at < length ts → x ≡ get_or ts at x → sum_of vector value (drop at ts) ≡ term_of vector value x ∷ sum_of vector value (drop (at + 1) ts)
  next_in_list ts at x l e = ap (sum_of vector value) (drop_more ts at x l ∙ ap (λ y. y ∷ drop (at + 1) ts) (sym e))

  -- the next unread term of a list, and nothing owed
  pub only_unread : (ord : Order) (ts : List (TermOf M E)) (at : ℕ) (owed : List Term) → at < length ts → owed ≡ [] → IsCompared ord (sum_of vector value (drop at ts)) owed Greater
  only_unread ord ts at owed h e = of_list ts h
    where
      of_list : (us : List (TermOf M E)) → at < length us → IsCompared ord (sum_of vector value (drop at us)) owed Greater
      of_list [] l = absurd (omega arith)
      of_list (t ∷ us) l = greater_of ord (sum_of vector value (drop at (t ∷ us))) owed (term_of vector value (get_or (t ∷ us) at t)) (sum_of vector value (drop (at + 1) (t ∷ us))) (ap (sum_of vector value) (drop_more (t ∷ us) at t l)) (subst (λ (A : List Term). AllBelow ord (vector (get_or (t ∷ us) at t).mono) A) (sym e) (nothing_below ord (vector (get_or (t ∷ us) at t).mono)))

  pub only_owed : (ord : Order) (ts : List (TermOf M E)) (at : ℕ) (owed : List Term) (m : List ℕ) → length ts ≤ at → IsGreatest ord owed m → IsCompared ord (sum_of vector value (drop at ts)) owed Less
  unfolding IsCompared
  only_owed ord ts at owed m l g = (m, g, subst (λ (A : List Term). AllBelow ord m A) (sym (ap (sum_of vector value) (drop_all at ts l))) (nothing_below ord m))

  pub both_there : (ord : Order) (n : ℕ) (ts : List (TermOf M E)) (at : ℕ) (owed : List Term) (x : TermOf M E) (m : List ℕ) (o : Ordering) → ((a : M) → length (vector a) ≡ n) → length m ≡ n → Decreasing ord (sum_of vector value (drop at ts)) → at < length ts → x ≡ get_or ts at x → IsGreatest ord owed m → o ≡ compare ord (vector x.mono) m → IsCompared ord (sum_of vector value (drop at ts)) owed o
  both_there ord n ts at owed x m o v l d h e g f =
      compared_terms ord (sum_of vector value (drop at ts)) owed (term_of vector value x) (sum_of vector value (drop (at + 1) ts)) m o (v x.mono ∙ sym l) d (next_in_list ts at x h e) g f

pub first_same : (s t : Term) (A B : List Term) → s ∷ A ≡ t ∷ B → s ≡ t
first_same s t A B e = cc

-- what the comparison says of the next unread term
pub greater_says : (ord : Order) (unread owed rest : List Term) (t : Term) → IsCompared ord unread owed Greater → unread ≡ t ∷ rest → AllBelow ord t.monomial owed
unfolding IsCompared
greater_says ord unread owed rest t h e = let k : h.0 ≡ t = first_same h.0 t h.1 rest (sym h.2 ∙ e) in subst (λ (x : Term). AllBelow ord x.monomial owed) k h.3

pub equal_says : (ord : Order) (unread owed rest : List Term) (t : Term) → IsCompared ord unread owed Equal → unread ≡ t ∷ rest → IsGreatest ord owed t.monomial
unfolding IsCompared
equal_says ord unread owed rest t h e = let k : h.0 ≡ t = first_same h.0 t h.1 rest (sym h.2 ∙ e) in subst (λ (x : Term). IsGreatest ord owed x.monomial) k h.3

pub some_unread : (ord : Order) (unread owed : List Term) → IsCompared ord unread owed Greater ⊎ IsCompared ord unread owed Equal → (t : Term) × (rest : List Term) × (unread ≡ t ∷ rest)
unfolding IsCompared
some_unread ord unread owed (inl h) = (h.0, h.1, h.2)
some_unread ord unread owed (inr h) = (h.0, h.1, h.2)

pub nothing_greatest : (ord : Order) (A : List Term) (m : List ℕ) → IsGreatest ord A m → A ≡ [] → ⊥
nothing_greatest ord A m g e = at (subst (λ (L : List Term). Contains L g.some) e g.inside)
  where
    at : Contains [] g.some → ⊥
    at c = omega (arith, c.1)

-- only products are left at the greatest monomial
pub less_says : {M E : Type 0} (vector : M → List ℕ) (value : E → ℤ) (ord : Order) (p : ℕ) (unread : List Term) (old new : QuotientState) (X : Type 0) (o : Option (TermOf M E)) → p ≡ old.modulus → IsCompared ord unread old.unread Less
    → MatchOption o ((old.unread ≡ []) × (new ≡ old)) (λ t. IsOwed ord old new (term_of vector value t)) → MatchOption o (X × (old.unread ≡ [])) (λ t. TakesNext ord p unread unread old.unread new.unread (term_of vector value t))
unfolding IsCompared
less_says vector value ord p unread old new X None e c h = absurd (nothing_greatest ord old.unread c.0 c.1 h.0)
less_says vector value ord p unread old new X (Some t) e c h =
    let q = h.product in
    let m : c.0 ≡ q.monomial = one_greatest ord old.unread c.0 q.monomial c.1 h.out.greatest in
    owed_alone ord p unread old.unread unread new.unread (term_of vector value t) q
    (subst (λ (k : ℕ). TakesOut ord k old.unread new.unread q) (sym e) h.out.out) h.out.greatest h.at (h.negative ∙ ap (λ (k : ℕ). red k (neg_ℤ q.coefficient)) (sym e))
    (subst (λ (y : List ℕ). AllBelow ord y unread) m c.2)

-- both are there
pub equal_next : (ord : Order) (p : ℕ) (unread rest : List Term) (old new : QuotientState) (head owed t : Term) → p ≡ old.modulus → IsCompared ord unread old.unread Equal → unread ≡ head ∷ rest → Decreasing ord unread → IsOwed ord old new owed
    → t.monomial ≡ head.monomial → t.coefficient ≡ red p (head.coefficient +ℤ owed.coefficient) → TakesNext ord p unread rest old.unread new.unread t
equal_next ord p unread rest old new head owed t e c f d h k j =
    let q = h.product in
    read_and_owed ord p unread old.unread rest new.unread head t q f (falls_head ord unread head rest d f)
    (subst (λ (n : ℕ). TakesOut ord n old.unread new.unread q) (sym e) h.out.out) (one_greatest ord old.unread head.monomial q.monomial (equal_says ord unread old.unread rest head c f) h.out.greatest) k
    (j ∙ ap (λ (z : ℤ). red p (head.coefficient +ℤ z)) (h.negative ∙ ap (λ (n : ℕ). red n (neg_ℤ q.coefficient)) (sym e)))

-- the difference fits
pub difference_size : (ord : Order) (p : ℕ) (unread rest : List Term) (old new : QuotientState) (head owed : Term) → p ≡ 0 → p ≡ old.modulus → unread ≡ head ∷ rest → IsOwed ord old new owed → unsigned_abs (head.coefficient +ℤ owed.coefficient) ≤ norm unread + norm old.unread
unfolding coef
difference_size ord p unread rest old new head owed z e f h =
    let q = h.product in
    let m : old.modulus ≡ 0 = sym e ∙ z in
    let a : q.coefficient ≡ total old.unread q.monomial = h.out.out.sum ∙ ap (λ (n : ℕ). red n (total old.unread q.monomial)) m in
    let b : owed.coefficient ≡ neg_ℤ q.coefficient = h.negative ∙ ap (λ (n : ℕ). red n (neg_ℤ q.coefficient)) m in
    let c : unsigned_abs q.coefficient ≡ unsigned_abs (total old.unread q.monomial) = ap unsigned_abs a in
    let n : norm unread ≡ unsigned_abs head.coefficient + norm rest = ap norm f ∙ norm_cons head rest in
    let s : unsigned_abs (head.coefficient +ℤ owed.coefficient) ≤ unsigned_abs head.coefficient + unsigned_abs q.coefficient = omega (arith, ints, b) in
    omega (arith, s, c, n, total-le-norm old.unread q.monomial)
