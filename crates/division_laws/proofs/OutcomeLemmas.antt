-- The computed answer of a division is its one answer.
use Rattle.std.proofs.Common.{◌≡◌, ◌≢◌, ℕ, zero, suc, ◌+◌, ◌-◌, ◌*◌, ◌<◌, ◌≤◌, ◌⊎◌, inl, inr, ◌||◌, not, Bool, true, false, cond, eqb, List, [], ◌∷◌, ◌++◌, length, take, drop, ℤ, pos, negsuc, ◌+ℤ◌, ◌*ℤ◌, neg_ℤ, unsigned_abs, refl, sym, ap, ◌∙◌, subst, arith, true≢false, eqb-true, eq-eqb, ltb-true, lt-ltb, leb-true, le-leb, lit<, length-append, mul-le-mul_right}
use Rattle.std.proofs.lemmas.Int.{ints, unsigned_abs-mul}
use Rattle.std.proofs.lemmas.Bool.{not-true, not-false, and_from, and_parts, or_cases, or_left, or_right}
use Rattle.std.proofs.lemmas.List.{length-take, length-take-le, take-append-drop}
use Rattle.std.proofs.Math.Seq.{take-append-add}
use mathlib.Core.List.{IsPrefix}
use Rattle.sdmp_laws.specs.Ring.{red, IsReduced, IsUnit}
use Rattle.sdmp_laws.specs.Poly.{Term, norm, IsPoly, is_zero, lc}
use Rattle.sdmp_laws.specs.Division.{Division, IsAccepted, IsExact, IsFront}
use Rattle.sdmp_laws.specs.LongDivision.{quotient_list}
use Rattle.sdmp_laws.specs.DivisionLaws.{rest_list}
use Rattle.sdmp_laws.specs.Limits.{greatest_norm, quotient_terms_limit}
use Rattle.sdmp_laws.specs.declared.Mode.{Mode}
use Rattle.sdmp_laws.specs.declared.Mode.TheVariants.{Exact, Remainder}
use Rattle.sdmp_laws.proofs.Ints.{red_mul, red_red}
use Rattle.sdmp_laws.proofs.TermsLemmas.{is_zero_yes, head_facts}
use Rattle.sdmp_laws.proofs.Parts.{norm_append}
use Rattle.sdmp_laws.proofs.ReducedLemmas.{reduced_is}
use Rattle.sdmp_laws.proofs.LongLemmas.{same_from, fronts_unique, quotient_unique, remainder_unique}
use Rattle.division_laws.specs.Outcome.{Outcome, OverZero, ByNoUnit, OverBound, OverTerms, HasQuotient, HasNoQuotient, HasRemainder, PassesEarly, IsLong, IsWithin, IsOutcome, is_empty, some_below, is_inverse, is_unit, asks_unit, looked_at, passes_early, is_long, ending, outcome, OneOutcome}

-- ---- tests
by_absurd : (b : Bool) → (b ≡ false → ⊥) → b ≡ true
by_absurd true h = refl
by_absurd false h = absurd (h refl)

by_absurd_not : (b : Bool) → (b ≡ true → ⊥) → b ≡ false
by_absurd_not true h = absurd (h refl)
by_absurd_not false h = refl

empty_yes : (L : List Term) → is_empty L ≡ true → L ≡ []
unfolding is_empty
empty_yes [] e = refl
empty_yes (t ∷ L) e = absurd (true≢false (sym e))

empty_no : (L : List Term) → is_empty L ≡ false → L ≢ []
unfolding is_empty
empty_no [] e = absurd (true≢false e)
empty_no (t ∷ L) e = λ z. cc

some_yes : (k : ℕ) (test : ℕ → Bool) → some_below k test ≡ true → (v : ℕ) × (test v ≡ true)
unfolding some_below
some_yes zero test e = absurd (true≢false (sym e))
some_yes (suc k) test e = pick (λ f. some_yes k test f) (or_cases (test k) (some_below k test) e)
  where
    pick : (some_below k test ≡ true → (v : ℕ) × (test v ≡ true)) → (test k ≡ true) ⊎ (some_below k test ≡ true) → (v : ℕ) × (test v ≡ true)
    pick ih (inl h) = (k, h)
    pick ih (inr h) = ih h

some_known : (k : ℕ) (test : ℕ → Bool) (v : ℕ) → v < k → test v ≡ true → some_below k test ≡ true
unfolding some_below
some_known zero test v l h = absurd (omega arith)
some_known (suc k) test v l h = pick (λ m. some_known k test v m h) (eqb v k) refl
  where
    pick : (v < k → some_below k test ≡ true) → (b : Bool) → eqb v k ≡ b → (test k || some_below k test) ≡ true
    pick ih true e = or_left (test k) (some_below k test) (ap test (sym (eqb-true v k e)) ∙ h)
    pick ih false e = or_right (test k) (some_below k test) (ih (apart (eqb v k) refl e))
      where
        apart : (b : Bool) → eqb v k ≡ b → b ≡ false → v < k
        apart b f g = let n : v ≢ k = λ z. true≢false (sym (eq-eqb v k z) ∙ f ∙ g) in omega (arith, n)

-- ---- units
square_of_one : (u : ℤ) → unsigned_abs u ≡ 1 → u *ℤ u ≡ pos 1
square_of_one (pos n) e = let m : n ≡ 1 = e in ap (λ (k : ℕ). pos k *ℤ pos k) m
square_of_one (negsuc n) e = let m : n ≡ 0 = omega (arith, e) in ap (λ (k : ℕ). negsuc k *ℤ negsuc k) m

pub factor_of_one : (a b : ℕ) → a * b ≡ 1 → a ≡ 1
factor_of_one zero b e = omega (arith, e)
factor_of_one (suc zero) b e = refl
factor_of_one (suc (suc a)) zero e = omega (arith, e)
factor_of_one (suc (suc a)) (suc b) e = absurd (omega (arith, e))

difference : (x y : ℤ) → x ≡ y → is_zero (x +ℤ neg_ℤ y) ≡ true
unfolding is_zero
difference x y e = let z : x +ℤ neg_ℤ y ≡ pos 0 = omega (arith, ints, e) in ap is_zero z

unit_yes : (p : ℕ) (u : ℤ) → IsReduced p u → is_unit p u ≡ true → IsUnit p u
unfolding is_unit is_inverse
unit_yes zero u r e = (r, (u, square_of_one u (eqb-true (unsigned_abs u) 1 e)))
unit_yes (suc k) u r e =
    let v = some_yes (suc k) (is_inverse (suc k) u) e in
    (r, (pos v.0, same_from (red (suc k) (u *ℤ pos v.0)) (red (suc k) (pos 1)) (is_zero_yes _ v.1)))

unit_known : (p : ℕ) (u : ℤ) → IsUnit p u → is_unit p u ≡ true
unfolding is_unit is_inverse
unit_known zero u i =
    eq-eqb (unsigned_abs u) 1 (factor_of_one (unsigned_abs u) (unsigned_abs i.1.0) (sym (unsigned_abs-mul u i.1.0) ∙ ap unsigned_abs i.1.1))
unit_known (suc k) u i =
    let n = reduced_is (suc k) (red (suc k) i.1.0) (omega arith) (red_red (suc k) i.1.0) in
    some_known (suc k) (is_inverse (suc k) u) n.0 n.2
    (difference (red (suc k) (u *ℤ pos n.0)) (red (suc k) (pos 1))
    (ap (λ (x : ℤ). red (suc k) (u *ℤ x)) (sym n.1) ∙ red_mul (suc k) u u (red (suc k) i.1.0) i.1.0 refl (red_red (suc k) i.1.0) ∙ i.1.1))

no_unit : (p : ℕ) (u : ℤ) → not (is_unit p u) ≡ true → IsUnit p u → ⊥
no_unit p u e i = true≢false (sym (unit_known p u i) ∙ not-true (is_unit p u) e)

abbrev AsksUnit : Mode → ℕ → ℤ → Type 0
AsksUnit mode p u = ((mode ≡ Remainder) ⊎ (p ≢ 0)) × (IsUnit p u → ⊥)

abbrev HasUnit : Mode → ℕ → ℤ → Type 0
HasUnit mode p u = ((mode ≡ Exact) × (p ≡ 0)) ⊎ IsUnit p u

asks_yes : (mode : Mode) (p : ℕ) (u : ℤ) → asks_unit mode p u ≡ true → AsksUnit mode p u
unfolding asks_unit
asks_yes Exact zero u e = absurd (true≢false (sym e))
asks_yes Exact (suc k) u e = (inr (λ z. omega (arith, z)), no_unit (suc k) u e)
asks_yes Remainder p u e = (inl refl, no_unit p u e)

asks_no : (mode : Mode) (p : ℕ) (u : ℤ) → IsReduced p u → asks_unit mode p u ≡ false → HasUnit mode p u
unfolding asks_unit
asks_no Exact zero u r e = inl (refl, refl)
asks_no Exact (suc k) u r e = inr (unit_yes (suc k) u r (not-false (is_unit (suc k) u) e))
asks_no Remainder p u r e = inr (unit_yes p u r (not-false (is_unit p u) e))

IsExactMode : Mode → Type 0
IsExactMode Exact = Unit {0}
IsExactMode Remainder = ⊥

pub not_both_modes : (mode : Mode) → mode ≡ Exact → mode ≡ Remainder → ⊥
unfolding IsExactMode
not_both_modes mode e r = subst (λ (m : Mode). IsExactMode m) (sym e ∙ r) tt

not_both : (mode : Mode) (p : ℕ) (u : ℤ) → AsksUnit mode p u → HasUnit mode p u → ⊥
not_both mode p u a (inr i) = a.1 i
not_both mode p u a (inl z) = pick a.0
  where
    pick : (mode ≡ Remainder) ⊎ (p ≢ 0) → ⊥
    pick (inl r) = not_both_modes mode z.0 r
    pick (inr q) = q z.1

-- ---- the bounds
front_nonempty : (d : Division) (q : List Term) → IsAccepted d → IsFront d q → IsPrefix q (quotient_list d)
front_nonempty d q a i = (fronts_unique d a).1 q i

front_of : (d : Division) (k : ℕ) → IsAccepted d → take k (quotient_list d) ≢ [] → IsFront d (take k (quotient_list d))
front_of d k a n = (fronts_unique d a).2 (take k (quotient_list d)) n (drop k (quotient_list d), take-append-drop k (quotient_list d))

-- a beginning of at most k terms begins the first k terms
begins_first : (k : ℕ) (q L : List Term) → IsPrefix q L → length q ≤ k → (rest : List Term) × (take k L ≡ q ++ rest)
begins_first k q L i l =
    let e : length q + (k - length q) ≡ k = omega (arith, l) in
    (take (k - length q) i.0, ap (λ (n : ℕ). take n L) (sym e) ∙ ap (λ (x : List Term). take (length q + (k - length q)) x) (sym i.1) ∙ take-append-add q i.0 (k - length q))

first_few : (k : ℕ) (L : List Term) → length (take k L) ≤ k
first_few k L = omega (arith, length-take k L)

no_front_empty : (q rest : List Term) → q ≢ [] → q ++ rest ≢ []
no_front_empty [] rest n e = n refl
no_front_empty (t ∷ q) rest n e = cc

passes_yes : (d : Division) → IsAccepted d → passes_early d ≡ true → PassesEarly d
unfolding passes_early looked_at
passes_yes d a e =
    let s = and_parts (eqb d.p 0) _ e in
    let t = and_parts (not (is_empty (looked_at d))) _ s.1 in
    record {
      front = looked_at d;
      is = front_of d quotient_terms_limit a (empty_no (looked_at d) (not-true (is_empty (looked_at d)) t.0));
      few = first_few quotient_terms_limit (quotient_list d);
      over = record { integers = eqb-true d.p 0 s.0; over = ltb-true greatest_norm (norm d.f + norm (looked_at d) * norm d.g) t.1 };
    }

passes_known : (d : Division) → IsAccepted d → PassesEarly d → passes_early d ≡ true
unfolding passes_early looked_at
passes_known d a h =
    let b = begins_first quotient_terms_limit h.front (quotient_list d) (front_nonempty d h.front a h.is) h.few in
    let more : norm h.front ≤ norm (looked_at d) = omega (arith, norm_append h.front b.0, ap norm b.1) in
    and_from (eqb d.p 0) _ (eq-eqb d.p 0 h.over.integers)
    (and_from (not (is_empty (looked_at d))) _
    (ap not (by_absurd_not (is_empty (looked_at d)) (λ z. no_front_empty h.front b.0 h.is.nonzero (sym b.1 ∙ empty_yes (looked_at d) z))))
    (lt-ltb greatest_norm (norm d.f + norm (looked_at d) * norm d.g) (omega (arith, h.over.over, mul-le-mul_right (norm d.g) more))))

some_length : (k : ℕ) (q : List Term) → length q ≡ k → 0 < k → q ≢ []
some_length k q l p e = omega (arith, l, ap length e)

limit_positive : 0 < quotient_terms_limit
limit_positive = lit< tt

long_front : (d : Division) (k : ℕ) → IsAccepted d → k ≤ length (quotient_list d) → 0 < k → (q : List Term) × IsFront d q × (length q ≡ k)
long_front d k a l p =
    let m = length-take-le k (quotient_list d) l in
    (take k (quotient_list d), front_of d k a (some_length k (take k (quotient_list d)) m p), m)

long_yes : (d : Division) → IsAccepted d → is_long d ≡ true → IsLong d
unfolding is_long
long_yes d a e =
    let f = long_front d quotient_terms_limit a (leb-true quotient_terms_limit (length (quotient_list d)) e) limit_positive in
    record { front = f.0; is = f.1; many = f.2 }

long_known : (d : Division) → IsAccepted d → IsLong d → is_long d ≡ true
unfolding is_long
long_known d a h =
    let i = front_nonempty d h.front a h.is in
    le-leb quotient_terms_limit (length (quotient_list d)) (omega (arith, h.many, length-append h.front i.0, ap length i.1))

-- ---- the answer
lead_reduced : (d : Division) (L : List Term) → L ≢ [] → IsPoly d.ord d.p d.n L → IsReduced d.p (lc L)
unfolding lc
lead_reduced d [] n i = absurd (n refl)
lead_reduced d (t ∷ L) n i = (head_facts d.ord d.p d.n t L i).2

record Canonical (d : Division) : Type 0 where
  dividend : IsPoly d.ord d.p d.n d.f
  divisor : IsPoly d.ord d.p d.n d.g

accepted : (d : Division) → Canonical d → is_empty d.g ≡ false → asks_unit d.mode d.p (lc d.g) ≡ false → IsAccepted d
accepted d i e u = record {
  dividend = i.dividend;
  divisor = i.divisor;
  nonzero = empty_no d.g e;
  unit = asks_no d.mode d.p (lc d.g) (lead_reduced d d.g (empty_no d.g e) i.divisor) u;
}

within : (d : Division) → IsAccepted d → passes_early d ≡ false → is_long d ≡ false → IsWithin d
within d a p l = record {
  accepted = a;
  fits = λ h. true≢false (sym (passes_known d a h) ∙ p);
  short = λ h. true≢false (sym (long_known d a h) ∙ l);
}

ends_exact : (d : Division) → IsWithin d → d.mode ≡ Exact → IsOutcome d (ending Exact (quotient_list d) (rest_list d))
unfolding ending IsOutcome
ends_exact d w m = pick (is_empty (rest_list d)) refl
  where
    law : ((q q' : List Term) → IsExact d q → IsExact d q' → q ≡ q') × ((IsExact d (quotient_list d) → rest_list d ≡ []) × (rest_list d ≡ [] → IsExact d (quotient_list d))) × ((q : List Term) → IsExact d q → q ≡ quotient_list d)
    law = quotient_unique d w.accepted m

    pick : (b : Bool) → is_empty (rest_list d) ≡ b → IsOutcome d (cond b (HasQuotient (quotient_list d)) HasNoQuotient)
    pick true e = (w, m, law.1.1 (empty_yes (rest_list d) e))
    pick false e = (w, m, λ q x. empty_no (rest_list d) e (law.1.0 (subst (λ (y : List Term). IsExact d y) (law.2 q x) x)))

ends_remainder : (d : Division) → IsWithin d → d.mode ≡ Remainder → IsOutcome d (ending Remainder (quotient_list d) (rest_list d))
unfolding ending IsOutcome
ends_remainder d w m = (w, m, (remainder_unique d w.accepted m).0)

ends : (d : Division) (mode : Mode) → IsWithin d → d.mode ≡ mode → IsOutcome d (ending mode (quotient_list d) (rest_list d))
ends d Exact w m = ends_exact d w m
ends d Remainder w m = ends_remainder d w m

is_outcome : (d : Division) → Canonical d → IsOutcome d (outcome d)
unfolding outcome IsOutcome
is_outcome d i = zero_first (is_empty d.g) refl
  where
    last : IsAccepted d → passes_early d ≡ false → (b : Bool) → is_long d ≡ b → IsOutcome d (cond b OverTerms (ending d.mode (quotient_list d) (rest_list d)))
    last a p true l = (a, (λ h. true≢false (sym (passes_known d a h) ∙ p)), long_yes d a l)
    last a p false l = ends d d.mode (within d a p l) refl

    third : IsAccepted d → (b : Bool) → passes_early d ≡ b → IsOutcome d (cond b OverBound (cond (is_long d) OverTerms (ending d.mode (quotient_list d) (rest_list d))))
    third a true p = (a, passes_yes d a p)
    third a false p = last a p (is_long d) refl

    second : is_empty d.g ≡ false → (b : Bool) → asks_unit d.mode d.p (lc d.g) ≡ b → IsOutcome d (cond b ByNoUnit (cond (passes_early d) OverBound (cond (is_long d) OverTerms (ending d.mode (quotient_list d) (rest_list d)))))
    second e true u = (empty_no d.g e, (asks_yes d.mode d.p (lc d.g) u).0, (asks_yes d.mode d.p (lc d.g) u).1)
    second e false u = third (accepted d i e u) (passes_early d) refl

    zero_first : (b : Bool) → is_empty d.g ≡ b → IsOutcome d (cond b OverZero (cond (asks_unit d.mode d.p (lc d.g)) ByNoUnit (cond (passes_early d) OverBound (cond (is_long d) OverTerms (ending d.mode (quotient_list d) (rest_list d))))))
    zero_first true e = empty_yes d.g e
    zero_first false e = second e (asks_unit d.mode d.p (lc d.g)) refl

-- the tests, as an answer decides them
not_empty : (d : Division) → d.g ≢ [] → is_empty d.g ≡ false
not_empty d n = by_absurd_not (is_empty d.g) (λ e. n (empty_yes d.g e))

empty_known : (L : List Term) → L ≡ [] → is_empty L ≡ true
empty_known L e = by_absurd (is_empty L) (λ f. empty_no L f e)

asks_known : (d : Division) → Canonical d → d.g ≢ [] → AsksUnit d.mode d.p (lc d.g) → asks_unit d.mode d.p (lc d.g) ≡ true
asks_known d i n h = by_absurd (asks_unit d.mode d.p (lc d.g)) (λ f. not_both d.mode d.p (lc d.g) h (asks_no d.mode d.p (lc d.g) (lead_reduced d d.g n i.divisor) f))

asks_not : (d : Division) → IsAccepted d → asks_unit d.mode d.p (lc d.g) ≡ false
asks_not d a = by_absurd_not (asks_unit d.mode d.p (lc d.g)) (λ f. not_both d.mode d.p (lc d.g) (asks_yes d.mode d.p (lc d.g) f) a.unit)

record Tested (d : Division) (e u p l : Bool) : Type 0 where
  empty : is_empty d.g ≡ e
  asks : asks_unit d.mode d.p (lc d.g) ≡ u
  passes : passes_early d ≡ p
  long : is_long d ≡ l

outcome_is : (d : Division) (e u p l : Bool) → Tested d e u p l → outcome d ≡ cond e OverZero (cond u ByNoUnit (cond p OverBound (cond l OverTerms (ending d.mode (quotient_list d) (rest_list d)))))
unfolding outcome
outcome_is d e u p l t = λ i. cond (t.empty i) OverZero (cond (t.asks i) ByNoUnit (cond (t.passes i) OverBound (cond (t.long i) OverTerms (ending d.mode (quotient_list d) (rest_list d)))))

within_is : (d : Division) → IsWithin d → outcome d ≡ ending d.mode (quotient_list d) (rest_list d)
within_is d w = outcome_is d false false false false (record {
  empty = not_empty d w.accepted.nonzero;
  asks = asks_not d w.accepted;
  passes = by_absurd_not (passes_early d) (λ f. w.fits (passes_yes d w.accepted f));
  long = by_absurd_not (is_long d) (λ f. w.short (long_yes d w.accepted f));
})

ending_exact : (q r : List Term) (mode : Mode) (b : Bool) → mode ≡ Exact → is_empty r ≡ b → ending mode q r ≡ cond b (HasQuotient q) HasNoQuotient
unfolding ending
ending_exact q r mode b m e = ap (λ (x : Mode). ending x q r) m ∙ (λ i. cond (e i) (HasQuotient q) HasNoQuotient)

ending_remainder : (q r : List Term) (mode : Mode) → mode ≡ Remainder → ending mode q r ≡ HasRemainder q r
unfolding ending
ending_remainder q r mode m = ap (λ (x : Mode). ending x q r) m

only_outcome : (d : Division) → Canonical d → (a : Outcome) → IsOutcome d a → a ≡ outcome d
unfolding IsOutcome
only_outcome d i OverZero h = sym (outcome_is d true (asks_unit d.mode d.p (lc d.g)) (passes_early d) (is_long d) (record { empty = empty_known d.g h; asks = refl; passes = refl; long = refl }))
only_outcome d i ByNoUnit h = sym (outcome_is d false true (passes_early d) (is_long d) (record { empty = not_empty d h.0; asks = asks_known d i h.0 (h.1, h.2); passes = refl; long = refl }))
only_outcome d i OverBound h = sym (outcome_is d false false true (is_long d) (record { empty = not_empty d h.0.nonzero; asks = asks_not d h.0; passes = passes_known d h.0 h.1; long = refl }))
only_outcome d i OverTerms h = sym (outcome_is d false false false true (record { empty = not_empty d h.0.nonzero; asks = asks_not d h.0; passes = by_absurd_not (passes_early d) (λ f. h.1 (passes_yes d h.0 f)); long = long_known d h.0 h.2 }))
only_outcome d i (HasQuotient q) h =
    let law = quotient_unique d h.0.accepted h.1 in
    let e : q ≡ quotient_list d = law.2 q h.2 in
    ap HasQuotient e
    ∙ sym (within_is d h.0 ∙ ending_exact (quotient_list d) (rest_list d) d.mode true h.1 (empty_known (rest_list d) (law.1.0 (subst (λ (y : List Term). IsExact d y) e h.2))))
only_outcome d i HasNoQuotient h =
    let law = quotient_unique d h.0.accepted h.1 in
    sym (within_is d h.0 ∙ ending_exact (quotient_list d) (rest_list d) d.mode false h.1 (by_absurd_not (is_empty (rest_list d)) (λ f. h.2 (quotient_list d) (law.1.1 (empty_yes (rest_list d) f)))))
only_outcome d i (HasRemainder q r) h =
    let same = (remainder_unique d h.0.accepted h.1).1 q r h.2 in
    (λ k. HasRemainder (same.0 k) (same.1 k))
    ∙ sym (within_is d h.0 ∙ ending_remainder (quotient_list d) (rest_list d) d.mode h.1)

pub one_outcome : OneOutcome
one_outcome d f g =
    let i : Canonical d = record { dividend = f; divisor = g } in
    (is_outcome d i, only_outcome d i)
