-- The ends of a division: what its parts keep, and which term fits.
use Rattle.std.proofs.Common.{◌≡◌, ◌≢◌, ℕ, zero, suc, ◌+◌, ◌*◌, ◌<◌, ◌≤◌, ◌⊎◌, inl, inr, Bool, true, eqb, eqb-true, List, [], ◌∷◌, length, get_or, Option, Some, None, MatchOption, ℤ, pos, ◌*ℤ◌, unsigned_abs, refl, sym, ap, ◌∙◌, subst, arith, All}
use Rattle.std.proofs.lemmas.Int.{unsigned_abs-mul}
use Rattle.sdmp_laws.specs.Order.{Order, degree, ◌⋅◌, Divides, over}
use Rattle.sdmp_laws.specs.Ring.{red, IsReduced, IsUnit, IsInverse}
use Rattle.sdmp_laws.specs.Poly.{Term, norm, IsPoly, lm, lc}
use Rattle.sdmp_laws.specs.Division.{Division, IsAccepted, InScope}
use Rattle.sdmp_laws.specs.Limits.{greatest_norm}
use Rattle.sdmp_laws.specs.Canonical.{IsCanonical}
use Rattle.sdmp_laws.specs.declared.Mode.{Mode}
use Rattle.sdmp_laws.specs.declared.Mode.TheVariants.{Exact, Remainder}
use Rattle.sdmp_laws.proofs.Ints.{red_mul, red_red, mul_assoc, mul_comm, mul_one}
use Rattle.sdmp_laws.proofs.OrderLemmas.{degree_times}
use Rattle.sdmp_laws.proofs.Parts.{norm_cons}
use Rattle.sdmp_laws.proofs.TermsLemmas.{head_facts}
use Rattle.sdmp_laws.proofs.DivisionLemmas.{abs_zero, turns_poly, scope_divides}
use Rattle.sdmp_laws.proofs.LongLemmas.{over_times, prefix_begins, unit_in_remainder}
use Rattle.canonical_terms.specs.declared.term.TermOf.{TermOf}
use Rattle.canonical_terms.specs.View.{sum_of}
use Rattle.division_laws.specs.Outcome.{IsOutcome, HasQuotient, HasRemainder}
use Rattle.divide_core.specs.Dividing.{Dividing, IsTermQuotient}
use Rattle.divide_core.proofs.DividingSteps.{not_passed, done_within, done_exact, done_remainder}
use Rattle.sdmp_laws.proofs.ListLemmas.{degrees_each}

-- ---- what the parts keep
norm_positive : (ord : Order) (p n : ℕ) (g : List Term) → IsPoly ord p n g → g ≢ [] → 0 < norm g
norm_positive ord p n [] i z = absurd (z refl)
norm_positive ord p n (t ∷ g) i z =
    let f = head_facts ord p n t g i in
    let a : 0 < unsigned_abs t.coefficient = positive (unsigned_abs t.coefficient) (λ e. f.3 (abs_zero t.coefficient e)) in
    omega (arith, a, norm_cons t g)
  where
    positive : (k : ℕ) → (k ≡ 0 → ⊥) → 0 < k
    positive zero h = absurd (h refl)
    positive (suc k) h = omega arith

times_positive : (a b : ℕ) → 0 < b → a ≤ a * b
times_positive a zero h = absurd (omega arith)
times_positive a (suc b) h = omega arith

module _ (d : Division) (lim : ℕ) (q r u v : List Term) where
  pub quotient_norm : IsAccepted d → Dividing d lim q r u v → d.p ≡ 0 → norm q ≤ greatest_norm
  quotient_norm a s z = omega (arith, not_passed d q z s.within, times_positive (norm q) (norm d.g) (norm_positive d.ord d.p d.n d.g a.divisor a.nonzero))

  pub quotient_canonical : IsAccepted d → Dividing d lim q r u v → All (λ t. degree t.monomial ≤ lim) q → IsCanonical d.ord d.p d.n lim q
  quotient_canonical a s l = record { poly = turns_poly d d.f q a (prefix_begins d q a s.begun); degrees = degrees_each lim q l; norm_fits = quotient_norm a s }

  pub rest_canonical : IsAccepted d → Dividing d lim q r u v → IsCanonical d.ord d.p d.n lim r
  rest_canonical a s = record { poly = s.rest; degrees = degrees_each lim r s.low.2; norm_fits = λ z. omega (arith, s.weight z, not_passed d q z s.within) }

-- ---- the ends
ends_of : (d : Division) (lim : ℕ) (q r u v : List Term) → u ≡ [] → v ≡ [] → Dividing d lim q r u v → Dividing d lim q r [] []
ends_of d lim q r u v e f s = subst (λ (A : List Term). Dividing d lim q r A []) e (subst (λ (A : List Term). Dividing d lim q r u A) f s)

pub exact_ends : (d : Division) (lim : ℕ) (q r u v : List Term) → IsAccepted d → u ≡ [] → v ≡ [] → Dividing d lim q r u v → d.mode ≡ Exact → IsOutcome d (HasQuotient q)
unfolding IsOutcome
exact_ends d lim q r u v a e f s m = let k = ends_of d lim q r u v e f s in (done_within d lim q r a k, m, (done_exact d lim q r a k m).0)

pub other : (mode : Mode) → (mode ≢ Exact) → mode ≡ Remainder
other Exact n = absurd (n refl)
other Remainder n = refl

pub remainder_ends : (d : Division) (lim : ℕ) (q r u v : List Term) → IsAccepted d → u ≡ [] → v ≡ [] → Dividing d lim q r u v → (d.mode ≢ Exact) → IsOutcome d (HasRemainder q r)
unfolding IsOutcome
remainder_ends d lim q r u v a e f s n = let k = ends_of d lim q r u v e f s in (done_within d lim q r a k, other d.mode n, done_remainder d lim q r a k (other d.mode n))

-- ---- fits
-- by a unit each coefficient at a monomial that the leading one divides fits
pub unit_fits : (p : ℕ) (l : List ℕ) (b : ℤ) (t : Term) → IsUnit p b → IsReduced p t.coefficient → Divides l t.monomial → (x : Term) × IsTermQuotient p l b t x
unit_fits p l b t i r v = (
  record { monomial = over t.monomial l; coefficient = red p (t.coefficient *ℤ i.1.0) },
  record {
    divides = v;
    at = refl;
    reduced = red_red p (t.coefficient *ℤ i.1.0);
    product =
        red_mul p (red p (t.coefficient *ℤ i.1.0)) (t.coefficient *ℤ i.1.0) b b (red_red p (t.coefficient *ℤ i.1.0)) refl
        ∙ ap (red p) (mul_assoc t.coefficient i.1.0 b ∙ ap (λ (x : ℤ). t.coefficient *ℤ x) (mul_comm i.1.0 b))
        ∙ red_mul p t.coefficient t.coefficient (b *ℤ i.1.0) (pos 1) refl i.1.1 ∙ ap (red p) (mul_one t.coefficient) ∙ r;
  },
)

-- so where none fits in a division with remainder, the monomial is out of scope
pub no_fit_outside : (d : Division) (t : Term) → IsAccepted d → d.mode ≡ Remainder → IsReduced d.p t.coefficient → ((x : Term) → IsTermQuotient d.p (lm d.g) (lc d.g) t x → ⊥) → InScope d.mode (lm d.g) t.monomial → ⊥
no_fit_outside d t a m r n c =
    let f = unit_fits d.p (lm d.g) (lc d.g) t (unit_in_remainder d a m) r (scope_divides d.mode (lm d.g) t.monomial m c) in
    n f.0 f.1

-- the degree of a term that fits
pub fit_degree : (p : ℕ) (l : List ℕ) (b : ℤ) (t x : Term) → IsTermQuotient p l b t x → degree x.monomial + degree l ≡ degree t.monomial
fit_degree p l b t x f = sym (degree_times x.monomial l) ∙ ap degree (ap (λ (m : List ℕ). m ⋅ l) f.at ∙ over_times t.monomial l f.divides)

-- over the integers a coefficient that fits is no greater than the one it takes away
pub fit_size : (l : List ℕ) (b : ℤ) (t x : Term) → (b ≢ pos 0) → IsTermQuotient 0 l b t x → unsigned_abs x.coefficient ≤ unsigned_abs t.coefficient
fit_size l b t x z f =
    let e : unsigned_abs x.coefficient * unsigned_abs b ≡ unsigned_abs t.coefficient = sym (unsigned_abs-mul x.coefficient b) ∙ ap unsigned_abs f.product in
    omega (arith, e, times_positive (unsigned_abs x.coefficient) (unsigned_abs b) (positive (unsigned_abs b) (λ k. z (abs_zero b k))))
  where
    positive : (k : ℕ) → (k ≡ 0 → ⊥) → 0 < k
    positive zero h = absurd (h refl)
    positive (suc k) h = omega arith

-- ---- other names for the same
pub fit_same : (p p' : ℕ) (l l' : List ℕ) (b b' : ℤ) (t x : Term) → p ≡ p' → l ≡ l' → b ≡ b' → IsTermQuotient p l b t x → IsTermQuotient p' l' b' t x
fit_same p p' l l' b b' t x e f h i =
    subst (λ (k : ℕ). IsTermQuotient k l' b' t x) e (subst (λ (k : List ℕ). IsTermQuotient p k b' t x) f (subst (λ (k : ℤ). IsTermQuotient p l k t x) h i))

pub dividing_same : (d : Division) (lim : ℕ) (q q' r r' u u' v v' : List Term) → q ≡ q' → r ≡ r' → u ≡ u' → v ≡ v' → Dividing d lim q r u v → Dividing d lim q' r' u' v'
dividing_same d lim q q' r r' u u' v v' e f g h s =
    subst (λ (A : List Term). Dividing d lim A r' u' v') e
    (subst (λ (A : List Term). Dividing d lim q A u' v') f
    (subst (λ (A : List Term). Dividing d lim q r A v') g
    (subst (λ (A : List Term). Dividing d lim q r u A) h s)))

-- ---- the leading term, and whether it has an inverse
pub lead_facts : {M E : Type 0} (vector : M → List ℕ) (value : E → ℤ) (ts : List (TermOf M E)) (x : TermOf M E) (L : List Term) → 0 < length ts → x ≡ get_or ts 0 x → sum_of vector value ts ≡ L → (L ≢ []) × (vector x.mono ≡ lm L) × (value x.coef ≡ lc L)
unfolding lm lc
lead_facts vector value [] x L h e f = absurd (omega arith)
lead_facts vector value (t ∷ ts) x L h e f = subst (λ (A : List Term). (A ≢ []) × (vector x.mono ≡ lm A) × (value x.coef ≡ lc A)) f ((λ z. cc), ap (λ y. vector y.mono) e, ap (λ y. value y.coef) e)

pub nothing_in : {M E : Type 0} (vector : M → List ℕ) (value : E → ℤ) (ts : List (TermOf M E)) (L : List Term) (b : Bool) → b ≡ eqb (length ts) 0 → b ≡ true → sum_of vector value ts ≡ L → L ≡ []
nothing_in {M} {E} vector value ts L b e f g = sym g ∙ none ts (eqb-true (length ts) 0 (sym e ∙ f))
  where
    none : (us : List (TermOf M E)) → length us ≡ 0 → sum_of vector value us ≡ []
    none [] h = refl
    none (u ∷ us) h = absurd (omega (arith, h))

pub unit_from : {E : Type 0} (value : E → ℤ) (belongs : E → Type 0) (mode : Mode) (p : ℕ) (b : ℤ) (o : Option E) → IsReduced p b → MatchOption o (IsUnit p b → ⊥) (λ v. belongs v × IsInverse p b (value v)) → ((o ≡ None) × ((mode ≡ Remainder) ⊎ (p ≢ 0)) → ⊥) → ((mode ≡ Exact) × (p ≡ 0)) ⊎ IsUnit p b
unit_from value belongs mode p b (Some v) r h n = inr (r, (value v, h.1.product))
unit_from value belongs Exact zero b None r h n = inl (refl, refl)
unit_from value belongs Exact (suc k) b None r h n = absurd (n (refl, inr (λ z. omega (arith, z))))
unit_from value belongs Remainder p b None r h n = absurd (n (refl, inl refl))

pub no_unit_from : {E : Type 0} (value : E → ℤ) (belongs : E → Type 0) (p : ℕ) (b : ℤ) (o : Option E) → o ≡ None → MatchOption o (IsUnit p b → ⊥) (λ v. belongs v × IsInverse p b (value v)) → IsUnit p b → ⊥
no_unit_from {E} value belongs p b o e h = subst (λ (x : Option E). MatchOption x (IsUnit p b → ⊥) (λ v. belongs v × IsInverse p b (value v))) e h
