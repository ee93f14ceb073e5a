-- What a merge of a division knows of the term that is due, of its fields.
use Rattle.std.proofs.Common.{◌≡◌, ◌≢◌, ◌↔◌, IsTrue, Bool, false, true≢false, ℕ, zero, suc, ◌+◌, ◌*◌, ◌^◌, ◌<◌, ◌≤◌, ℤ, pos, List, [], ◌∷◌, ◌++◌, length, unsigned_abs, Some, MatchOption, refl, sym, ap, ◌∙◌, subst, arith}
use Rattle.std.proofs.lemmas.List.{length-map}
use Rattle.sdmp_laws.specs.Order.{Order, degree}
use Rattle.sdmp_laws.specs.Ring.{IsReduced, IsUnit, IsInverse}
use Rattle.sdmp_laws.specs.Poly.{Term, coef, norm}
use Rattle.sdmp_laws.specs.Division.{Division, IsAccepted}
use Rattle.sdmp_laws.specs.Limits.{Passes, PassesBound, greatest_norm, quotient_terms_limit}
use Rattle.sdmp_laws.proofs.Ints.{red_red}
use Rattle.sdmp_laws.proofs.DivisionLemmas.{lead_nonzero}
use Rattle.canonical_terms.specs.View.{term_of}
use Rattle.canonical_terms.specs.declared.term.TermOf.{TermOf}
use Rattle.divide_core.specs.Dividing.{IsTermQuotient}
use Rattle.divide_core.specs.Answer.{IsBoundPassed}
use Rattle.divide_core.specs.declared.answer.DivideFault.{DivideFault}
use Rattle.divide_core.specs.declared.answer.DivideFault.TheVariants.{ZeroDivisor, NotUnit, CoefficientBound, TermBound, NoMemory}
use Rattle.dividing_rounds.specs.Found.{read_coef, term_at, Fits}
use Rattle.dividing_rounds.specs.Stalls.{IsGreatestRead}
use Rattle.divide_wholes.specs.Wholes.{DivideState}
use Rattle.divide_wholes.specs.Workers.{IsUnreadTop}
use Rattle.divide_merge.specs.Divisors.{IsDivisor}
use Rattle.divide_merge.specs.Merges.{DivideView, IsSound}
use Rattle.divide_merge.specs.Inside.{Held, divide_view, IsDivideMerge}
use Rattle.divide_merge.proofs.Adding.{fits_quotient, norm_fits, passes_norm, passes_count, stays_within, norm_is}
use Rattle.divide_merge.proofs.Degrees.{read_low}
use Rattle.divide_merge.proofs.Hearing.{modulus_is}

-- a row that isn't full has a place
pub has_place : (n : ℕ) (b : Bool) → IsTrue b ↔ n ≡ 0 → b ≡ false → 0 < n
has_place zero b i f = absurd (true≢false (sym (i.1 refl) ∙ f))
has_place (suc n) b i f = omega arith

-- what was read has a reduced coefficient
pub read_reduced : (s : DivideState) (x : List ℕ) → IsReduced s.division.p (read_coef s x)
unfolding coef
read_reduced s x = red_red s.division.p _

-- and a low degree
pub greatest_low : (lim : ℕ) (v : DivideView) (x : List ℕ) → IsSound lim v → IsGreatestRead v.run.state (Some x) → degree x ≤ lim
unfolding IsUnreadTop
greatest_low lim v x s read = read_low lim v.run.state x s.fit s.whole.whole read.0

moved : (p q : ℕ) (l m : List ℕ) (b c : ℤ) (t s u : Term) → p ≡ q → l ≡ m → b ≡ c → t ≡ s → IsTermQuotient p l b t u → IsTermQuotient q m c s u
moved p q l m b c t s u ep el eb et i =
    subst (λ (k : ℕ). IsTermQuotient k m c s u) ep
    (subst (λ (k : List ℕ). IsTermQuotient p k c s u) el
    (subst (λ (k : ℤ). IsTermQuotient p l k s u) eb
    (subst (λ (k : Term). IsTermQuotient p l b k u) et i)))

module _ {X M E : Type 0} {vector : M → List ℕ} {value : E → ℤ} {belongs : ℕ → E → Type 0} {ord : Order} {n lim p quotient_room rest_room : ℕ} {h : Held X M E} (k : IsDivideMerge vector value belongs ord n lim p quotient_room rest_room h) {v : DivideView} (view : divide_view vector value h ≡ v) where
  abbrev d : Division
  d = v.run.state.division

  pub divisor_is : IsDivisor vector value (belongs p) lim d h.divisor
  divisor_is = subst (λ (u : DivideView). IsDivisor vector value (belongs p) lim u.run.state.division h.divisor) view k.made_for.divisor_is

  pub belongs_here : (c : E) → belongs d.p c → belongs p c
  belongs_here c = subst (λ (q : ℕ). belongs q c) (modulus_is k view)

  pub norm_here : d.p ≡ 0 → h.norm ≡ norm v.run.state.q
  norm_here = subst (λ (u : DivideView). u.run.state.division.p ≡ 0 → h.norm ≡ norm u.run.state.q) view (λ z. k.terms.norm_is (sym k.made_for.modulus ∙ z))

  pub count_here : (m : ℕ) → m ≡ length h.found → m ≡ length v.run.state.q
  count_here m e = e ∙ sym (length-map h.found (term_of vector value)) ∙ ap (λ (u : DivideView). length u.run.state.q) view

  pub spare_here : h.spare ≡ v.spare
  spare_here = ap (λ (u : DivideView). u.spare) view

  -- ---- what is asked where the quotient is found
  pub nonzero_here : value h.divisor.lead.term.coef ≢ pos 0
  nonzero_here z = lead_nonzero d (subst (λ (u : DivideView). IsAccepted u.run.state.division) view k.made_for.fit.accepted) (sym divisor_is.leading.coefficient ∙ z)

  pub unit_here : MatchOption h.divisor.lead.inverse (IsUnit p (value h.divisor.lead.term.coef) → ⊥) (λ w. belongs p w × IsInverse p (value h.divisor.lead.term.coef) (value w))
  unit_here =
      subst (λ (q : ℕ). MatchOption h.divisor.lead.inverse (IsUnit q (value h.divisor.lead.term.coef) → ⊥) (λ w. belongs p w × IsInverse q (value h.divisor.lead.term.coef) (value w))) k.made_for.modulus k.made_for.divisor_is.leading.unit

  -- where nothing is found no number fits
  pub none_here : (m : M) (c : E) → value c ≡ read_coef v.run.state (vector m)
      → ((t : Term) → IsTermQuotient p (vector h.divisor.lead.term.mono) (value h.divisor.lead.term.coef) (record { monomial = vector m; coefficient = value c }) t → ⊥)
      → (u : ℤ) → Fits v.run.state (vector m) u → ⊥
  none_here m c e none u f =
      none (term_at v.run.state (vector m) u)
      (moved _ _ _ _ _ _ _ _ _ (modulus_is k view) (sym divisor_is.leading.monomial) (sym divisor_is.leading.coefficient) (ap (λ (a : ℤ). record { monomial = vector m; coefficient = a }) (sym e)) (fits_quotient v.run.state (vector m) u f))

  -- ---- a term that is due, of this size, with which there are so many
  module _ (s : IsSound lim v) (t : TermOf M E) (size count : ℕ) (es : size ≡ unsigned_abs (value t.coef)) (ec : count ≡ length h.found + 1) where
    counted : count ≡ length v.run.state.q + 1
    counted = ec ∙ ap (λ (i : ℕ). i + 1) (count_here (length h.found) refl)

    pub due_fits : (p ≡ 0 → unsigned_abs (value t.coef) ≤ greatest_norm) → IsTrue h.divisor.norms.integers → h.norm + size < 2 ^ 128
    due_fits low =
        norm_fits d v.run.state.q (term_of vector value t) s.fit.accepted s.whole.whole.within h.divisor.norms.integers divisor_is.integers h.divisor.norms.dividend h.divisor.norms.divisor h.norm size count divisor_is.dividend divisor_is.divisor norm_here es counted
        (λ z. subst (λ (i : ℕ). i ≤ greatest_norm) (sym es) (low (sym (modulus_is k view) ∙ z)))

    pub due_norm : IsBoundPassed h.divisor.norms.integers h.divisor.norms.dividend h.divisor.norms.divisor (h.norm + size) count CoefficientBound → Passes d (v.run.state.q ++ term_of vector value t ∷ [])
    due_norm = passes_norm d v.run.state.q (term_of vector value t) s.fit.accepted s.whole.whole.within h.divisor.norms.integers divisor_is.integers h.divisor.norms.dividend h.divisor.norms.divisor h.norm size count divisor_is.dividend divisor_is.divisor norm_here es counted

    pub due_count : (e : DivideFault) → (e ≡ CoefficientBound → ⊥) → IsBoundPassed h.divisor.norms.integers h.divisor.norms.dividend h.divisor.norms.divisor (h.norm + size) count e
        → (Passes d (v.run.state.q ++ term_of vector value t ∷ []) → ⊥) × (length (v.run.state.q ++ term_of vector value t ∷ []) ≡ quotient_terms_limit)
    due_count ZeroDivisor n b = absurd b
    due_count NotUnit n b = absurd b
    due_count CoefficientBound n b = absurd (n refl)
    due_count TermBound n b = passes_count d v.run.state.q (term_of vector value t) s.fit.accepted s.whole.whole.within h.divisor.norms.integers divisor_is.integers h.divisor.norms.dividend h.divisor.norms.divisor h.norm size count divisor_is.dividend divisor_is.divisor norm_here es counted b
    due_count NoMemory n b = absurd b

    pub due_within : (m : ℕ) → (IsTrue h.divisor.norms.integers → (m ≡ h.norm + size) × (h.divisor.norms.dividend + m * h.divisor.norms.divisor ≤ greatest_norm)) × (count ≢ quotient_terms_limit) → PassesBound d (v.run.state.q ++ term_of vector value t ∷ []) → ⊥
    due_within = stays_within d v.run.state.q (term_of vector value t) s.fit.accepted s.whole.whole.within h.divisor.norms.integers divisor_is.integers h.divisor.norms.dividend h.divisor.norms.divisor h.norm size count divisor_is.dividend divisor_is.divisor norm_here es counted

    pub due_longer : (m : ℕ) → (IsTrue h.divisor.norms.integers → (m ≡ h.norm + size) × (h.divisor.norms.dividend + m * h.divisor.norms.divisor ≤ greatest_norm)) × (count ≢ quotient_terms_limit) → d.p ≡ 0 → m ≡ norm (v.run.state.q ++ term_of vector value t ∷ [])
    due_longer = norm_is d v.run.state.q (term_of vector value t) s.fit.accepted s.whole.whole.within h.divisor.norms.integers divisor_is.integers h.divisor.norms.dividend h.divisor.norms.divisor h.norm size count divisor_is.dividend divisor_is.divisor norm_here es counted
