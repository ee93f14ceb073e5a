-- What a term that is due passes, and where none fits.
use Rattle.std.proofs.Common.{◌≡◌, ◌≢◌, ◌↔◌, ℕ, ◌+◌, ◌*◌, ◌<◌, ◌≤◌, ◌^◌, ℤ, Bool, List, [], ◌∷◌, ◌++◌, length, length-append, IsTrue, unsigned_abs, refl, sym, ◌∙◌, subst, arith}
use Rattle.std.proofs.Math.Nat.{mul-le-mul}
use Rattle.sdmp_laws.specs.Order.{Divides}
use Rattle.sdmp_laws.specs.Ring.{IsReduced}
use Rattle.sdmp_laws.specs.Poly.{Term, lm, lc, norm}
use Rattle.sdmp_laws.specs.Division.{Division, IsAccepted, InScope}
use Rattle.sdmp_laws.specs.Limits.{Passes, PassesBound, greatest_norm, quotient_terms_limit}
use Rattle.sdmp_laws.specs.declared.Mode.{Mode}
use Rattle.sdmp_laws.specs.declared.Mode.TheVariants.{Remainder}
use Rattle.sdmp_laws.proofs.DivisionLemmas.{lead_nonzero}
use Rattle.sdmp_laws.proofs.Merging.{one_norm}
use Rattle.divide_wholes.specs.Wholes.{DivideState}
use Rattle.dividing_rounds.specs.Found.{read_coef, term_at, Fits}
use Rattle.divide_core.specs.Dividing.{IsTermQuotient}
use Rattle.divide_core.specs.Answer.{IsBoundPassed}
use Rattle.divide_core.specs.declared.answer.DivideFault.TheVariants.{CoefficientBound, TermBound}
use Rattle.divide_core.proofs.DividingSteps.{not_passed}
use Rattle.divide_core.proofs.Loop.{bound_kept}
use Rattle.divide_core.proofs.Ends.{no_fit_outside}
use Rattle.divide_merge.proofs.Ending.{norm_some}

-- a number that fits is a quotient of the term there, and conversely
pub quotient_fits : (s : DivideState) (x : List ℕ) (t : Term) → IsTermQuotient s.division.p (lm s.division.g) (lc s.division.g) (record { monomial = x; coefficient = read_coef s x }) t → Fits s x t.coefficient
quotient_fits s x t i = record { divides = i.divides; reduced = i.reduced; product = i.product }

pub fits_quotient : (s : DivideState) (x : List ℕ) (u : ℤ) → Fits s x u → IsTermQuotient s.division.p (lm s.division.g) (lc s.division.g) (record { monomial = x; coefficient = read_coef s x }) (term_at s x u)
fits_quotient s x u f = record { divides = f.divides; at = refl; reduced = f.reduced; product = f.product }

-- in a division with remainder the divisor's leading monomial doesn't divide where nothing fits
pub no_divides : (s : DivideState) (x : List ℕ) → IsAccepted s.division → IsReduced s.division.p (read_coef s x) → s.division.mode ≡ Remainder → ((u : ℤ) → Fits s x u → ⊥) → Divides (lm s.division.g) x → ⊥
unfolding InScope
no_divides s x a r m none d =
    no_fit_outside s.division (record { monomial = x; coefficient = read_coef s x }) a m r (λ t i. none t.coefficient (quotient_fits s x t i))
    (subst (λ (k : Mode). InScope k (lm s.division.g) x) (sym m) d)

-- ---- the bounds
module _ (d : Division) (q : List Term) (t : Term) (a : IsAccepted d) (within : PassesBound d q → ⊥) (integers : Bool) (yes : IsTrue integers ↔ d.p ≡ 0) (f g n size count : ℕ)
    (ef : f ≡ norm d.f) (eg : g ≡ norm d.g) (en : d.p ≡ 0 → n ≡ norm q) (es : size ≡ unsigned_abs t.coefficient) (ec : count ≡ length q + 1) where
  more : d.p ≡ 0 → n + size ≡ norm (q ++ t ∷ [])
  more z = let x = en z in let y = es in let m = one_norm q t in omega arith

  counts : count ≡ length (q ++ t ∷ [])
  counts = let x = ec in let l = length-append q (t ∷ []) in omega arith

  -- the norm with it fits a word of 128 bits
  pub norm_fits : (d.p ≡ 0 → size ≤ greatest_norm) → IsTrue integers → n + size < 2 ^ 128
  norm_fits low i =
      let z = yes.0 i in
      let b = not_passed d q z within in
      let s = norm_some d.g (lead_nonzero d a) in
      let m = mul-le-mul (let e : norm q ≤ norm q = omega arith in e) s in
      let x = en z in
      let l = low z in
      omega arith

  over : IsTrue integers → greatest_norm < f + (n + size) * g → Passes d (q ++ t ∷ [])
  over i l = record {
    integers = yes.0 i;
    over = subst (λ (x : ℕ). greatest_norm < x + norm (q ++ t ∷ []) * norm d.g) ef (subst (λ (x : ℕ). greatest_norm < f + norm (q ++ t ∷ []) * x) eg (subst (λ (x : ℕ). greatest_norm < f + x * g) (more (yes.0 i)) l));
  }

  pub passes_norm : IsBoundPassed integers f g (n + size) count CoefficientBound → Passes d (q ++ t ∷ [])
  passes_norm h = over h.0 h.1

  no_over : (IsTrue integers → f + (n + size) * g ≤ greatest_norm) → Passes d (q ++ t ∷ []) → ⊥
  no_over h p =
      let o = p.over in
      let l = subst (λ (x : ℕ). x + norm (q ++ t ∷ []) * norm d.g ≤ greatest_norm) ef (subst (λ (x : ℕ). f + norm (q ++ t ∷ []) * x ≤ greatest_norm) eg (subst (λ (x : ℕ). f + x * g ≤ greatest_norm) (more p.integers) (h (yes.1 p.integers)))) in
      omega arith

  pub passes_count : IsBoundPassed integers f g (n + size) count TermBound → (Passes d (q ++ t ∷ []) → ⊥) × (length (q ++ t ∷ []) ≡ quotient_terms_limit)
  passes_count h = (no_over h.0, sym counts ∙ h.1)

  -- where the test finds no bound passed, with this norm
  pub stays_within : (m : ℕ) → (IsTrue integers → (m ≡ n + size) × (f + m * g ≤ greatest_norm)) × (count ≢ quotient_terms_limit) → PassesBound d (q ++ t ∷ []) → ⊥
  stays_within m h = bound_kept d q t integers m count f g within yes.1 ef eg (λ z. (h.0 (yes.1 z)).0 ∙ more z) counts (λ i. (h.0 i).1) h.1

  pub norm_is : (m : ℕ) → (IsTrue integers → (m ≡ n + size) × (f + m * g ≤ greatest_norm)) × (count ≢ quotient_terms_limit) → d.p ≡ 0 → m ≡ norm (q ++ t ∷ [])
  norm_is m h z = (h.0 (yes.1 z)).0 ∙ more z
