-- What a merge keeps of its divisor.
use Rattle.std.proofs.Common.{◌≡◌, ◌≢◌, ◌↔◌, ℕ, ◌≤◌, ℤ, List, [], ◌∷◌, length, get_or, All, Option, MatchOption, IsTrue, eqb, eqb-true, eq-eqb, sym, ap, ◌∙◌, subst, arith}
use Rattle.std.proofs.lemmas.List.{length-map}
use Rattle.sdmp_laws.specs.Order.{Order, degree}
use Rattle.sdmp_laws.specs.Ring.{IsUnit, IsInverse}
use Rattle.sdmp_laws.specs.Poly.{Term, lm, lc, AllDegrees}
use Rattle.sdmp_laws.specs.Canonical.{IsCanonical}
use Rattle.canonical_terms.specs.View.{sum_of, term_of}
use Rattle.canonical_terms.specs.declared.term.TermOf.{TermOf}
use Rattle.divide_core.specs.Dividing.{IsLeading}

pub is_zero : (n p : ℕ) → n ≡ p → IsTrue (eqb n 0) ↔ p ≡ 0
is_zero n p e = ((λ t. sym e ∙ eqb-true n 0 t), (λ z. eq-eqb n 0 (e ∙ z)))

module _ {M E : Type 0} (vector : M → List ℕ) (value : E → ℤ) (Belongs : E → Type 0) (ord : Order) (n lim p : ℕ) (g : List Term) where
  -- the first of the divisor's terms leads it
  pub leads : (ts : List (TermOf M E)) (t : TermOf M E) (inverse : Option E) → sum_of vector value ts ≡ g → IsCanonical ord p n lim g → All (λ s. Belongs s.coef) ts → g ≢ [] → t ≡ get_or ts 0 t
      → MatchOption inverse (IsUnit p (value t.coef) → ⊥) (λ v. Belongs v × IsInverse p (value t.coef) (value v)) → IsLeading vector value Belongs lim (record { modulus = p; list = g }) (record { term = t; inverse = inverse })
  unfolding lm lc AllDegrees
  leads [] t inverse e c b some is unit = absurd (some (sym e))
  leads (u ∷ ts) t inverse e c b some is unit = record {
    monomial = ap (λ (s : TermOf M E). vector s.mono) is ∙ ap (λ (L : List Term). lm L) e;
    coefficient = ap (λ (s : TermOf M E). value s.coef) is ∙ ap (λ (L : List Term). lc L) e;
    low = subst (λ (s : TermOf M E). degree (vector s.mono) ≤ lim) (sym is) (subst (AllDegrees lim) (sym e) c.degrees).0;
    belongs = subst (λ (s : TermOf M E). Belongs s.coef) (sym is) (b 0 t (omega arith));
    unit = unit;
  }

  pub counted : (ts : List (TermOf M E)) → sum_of vector value ts ≡ g → length ts ≡ length g
  counted ts e = sym (length-map ts (term_of vector value)) ∙ ap (λ (L : List Term). length L) e
