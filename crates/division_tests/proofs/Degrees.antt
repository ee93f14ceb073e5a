-- The degrees of the terms of a list are those of its sum.
use Rattle.std.proofs.Common.{◌≡◌, ℕ, ◌≤◌, ℤ, List, [], ◌∷◌, All, sym, subst}
use Rattle.std.proofs.lemmas.List.Elements.{All-nil, All-cons, All-head, All-tail}
use Rattle.sdmp_laws.specs.Order.{Order, degree}
use Rattle.sdmp_laws.specs.Poly.{Term}
use Rattle.sdmp_laws.specs.Canonical.{IsCanonical}
use Rattle.sdmp_laws.proofs.ListLemmas.{each_degree}
use Rattle.canonical_terms.specs.View.{term_of, sum_of}
use Rattle.canonical_terms.specs.declared.term.TermOf.{TermOf}

module _ {M E : Type 0} (vector : M → List ℕ) (value : E → ℤ) where
  each_term : (D : ℕ) (ts : List (TermOf M E)) → All (λ t. degree t.monomial ≤ D) (sum_of vector value ts) → All (λ t. degree (vector t.mono) ≤ D) ts
  each_term D [] h = All-nil _
  each_term D (t ∷ ts) h =
      All-cons (λ (u : TermOf M E). degree (vector u.mono) ≤ D) t ts
      (All-head (λ (u : Term). degree u.monomial ≤ D) (term_of vector value t) (sum_of vector value ts) h)
      (each_term D ts (All-tail (λ (u : Term). degree u.monomial ≤ D) (term_of vector value t) (sum_of vector value ts) h))

  pub term_degrees : (ord : Order) (p n D : ℕ) (L : List Term) (ts : List (TermOf M E)) → sum_of vector value ts ≡ L → IsCanonical ord p n D L → All (λ t. degree (vector t.mono) ≤ D) ts
  term_degrees ord p n D L ts is canonical = each_term D ts (subst (All (λ t. degree t.monomial ≤ D)) (sym is) (each_degree D L canonical.degrees))
