-- A formal sum and the same one with its coefficients reduced.
use Rattle.std.proofs.Common.{◌≡◌, ◌≤◌, ℕ, Bool, true, false, cond, List, [], ◌∷◌, length, Option, Some, None, Ok, Err, refl, sym, ◌∙◌, ap, subst}
use Rattle.std.specs.Prelude.{◌+ℤ◌, MatchOption}
use Rattle.sdmp_laws.specs.Order.{Order, alike}
use Rattle.sdmp_laws.specs.Limits.{greatest_norm}
use Rattle.sdmp_laws.specs.Poly.{Term, total, norm, Over, terms}
use Rattle.sdmp_laws.specs.Ring.{red}
use Rattle.sdmp_laws.proofs.Ints.{red_add, red_red}
use Rattle.sdmp_laws.proofs.PolyLemmas.{from_total}
use Rattle.sdmp_laws.proofs.TermsLemmas.{terms_equal}
use Rattle.text_laws.specs.Automaton.{fault_place}
use Rattle.text_laws.specs.Denotes.{IsSyntaxFault}
use Rattle.text_laws.specs.Grammar.{Tree, Spells, IsText}
use Rattle.text_laws.specs.Reading.{denotes, summed, reading}
use Rattle.text_laws.specs.Summands.{summands, written_terms, verdict}
use Rattle.text_laws.specs.declared.TextFault.{TextFault}
use Rattle.text_laws.specs.declared.TextFault.TheVariants as faults
use Rattle.text_laws.proofs.Denoting.{denotes_is, denotes_syntax, place_is}
use Rattle.text_laws.proofs.Limits.{faultless, terms_over, norm_within}
use Rattle.text_laws.proofs.OneReading.{denotes_fault}
use Rattle.poly_text.specs.ReadsTerms.{reduced, ReadsTree}

total_reduced : (p : ℕ) (F : List Term) (m : List ℕ) → red p (total (reduced p F) m) ≡ red p (total F m)
unfolding total
total_reduced p [] m = refl
total_reduced p (t ∷ F) m = by (alike t.monomial m) (total_reduced p F m)
  where
    by : (b : Bool) → red p (total (reduced p F) m) ≡ red p (total F m)
        → red p (cond b (red p t.coefficient +ℤ total (reduced p F) m) (total (reduced p F) m)) ≡ red p (cond b (t.coefficient +ℤ total F m) (total F m))
    by true r = red_add p (red p t.coefficient) t.coefficient (total (reduced p F) m) (total F m) (red_red p t.coefficient) r
    by false r = r

over_reduced : (p n : ℕ) (F : List Term) → Over n F → Over n (reduced p F)
unfolding Over
over_reduced p n [] h = tt
over_reduced p n (t ∷ F) h = (h.0, over_reduced p n F h.1)

terms_reduced : (ord : Order) (p n : ℕ) (F : List Term) → Over n F → terms ord p (reduced p F) ≡ terms ord p F
terms_reduced ord p n F h = terms_equal ord p n (reduced p F) F (over_reduced p n F h) h (from_total p (reduced p F) F (total_reduced p F))

-- ---- from the tree to the reading of the bytes
syntax_is : (bytes : List ℕ) (o : Option ℕ) → o ≡ fault_place bytes → o ≡ None → IsText bytes
syntax_is bytes o e n = by (fault_place bytes) (place_is bytes) (sym e ∙ n)
  where
    by : (f : Option ℕ) → MatchOption f (IsText bytes) (λ at. IsSyntaxFault bytes at) → f ≡ None → IsText bytes
    by None t n = t
    by (Some at) t n = absurd (some_none n)
      where
        some_none : Some at ≡ None → ⊥
        some_none e = cc

pub syntax_fault_read : (ord : Order) (names : List (List ℕ)) (p lim at : ℕ) (bytes : List ℕ) (o : Option ℕ) → o ≡ fault_place bytes → o ≡ Some at → reading ord names p lim bytes ≡ Err (faults.Syntax at)
syntax_fault_read ord names p lim at bytes o e s = ap (summed ord p) (denotes_syntax names p lim bytes at (sym e ∙ s))

pub fault_read : {X : Type 0} (terms_in : X → List Term) (ord : Order) (names : List (List ℕ)) (p lim : ℕ) (bytes : List ℕ) (o : Option ℕ) (f : TextFault) → o ≡ fault_place bytes → o ≡ None
    → ((t : Tree) → Spells t bytes → ReadsTree terms_in names p lim t (Err f)) → (f ≡ faults.NoMemory → ⊥) → reading ord names p lim bytes ≡ Err f
fault_read terms_in ord names p lim bytes o f e n r k = by f (syntax_is bytes o e n) r k
  where
    from : (f : TextFault) (t : Tree) → Spells t bytes → verdict names p lim (summands t) ≡ Err f → reading ord names p lim bytes ≡ Err f
    from f t s v = ap (summed ord p) ((denotes_is names p lim bytes (Err f)).0 (denotes_fault names p lim bytes t f s v))

    by : (f : TextFault) → IsText bytes → ((t : Tree) → Spells t bytes → ReadsTree terms_in names p lim t (Err f)) → (f ≡ faults.NoMemory → ⊥) → reading ord names p lim bytes ≡ Err f
    by (faults.Syntax at) (t, s) r k = from (faults.Syntax at) t s (r t s)
    by (faults.UnknownName at) (t, s) r k = from (faults.UnknownName at) t s (r t s)
    by (faults.DegreeBound at) (t, s) r k = from (faults.DegreeBound at) t s (r t s)
    by (faults.CoefficientBound at) (t, s) r k = from (faults.CoefficientBound at) t s (r t s)
    by faults.NoMemory (t, s) r k = absurd (k refl)

pub terms_read : {X : Type 0} (terms_in : X → List Term) (ord : Order) (names : List (List ℕ)) (p lim : ℕ) (bytes : List ℕ) (o : Option ℕ) (v : X) (L : List Term) → o ≡ fault_place bytes → o ≡ None
    → ((t : Tree) → Spells t bytes → ReadsTree terms_in names p lim t (Ok v)) → L ≡ terms ord p (terms_in v) → reading ord names p lim bytes ≡ Ok L
terms_read terms_in ord names p lim bytes o v L e n r l = by (syntax_is bytes o e n)
  where
    by : IsText bytes → reading ord names p lim bytes ≡ Ok L
    by (t, s) =
        let F : List Term = written_terms names (summands t) in
        let d : denotes names p lim bytes ≡ Ok F = (denotes_is names p lim bytes (Ok F)).0 (t, s, (r t s).0) in
        ap (summed ord p) d ∙ ap (λ L. Ok L) (sym (l ∙ ap (terms ord p) (r t s).1 ∙ terms_reduced ord p (length names) F (terms_over names (summands t))))

-- ---- the bound on norms
reduced_same : (F : List Term) → reduced 0 F ≡ F
reduced_same [] = refl
reduced_same (t ∷ F) = ap (λ (G : List Term). t ∷ G) (reduced_same F)

-- over the integers the terms of a text that has no fault are within the bound
pub norm_read : {X : Type 0} (terms_in : X → List Term) (names : List (List ℕ)) (p lim : ℕ) (bytes : List ℕ) (o : Option ℕ) (v : X) → o ≡ fault_place bytes → o ≡ None
    → ((t : Tree) → Spells t bytes → ReadsTree terms_in names p lim t (Ok v)) → p ≡ 0 → norm (terms_in v) ≤ greatest_norm
norm_read terms_in names p lim bytes o v e n r z = by (syntax_is bytes o e n)
  where
    by : IsText bytes → norm (terms_in v) ≤ greatest_norm
    by (t, s) =
        let F : List Term = written_terms names (summands t) in
        let is : terms_in v ≡ F = (r t s).1 ∙ ap (λ (q : ℕ). reduced q F) z ∙ reduced_same F in
        subst (λ (L : List Term). norm L ≤ greatest_norm) (sym is) (norm_within names p (summands t) (faultless names p lim (summands t) F (r t s).0).coefficients z)
