-- A product of two workers, and what the first of them sends.
use Rattle.std.proofs.Common.{◌≡◌, ℕ, ℤ, pos, negsuc, List, [], ◌∷◌, refl, sym, ap₂, ◌∙◌, subst}
use Rattle.sdmp_laws.specs.Order.{Grlex, ◌⋅◌, degree, alike, is_below, tie_below, lex_below}
use Rattle.sdmp_laws.specs.Poly.{terms, times, term_times, row, every, part, put, keep, is_zero, term_plus}
use Rattle.canonical_terms.specs.View.{term_of}
use Rattle.canonical_terms.specs.declared.term.TermOf.{TermOf}
use Rattle.whole_laws.specs.Notes.{Script, ProductScript, Product, script_list}
use Rattle.term_ring.specs.declared.note.NoteOf.TheVariants.{Term, End}
use Rattle.term_ring.specs.Carried.{Carries}
use Rattle.term_ring.proofs.Carrying.{carries_whole}

abbrev pub one_by_two : Product
one_by_two = record {
  ord = Grlex;
  p = 0;
  n = 1;
  f = terms Grlex 0 (record { monomial = 1 ∷ []; coefficient = pos 1 } ∷ record { monomial = 0 ∷ []; coefficient = pos 1 } ∷ []);
  g = terms Grlex 0 (record { monomial = 1 ∷ []; coefficient = pos 1 } ∷ record { monomial = 0 ∷ []; coefficient = negsuc 0 } ∷ []);
}

-- the first of two workers sends x^2 and -x of the product of x+1 and x-1
first_rows : script_list (ProductScript one_by_two 2 0) ≡ record { monomial = 2 ∷ []; coefficient = pos 1 } ∷ record { monomial = 1 ∷ []; coefficient = negsuc 0 } ∷ []
unfolding script_list part every times row term_times terms put keep is_zero term_plus alike is_below tie_below lex_below degree ◌⋅◌
first_rows = refl

module _ {M E : Type 0} (vector : M → List ℕ) (value : E → ℤ) (s : Script) (t u : TermOf M E) (is : s ≡ ProductScript one_by_two 2 0) (t_is : term_of vector value t ≡ record { monomial = 2 ∷ []; coefficient = pos 1 })
    (u_is : term_of vector value u ≡ record { monomial = 1 ∷ []; coefficient = negsuc 0 }) where
  pub all_three : Carries vector value s (Term t ∷ Term u ∷ End ∷ [])
  all_three = subst (λ z. Carries vector value z (Term t ∷ Term u ∷ End ∷ [])) (sym is) (carries_whole vector value one_by_two 2 0 (t ∷ u ∷ []) (ap₂ (λ a b. a ∷ b ∷ []) t_is u_is ∙ sym first_rows))
