-- The divisions of the tests are carried out.
use Rattle.std.proofs.Common.{◌≡◌, ℕ, ℤ, pos, negsuc, List, [], ◌∷◌, inl, refl, ap, arith}
use Rattle.sdmp_laws.specs.Order.{Grlex, degree, alike, is_below, tie_below, lex_below}
use Rattle.sdmp_laws.specs.Poly.{Term as PlainTerm, norm, Over, terms, put, keep, is_zero, term_plus}
use Rattle.sdmp_laws.specs.Canonical.{Polynomial}
use Rattle.sdmp_laws.specs.Division.{IsAccepted}
use Rattle.sdmp_laws.specs.declared.Mode.TheVariants.{Exact}
use Rattle.division_laws.specs.Outcome.{division_of}
use Rattle.sdmp_laws.proofs.TermsLemmas.{terms_poly}
use Rattle.division_tests.specs.Examples.{two_terms, by_line, square_and_one, cube_less_one}

-- it is the division of these two
pub is_by_line : (k : ℕ) (a b : ℤ) (f g : Polynomial) → f.modulus ≡ 0 → f.list ≡ two_terms (pos 1) k a → g.list ≡ two_terms (pos 1) 1 b → division_of Exact Grlex 1 f g ≡ by_line k a b
is_by_line k a b f g modulus f_is g_is = λ i. record { mode = Exact; ord = Grlex; p = modulus i; n = 1; f = f_is i; g = g_is i }

no_norm : (A : List PlainTerm) → A ≡ [] → norm A ≡ 0
unfolding norm
no_norm A e = ap norm e

accepts : (k : ℕ) (a b : ℤ) → norm (by_line k a b).g ≡ 2 → IsAccepted (by_line k a b)
unfolding Over
accepts k a b two = record {
  dividend = terms_poly Grlex 0 1 (record { monomial = k ∷ []; coefficient = pos 1 } ∷ record { monomial = 0 ∷ []; coefficient = a } ∷ []) (refl, (refl, tt));
  divisor = terms_poly Grlex 0 1 (record { monomial = 1 ∷ []; coefficient = pos 1 } ∷ record { monomial = 0 ∷ []; coefficient = b } ∷ []) (refl, (refl, tt));
  nonzero = λ e. let z : norm (by_line k a b).g ≡ 0 = no_norm (by_line k a b).g e in omega (arith, two);
  unit = inl (refl, refl);
}

pub square_accepted : IsAccepted square_and_one
unfolding norm terms put keep is_zero term_plus alike is_below tie_below lex_below degree
square_accepted = accepts 2 (pos 1) (pos 1) refl

pub cube_accepted : IsAccepted cube_less_one
unfolding norm terms put keep is_zero term_plus alike is_below tie_below lex_below degree
cube_accepted = accepts 3 (negsuc 0) (negsuc 0) refl
