-- The product of x+1 and x-1 has room, and which rings its two workers have.
use Rattle.std.proofs.Common.{◌≡◌, ℕ, zero, suc, ◌+◌, ◌*◌, ◌<◌, pos, negsuc, List, [], ◌∷◌, length, refl, sym, ap, ap₂, ◌∙◌, subst, arith}
use Rattle.sdmp_laws.specs.Order.{Grlex, degree, alike, is_below, tie_below, lex_below}
use Rattle.sdmp_laws.specs.Poly.{Term as PlainTerm, Over, AllDegrees, norm, lm, terms, put, keep, is_zero, term_plus}
use Rattle.sdmp_laws.specs.Limits.{greatest_norm}
use Rattle.sdmp_laws.proofs.TermsLemmas.{terms_poly}
use Rattle.packed_monomial.specs.Packing.{limit_of}
use Rattle.whole_laws.specs.Notes.{ProductScript}
use Rattle.global_heap.specs.Examples.{squares}
use Rattle.term_ring.specs.Names.{RingName}
use Rattle.global_heap.specs.Names.{script_product, first_product, HasScripts, IsFit}

-- ---- the product has room
f_list : squares.f ≡ record { monomial = 1 ∷ []; coefficient = pos 1 } ∷ record { monomial = 0 ∷ []; coefficient = pos 1 } ∷ []
unfolding terms put keep is_zero term_plus alike is_below tie_below lex_below degree
f_list = refl

g_list : squares.g ≡ record { monomial = 1 ∷ []; coefficient = pos 1 } ∷ record { monomial = 0 ∷ []; coefficient = negsuc 0 } ∷ []
unfolding terms put keep is_zero term_plus alike is_below tie_below lex_below degree
g_list = refl

-- what is asked of a list of a term of x and a constant
record IsLinear (L : List PlainTerm) : Type 0 where
  pub degrees : AllDegrees (limit_of 1) L
  pub norm_is : norm L ≡ 2
  pub lead_degree : degree (lm L) ≡ 1
  pub count : length L ≡ 2

f_linear : IsLinear squares.f
unfolding AllDegrees norm lm degree
f_linear = subst IsLinear (sym f_list) (record { degrees = (omega arith, (omega arith, tt)); norm_is = refl; lead_degree = refl; count = refl })

g_linear : IsLinear squares.g
unfolding AllDegrees norm lm degree
g_linear = subst IsLinear (sym g_list) (record { degrees = (omega arith, (omega arith, tt)); norm_is = refl; lead_degree = refl; count = refl })

fit : IsFit (limit_of 1) squares
unfolding Over
fit =
    let f = f_linear in let g = g_linear in
    let two : norm squares.f ≡ 2 = f.norm_is in let too : norm squares.g ≡ 2 = g.norm_is in
    let one : degree (lm squares.f) ≡ 1 = f.lead_degree in let next : degree (lm squares.g) ≡ 1 = g.lead_degree in
    let count : length squares.f ≡ 2 = f.count in let counts : length squares.g ≡ 2 = g.count in
    let four : norm squares.f * norm squares.g ≡ 4 = ap₂ (λ (a b : ℕ). a * b) two too in record {
      left = record { poly = terms_poly Grlex 0 1 (record { monomial = 1 ∷ []; coefficient = pos 1 } ∷ record { monomial = 0 ∷ []; coefficient = pos 1 } ∷ []) (refl, (refl, tt)); degrees = f.degrees; norm_fits = λ z. omega arith };
      right = record { poly = terms_poly Grlex 0 1 (record { monomial = 1 ∷ []; coefficient = pos 1 } ∷ record { monomial = 0 ∷ []; coefficient = negsuc 0 } ∷ []) (refl, (refl, tt)); degrees = g.degrees; norm_fits = λ z. omega arith };
      room = record {
        degree_fits = λ o. let over : limit_of 1 < degree (lm squares.f) + degree (lm squares.g) = o.over in omega arith;
        norm_fits = λ o. let over : greatest_norm < norm squares.f * norm squares.g = o.over in omega arith;
      };
      few_left = omega arith;
      few_right = omega arith;
    }

-- ---- the rings of its two workers
both : (a b : RingName) → a.script ≡ ProductScript squares 2 0 → b.script ≡ ProductScript squares 2 1 → HasScripts squares (a ∷ b ∷ [])
both a b first second zero d inside = first
both a b first second (suc zero) d inside = second
both a b first second (suc (suc w)) d inside = absurd (omega arith)

module _ (names : List RingName) (a b : RingName) (is : names ≡ a ∷ b ∷ []) (first : a.script ≡ ProductScript squares 2 0) (second : b.script ≡ ProductScript squares 2 1) where
  pub product_is : first_product names ≡ squares
  product_is = ap first_product is ∙ ap script_product first

  pub scripts : HasScripts (first_product names) names
  scripts = subst (λ m. HasScripts m names) (sym product_is) (subst (HasScripts squares) (sym is) (both a b first second))

  pub fits : IsFit (limit_of 1) (first_product names)
  fits = subst (IsFit (limit_of 1)) (sym product_is) fit
