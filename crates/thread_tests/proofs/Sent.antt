-- What the workers of the tests send.
use Rattle.std.proofs.Common.{◌≡◌, ℕ, zero, suc, pos, negsuc, ◌%◌, List, [], ◌∷◌, length, refl, sym, ap, ap₂, ◌∙◌, eqb, cond, true, arith}
use Rattle.sdmp_laws.specs.Order.{Order, Grlex, ◌⋅◌, zeros, degree, alike, is_below, tie_below, lex_below}
use Rattle.sdmp_laws.specs.Poly.{Term as PlainTerm, IsPoly, Over, terms, times, term_times, row, every, part, put, keep, is_zero, term_plus}
use Rattle.sdmp_laws.proofs.TermsLemmas.{terms_of_poly}
use Rattle.sdmp_laws.proofs.Ints.{mul_one}
use Rattle.whole_laws.specs.Notes.{ProductScript, script_list}
use Rattle.global_heap.specs.Examples.{squares}

-- the second of two workers sends x and -1 of the product of x+1 and x-1
pub second_rows : script_list (ProductScript squares 2 1) ≡ record { monomial = 1 ∷ []; coefficient = pos 1 } ∷ record { monomial = 0 ∷ []; coefficient = negsuc 0 } ∷ []
unfolding script_list part every times row term_times terms put keep is_zero term_plus alike is_below tie_below lex_below degree ◌⋅◌
second_rows = refl

-- ---- a product with 1
none : (i : ℕ) → eqb (i % 1) 0 ≡ true
none i = let z : i % 1 ≡ 0 = omega arith in ap (λ (k : ℕ). eqb k 0) z

by_zeros : (n : ℕ) (m : List ℕ) → length m ≡ n → m ⋅ zeros n ≡ m
unfolding ◌⋅◌ zeros
by_zeros zero [] e = refl
by_zeros zero (x ∷ m) e = absurd (omega arith)
by_zeros (suc n) [] e = absurd (omega arith)
by_zeros (suc n) (x ∷ m) e = ap₂ (λ (y : ℕ) l. y ∷ l) (omega arith) (by_zeros n m (omega arith))

every_is : (A : List PlainTerm) (i : ℕ) → every 1 0 i A ≡ A
unfolding every
every_is [] i = refl
every_is (t ∷ A) i = ap (λ b. cond b (t ∷ every 1 0 (suc i) A) (every 1 0 (suc i) A)) (none i) ∙ ap (λ L. t ∷ L) (every_is A (suc i))

times_unit : (n : ℕ) (A : List PlainTerm) → Over n A → times A (record { monomial = zeros n; coefficient = pos 1 } ∷ []) ≡ A
unfolding times row term_times Over
times_unit n [] o = refl
times_unit n (t ∷ A) o = ap₂ (λ x L. x ∷ L) (λ i. record { monomial = by_zeros n t.monomial o.0 i; coefficient = mul_one t.coefficient i }) (times_unit n A o.1)

-- the list of the product of f and 1 is that of f
pub alone : (ord : Order) (p n : ℕ) (f : List PlainTerm) → IsPoly ord p n f → f ≡ script_list (ProductScript record { ord = ord; p = p; n = n; f = f; g = record { monomial = zeros n; coefficient = pos 1 } ∷ [] } 1 0)
unfolding script_list part
alone ord p n f h =
    let unit : List PlainTerm = record { monomial = zeros n; coefficient = pos 1 } ∷ [] in
    sym (ap (λ L. terms ord p (times L unit)) (every_is f 0) ∙ (ap (terms ord p) (times_unit n f h.vectors) ∙ terms_of_poly ord p n f h))

pub one_is : terms Grlex 0 (record { monomial = 0 ∷ []; coefficient = pos 1 } ∷ []) ≡ record { monomial = zeros 1; coefficient = pos 1 } ∷ []
unfolding terms put keep is_zero zeros
one_is = refl
