-- What the laws say of x^2*y^2-1 divided by x*y-1 by two workers.
use Rattle.std.proofs.Common.{◌≡◌, ℕ, ◌<◌, inl, inr, ℤ, pos, negsuc, List, [], ◌∷◌, length, get_or, refl, ap, ap₂, arith}
use Rattle.sdmp_laws.specs.Order.{Grlex, ◌⋅◌, Divides, Below, TieBelow, LexBelow, over, divides, degree, alike, is_below, tie_below, lex_below}
use Rattle.sdmp_laws.specs.Poly.{Term, every, minus, negated, term_neg, row, term_times, terms, put, keep, is_zero, term_plus, lm, lc}
use Rattle.sdmp_laws.specs.Division.{Division, AtOrAbove}
use Rattle.sdmp_laws.specs.LongDivision.{quotient_list, turns_at, turns_bound, turn_at, turn_on, first_in_scope, factor, listed}
use Rattle.sdmp_laws.specs.declared.Mode.TheVariants.{Exact}
use Rattle.whole_laws.specs.Notes.{divisor_rows, after_lead}
use Rattle.divide_wholes.specs.Wholes.{AllBelowFront, IsBeyond, IsSettled, IsFrontAt, divide_start}
use Rattle.sdmp_laws.proofs.OrderLemmas.{Three, is_less, is_equal, is_greater, numbers}

-- the term c*x^a*y^b
abbrev term : ℕ → ℕ → ℤ → Term
term a b c = record { monomial = a ∷ b ∷ []; coefficient = c }

abbrev division : Division
division = record { mode = Exact; ord = Grlex; p = 0; n = 2; f = term 2 2 (pos 1) ∷ term 0 0 (negsuc 0) ∷ []; g = term 1 1 (pos 1) ∷ term 0 0 (negsuc 0) ∷ [] }

-- the quotient terms are x*y and 1
quotient_terms : quotient_list division ≡ term 1 1 (pos 1) ∷ term 0 0 (pos 1) ∷ []
unfolding quotient_list turns_at turns_bound turn_at turn_on first_in_scope factor listed over divides lm lc minus negated term_neg row term_times terms put keep is_zero term_plus alike is_below tie_below lex_below degree ◌⋅◌
quotient_terms = refl

-- the divisor has one term after its first, and the second worker has it: the first is settled everywhere
settled : (x : List ℕ) → IsSettled (divide_start division 2) x 0
unfolding IsSettled divide_start divisor_rows every after_lead
settled x = inr (inr refl)

-- once the second worker knows the term x*y, whose front is x^2*y^2, it may send what stands at x*y, the product of that term and its row: the later term 1 is lower
beyond : IsBeyond division (divisor_rows division.g 2 1) (2 ∷ 2 ∷ []) (term 0 0 (pos 1) ∷ []) (1 ∷ 1 ∷ [])
unfolding IsBeyond AllBelowFront divisor_rows every after_lead lm Below degree ◌⋅◌
beyond = inr ((inl (omega arith), tt), inl refl)

-- where the bound is x^3 the front may be x^2*y, the greatest multiple of x*y at x^3 or below
lowered_at : (a b : ℕ) → 0 < b → AtOrAbove Grlex (a ∷ b ∷ []) (3 ∷ 0 ∷ []) → AtOrAbove Grlex (a ∷ b ∷ []) (2 ∷ 1 ∷ [])
unfolding Below TieBelow LexBelow degree
lowered_at a b l (inl e) = let z : b ≡ 0 = ap (λ (m : List ℕ). get_or m 1 0) e in absurd (omega arith)
lowered_at a b l (inr (inl d)) = inr (inl (omega (arith, d)))
lowered_at a b l (inr (inr (d, inl k))) = pick (numbers a 2)
  where
    pick : Three (a < 2) (a ≡ 2) (2 < a) → AtOrAbove Grlex (a ∷ b ∷ []) (2 ∷ 1 ∷ [])
    pick (is_less h) = inr (inr (omega (arith, d), inl h))
    pick (is_equal h) = let one : b ≡ 1 = omega (arith, d, h) in inl (ap₂ (λ (x y : ℕ). x ∷ y ∷ []) h one)
    pick (is_greater h) = absurd (omega arith)
lowered_at a b l (inr (inr (d, inr k))) = absurd (omega (arith, d, k.0))

lowered : IsFrontAt division (3 ∷ 0 ∷ []) (2 ∷ 1 ∷ [])
unfolding Divides lm
lowered = record { vector = refl; multiples = multiples }
  where
    multiples : (m : List ℕ) → length m ≡ 2 → Divides (1 ∷ 1 ∷ []) m → AtOrAbove Grlex m (3 ∷ 0 ∷ []) → AtOrAbove Grlex m (2 ∷ 1 ∷ [])
    multiples [] l v h = absurd v
    multiples (a ∷ []) l v h = absurd v.1
    multiples (a ∷ b ∷ []) l v h = lowered_at a b (omega (arith, v.1)) h
    multiples (a ∷ b ∷ c ∷ m) l v h = absurd v.1.1
