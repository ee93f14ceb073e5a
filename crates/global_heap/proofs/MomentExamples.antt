-- The product of x+1 and x-1 by two workers, in the middle of the merge.
use Rattle.std.proofs.Common.{◌≡◌, ℕ, zero, suc, pos, negsuc, List, [], ◌∷◌, Some, None, refl, sym, ◌∙◌, subst, arith}
use Rattle.std.proofs.lemmas.Int.{ints}
use Rattle.sdmp_laws.specs.Order.{Grlex, ◌⋅◌, degree, alike, is_below, tie_below, lex_below}
use Rattle.sdmp_laws.specs.Poly.{Term, Same, coef, total, terms, times, term_times, row, every, part, put, keep, is_zero, term_plus, sum_over}
use Rattle.sdmp_laws.proofs.PolyLemmas.{Same-sym, Same-trans}
use Rattle.sdmp_laws.proofs.TermsLemmas.{terms_same}
use Rattle.whole_laws.specs.Notes.{Note, TermNote, script_list, terms_in, owed}
use Rattle.whole_laws.specs.Wholes.{MergeState, head_terms, merge_script}
use Rattle.global_heap.specs.Examples.{squares}
use Rattle.global_heap.specs.Moments.{all_parts}

x : Term
x = record { monomial = 1 ∷ []; coefficient = pos 1 }

minus_x : Term
minus_x = record { monomial = 1 ∷ []; coefficient = negsuc 0 }

minus_one : Term
minus_one = record { monomial = 0 ∷ []; coefficient = negsuc 0 }

square : Term
square = record { monomial = 2 ∷ []; coefficient = pos 1 }

-- x^2 was taken of the first worker and is emitted, and x of the second is its head
middle : MergeState
middle = record { product = squares; workers = 2; out = square ∷ []; heads = None ∷ Some x ∷ []; taken = (TermNote square ∷ []) ∷ (TermNote x ∷ []) ∷ [] }

-- -x is inside the first worker's ring, and nothing inside the second's
inside : ℕ → List Note
inside zero = TermNote minus_x ∷ []
inside (suc w) = []

-- the first worker has sent both of its terms, and the second hasn't sent its -1
sent : ℕ → List Note
sent zero = TermNote square ∷ TermNote minus_x ∷ []
sent (suc w) = TermNote x ∷ []

-- the same without the head
headless : MergeState
headless = record middle { heads = None ∷ None ∷ [] }

four_parts : all_parts middle inside sent ≡ square ∷ x ∷ minus_x ∷ minus_one ∷ []
unfolding middle inside sent square x minus_x minus_one head_terms sum_over terms_in owed merge_script script_list part every times row term_times terms put keep is_zero term_plus alike is_below tie_below lex_below degree ◌⋅◌
four_parts = refl

product_is : terms Grlex 0 (times squares.f squares.g) ≡ square ∷ minus_one ∷ []
unfolding square minus_one times row term_times terms put keep is_zero term_plus alike is_below tie_below lex_below degree ◌⋅◌
product_is = refl

parts_are : terms Grlex 0 (square ∷ x ∷ minus_x ∷ minus_one ∷ []) ≡ square ∷ minus_one ∷ []
unfolding square x minus_x minus_one terms put keep is_zero term_plus alike is_below tie_below lex_below degree
parts_are = refl

-- x^2 + x - x - 1 is the product
middle_adds_up : Same 0 (all_parts middle inside sent) (times squares.f squares.g)
middle_adds_up =
    let parts : List Term = square ∷ x ∷ minus_x ∷ minus_one ∷ [] in
    let sum : List Term = square ∷ minus_one ∷ [] in
    subst (λ z. Same 0 z (times squares.f squares.g)) (sym four_parts)
    (Same-trans 0 parts sum (times squares.f squares.g)
    (Same-sym 0 sum parts (subst (λ z. Same 0 z parts) parts_are (terms_same Grlex 0 parts)))
    (subst (λ z. Same 0 z (times squares.f squares.g)) product_is (terms_same Grlex 0 (times squares.f squares.g))))

-- without the head -x is left
left_without : coef 0 (all_parts headless inside sent) (1 ∷ []) ≡ negsuc 0
unfolding headless middle inside sent square x minus_x minus_one coef total head_terms sum_over terms_in owed merge_script script_list part every times row term_times terms put keep is_zero term_plus alike is_below tie_below lex_below degree ◌⋅◌
left_without = refl

none_of_it : coef 0 (times squares.f squares.g) (1 ∷ []) ≡ pos 0
unfolding coef total times row term_times terms put keep is_zero term_plus alike is_below tie_below lex_below degree ◌⋅◌
none_of_it = refl

headless_falls_short : Same 0 (all_parts headless inside sent) (times squares.f squares.g) → ⊥
headless_falls_short h = let e : negsuc 0 ≡ pos 0 = sym left_without ∙ h.at (1 ∷ []) ∙ none_of_it in absurd (omega (arith, ints, e))
