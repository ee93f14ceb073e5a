-- The division of x^2 + 1 by x + 1, and what its one worker sends.
use Rattle.std.proofs.Common.{◌≡◌, [], ◌∷◌, refl, sym}
use Rattle.sdmp_laws.specs.Order.{◌⋅◌, degree, alike, over, divides, is_below, tie_below, lex_below}
use Rattle.sdmp_laws.specs.Poly.{terms, times, minus, negated, term_neg, row, every, term_times, put, keep, is_zero, term_plus, lm, lc}
use Rattle.sdmp_laws.specs.LongDivision.{quotient_list, turns_at, turns_bound, turn_at, turn_on, first_in_scope, factor, listed}
use Rattle.whole_laws.specs.Notes.{QuotientScript, TermNote, Carry, CarryAfter, MayFollow, NoEnd, terms_in, script_list, divisor_rows, after_lead}
use Rattle.division_tests.specs.Examples.{square_and_one, x_term, minus_one}

-- the worker sends the products of x and -1 with 1
products : script_list (QuotientScript square_and_one 1 0) ≡ x_term ∷ minus_one ∷ []
unfolding script_list divisor_rows after_lead every times row term_times quotient_list turns_at turns_bound turn_at turn_on first_in_scope factor listed over divides lm lc minus negated term_neg terms put keep is_zero term_plus alike is_below tie_below lex_below degree ◌⋅◌
products = refl

pub one_follows : Carry (QuotientScript square_and_one 1 0) (TermNote x_term ∷ [])
unfolding CarryAfter MayFollow NoEnd terms_in
one_follows = ((tt, (minus_one ∷ [], sym products)), tt)

pub both_follow : Carry (QuotientScript square_and_one 1 0) (TermNote x_term ∷ TermNote minus_one ∷ [])
unfolding CarryAfter MayFollow NoEnd terms_in
both_follow = ((tt, (minus_one ∷ [], sym products)), ((tt, ([], sym products)), tt))
