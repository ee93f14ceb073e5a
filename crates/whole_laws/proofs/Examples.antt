-- What the first of two workers owes of the product of x+1 and x^2+2x+3, computed.
use Rattle.std.proofs.Common.{◌≡◌, ℕ, pos, List, [], ◌∷◌, ◌++◌, refl}
use Rattle.sdmp_laws.specs.Order.{Grlex, ◌⋅◌, degree, alike, is_below, tie_below, lex_below}
use Rattle.sdmp_laws.specs.Poly.{Term, every, part, times, row, term_times, terms, put, keep, is_zero, term_plus}
use Rattle.whole_laws.specs.Notes.{Note, TermNote, Script, ProductScript, script_list, terms_in, NoEnd, MayFollow, CarryAfter, Carry, owed}
use Rattle.whole_laws.proofs.OwedLemmas.{owed_split}

-- the term c*x^e
term : ℕ → ℕ → Term
term e c = record { monomial = e ∷ []; coefficient = pos c }

first : Script
first = ProductScript record { ord = Grlex; p = 0; n = 1; f = term 1 1 ∷ term 0 1 ∷ []; g = term 2 1 ∷ term 1 2 ∷ term 0 3 ∷ [] } 2 0

-- its list is x^3+2x^2+3x
first_list : script_list first ≡ term 3 1 ∷ term 2 2 ∷ term 1 3 ∷ []
unfolding first term script_list part every times row term_times terms put keep is_zero term_plus alike is_below tie_below lex_below degree ◌⋅◌
first_list = refl

taken : List Note
taken = TermNote (term 3 1) ∷ []

inside : List Note
inside = TermNote (term 2 2) ∷ []

-- one note is taken and one is inside its ring, so two terms are owed and one is not yet sent
owed_terms : owed first taken ≡ term 2 2 ∷ term 1 3 ∷ []
unfolding first taken term owed terms_in script_list part every times row term_times terms put keep is_zero term_plus alike is_below tie_below lex_below degree ◌⋅◌
owed_terms = refl

not_sent : owed first (taken ++ inside) ≡ term 1 3 ∷ []
unfolding first taken inside term owed terms_in script_list part every times row term_times terms put keep is_zero term_plus alike is_below tie_below lex_below degree ◌⋅◌
not_sent = refl

carried : Carry first (taken ++ inside)
unfolding first taken inside term CarryAfter MayFollow NoEnd terms_in script_list part every times row term_times terms put keep is_zero term_plus alike is_below tie_below lex_below degree ◌⋅◌
carried = ((tt, (term 2 2 ∷ term 1 3 ∷ [], refl)), ((tt, (term 1 3 ∷ [], refl)), tt))

-- the law gives the same
split : owed first taken ≡ terms_in inside ++ owed first (taken ++ inside)
split = owed_split first taken inside carried
