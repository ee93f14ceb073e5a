-- Worked examples, by computation. Bytes: x 120, y 121, + 43, - 45, * 42, ^ 94, blank 32, digits 48 to 57.
use Rattle.std.proofs.Common.{◌≡◌, ℕ, true, List, [], ◌∷◌, ℤ, pos, negsuc, Some, None, Ok, Err, refl, arith}
use Rattle.std.specs.Fmt.{digits}
use Rattle.std.specs.Prelude.{codes}
use Rattle.sdmp_laws.specs.Order.{Grlex, degree, alike, lex_below, tie_below, is_below}
use Rattle.sdmp_laws.specs.Poly.{Term, is_zero, keep, term_plus, put, terms}
use Rattle.text_laws.specs.Bytes.{class_of}
use Rattle.text_laws.specs.Grammar.{Tree, Numeral, Symbol, IsTree, spelling, IsText}
use Rattle.text_laws.specs.Automaton.{run, start, is_whole}
use Rattle.text_laws.specs.Summands.{summands, verdict}
use Rattle.text_laws.specs.Denotes.{IsSyntaxFault}
use Rattle.text_laws.specs.Canonical.{text}
use Rattle.text_laws.specs.Reading.{denotes, reading}
use Rattle.text_laws.specs.declared.TextFault.TheVariants.{Syntax, UnknownName, DegreeBound, CoefficientBound}
use Rattle.text_laws.specs.declared.State.TheVariants as states
use Rattle.text_laws.proofs.Texts.{taken_text}
use Rattle.text_laws.proofs.Faults.{fault_within, fault_at_end}

abbrev names : List (List ℕ)
names = codes "x" ∷ codes "y" ∷ []

-- 3*x^2*y - x + 1
abbrev f : List Term
f = record { monomial = 2 ∷ 1 ∷ []; coefficient = pos 3 } ∷ record { monomial = 1 ∷ 0 ∷ []; coefficient = negsuc 0 } ∷ record { monomial = 0 ∷ 0 ∷ []; coefficient = pos 1 } ∷ []

text_of_f : text names f ≡ codes "3*x^2*y-x+1"
unfolding degree digits
text_of_f = refl

text_of_zero : text names [] ≡ codes "0"
text_of_zero = refl

text_of_minus_one : text names (record { monomial = 0 ∷ 0 ∷ []; coefficient = negsuc 0 } ∷ []) ≡ codes "-1"
unfolding degree digits
text_of_minus_one = refl

-- " - x *x^2 + 04y" is no text, " - x *x^2 + 04*y" is
abbrev tree : Tree
tree = record {
  blanks = codes " ";
  sign = Some (record { byte = 45; blanks = codes " " });
  first = record {
    head = Symbol (record { name = record { first = 120; more = []; blanks = codes " " }; raised = None });
    factors = record {
      star = record { byte = 42; blanks = [] };
      power = record { name = record { first = 120; more = []; blanks = [] }; raised = Some (record { caret = record { byte = 94; blanks = [] }; number = record { first = 50; more = []; blanks = codes " " } }) };
    } ∷ [];
  };
  others = record {
    sign = record { byte = 43; blanks = codes " " };
    term = record {
      head = Numeral (record { first = 48; more = codes "4"; blanks = [] });
      factors = record { star = record { byte = 42; blanks = [] }; power = record { name = record { first = 121; more = []; blanks = [] }; raised = None } } ∷ [];
    };
  } ∷ [];
}

spells : spelling tree ≡ codes " - x *x^2 + 04*y"
spells = refl

formed : IsTree tree
unfolding class_of
formed = record {
  blanks = (refl, tt);
  sign = record { byte = refl; blanks = (refl, tt) };
  first = record { head = record { name = record { first = refl; more = tt; blanks = (refl, tt) }; raised = tt }; factors = (record { byte = refl; blanks = tt }, record { name = record { first = refl; more = tt; blanks = tt }; raised = (record { byte = refl; blanks = tt }, record { first = refl; more = tt; blanks = (refl, tt) }) }, tt) };
  others = (record { byte = refl; blanks = (refl, tt) }, record { head = record { first = refl; more = (refl, tt); blanks = tt }; factors = (record { byte = refl; blanks = tt }, record { name = record { first = refl; more = tt; blanks = tt }; raised = tt }, tt) }, tt);
}

-- it denotes -x^3 + 4*y
denotes_sum : verdict names 0 5 (summands tree) ≡ Ok (record { monomial = 3 ∷ 0 ∷ []; coefficient = negsuc 0 } ∷ record { monomial = 0 ∷ 1 ∷ []; coefficient = pos 4 } ∷ [])
denotes_sum = refl

-- with y alone known, its first unknown name is the first x; with the limit 2, its first term has too high a degree
first_unknown : verdict (codes "y" ∷ []) 0 5 (summands tree) ≡ Err (UnknownName 3)
first_unknown = refl

too_high : verdict names 0 2 (summands tree) ≡ Err (DegreeBound 3)
too_high = refl

-- the automaton: a text
ends_whole : is_whole (run start (codes " - x *x^2 + 04*y")) ≡ true
unfolding class_of
ends_whole = refl

is_text : IsText (codes "x*y")
unfolding class_of
is_text = taken_text (codes "x*y") refl

-- faults: x*2 at the 2, x+ at its end, +-x at the second sign, 1 2 at the 2, the empty text at 0
number_after_star : IsSyntaxFault (codes "x*2") 2
unfolding class_of
number_after_star = fault_within (codes "x*2") 2 states.Dead (omega arith) refl refl refl

ends_early : IsSyntaxFault (codes "x+") 2
unfolding class_of
ends_early = fault_at_end (codes "x+") refl refl

two_signs : IsSyntaxFault (codes "+-x") 1
unfolding class_of
two_signs = fault_within (codes "+-x") 1 states.Dead (omega arith) refl refl refl

two_numbers : IsSyntaxFault (codes "1 2") 2
unfolding class_of
two_numbers = fault_within (codes "1 2") 2 states.Dead (omega arith) refl refl refl

no_bytes : IsSyntaxFault [] 0
no_bytes = fault_at_end [] refl refl

-- ---- computed of the bytes
abbrev x_power : ℕ → ℤ → Term
x_power e c = record { monomial = e ∷ []; coefficient = c }

abbrev x : List (List ℕ)
x = codes "x" ∷ []

terms_denoted : denotes names 0 5 (codes " - x *x^2 + 04*y") ≡ Ok (record { monomial = 3 ∷ 0 ∷ []; coefficient = negsuc 0 } ∷ record { monomial = 0 ∷ 1 ∷ []; coefficient = pos 4 } ∷ [])
unfolding denotes class_of
terms_denoted = refl

-- a number may have leading zeros, x^0 is 1, and a term may come again
summed_up : reading Grlex x 0 5 (codes "x*x - 003*x^0 + 2") ≡ Ok (x_power 2 (pos 1) ∷ x_power 0 (negsuc 0) ∷ [])
unfolding denotes class_of terms put keep is_zero term_plus is_below tie_below lex_below degree alike
summed_up = refl

modulo_six : reading Grlex x 6 5 (codes "x^2-1") ≡ Ok (x_power 2 (pos 1) ∷ x_power 0 (pos 5) ∷ [])
unfolding denotes class_of terms put keep is_zero term_plus is_below tie_below lex_below degree alike
modulo_six = refl

number_before_name : denotes x 0 5 (codes " 2x") ≡ Err (Syntax 2)
unfolding denotes class_of
number_before_name = refl

no_variable : denotes x 0 5 (codes " x+w") ≡ Err (UnknownName 3)
unfolding denotes class_of
no_variable = refl

degree_at_limit : denotes x 0 2147483647 (codes " x^2147483647") ≡ Ok (x_power 2147483647 (pos 1) ∷ [])
unfolding denotes class_of
degree_at_limit = refl

degree_above : denotes x 0 2147483647 (codes " x^2147483648") ≡ Err (DegreeBound 1)
unfolding denotes class_of
degree_above = refl

coefficient_above : denotes x 0 5 (codes " 170141183460469231731687303715884105728") ≡ Err (CoefficientBound 1)
unfolding denotes class_of
coefficient_above = refl

-- exponents count whatever the coefficient is
degree_of_zero : denotes x 0 5 (codes "1-0*x^3*x^3") ≡ Err (DegreeBound 2)
unfolding denotes class_of
degree_of_zero = refl

-- the numbers count as written, without their signs: over the integers their sum, and modulo a number each by itself
numbers_add_up : denotes x 0 5 (codes "170141183460469231731687303715884105727*x-x") ≡ Err (CoefficientBound 42)
unfolding denotes class_of
numbers_add_up = refl

each_by_itself : reading Grlex x 2 5 (codes "170141183460469231731687303715884105727*x-x") ≡ Ok []
unfolding denotes class_of terms put keep is_zero term_plus is_below tie_below lex_below degree alike
each_by_itself = refl

-- a later name that is unknown comes before an earlier degree that is too high, and that before a number
unknown_first : denotes x 0 5 (codes "170141183460469231731687303715884105728+x^6+w") ≡ Err (UnknownName 44)
unfolding denotes class_of
unknown_first = refl

degree_next : denotes x 0 5 (codes "170141183460469231731687303715884105728+x^6+x") ≡ Err (DegreeBound 40)
unfolding denotes class_of
degree_next = refl
