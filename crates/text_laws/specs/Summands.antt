-- The terms of a text as written, the terms of the polynomial, and the faults of what is written.
use Rattle.std.specs.Prelude.{◌+◌, ℕ, zero, suc, Bool, true, false, eqb, ltb, if◌then◌else◌, List, [], ◌∷◌, length, Option, Some, None, Result, Ok, Err, ℤ, pos, neg_ℤ}
use Rattle.std.specs.Str.{bytes_eq}
use Rattle.std.specs.Str.Parse.{digits_value}
use Rattle.sdmp_laws.specs.Poly.{Term}
use Rattle.sdmp_laws.specs.Limits.{greatest_norm}
use Rattle.text_laws.specs.Grammar.{Mark, Word, Raised, Power, Factor, Numeral, Symbol, Product, Signed, Tree, spell_mark, spell_word, spell_power, spell_sign, spell_product}
use Rattle.text_laws.specs.declared.TextFault.{TextFault}
use Rattle.text_laws.specs.declared.TextFault.TheVariants.{UnknownName, DegreeBound, CoefficientBound}

-- ---- the terms as written
-- a variable's name with its place, and the exponent written for it
pub record Written : Type 0 where
  pub at : ℕ
  pub name : List ℕ
  pub exponent : ℕ

-- a term: the place of its first byte without its sign, whether the sign is a minus, its number where it has one, its powers
pub record Summand : Type 0 where
  pub at : ℕ
  pub negative : Bool
  pub number : Option ℕ
  pub powers : List Written

-- the decimal number that the token writes
abbrev pub number_of : Word → ℕ
number_of w = digits_value 10 (w.first ∷ w.more)

abbrev pub exponent_of : Option Raised → ℕ
exponent_of None = 1
exponent_of (Some r) = number_of r.number

-- the power that begins at the place
abbrev pub power_at : ℕ → Power → Written
power_at at p = record { at = at; name = p.name.first ∷ p.name.more; exponent = exponent_of p.raised }

abbrev pub factors_at : ℕ → List Factor → List Written
factors_at at [] = []
factors_at at (f ∷ fs) = let start = at + length (spell_mark f.star) in power_at start f.power ∷ factors_at (start + length (spell_power f.power)) fs

abbrev pub product_at : Bool → ℕ → Product → Summand
product_at negative at t = elim t.head [
  | Numeral w ↦ record { at = at; negative = negative; number = Some (number_of w); powers = factors_at (at + length (spell_word w)) t.factors }
  | Symbol p ↦ record { at = at; negative = negative; number = None; powers = power_at at p ∷ factors_at (at + length (spell_power p)) t.factors }
]

-- the sign is a minus
abbrev pub is_minus : Option Mark → Bool
is_minus None = false
is_minus (Some m) = eqb m.byte 45

abbrev pub signed_at : ℕ → List Signed → List Summand
signed_at at [] = []
signed_at at (s ∷ ss) = let start = at + length (spell_mark s.sign) in product_at (is_minus (Some s.sign)) start s.term ∷ signed_at (start + length (spell_product s.term)) ss

abbrev pub summands : Tree → List Summand
summands t = let start = length t.blanks + length (spell_sign t.sign) in product_at (is_minus t.sign) start t.first ∷ signed_at (start + length (spell_product t.first)) t.others

-- ---- faults of the terms
abbrev pub or_else : Option ℕ → Option ℕ → Option ℕ
or_else (Some at) later = Some at
or_else None later = later

-- the same bytes
abbrev pub same_name : List ℕ → List ℕ → Bool
same_name a b = bytes_eq a b

abbrev pub is_known : List (List ℕ) → List ℕ → Bool
is_known [] name = false
is_known (n ∷ ns) name = if same_name n name then true else is_known ns name

-- the place of the first name that is none of the names
abbrev pub unknown_in : List (List ℕ) → List Written → Option ℕ
unknown_in names [] = None
unknown_in names (w ∷ ws) = if is_known names w.name then unknown_in names ws else Some w.at

abbrev pub unknown : List (List ℕ) → List Summand → Option ℕ
unknown names [] = None
unknown names (s ∷ ss) = or_else (unknown_in names s.powers) (unknown names ss)

-- the exponents as written, added up
abbrev pub written_degree : List Written → ℕ
written_degree [] = 0
written_degree (w ∷ ws) = w.exponent + written_degree ws

-- the place of the first term with a degree above the limit
abbrev pub above_degree : ℕ → List Summand → Option ℕ
above_degree lim [] = None
above_degree lim (s ∷ ss) = if ltb lim (written_degree s.powers) then Some s.at else above_degree lim ss

-- the number of a term: 1 where it has none
abbrev pub size_of : Option ℕ → ℕ
size_of None = 1
size_of (Some n) = n

-- the place of the term at which the sum of the numbers first passes the greatest one
abbrev pub sum_above : ℕ → List Summand → Option ℕ
sum_above sum [] = None
sum_above sum (s ∷ ss) = if ltb greatest_norm (sum + size_of s.number) then Some s.at else sum_above (sum + size_of s.number) ss

-- the place of the first term whose number is above the greatest one
abbrev pub one_above : List Summand → Option ℕ
one_above [] = None
one_above (s ∷ ss) = if ltb greatest_norm (size_of s.number) then Some s.at else one_above ss

-- over the integers, p = 0, the sum counts, and else each number by itself
abbrev pub above_coefficient : ℕ → List Summand → Option ℕ
above_coefficient zero ss = sum_above 0 ss
above_coefficient (suc k) ss = one_above ss

-- ---- the polynomial
-- the exponents written for the name, added up
abbrev pub exponent_at : List ℕ → List Written → ℕ
exponent_at name [] = 0
exponent_at name (w ∷ ws) = (if same_name name w.name then w.exponent else 0) + exponent_at name ws

abbrev pub vector_of : List (List ℕ) → List Written → List ℕ
vector_of [] ws = []
vector_of (n ∷ ns) ws = exponent_at n ws ∷ vector_of ns ws

abbrev pub signed : Bool → ℕ → ℤ
signed false n = pos n
signed true n = neg_ℤ (pos n)

abbrev pub written_term : List (List ℕ) → Summand → Term
written_term names s = record { monomial = vector_of names s.powers; coefficient = signed s.negative (size_of s.number) }

abbrev pub written_terms : List (List ℕ) → List Summand → List Term
written_terms names [] = []
written_terms names (s ∷ ss) = written_term names s ∷ written_terms names ss

-- the first fault, or the terms whose sum is the polynomial
abbrev pub refused : (ℕ → TextFault) → Option ℕ → Result (List Term) TextFault → Result (List Term) TextFault
refused f None r = r
refused f (Some at) r = Err (f at)

abbrev pub verdict : List (List ℕ) → ℕ → ℕ → List Summand → Result (List Term) TextFault
verdict names p lim ss =
    refused (λ at. UnknownName at) (unknown names ss)
    (refused (λ at. DegreeBound at) (above_degree lim ss) (refused (λ at. CoefficientBound at) (above_coefficient p ss) (Ok (written_terms names ss))))
