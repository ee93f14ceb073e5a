-- What a text denotes, computed: the automaton finds the place of a syntax fault, and the terms of a text are read off its tokens.
use Rattle.std.specs.Prelude.{ℕ, suc, Bool, true, false, eqb, if◌then◌else◌, List, [], ◌∷◌, Option, Some, None, Result, Ok, Err}
use Rattle.std.specs.Str.Parse.{digits_value}
use Rattle.sdmp_laws.specs.Order.{Order}
use Rattle.sdmp_laws.specs.Poly.{Term, terms}
use Rattle.text_laws.specs.Automaton.{fault_place}
use Rattle.text_laws.specs.Bytes.{class_of}
use Rattle.text_laws.specs.Summands.{Written, Summand, verdict}
use Rattle.text_laws.specs.declared.ByteClass.{ByteClass}
use Rattle.text_laws.specs.declared.ByteClass.TheVariants.{Blank, Digit, Letter, Sign, Caret}
use Rattle.text_laws.specs.declared.TextFault.{TextFault}
use Rattle.text_laws.specs.declared.TextFault.TheVariants.{Syntax}

-- ---- classes
abbrev pub is_blank : ByteClass → Bool
is_blank Blank = true
is_blank _ = false

abbrev pub is_digit : ByteClass → Bool
is_digit Digit = true
is_digit _ = false

abbrev pub is_letter : ByteClass → Bool
is_letter Letter = true
is_letter _ = false

abbrev pub is_sign : ByteClass → Bool
is_sign Sign = true
is_sign _ = false

abbrev pub is_caret : ByteClass → Bool
is_caret Caret = true
is_caret _ = false

-- bytes of numbers and names
abbrev pub is_word : ByteClass → Bool
is_word Digit = true
is_word Letter = true
is_word _ = false

-- ---- tokens
-- a number, a name or a mark: the place of its first byte, that byte and the others
pub record Token : Type 0 where
  pub at : ℕ
  pub first : ℕ
  pub more : List ℕ

-- the longest front of letters and digits
abbrev pub word_front : List ℕ → List ℕ
word_front [] = []
word_front (b ∷ bs) = if is_word (class_of b) then b ∷ word_front bs else []

-- the tokens from the place on. A number or a name begins where a letter or digit stands, but not within a word, that is behind another letter or digit
abbrev pub tokens : Bool → ℕ → List ℕ → List Token
tokens within at [] = []
tokens within at (b ∷ bs) =
    if is_word (class_of b) then (if within then tokens true (suc at) bs else record { at = at; first = b; more = word_front bs } ∷ tokens true (suc at) bs)
    else if is_blank (class_of b) then tokens false (suc at) bs
    else record { at = at; first = b; more = [] } ∷ tokens false (suc at) bs

-- ---- terms
-- the tokens before the next sign
abbrev pub before_sign : List Token → List Token
before_sign [] = []
before_sign (t ∷ ts) = if is_sign (class_of t.first) then [] else t ∷ before_sign ts

-- the exponent of the name before these tokens: the number behind a caret, and 1 where there is no caret
abbrev pub exponent_before : List Token → ℕ
exponent_before (c ∷ n ∷ ts) = if is_caret (class_of c.first) then digits_value 10 (n.first ∷ n.more) else 1
exponent_before (c ∷ []) = 1
exponent_before [] = 1

-- each name is a power
abbrev pub powers_in : List Token → List Written
powers_in [] = []
powers_in (t ∷ ts) = if is_letter (class_of t.first) then record { at = t.at; name = t.first ∷ t.more; exponent = exponent_before ts } ∷ powers_in ts else powers_in ts

-- the number of a term is its first token, where that is a number
abbrev pub number_in : List Token → Option ℕ
number_in [] = None
number_in (t ∷ ts) = if is_digit (class_of t.first) then Some (digits_value 10 (t.first ∷ t.more)) else None

abbrev pub place_of : List Token → ℕ
place_of [] = 0
place_of (t ∷ ts) = t.at

-- the term of these tokens
abbrev pub summand_in : Bool → List Token → Summand
summand_in negative ts = record { at = place_of ts; negative = negative; number = number_in ts; powers = powers_in ts }

-- at each sign a term begins, which goes up to the next one
abbrev pub signed_in : List Token → List Summand
signed_in [] = []
signed_in (t ∷ ts) = if is_sign (class_of t.first) then summand_in (eqb t.first 45) (before_sign ts) ∷ signed_in ts else signed_in ts

-- the terms of the tokens of a text, of which the first may have no sign
abbrev pub summands_in : List Token → List Summand
summands_in [] = []
summands_in (t ∷ ts) = if is_sign (class_of t.first) then signed_in (t ∷ ts) else summand_in false (before_sign (t ∷ ts)) ∷ signed_in (t ∷ ts)

-- ---- the reading of bytes
abbrev pub judged : List (List ℕ) → ℕ → ℕ → List ℕ → Option ℕ → Result (List Term) TextFault
judged names p lim bytes (Some at) = Err (Syntax at)
judged names p lim bytes None = verdict names p lim (summands_in (tokens false 0 bytes))

-- the terms as written, whose sum is the polynomial, or the first fault
unfoldable pub denotes : List (List ℕ) → ℕ → ℕ → List ℕ → Result (List Term) TextFault
denotes names p lim bytes = judged names p lim bytes (fault_place bytes)

abbrev pub summed : Order → ℕ → Result (List Term) TextFault → Result (List Term) TextFault
summed ord p (Ok F) = Ok (terms ord p F)
summed ord p (Err f) = Err f

-- the list of the terms of the polynomial that the bytes denote, or their first fault
abbrev pub reading : Order → List (List ℕ) → ℕ → ℕ → List ℕ → Result (List Term) TextFault
reading ord names p lim bytes = summed ord p (denotes names p lim bytes)
