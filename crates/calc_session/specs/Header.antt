-- The header lines: those with the variables and the ring by their words.
use Rattle.std.specs.Prelude.{◌≤◌, ◌&&◌, ◌+◌, ◌*◌, ◌-◌, ℕ, not, List, [], ◌∷◌, nat_le, codes, fold, position, is_some, if◌then◌else◌, Option, Some, None, Result, Ok, Err}
use Rattle.std.specs.List.{list_all}
use Rattle.std.specs.Str.{bytes_eq}
use Rattle.sdmp_laws.specs.Order as monomials
use Rattle.poly_text.specs.Words.{words_of}
use Rattle.poly_text.specs.Names.{is_digit, names_of}
use Rattle.poly_text.specs.declared.names.NamesFault.{NamesFault}
use Rattle.poly_text.specs.declared.names.NamesFault.TheVariants as names
use Rattle.poly_text.specs.declared.names.NamesFault.TheVariants.{Count, Reserved, Repeated}
use Rattle.calc_session.specs.Lines.{is_equals}
use Rattle.calc_session.specs.declared.fault.LineFault.{LineFault}
use Rattle.calc_session.specs.declared.fault.LineFault.TheVariants.{VarsExpected, VariableCount, BadName, ReservedName, RepeatedName, RingExpected, BadModulus, BadOrder, NoMemory}
use Rattle.calc_session.specs.declared.order.Order.{Order}
use Rattle.calc_session.specs.declared.order.Order.TheVariants.{Grlex}
use Rattle.calc_session.specs.declared.ring.RingChoice.{RingChoice}
use Rattle.calc_session.specs.declared.ring.RingChoice.TheVariants.{Integers, Modulus}

abbrev pub name_fault : NamesFault → LineFault
name_fault Count = VariableCount
name_fault (names.BadName index) = BadName
name_fault (Reserved index) = ReservedName
name_fault (Repeated index) = RepeatedName
name_fault names.NoMemory = NoMemory

abbrev pub variables_of : Result (List (List ℕ)) NamesFault → Result (List (List ℕ)) LineFault
variables_of (Ok names) = Ok names
variables_of (Err fault) = Err (name_fault fault)

-- `vars x y ..`
abbrev pub vars_of : List (List ℕ) → Result (List (List ℕ)) LineFault
vars_of [] = Err VarsExpected
vars_of (first ∷ words) = if not (bytes_eq first (codes "vars")) then Err VarsExpected else variables_of (names_of words)

abbrev pub number_of : List ℕ → ℕ
number_of digits = fold (λ n byte. n * 10 + (byte - 48)) 0 digits

unfoldable pub modulus_of : List ℕ → Result RingChoice LineFault
modulus_of word =
    if list_all is_digit word && (nat_le 2 (number_of word) && nat_le (number_of word) 18446744073709551615)
    then Ok (Modulus (number_of word)) else Err BadModulus

abbrev pub ring_by : List (List ℕ) → Result RingChoice LineFault
ring_by (word ∷ []) = if bytes_eq word (codes "Z") then Ok Integers else Err RingExpected
ring_by (word ∷ modulus ∷ []) = if bytes_eq word (codes "mod") then modulus_of modulus else Err RingExpected
ring_by _ = Err RingExpected

-- `ring Z` or `ring mod P`
abbrev pub ring_of : List (List ℕ) → Result RingChoice LineFault
ring_of [] = Err RingExpected
ring_of (first ∷ words) = if bytes_eq first (codes "ring") then ring_by words else Err RingExpected

-- the modulus of the ring, 0 for the integers
abbrev pub characteristic_of : RingChoice → ℕ
characteristic_of Integers = 0
characteristic_of (Modulus p) = p

-- a modulus is at least 2
abbrev pub IsChoice : RingChoice → Type 0
IsChoice Integers = Unit {0}
IsChoice (Modulus p) = 2 ≤ p

-- the order of a word
unfoldable pub order_named : List ℕ → Option Order
order_named word = if bytes_eq word (codes "grlex") then Some Grlex else None

abbrev pub chosen : Option Order → Result (Option Order) LineFault
chosen (Some order) = Ok (Some order)
chosen None = Err BadOrder

abbrev pub order_by : List (List ℕ) → Result (Option Order) LineFault
order_by (word ∷ []) = chosen (order_named word)
order_by _ = Err BadOrder

abbrev pub order_said : List (List ℕ) → Result (Option Order) LineFault
order_said [] = Ok None
order_said (first ∷ words) = if bytes_eq first (codes "order") then order_by words else Ok None

-- `order grlex`; a line that holds a '=' or begins otherwise chooses no order
abbrev pub order_of : List ℕ → Result (Option Order) LineFault
order_of line = if is_some (position is_equals line) then Ok None else order_said (words_of line)

-- the order of the monomials
abbrev pub monomial_order : Order → monomials.Order
monomial_order Grlex = monomials.Grlex
