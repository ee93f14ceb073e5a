-- The automaton that goes along a text, and the place at which it finds that there is none.
use Rattle.std.specs.Prelude.{ℕ, suc, Bool, true, false, if◌then◌else◌, List, [], ◌∷◌, Option, Some, None}
use Rattle.text_laws.specs.Bytes.{class_of}
use Rattle.text_laws.specs.declared.ByteClass.{ByteClass}
use Rattle.text_laws.specs.declared.ByteClass.TheVariants.{Blank, Digit, Letter, Sign, Star, Caret}
use Rattle.text_laws.specs.declared.State.{State}
use Rattle.text_laws.specs.declared.State.TheVariants.{Start, Term, Number, NumberEnd, Power, Name, NameEnd, Exponent, Dead}

abbrev pub next : State → ByteClass → State
next Start Blank = Start
next Start Sign = Term
next Start Digit = Number
next Start Letter = Name
next Term Blank = Term
next Term Digit = Number
next Term Letter = Name
next Number Digit = Number
next Number Blank = NumberEnd
next Number Star = Power
next Number Sign = Term
next NumberEnd Blank = NumberEnd
next NumberEnd Star = Power
next NumberEnd Sign = Term
next Power Blank = Power
next Power Letter = Name
next Name Letter = Name
next Name Digit = Name
next Name Blank = NameEnd
next Name Caret = Exponent
next Name Star = Power
next Name Sign = Term
next NameEnd Blank = NameEnd
next NameEnd Caret = Exponent
next NameEnd Star = Power
next NameEnd Sign = Term
next Exponent Blank = Exponent
next Exponent Digit = Number
next _ _ = Dead

-- a text may end here
abbrev pub is_whole : State → Bool
is_whole Number = true
is_whole NumberEnd = true
is_whole Name = true
is_whole NameEnd = true
is_whole _ = false

abbrev pub run : State → List ℕ → State
run s [] = s
run s (b ∷ bs) = run (next s (class_of b)) bs

abbrev pub start : State
start = Start

-- some text may still come of it
abbrev pub is_live : State → Bool
is_live Dead = false
is_live _ = true

-- from the state at the place: the place of the byte at which the automaton dies, or the end where no text may end there
abbrev pub fault_from : State → ℕ → List ℕ → Option ℕ
fault_from s at [] = if is_whole s then None else Some at
fault_from s at (b ∷ bs) = if is_live (next s (class_of b)) then fault_from (next s (class_of b)) (suc at) bs else Some at

-- the place of the syntax fault, and None for a text
abbrev pub fault_place : List ℕ → Option ℕ
fault_place bytes = fault_from start 0 bytes
