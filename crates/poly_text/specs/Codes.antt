-- The classes of bytes and the states of the automaton as numbers.
use Rattle.std.specs.Prelude.{ℕ}
use Rattle.text_laws.specs.declared.ByteClass.{ByteClass}
use Rattle.text_laws.specs.declared.ByteClass.TheVariants.{Blank, Digit, Letter, Sign, Star, Caret, Other}
use Rattle.text_laws.specs.declared.State.{State}
use Rattle.text_laws.specs.declared.State.TheVariants.{Start, Term, Number, NumberEnd, Power, Name, NameEnd, Exponent, Dead}

abbrev pub digit_of : ByteClass → ℕ
digit_of Blank = 0
digit_of Digit = 1
digit_of Letter = 2
digit_of Sign = 3
digit_of Star = 4
digit_of Caret = 5
digit_of Other = 6

abbrev pub code_of : State → ℕ
code_of Start = 0
code_of Term = 6
code_of Number = 12
code_of NumberEnd = 18
code_of Power = 24
code_of Name = 30
code_of NameEnd = 36
code_of Exponent = 42
code_of Dead = 48
