-- The classes of bytes.
use Rattle.std.specs.Prelude.{ℕ, Bool, ◌&&◌, ◌||◌, eqb, leb, if◌then◌else◌}
use Rattle.text_laws.specs.declared.ByteClass.{ByteClass}
use Rattle.text_laws.specs.declared.ByteClass.TheVariants.{Blank, Digit, Letter, Sign, Star, Caret, Other}

-- from first to last, both of them meant
abbrev pub within : ℕ → ℕ → ℕ → Bool
within first last b = leb first b && leb b last

-- blanks are the space and the tab; letters are ASCII's, and _; signs are + and -
unfoldable pub class_of : ℕ → ByteClass
class_of b =
    if eqb b 32 || eqb b 9 then Blank
    else if within 48 57 b then Digit
    else if within 65 90 b || (within 97 122 b || eqb b 95) then Letter
    else if eqb b 43 || eqb b 45 then Sign
    else if eqb b 42 then Star
    else if eqb b 94 then Caret
    else Other
