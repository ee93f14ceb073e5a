-- Tokens at the front of what is left of a text.
use Rattle.std.specs.Prelude.{ℕ, ◌+◌, ◌*◌, ◌-◌, ◌^◌, Bool, min, if◌then◌else◌, List, [], ◌∷◌}
use Rattle.text_laws.specs.Bytes.{class_of}
use Rattle.text_laws.specs.Reading.{is_blank, is_digit, is_word, is_caret, is_sign}
use Rattle.text_laws.specs.declared.ByteClass.{ByteClass}

-- what is left behind the longest front of such bytes
abbrev pub after : (ByteClass → Bool) → List ℕ → List ℕ
after p [] = []
after p (b ∷ bs) = if p (class_of b) then after p bs else b ∷ bs

-- the greatest u128, which stands for each number above it too
abbrev pub cap : ℕ
cap = 2 ^ 128 - 1

-- the number that the digits at the front write behind those of n
abbrev pub capped_front : ℕ → List ℕ → ℕ
capped_front n [] = n
capped_front n (b ∷ bs) = if is_digit (class_of b) then capped_front (min (min (n * 10) cap + (b - 48)) cap) bs else n

-- the exponent behind a name, and what is left behind it
abbrev pub raised_front : List ℕ → ℕ × List ℕ
raised_front [] = (1, [])
raised_front (b ∷ bs) = if is_caret (class_of b) then (capped_front 0 (after is_blank bs), after is_blank (after is_digit (after is_blank bs))) else (1, b ∷ bs)

-- the exponent of the power at the front, and what is left behind it
abbrev pub power_front : List ℕ → ℕ × List ℕ
power_front bs = raised_front (after is_blank (after is_word bs))

-- what is left behind a sign and its blanks, if a sign is next
abbrev pub sign_front : List ℕ → List ℕ
sign_front [] = []
sign_front (b ∷ bs) = if is_sign (class_of b) then after is_blank bs else b ∷ bs
