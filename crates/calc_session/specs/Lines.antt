-- The lines of an input, and which of them count.
use Rattle.std.specs.Prelude.{◌==◌, ◌+◌, ℕ, Bool, true, false, List, [], ◌∷◌, if◌then◌else◌, map}
use Rattle.poly_text.specs.Words.{words_of}

-- '='
abbrev pub is_equals : ℕ → Bool
is_equals byte = byte == 61

-- the byte stands before the first of these lines
abbrev pub before_lines : ℕ → List (List ℕ) → List (List ℕ)
before_lines byte [] = (byte ∷ []) ∷ []
before_lines byte (line ∷ lines) = (byte ∷ line) ∷ lines

-- cut at each line feed; where the bytes are none or end with a line feed, no line follows it
unfoldable pub cut_lines : List ℕ → List (List ℕ)
cut_lines [] = []
cut_lines (byte ∷ bytes) = if byte == 10 then [] ∷ cut_lines bytes else before_lines byte (cut_lines bytes)

-- without one carriage return at the end
unfoldable pub without_return : List ℕ → List ℕ
without_return [] = []
without_return (byte ∷ []) = if byte == 13 then [] else byte ∷ []
without_return (byte ∷ next ∷ bytes) = byte ∷ without_return (next ∷ bytes)

abbrev pub lines : List ℕ → List (List ℕ)
lines bytes = map without_return (cut_lines bytes)

-- blank lines, and those whose first word begins with '#', are skipped
abbrev pub is_skipped : List (List ℕ) → Bool
is_skipped [] = true
is_skipped ([] ∷ words) = false
is_skipped ((byte ∷ word) ∷ words) = byte == 35

-- the lines from the first one on that isn't skipped, with its number, where the first of all has this number
unfoldable pub effective : ℕ → List (List ℕ) → ℕ × List (List ℕ)
effective number [] = (number, [])
effective number (line ∷ later) = if is_skipped (words_of line) then effective (number + 1) later else (number, line ∷ later)
