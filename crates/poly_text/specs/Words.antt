-- The words of a line.
use Rattle.std.specs.Prelude.{◌==◌, ◌||◌, ℕ, Bool, List, [], ◌∷◌, if◌then◌else◌}

-- a space or a tab
abbrev pub is_space : ℕ → Bool
is_space byte = byte == 32 || byte == 9

-- the byte, which is no space, stands before these bytes, which have these words
abbrev pub word_before : ℕ → List ℕ → List (List ℕ) → List (List ℕ)
word_before byte (next ∷ bytes) (word ∷ words) = if is_space next then (byte ∷ []) ∷ word ∷ words else (byte ∷ word) ∷ words
word_before byte bytes words = (byte ∷ []) ∷ words

-- the longest runs of bytes that are no spaces
unfoldable pub words_of : List ℕ → List (List ℕ)
words_of [] = []
words_of (byte ∷ bytes) = if is_space byte then words_of bytes else word_before byte bytes (words_of bytes)
