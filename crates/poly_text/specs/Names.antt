-- The names of variables: which words are names, and what a list of words is.
use Rattle.std.specs.Prelude.{◌==◌, ◌||◌, ◌&&◌, ◌<◌, ◌≤◌, ℕ, Bool, false, not, List, [], ◌∷◌, ◌++◌, length, nat_le, codes, All, if◌then◌else◌, Option, Some, None, Result, Ok, Err}
use Rattle.std.specs.List.{list_all, list_any}
use Rattle.std.specs.Str.{bytes_eq}
use Rattle.text_laws.specs.Canonical.{AreNames}
use Rattle.poly_text.specs.declared.names.TheConstants.{MOST_NAMES, LONGEST_NAME}
use Rattle.poly_text.specs.declared.names.NamesFault.{NamesFault}
use Rattle.poly_text.specs.declared.names.NamesFault.TheVariants.{Count, BadName, Reserved, Repeated}

abbrev pub is_digit : ℕ → Bool
is_digit byte = nat_le 48 byte && nat_le byte 57

-- ASCII's letters, and _
abbrev pub is_letter : ℕ → Bool
is_letter byte = (nat_le 65 byte && nat_le byte 90) || ((nat_le 97 byte && nat_le byte 122) || byte == 95)

-- a letter, and then letters and digits, of LONGEST_NAME bytes at most
abbrev pub is_name : List ℕ → Bool
is_name [] = false
is_name (byte ∷ bytes) = is_letter byte && (list_all (λ b. is_letter b || is_digit b) bytes && nat_le (length (byte ∷ bytes)) LONGEST_NAME)

abbrev pub is_among : List ℕ → List (List ℕ) → Bool
is_among word words = list_any (λ w. bytes_eq w word) words

abbrev pub reserved : List (List ℕ)
reserved = codes "vars" ∷ codes "ring" ∷ codes "order" ∷ codes "show" ∷ codes "mul" ∷ codes "div" ∷ codes "rem" ∷ codes "dot" ∷ codes "nf" ∷ []

abbrev pub is_reserved : List ℕ → Bool
is_reserved word = is_among word reserved

-- what is wrong with a word that stands behind these ones
unfoldable pub word_fault : List (List ℕ) → List ℕ → Option NamesFault
word_fault earlier word =
    if not (is_name word) then Some (BadName (length earlier))
    else (if is_reserved word then Some (Reserved (length earlier))
    else (if is_among word earlier then Some (Repeated (length earlier)) else None))

-- the fault of the first word that has one, where these words stand before them
unfoldable pub fault_behind : List (List ℕ) → List (List ℕ) → Option NamesFault
fault_behind earlier [] = None
fault_behind earlier (word ∷ words) = elim (word_fault earlier word) [
  | Some fault ↦ Some fault
  | None ↦ fault_behind (earlier ++ word ∷ []) words
]

abbrev pub unless : Option NamesFault → List (List ℕ) → Result (List (List ℕ)) NamesFault
unless None words = Ok words
unless (Some fault) words = Err fault

-- the words as names, or their first fault: that of their number before those of each word
abbrev pub names_of : List (List ℕ) → Result (List (List ℕ)) NamesFault
names_of words = if length words == 0 || not (nat_le (length words) MOST_NAMES) then Err Count else unless (fault_behind [] words) words

-- from one name to MOST_NAMES, no two of them alike, each of LONGEST_NAME bytes at most
pub record IsNameList (words : List (List ℕ)) : Type 0 where
  pub names : AreNames words
  pub some : 0 < length words
  pub few : length words ≤ MOST_NAMES
  pub short : All (λ name. length name ≤ LONGEST_NAME) words
