-- The words of the command line, as a user writes them.
use Rattle.std.specs.Prelude.{◌≤◌, ◌==◌, ◌&&◌, ◌+◌, ◌*◌, ◌-◌, ℕ, Bool, true, not, List, [], ◌∷◌, map, Option, Some, None, codes, is_some, find, fold, length, nat_le, if◌then◌else◌, option_and_then, option_map, unwrap_or}
use Rattle.std.specs.List.{list_all, list_any, before_first, after_first}
use Rattle.std.specs.Option.{option_map_or}
use Rattle.std.specs.Str.{bytes_eq}
use Rattle.sdmp_words.specs.declared.settings.Settings.{Settings}

abbrev pub Text : Type 0
Text = List ℕ

-- ---- numbers

abbrev pub is_digit : ℕ → Bool
is_digit byte = nat_le 48 byte && nat_le byte 57

-- the number that digits write
abbrev pub decimal_of : Text → Option ℕ
decimal_of text = if list_all is_digit text then Some (fold (λ n byte. n * 10 + (byte - 48)) 0 text) else None

abbrev pub within : ℕ → ℕ → ℕ → Option ℕ
within low high n = if nat_le low n && nat_le n high then Some n else None

-- the number that 1 to 20 digits write, where it is from `low` to `high`
unfoldable pub number_in : ℕ → ℕ → Text → Option ℕ
number_in low high text =
    if nat_le 1 (length text) && nat_le (length text) 20 then option_and_then (within low high) (decimal_of text) else None

-- ---- options

-- an option as it is written: a name and a value
pub record NamedValue : Type 0 where
  pub name : Text
  pub value : Text

abbrev pub is_equals : ℕ → Bool
is_equals byte = byte == 61

-- a name, and what follows its `=` where there is one
abbrev pub cut_at_equals : Text → Text × Option Text
cut_at_equals text = (before_first is_equals text, if list_any is_equals text then Some (after_first is_equals text) else None)

-- what `--` stands before
unfoldable pub after_dashes : Text → Option Text
after_dashes (a ∷ b ∷ text) = if a == 45 && b == 45 then Some text else None
after_dashes _ = None

abbrev pub with_option : Text → Text → Option (List NamedValue) → Option (List NamedValue)
with_option name value later = option_map (λ options. record { name = name; value = value } ∷ options) later

-- The options that the words write: `--name value`, in two words, or `--name=value`; none where they write anything else. The first argument is
-- the name of an option whose value is the next word.
unfoldable pub options_from : Option Text → List Text → Option (List NamedValue)
options_from None [] = Some []
options_from (Some name) [] = None
options_from (Some name) (value ∷ words) = with_option name value (options_from None words)
options_from None (word ∷ words) = option_and_then
    (λ option. option_map_or (λ value. with_option option.0 value (options_from None words)) option.1 (options_from (Some option.0) words))
    (option_map cut_at_equals (after_dashes word))

-- ---- settings

-- the least and the greatest number of an option; none for a name that is no option's
abbrev pub range_of : Text → Option (ℕ × ℕ)
range_of name =
    if bytes_eq (codes "workers") name then Some (1, 64)
    else (if bytes_eq (codes "places") name then Some (2, 65536)
    else (if bytes_eq (codes "demo") name then Some (0, 18446744073709551615)
    else None))

abbrev pub number_of : NamedValue → Option ℕ
number_of option = option_and_then (λ range. number_in range.0 range.1 option.value) (range_of option.name)

abbrev pub are_apart : List Text → Bool
are_apart [] = true
are_apart (name ∷ names) = not (list_any (bytes_eq name) names) && are_apart names

-- each is one of the three options with a number in its range, and none is given twice
unfoldable pub are_accepted : List NamedValue → Bool
are_accepted options = list_all (λ o. is_some (number_of o)) options && are_apart (map (λ o. o.name) options)

-- the number that is given to the option of this name, if it is given
abbrev pub number_for : Text → List NamedValue → Option ℕ
number_for name options = option_and_then number_of (find (λ o. bytes_eq o.name name) options)

unfoldable pub settings_by : List NamedValue → Settings
settings_by options = record {
  workers = unwrap_or (number_for (codes "workers") options) 4;
  places = unwrap_or (number_for (codes "places") options) 1024;
  demo = number_for (codes "demo") options;
}

-- what the words set; none where they aren't accepted
unfoldable pub settings_of : List Text → Option Settings
settings_of words = option_and_then (λ options. if are_accepted options then Some (settings_by options) else None) (options_from None words)

-- 1 to 64 workers, and 2 to 65536 places
abbrev pub AreInRange : Settings → Type 0
AreInRange settings = ((1 ≤ settings.workers) × (settings.workers ≤ 64)) × ((2 ≤ settings.places) × (settings.places ≤ 65536))
