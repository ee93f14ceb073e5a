-- What the program makes of the command's matches.
use Rattle.std.specs.Prelude.{ℕ, Bool, List, Option, Some, None, codes, option_and_then, option_map, unwrap_or}
use Rattle.std.specs.Str.{bytes_eq}
use Rattle.clap.specs.Words.{Row, first_of}
use Rattle.sdmp_words.specs.Words.{Text, number_in}
use Rattle.sdmp_words.specs.declared.settings.Settings.{Settings}

-- the word `--`
abbrev pub is_bare_dashes : Text → Bool
is_bare_dashes word = bytes_eq word (codes "--")

-- the number of an option that may have been left out
abbrev pub number_given : ℕ → ℕ → Option Text → Option (Option ℕ)
number_given low high None = Some None
number_given low high (Some text) = option_map (λ n. Some n) (number_in low high text)

-- the settings, where each option that was given has a number in its range
unfoldable pub settings_by_rows : List Row → Option Settings
settings_by_rows rows =
    option_and_then (λ workers. option_and_then (λ places. option_and_then (λ demo.
    Some (record { workers = unwrap_or workers 4; places = unwrap_or places 1024; demo = demo }))
    (number_given 0 18446744073709551615 (first_of (codes "demo") rows)))
    (number_given 2 65536 (first_of (codes "places") rows)))
    (number_given 1 64 (first_of (codes "workers") rows))
