-- Worked command lines, by the definition.
use Rattle.std.proofs.Common.{◌≡◌, [], ◌∷◌, Some, None, codes, refl}
use Rattle.sdmp_words.specs.Words.{after_dashes, are_accepted, number_in, options_from, settings_by, settings_of}

none : settings_of [] ≡ Some (record { workers = 4; places = 1024; demo = None })
unfolding settings_of options_from are_accepted settings_by
none = refl

joined_word : settings_of (codes "--workers=3" ∷ []) ≡ Some (record { workers = 3; places = 1024; demo = None })
unfolding settings_of options_from after_dashes are_accepted settings_by number_in
joined_word = refl

two_words : settings_of (codes "--places" ∷ codes "2" ∷ codes "--workers" ∷ codes "064" ∷ []) ≡ Some (record { workers = 64; places = 2; demo = None })
unfolding settings_of options_from after_dashes are_accepted settings_by number_in
two_words = refl

twice : settings_of (codes "--workers" ∷ codes "4" ∷ codes "--workers" ∷ codes "4" ∷ []) ≡ None
unfolding settings_of options_from after_dashes are_accepted number_in
twice = refl

no_value : settings_of (codes "--workers" ∷ []) ≡ None
unfolding settings_of options_from after_dashes are_accepted number_in
no_value = refl

plus : settings_of (codes "--workers" ∷ codes "+4" ∷ []) ≡ None
unfolding settings_of options_from after_dashes are_accepted number_in
plus = refl

one_place : settings_of (codes "--places" ∷ codes "1" ∷ []) ≡ None
unfolding settings_of options_from after_dashes are_accepted number_in
one_place = refl

help : settings_of (codes "--help" ∷ []) ≡ None
unfolding settings_of options_from after_dashes are_accepted number_in
help = refl

dashes : settings_of (codes "--" ∷ []) ≡ None
unfolding settings_of options_from after_dashes are_accepted number_in
dashes = refl

file : settings_of (codes "file" ∷ []) ≡ None
unfolding settings_of options_from after_dashes are_accepted number_in
file = refl
