-- The settings that the definition gives are those of what the command finds.
use Rattle.std.proofs.Common.{◌≡◌, ◌≢◌, ◌⊎◌, inl, inr, ℕ, Bool, true, false, not, cond, List, [], ◌∷◌, ◌++◌, length, Option, Some, None, codes, is_some, refl, sym, ap, ◌∙◌, append_assoc, append-nil, slice_get}
use Rattle.std.proofs.lemmas.Bool.{true≢false, and_cases, and_left, and_parts, eqb-true, not-false, not-true}
use Rattle.std.proofs.lemmas.List.{map-append}
use Rattle.std.proofs.lemmas.Slice.Eq.{bytes_eq-Decides}
use Rattle.std.specs.List.{list_all, list_any}
use Rattle.std.specs.Option.{option_map_or}
use Rattle.std.specs.Prelude.{◌==◌, ◌||◌, ◌&&◌, nat_le, option_map, option_and_then, fold, ◌+◌, ◌*◌, ◌-◌}
use Rattle.std.specs.Str.{bytes_eq, chars}
use Rattle.clap.specs.Lexer.{long_of, long_of_rest, short_of_rest, strip_byte}
use Rattle.sdmp_words.specs.declared.settings.Settings.{Settings}
use Rattle.sdmp_words.specs.Words.{Text, NamedValue, after_dashes, cut_at_equals, is_digit, number_in, number_of, options_from, settings_of, with_option, within}
use Rattle.sdmp_words.specs.Rows.{is_bare_dashes, settings_by_rows}
use Rattle.sdmp_words.specs.Command.{found_in, refused_for}
use Rattle.sdmp_words.proofs.States.{Given, Name, State, between, waits, workers, places, demo, after_long, after_value, found_from, has, is_flag, known, rows_for, settle, taken, text_of}
use Rattle.sdmp_words.proofs.Walks.{Finds, command_finds, has_no_dashes}
use Rattle.sdmp_words.proofs.Accepting.{accepted, are_different, choice, choices, different-last, no_number, settings_same, twice}

-- ---- how a word begins

long_is : (word : Text) → bytes_eq word (codes "--") ≡ false → long_of word ≡ option_map cut_at_equals (after_dashes word)
unfolding after_dashes
long_is [] h = refl
long_is (a ∷ []) h = by_test (a == 45)
  where
    by_test : (b : Bool) → option_and_then long_of_rest (option_and_then (strip_byte 45) (cond b (Some []) None)) ≡ None
    by_test true = refl
    by_test false = refl
long_is (a ∷ b ∷ text) h = by_first (a == 45) h
  where
    by_second : (d : Bool) (rest : Text) → (d && bytes_eq rest []) ≡ false
        → option_and_then long_of_rest (cond d (Some rest) None) ≡ option_map cut_at_equals (cond d (Some rest) None)
    by_second false rest k = refl
    by_second true [] k = absurd (true≢false k)
    by_second true (x ∷ xs) k = refl

    by_first : (c : Bool) → (c && ((b == 45) && bytes_eq text [])) ≡ false
        → option_and_then long_of_rest (option_and_then (strip_byte 45) (cond c (Some (b ∷ text)) None)) ≡ option_map cut_at_equals (cond (c && b == 45) (Some text) None)
    by_first false k = refl
    by_first true k = by_second (b == 45) text k

begins : Text → Bool
begins [] = false
begins (x ∷ xs) = x == 45

long_begins : (word : Text) (p : Text × Option Text) → long_of word ≡ Some p → begins word ≡ true
unfolding begins
long_begins [] p h = cc
long_begins (x ∷ xs) p h = by_test (x == 45) h
  where
    by_test : (b : Bool) → option_and_then long_of_rest (option_and_then (strip_byte 45) (cond b (Some xs) None)) ≡ Some p → b ≡ true
    by_test true h = refl
    by_test false h = cc

flag_begins : (word : Text) → is_flag word ≡ true → begins word ≡ true
unfolding begins
flag_begins [] h = absurd (true≢false (sym h))
flag_begins (x ∷ xs) h = by_test (x == 45) h
  where
    by_test : (b : Bool) → option_map_or (λ flags. is_some (slice_get (chars flags) 0)) (option_and_then short_of_rest (cond b (Some xs) None)) false ≡ true → b ≡ true
    by_test true h = refl
    by_test false h = h

no_digits : (low high : ℕ) (word : Text) → begins word ≡ true → number_in low high word ≡ None
unfolding begins number_in
no_digits low high [] h = refl
no_digits low high (x ∷ xs) h =
    ap (λ (b : Bool). cond sized (option_and_then (within low high) (cond b (Some (fold (λ n byte. n * 10 + (byte - 48)) 0 (x ∷ xs))) None)) None)
    (and_left _ (list_all is_digit xs) no_digit) ∙ either sized
  where
    sized : Bool
    sized = nat_le 1 (length (x ∷ xs)) && nat_le (length (x ∷ xs)) 20

    no_digit : is_digit x ≡ false
    no_digit = ap is_digit (eqb-true x 45 h)

    either : (b : Bool) → cond {A = Option ℕ} b None None ≡ None
    either true = refl
    either false = refl

hyphen_is_none : (n : Name) (word : Text) → begins word ≡ true → number_of (choice (n, word)) ≡ None
hyphen_is_none workers word h = no_digits 1 64 word h
hyphen_is_none places word h = no_digits 2 65536 word h
hyphen_is_none demo word h = no_digits 0 18446744073709551615 word h

-- ---- names

some_same : {m n : Name} → Some m ≡ Some n → m ≡ n
some_same h = cc

known_is : (name : Text) (n : Name) → known name ≡ Some n → name ≡ text_of n
known_is name n h = by_tests (bytes_eq (codes "workers") name) (bytes_eq (codes "places") name) (bytes_eq (codes "demo") name)
    (bytes_eq-Decides (codes "workers") name).0 (bytes_eq-Decides (codes "places") name).0 (bytes_eq-Decides (codes "demo") name).0 h
  where
    by_tests : (a b c : Bool) → (a ≡ true → codes "workers" ≡ name) → (b ≡ true → codes "places" ≡ name) → (c ≡ true → codes "demo" ≡ name)
        → cond a (Some workers) (cond b (Some places) (cond c (Some demo) None)) ≡ Some n → name ≡ text_of n
    by_tests true b c w p d k = sym (w refl) ∙ ap text_of (some_same k)
    by_tests false true c w p d k = sym (p refl) ∙ ap text_of (some_same k)
    by_tests false false true w p d k = sym (d refl) ∙ ap text_of (some_same k)
    by_tests false false false w p d k = cc

unknown : (name value : Text) → known name ≡ None → number_of (record { name = name; value = value }) ≡ None
unknown name value h = by_tests (bytes_eq (codes "workers") name) (bytes_eq (codes "places") name) (bytes_eq (codes "demo") name) h
  where
    by_tests : (a b c : Bool) → cond a (Some workers) (cond b (Some places) (cond c (Some demo) None)) ≡ None
        → option_and_then {T = ℕ × ℕ} {U = ℕ} (λ range. number_in range.0 range.1 value)
        (cond a (Some (1, 64)) (cond b (Some (2, 65536)) (cond c (Some (0, 18446744073709551615)) None))) ≡ None
    by_tests true b c k = cc
    by_tests false true c k = cc
    by_tests false false true k = cc
    by_tests false false false k = refl

-- ---- states

abbrev so_far : State → List NamedValue
so_far (between done None) = choices done
so_far (between done (Some g)) = choices (done ++ g ∷ [])
so_far (waits done n) = choices done

abbrev waiting_for : State → Option Text
waiting_for (between done last) = None
waiting_for (waits done n) = Some (text_of n)

abbrev is_sound : State → Bool
is_sound (between done last) = are_different done
is_sound (waits done n) = are_different done

-- what the definition makes of the options so far and the words
abbrev outcome_by : List NamedValue → Option (List NamedValue) → Option Settings
outcome_by before later = option_and_then (λ os. accepted (before ++ os)) later

abbrev outcome : State → List Text → Option Settings
outcome state words = outcome_by (so_far state) (options_from (waiting_for state) words)

-- what the program makes of what the command finds
abbrev reading : Option (List Given) → Option Settings
reading found = option_and_then (λ d. settings_by_rows (rows_for d)) found

abbrev Agrees : State → List Text → Type 0
Agrees state words = outcome state words ≡ reading (found_from state words)

abbrev Settles : List NamedValue → Option (List Given) → Type 0
Settles before None = (os : List NamedValue) → accepted (before ++ os) ≡ None
Settles before (Some d) = (before ≡ choices d) × (are_different d ≡ true)

settles : (done : List Given) (last : Option Given) → are_different done ≡ true → Settles (so_far (between done last)) (settle done last)
unfolding are_different
settles done None h = (refl, h)
settles done (Some g) h = by_new (has g.0 done) refl
  where
    repeated : has g.0 done ≡ true → are_different (done ++ g ∷ []) ≡ false
    repeated e = different-last done g ∙ ap (λ (b : Bool). b && not (has g.0 done)) h ∙ ap not e

    by_new : (b : Bool) → has g.0 done ≡ b → Settles (choices (done ++ g ∷ [])) (cond b None (Some (done ++ g ∷ [])))
    by_new true e = λ os. twice (choices (done ++ g ∷ [])) os (repeated e)
    by_new false e = (refl, different-last done g ∙ ap (λ (b : Bool). b && not (has g.0 done)) h ∙ ap not e)

nowhere : (before : List NamedValue) (later : Option (List NamedValue)) → ((os : List NamedValue) → accepted (before ++ os) ≡ None) → outcome_by before later ≡ None
nowhere before None h = refl
nowhere before (Some os) h = h os

bad_one : (before : List NamedValue) (option : NamedValue) (later : Option (List NamedValue)) → number_of option ≡ None
    → outcome_by before (option_map (λ os. option ∷ os) later) ≡ None
bad_one before option None h = refl
bad_one before option (Some os) h = no_number before os option h

one_on : (done : List Given) (g : Given) (later : Option (List NamedValue))
    → outcome_by (choices done) (option_map (λ os. choice g ∷ os) later) ≡ outcome_by (choices (done ++ g ∷ [])) later
one_on done g None = refl
one_on done g (Some os) = ap accepted (sym (append_assoc (choices done) (choice g ∷ []) os) ∙ ap (λ (xs : List NamedValue). xs ++ os) (sym (map-append choice done (g ∷ []))))

-- ---- one word

-- the definition, after a word between options
abbrev options_after : List Text → Option (Text × Option Text) → Option (List NamedValue)
options_after words long = option_and_then
    (λ option. option_map_or (λ value. with_option option.0 value (options_from None words)) option.1 (options_from (Some option.0) words)) long

-- what the words do to an option whose name is unknown
unknown_first : (before : List NamedValue) (p : Text × Option Text) (words : List Text) → known p.0 ≡ None → outcome_by before (options_after words (Some p)) ≡ None
unfolding options_from
unknown_first before (name, Some value) words h = bad_one before (record { name = name; value = value }) (options_from None words) (unknown name value h)
unknown_first before (name, None) [] h = refl
unknown_first before (name, None) (value ∷ words) h = bad_one before (record { name = name; value = value }) (options_from None words) (unknown name value h)

-- the later words agree, whatever the state
abbrev AllAgree : List Text → Type 0
AllAgree words = (state : State) → is_sound state ≡ true → Agrees state words

-- after the options so far are settled
known_first : (d : List Given) (n : Name) (value : Option Text) (words : List Text) → are_different d ≡ true → AllAgree words
    → outcome_by (choices d) (options_after words (Some (text_of n, value))) ≡ reading (option_and_then (λ state. found_from state words) (taken n value d))
known_first d n None words sound later = later (waits d n) sound
known_first d n (Some value) words sound later = one_on d (n, value) (options_from None words) ∙ by_settled (settle d (Some (n, value))) (settles d (Some (n, value)) sound)
  where
    by_settled : (next : Option (List Given)) → Settles (choices (d ++ (n, value) ∷ [])) next
        → outcome_by (choices (d ++ (n, value) ∷ [])) (options_from None words)
        ≡ reading (option_and_then (λ state. found_from state words) (option_map (λ e. between e None) next))
    by_settled None h = nowhere (choices (d ++ (n, value) ∷ [])) (options_from None words) h
    by_settled (Some e) h = ap (λ (before : List NamedValue). outcome_by before (options_from None words)) h.0 ∙ later (between e None) h.1

between_agrees : (done : List Given) (last : Option Given) (words : List Text) (long : Option (Text × Option Text)) → are_different done ≡ true → AllAgree words
    → outcome_by (so_far (between done last)) (options_after words long) ≡ reading (option_and_then (λ state. found_from state words) (after_long done last long))
between_agrees done last words None sound later = refl
between_agrees done last words (Some p) sound later = by_name (known p.0) refl
  where
    by_name : (name : Option Name) → known p.0 ≡ name
        → outcome_by (so_far (between done last)) (options_after words (Some p))
        ≡ reading (option_and_then (λ state. found_from state words) (option_and_then (λ n. option_and_then (taken n p.1) (settle done last)) name))
    by_name None e = unknown_first (so_far (between done last)) p words e
    by_name (Some n) e =
        ap (λ (name : Text). outcome_by (so_far (between done last)) (options_after words (Some (name, p.1)))) (known_is p.0 n e)
        ∙ by_settled (settle done last) (settles done last sound)
      where
        by_settled : (next : Option (List Given)) → Settles (so_far (between done last)) next
            → outcome_by (so_far (between done last)) (options_after words (Some (text_of n, p.1)))
            ≡ reading (option_and_then (λ state. found_from state words) (option_and_then (taken n p.1) next))
        by_settled None h = nowhere (so_far (between done last)) (options_after words (Some (text_of n, p.1))) h
        by_settled (Some d) h = ap (λ (before : List NamedValue). outcome_by before (options_after words (Some (text_of n, p.1)))) h.0
            ∙ known_first d n p.1 words h.1 later

waits_agrees : (done : List Given) (n : Name) (word : Text) (words : List Text) (long : Option (Text × Option Text)) → long_of word ≡ long
    → are_different done ≡ true → AllAgree words
    → outcome_by (choices done) (with_option (text_of n) word (options_from None words))
    ≡ reading (option_and_then (λ state. found_from state words) (after_value done n word long))
waits_agrees done n word words (Some p) e sound later = bad_one (choices done) (choice (n, word)) (options_from None words) (hyphen_is_none n word (long_begins word p e))
waits_agrees done n word words None e sound later = by_flag (is_flag word) refl
  where
    by_flag : (b : Bool) → is_flag word ≡ b → outcome_by (choices done) (with_option (text_of n) word (options_from None words))
        ≡ reading (option_and_then (λ state. found_from state words) (cond b None (Some (between done (Some (n, word))))))
    by_flag true f = bad_one (choices done) (choice (n, word)) (options_from None words) (hyphen_is_none n word (flag_begins word f))
    by_flag false f = one_on done (n, word) (options_from None words) ∙ later (between done (Some (n, word))) sound

-- ---- all words

end_agrees : (state : State) → is_sound state ≡ true → Agrees state []
unfolding found_from options_from
end_agrees (between done last) sound = by_settled (settle done last) (settles done last sound)
  where
    by_settled : (next : Option (List Given)) → Settles (so_far (between done last)) next
        → accepted (so_far (between done last) ++ []) ≡ reading next
    by_settled None h = h []
    by_settled (Some d) h = ap accepted (append-nil (so_far (between done last)) ∙ h.0) ∙ settings_same d h.1
end_agrees (waits done n) sound = refl

agrees : (words : List Text) → has_no_dashes words ≡ true → AllAgree words
unfolding found_from options_from
agrees [] apart state sound = end_agrees state sound
agrees (word ∷ words) apart (between done last) sound =
    let here = and_parts (not (bytes_eq word (codes "--"))) (has_no_dashes words) apart in
    ap (λ (long : Option (Text × Option Text)). outcome_by (so_far (between done last)) (options_after words long)) (sym (long_is word (not-true _ here.0)))
    ∙ between_agrees done last words (long_of word) sound (agrees words here.1)
agrees (word ∷ words) apart (waits done n) sound =
    let here = and_parts (not (bytes_eq word (codes "--"))) (has_no_dashes words) apart in
    waits_agrees done n word words (long_of word) refl sound (agrees words here.1)

-- where no word is `--`, the definition's settings are those of what the command finds
pub settings_agree : (words : List Text) → has_no_dashes words ≡ true → settings_of words ≡ reading (found_from (between [] None) words)
unfolding settings_of are_different
settings_agree words apart = agrees words apart (between [] None) refl

-- ---- the word `--`

dashes_first : (before : List NamedValue) (words : List Text) → outcome_by before (options_after words (option_map cut_at_equals (after_dashes (codes "--")))) ≡ None
unfolding after_dashes
dashes_first before words = unknown_first before ([], None) words refl

dashes_begin : (word : Text) → word ≡ codes "--" → begins word ≡ true
unfolding begins
dashes_begin word e = ap begins e

hyphen_is_bad : (name word : Text) → begins word ≡ true → number_of (record { name = name; value = word }) ≡ None
hyphen_is_bad name word h = by_name (known name) refl
  where
    by_name : (n : Option Name) → known name ≡ n → number_of (record { name = name; value = word }) ≡ None
    by_name None e = unknown name word e
    by_name (Some n) e = ap (λ (t : Text). number_of (record { name = t; value = word })) (known_is name n e) ∙ hyphen_is_none n word h

-- an option that comes later stands among those before
one_later : (before : List NamedValue) (option : NamedValue) (later : Option (List NamedValue))
    → outcome_by before (option_map (λ os. option ∷ os) later) ≡ outcome_by (before ++ option ∷ []) later
one_later before option None = refl
one_later before option (Some os) = ap accepted (sym (append_assoc before (option ∷ []) os))

abbrev NeverAccepted : List Text → Type 0
NeverAccepted words = (before : List NamedValue) (name : Option Text) → outcome_by before (options_from name words) ≡ None

dashes_later : (before : List NamedValue) (words : List Text) (long : Option (Text × Option Text)) → NeverAccepted words → outcome_by before (options_after words long) ≡ None
dashes_later before words None never = refl
dashes_later before words (Some (name, None)) never = never before (Some name)
dashes_later before words (Some (name, Some value)) never =
    one_later before (record { name = name; value = value }) (options_from None words) ∙ never (before ++ record { name = name; value = value } ∷ []) None

is_dashes : (word : Text) → not (bytes_eq word (codes "--")) ≡ false → word ≡ codes "--"
is_dashes word h = (bytes_eq-Decides word (codes "--")).0 (not-false _ h)

dashes_never : (words : List Text) → has_no_dashes words ≡ false → NeverAccepted words
unfolding options_from
dashes_never [] h before name = absurd (true≢false h)
dashes_never (word ∷ words) h before None = by_place (and_cases _ _ h) (dashes_never words)
  where
    by_place : ((not (bytes_eq word (codes "--")) ≡ false) ⊎ (has_no_dashes words ≡ false)) → (has_no_dashes words ≡ false → NeverAccepted words)
        → outcome_by before (options_after words (option_map cut_at_equals (after_dashes word))) ≡ None
    by_place (inl here) later =
        ap (λ (w : Text). outcome_by before (options_after words (option_map cut_at_equals (after_dashes w)))) (is_dashes word here) ∙ dashes_first before words
    by_place (inr there) later = dashes_later before words (option_map cut_at_equals (after_dashes word)) (later there)
dashes_never (word ∷ words) h before (Some name) = by_place (and_cases _ _ h) (dashes_never words)
  where
    by_place : ((not (bytes_eq word (codes "--")) ≡ false) ⊎ (has_no_dashes words ≡ false)) → (has_no_dashes words ≡ false → NeverAccepted words)
        → outcome_by before (with_option name word (options_from None words)) ≡ None
    by_place (inl here) later =
        bad_one before (record { name = name; value = word }) (options_from None words) (hyphen_is_bad name word (dashes_begin word (is_dashes word here)))
    by_place (inr there) later =
        one_later before (record { name = name; value = word }) (options_from None words) ∙ later there (before ++ record { name = name; value = word } ∷ []) None

-- ---- the words, read by the command

abbrev pub has_dashes : List Text → Bool
has_dashes words = list_any is_bare_dashes words

none_of : (words : List Text) → has_no_dashes words ≡ not (has_dashes words)
none_of [] = refl
none_of (word ∷ words) = ap (λ (b : Bool). not (is_bare_dashes word) && b) (none_of words) ∙ both (is_bare_dashes word) (has_dashes words)
  where
    both : (a b : Bool) → (not a && not b) ≡ not (a || b)
    both true b = refl
    both false b = refl

-- words with `--` are refused
pub dashes_refused : (words : List Text) → has_dashes words ≡ true → settings_of words ≡ None
unfolding settings_of
dashes_refused words h = dashes_never words (none_of words ∙ ap not h) [] None

-- words that the command refuses aren't accepted
pub command_refused : (words : List Text) → has_dashes words ≡ false → refused_for words ≢ [] → settings_of words ≡ None
command_refused words h refused =
    let apart = none_of words ∙ ap not h in
    settings_agree words apart ∙ by_found (found_from (between [] None) words) (command_finds words apart)
  where
    by_found : (found : Option (List Given)) → Finds (refused_for words) (found_in words) found → reading found ≡ None
    by_found None f = refl
    by_found (Some d) f = absurd (refused f.0)

-- those that it takes set what its matches say
pub command_taken : (words : List Text) → has_dashes words ≡ false → refused_for words ≡ [] → settings_of words ≡ settings_by_rows (found_in words)
command_taken words h taken =
    let apart = none_of words ∙ ap not h in
    settings_agree words apart ∙ by_found (found_from (between [] None) words) (command_finds words apart)
  where
    by_found : (found : Option (List Given)) → Finds (refused_for words) (found_in words) found → reading found ≡ settings_by_rows (found_in words)
    by_found None f = absurd (f taken)
    by_found (Some d) f = ap settings_by_rows (sym f.1)
