-- The words that the definition accepts are those that the command and the numbers accept, with the same settings.
use Rattle.std.proofs.Common.{◌≡◌, ◌⊎◌, inl, inr, ℕ, Bool, true, false, not, cond, List, [], ◌∷◌, ◌++◌, map, Option, Some, None, codes, is_some, refl, ap, ◌∙◌}
use Rattle.std.proofs.lemmas.Bool.{true≢false, and_cases, and_left, and_right, and_parts, not-true, not-false}
use Rattle.std.proofs.lemmas.List.{map-append}
use Rattle.std.proofs.lemmas.List.Folds.{list_all-append, list_any-append}
use Rattle.std.specs.List.{list_all, list_any}
use Rattle.std.specs.Prelude.{◌||◌, ◌&&◌, option_map, option_and_then, unwrap_or}
use Rattle.std.specs.Str.{bytes_eq}
use Rattle.clap.specs.Words.{first_of}
use Rattle.sdmp_words.specs.declared.settings.Settings.{Settings}
use Rattle.sdmp_words.specs.Words.{Text, NamedValue, are_accepted, are_apart, number_for, number_in, number_of, settings_by}
use Rattle.sdmp_words.specs.Rows.{number_given, settings_by_rows}
use Rattle.sdmp_words.proofs.States.{Given, Name, workers, places, demo, has, rows_for, text_of}

-- ---- names that are apart

any_more : (p : Text → Bool) (ns ms : List Text) → list_any p ns ≡ true → list_any p (ns ++ ms) ≡ true
any_more p ns ms h = list_any-append p ns ms ∙ ap (λ (b : Bool). b || list_any p ms) h

apart_more : (ns ms : List Text) → are_apart ns ≡ false → are_apart (ns ++ ms) ≡ false
apart_more [] ms h = absurd (true≢false h)
apart_more (n ∷ ns) ms h = by_place (and_cases _ _ h) (apart_more ns ms)
  where
    by_place : ((not (list_any (bytes_eq n) ns) ≡ false) ⊎ (are_apart ns ≡ false)) → (are_apart ns ≡ false → are_apart (ns ++ ms) ≡ false)
        → are_apart ((n ∷ ns) ++ ms) ≡ false
    by_place (inl here) later = and_left _ (are_apart (ns ++ ms)) (ap not (any_more (bytes_eq n) ns ms (not-false _ here)))
    by_place (inr there) later = and_right (not (list_any (bytes_eq n) (ns ++ ms))) _ (later there)

apart-last : (ns : List Text) (m : Text) → are_apart (ns ++ m ∷ []) ≡ (are_apart ns && not (list_any (λ n. bytes_eq n m) ns))
apart-last [] m = refl
apart-last (n ∷ ns) m =
    ap (λ (b : Bool). not b && are_apart (ns ++ m ∷ [])) (list_any-append (bytes_eq n) ns (m ∷ []))
    ∙ ap (λ (b : Bool). not (list_any (bytes_eq n) ns || (bytes_eq n m || false)) && b) (apart-last ns m)
    ∙ table (list_any (bytes_eq n) ns) (bytes_eq n m) (are_apart ns) (list_any (λ k. bytes_eq k m) ns)
  where
    table : (a b c d : Bool) → (not (a || (b || false)) && (c && not d)) ≡ ((not a && c) && not (b || d))
    table true b c d = refl
    table false true true d = refl
    table false true false d = refl
    table false false c d = refl

-- ---- options that are accepted

-- the settings of options, where they are accepted
abbrev pub accepted : List NamedValue → Option Settings
accepted options = cond (are_accepted options) (Some (settings_by options)) None

abbrev names : List NamedValue → List Text
names options = map (λ o. o.name) options

abbrev is_valid : NamedValue → Bool
is_valid option = is_some (number_of option)

pub no_number : (xs ys : List NamedValue) (option : NamedValue) → number_of option ≡ None → accepted (xs ++ option ∷ ys) ≡ None
unfolding are_accepted
no_number xs ys option bad =
    ap (λ (b : Bool). cond b (Some (settings_by (xs ++ option ∷ ys))) None) (and_left _ (are_apart (names (xs ++ option ∷ ys)))
    (list_all-append is_valid xs (option ∷ ys) ∙ and_right (list_all is_valid xs) _ (and_left (is_valid option) (list_all is_valid ys) (ap is_some bad))))

pub twice : (xs ys : List NamedValue) → are_apart (names xs) ≡ false → accepted (xs ++ ys) ≡ None
unfolding are_accepted
twice xs ys h =
    ap (λ (b : Bool). cond b (Some (settings_by (xs ++ ys))) None) (and_right (list_all is_valid (xs ++ ys)) _
    (ap are_apart (map-append (λ (o : NamedValue). o.name) xs ys) ∙ apart_more (names xs) (names ys) h))

-- ---- the states' options

abbrev pub choice : Given → NamedValue
choice g = record { name = text_of g.0; value = g.1 }

abbrev pub choices : List Given → List NamedValue
choices done = map choice done

-- no option is given twice
unfoldable pub are_different : List Given → Bool
are_different done = are_apart (names (choices done))

names-has : (n : Name) (done : List Given) → list_any (λ k. bytes_eq k (text_of n)) (names (choices done)) ≡ has n done
names-has n [] = refl
names-has n (g ∷ done) = ap (λ (b : Bool). bytes_eq (text_of g.0) (text_of n) || b) (names-has n done)

pub different-last : (done : List Given) (g : Given) → are_different (done ++ g ∷ []) ≡ (are_different done && not (has g.0 done))
unfolding are_different
different-last done g =
    ap (λ (os : List NamedValue). are_apart (names os)) (map-append choice done (g ∷ []))
    ∙ ap are_apart (map-append (λ (o : NamedValue). o.name) (choices done) (choice g ∷ []))
    ∙ apart-last (names (choices done)) (text_of g.0)
    ∙ ap (λ (b : Bool). are_apart (names (choices done)) && not b) (names-has g.0 done)

-- ---- at the end

abbrev low : Name → ℕ
low workers = 1
low places = 2
low demo = 0

abbrev high : Name → ℕ
high workers = 64
high places = 65536
high demo = 18446744073709551615

number_is : (n : Name) (done : List Given) → number_for (text_of n) (choices done) ≡ option_and_then (number_in (low n) (high n)) (first_of (text_of n) (rows_for done))
number_is n [] = refl
number_is workers ((workers, v) ∷ done) = refl
number_is workers ((places, v) ∷ done) = number_is workers done
number_is workers ((demo, v) ∷ done) = number_is workers done
number_is places ((workers, v) ∷ done) = number_is places done
number_is places ((places, v) ∷ done) = refl
number_is places ((demo, v) ∷ done) = number_is places done
number_is demo ((workers, v) ∷ done) = number_is demo done
number_is demo ((places, v) ∷ done) = number_is demo done
number_is demo ((demo, v) ∷ done) = refl

absent : (n : Name) (done : List Given) → list_any (bytes_eq (text_of n)) (names (choices done)) ≡ false → first_of (text_of n) (rows_for done) ≡ None
absent n [] h = refl
absent workers ((workers, v) ∷ done) h = absurd (true≢false h)
absent workers ((places, v) ∷ done) h = absent workers done h
absent workers ((demo, v) ∷ done) h = absent workers done h
absent places ((workers, v) ∷ done) h = absent places done h
absent places ((places, v) ∷ done) h = absurd (true≢false h)
absent places ((demo, v) ∷ done) h = absent places done h
absent demo ((workers, v) ∷ done) h = absent demo done h
absent demo ((places, v) ∷ done) h = absent demo done h
absent demo ((demo, v) ∷ done) h = absurd (true≢false h)

-- the number of an option that may have been left out
abbrev number_at : Name → List Given → Option (Option ℕ)
number_at n done = number_given (low n) (high n) (first_of (text_of n) (rows_for done))

-- where it is given, it has a number
abbrev is_in : Name → List Given → Bool
is_in n done = is_some (number_at n done)

absent_in : (n : Name) (done : List Given) → not (list_any (bytes_eq (text_of n)) (names (choices done))) ≡ true → is_in n done ≡ true
absent_in n done h = ap (λ (o : Option Text). is_some (number_given (low n) (high n) o)) (absent n done (not-true _ h))

some_number : (o : Option ℕ) → is_some o ≡ is_some (option_map (λ n. Some n) o)
some_number None = refl
some_number (Some n) = refl

all_in : (done : List Given) → are_different done ≡ true → list_all is_valid (choices done) ≡ (is_in workers done && (is_in places done && is_in demo done))
unfolding are_different
all_in [] h = refl
all_in ((workers, v) ∷ done) h =
    let apart = and_parts _ _ h in
    ap (λ (b : Bool). is_some (number_in 1 64 v) && b) (all_in done apart.1)
    ∙ ap (λ (b : Bool). is_some (number_in 1 64 v) && (b && (is_in places done && is_in demo done))) (absent_in workers done apart.0)
    ∙ ap (λ (b : Bool). b && (is_in places done && is_in demo done)) (some_number (number_in 1 64 v))
all_in ((places, v) ∷ done) h =
    let apart = and_parts _ _ h in
    ap (λ (b : Bool). is_some (number_in 2 65536 v) && b) (all_in done apart.1)
    ∙ ap (λ (b : Bool). is_some (number_in 2 65536 v) && (is_in workers done && (b && is_in demo done))) (absent_in places done apart.0)
    ∙ ap (λ (b : Bool). b && (is_in workers done && is_in demo done)) (some_number (number_in 2 65536 v))
    ∙ swapped (is_some (option_map (λ n. Some n) (number_in 2 65536 v))) (is_in workers done) (is_in demo done)
  where
    swapped : (a b c : Bool) → (a && (b && c)) ≡ (b && (a && c))
    swapped true b c = refl
    swapped false true c = refl
    swapped false false c = refl
all_in ((demo, v) ∷ done) h =
    let apart = and_parts _ _ h in
    ap (λ (b : Bool). is_some (number_in 0 18446744073709551615 v) && b) (all_in done apart.1)
    ∙ ap (λ (b : Bool). is_some (number_in 0 18446744073709551615 v) && (is_in workers done && (is_in places done && b))) (absent_in demo done apart.0)
    ∙ ap (λ (b : Bool). b && (is_in workers done && (is_in places done && true))) (some_number (number_in 0 18446744073709551615 v))
    ∙ moved (is_some (option_map (λ n. Some n) (number_in 0 18446744073709551615 v))) (is_in workers done) (is_in places done)
  where
    moved : (a b c : Bool) → (a && (b && (c && true))) ≡ (b && (c && a))
    moved true true true = refl
    moved true true false = refl
    moved true false c = refl
    moved false true true = refl
    moved false true false = refl
    moved false false c = refl

-- the number that stands for an option
abbrev joined : Option (Option ℕ) → Option ℕ
joined number = unwrap_or number None

number_joined : (n : Name) (done : List Given) → number_for (text_of n) (choices done) ≡ joined (number_at n done)
number_joined n done = number_is n done ∙ by_value (first_of (text_of n) (rows_for done))
  where
    by_number : (o : Option ℕ) → o ≡ joined (option_map (λ n. Some n) o)
    by_number None = refl
    by_number (Some k) = refl

    by_value : (o : Option Text) → option_and_then (number_in (low n) (high n)) o ≡ joined (number_given (low n) (high n) o)
    by_value None = refl
    by_value (Some text) = by_number (number_in (low n) (high n) text)

abbrev settings_with : Option ℕ → Option ℕ → Option ℕ → Settings
settings_with w p d = record { workers = unwrap_or w 4; places = unwrap_or p 1024; demo = d }

joined_settings : (w p d : Option (Option ℕ))
    → cond ((is_some w && (is_some p && is_some d)) && true) (Some (settings_with (joined w) (joined p) (joined d))) None
    ≡ option_and_then (λ x. option_and_then (λ y. option_and_then (λ z. Some (settings_with x y z)) d) p) w
joined_settings None p d = refl
joined_settings (Some w) None d = refl
joined_settings (Some w) (Some p) None = refl
joined_settings (Some w) (Some p) (Some d) = refl

-- the definition's settings are those of the command's rows
pub settings_same : (done : List Given) → are_different done ≡ true → accepted (choices done) ≡ settings_by_rows (rows_for done)
unfolding are_accepted are_different settings_by settings_by_rows
settings_same done h =
    ap (λ (b : Bool). cond (list_all is_valid (choices done) && b) (Some (settings_by (choices done))) None) h
    ∙ ap (λ (b : Bool). cond (b && true) (Some (settings_by (choices done))) None) (all_in done h)
    ∙ ap (λ (k : Option ℕ). with_all k (number_for (codes "places") (choices done)) (number_for (codes "demo") (choices done))) (number_joined workers done)
    ∙ ap (λ (k : Option ℕ). with_all (joined (number_at workers done)) k (number_for (codes "demo") (choices done))) (number_joined places done)
    ∙ ap (λ (k : Option ℕ). with_all (joined (number_at workers done)) (joined (number_at places done)) k) (number_joined demo done)
    ∙ joined_settings (number_at workers done) (number_at places done) (number_at demo done)
  where
    with_all : Option ℕ → Option ℕ → Option ℕ → Option Settings
    with_all w p d = cond ((is_in workers done && (is_in places done && is_in demo done)) && true) (Some (settings_with w p d)) None
