-- The command's whole walk: what it finds, or that it refuses.
use Rattle.std.proofs.Common.{◌≡◌, ◌≢◌, Bool, true, false, not, cond, List, [], ◌∷◌, fold, Option, Some, None, codes, is_some, refl, sym, ap, ◌∙◌}
use Rattle.std.specs.List.{list_all}
use Rattle.std.specs.Prelude.{◌||◌, option_and_then}
use Rattle.std.specs.Str.{bytes_eq}
use Rattle.clap.specs.Kinds.{or_else}
use Rattle.clap.specs.Words.{Kinds, Rule}
use Rattle.clap.specs.Walk.{Held, Row, Text, Walk, finished, has_row, nothing_held, settled, walk, walk_from, walked, with_default}
use Rattle.clap.specs.Faults.{default_fault, defaults_fault, settle_fault, turn_fault, walk_fault}
use Rattle.clap.specs.Faults.{built_fault, check_fault, entered_fault, level_fault}
use Rattle.clap.specs.Simple.{App, argument_words, built, entered, names_of}
use Rattle.clap.specs.Walk.{rows_after}
use Rattle.clap.specs.declared.error.kind.ErrorKind.TheVariants.{InvalidValue}
use Rattle.std.proofs.lemmas.Bool.{and_parts, not-true}
use Rattle.sdmp_words.specs.Command.{bare, found_in, refused_for, sdmp}
use Rattle.sdmp_words.proofs.States.{Given, Name, State, between, waits, workers, places, demo, step, finish, found_from, shape, rules, rule_for, rows_for, walk_at, pending_of, settle}
use Rattle.sdmp_words.proofs.Rules.{no_value, rules_are, rules_of_shape, uses_stay}
use Rattle.sdmp_words.proofs.WalkSteps.{Leads, Settled, both_pass, first_fails, held, settle_of, settled_is, told, turn}

-- no word is `--`
abbrev pub has_no_dashes : List Text → Bool
has_no_dashes words = list_all (λ word. not (bytes_eq word (codes "--"))) words

-- the command, built
abbrev alone : App
alone = record { top = shape; subs = [] }

-- the fault of a walk and of its end, and the rows at its end
abbrev fault_from : Walk → List Text → Kinds
fault_from w words = or_else (walk_fault shape [] w words) (settle_fault rules false (fold (walked rules []) w words).held)

abbrev rows_from : Walk → List Text → List Row
rows_from w words = (settled rules (fold (walked rules []) w words).held).rows

abbrev pub Finds : Kinds → List Row → Option (List Given) → Type 0
Finds fault rows None = fault ≢ []
Finds fault rows (Some done) = (fault ≡ []) × (rows ≡ rows_for done)

finds_along : (f g : Kinds) (r s : List Row) (found : Option (List Given)) → f ≡ g → r ≡ s → Finds g s found → Finds f r found
finds_along f g r s None e d h = λ k. h (sym e ∙ k)
finds_along f g r s (Some done) e d h = (e ∙ h.0, d ∙ h.1)

finds_at_end : (state : State) → Finds (fault_from (walk_at state) []) (rows_from (walk_at state) []) (finish state)
unfolding walk_fault
finds_at_end (between done last) = by_end (settle done last) (settled_is done last)
  where
    by_end : (end : Option (List Given)) → Settled (held done (pending_of last)) end
        → Finds (settle_fault rules false (held done (pending_of last))) (settled rules (held done (pending_of last))).rows end
    by_end None h = h
    by_end (Some d) h = (h.0, ap (λ (k : Held). k.rows) h.1)
finds_at_end (waits done n) = told InvalidValue [] _ (settle_of done n [] ∙ no_value n (rows_for done))

or_else_assoc : (f g h : Kinds) → or_else (or_else f g) h ≡ or_else f (or_else g h)
or_else_assoc [] g h = refl
or_else_assoc (k ∷ ks) g h = refl

or_else-nil : (f : Kinds) → or_else f [] ≡ f
or_else-nil [] = refl
or_else-nil (k ∷ ks) = refl

one_turn : (w : Walk) (word : Text) (words : List Text) → fault_from w (word ∷ words) ≡ or_else (turn_fault shape [] w word) (fault_from (walked rules [] w word) words)
unfolding walk_fault
one_turn w word words =
    ap (λ (rs : List Rule). or_else (or_else (turn_fault shape [] w word) (walk_fault shape [] (walked rs [] w word) words)) (settle_fault rules false (fold (walked rules []) w (word ∷ words)).held))
    rules_of_shape
    ∙ or_else_assoc (turn_fault shape [] w word) (walk_fault shape [] (walked rules [] w word) words) (settle_fault rules false (fold (walked rules []) w (word ∷ words)).held)

-- the walk from a state finds what the states say
pub walk_finds : (state : State) (words : List Text) → has_no_dashes words ≡ true
    → Finds (fault_from (walk_at state) words) (rows_from (walk_at state) words) (found_from state words)
unfolding found_from
walk_finds state [] apart = finds_at_end state
walk_finds state (word ∷ words) apart =
    let here = and_parts (not (bytes_eq word (codes "--"))) (has_no_dashes words) apart in
    by_turn (step state word) (turn state word (not-true (bytes_eq word (codes "--")) here.0)) (λ next. walk_finds next words here.1)
  where
    by_turn : (next : Option State) → Leads (turn_fault shape [] (walk_at state) word) (walked rules [] (walk_at state) word) next
        → ((t : State) → Finds (fault_from (walk_at t) words) (rows_from (walk_at t) words) (found_from t words))
        → Finds (fault_from (walk_at state) (word ∷ words)) (rows_from (walk_at state) (word ∷ words)) (option_and_then (λ t. found_from t words) next)
    by_turn None h later = λ e. first_fails _ (fault_from (walked rules [] (walk_at state) word) words) h (sym (one_turn (walk_at state) word words) ∙ e)
    by_turn (Some t) h later = finds_along _ _ _ _ (found_from t words)
        (one_turn (walk_at state) word words
        ∙ ap (λ (k : Kinds). or_else k (fault_from (walked rules [] (walk_at state) word) words)) h.0
        ∙ ap (λ (w : Walk). fault_from w words) h.1)
        (ap (λ (w : Walk). rows_from w words) h.1) (later t)

-- ---- the command

built_is : built sdmp ≡ alone
unfolding shape sdmp bare
built_is = refl

words_are : (words : List Text) → argument_words sdmp words ≡ words
unfolding sdmp bare
words_are words = refl

either_way : {A : Type 0} (b : Bool) (x : A) → cond b x x ≡ x
either_way true x = refl
either_way false x = refl

or_true : (b : Bool) (k : Kinds) → cond (b || true) [] k ≡ []
or_true true k = refl
or_true false k = refl

no_default : (n : Name) (rows : List Row) → default_fault rows (rule_for n) ≡ []
unfolding rule_for
no_default n rows = or_true (has_row (rule_for n).id rows) []

pub default_stays : (n : Name) (rows : List Row) → with_default rows (rule_for n) ≡ rows
unfolding rule_for
default_stays n rows = either_way (has_row (rule_for n).id rows) rows

default_passes : (n : Name) (rows : List Row) (later : List Rule) → ((rs : List Row) → defaults_fault rs later ≡ []) → defaults_fault rows (rule_for n ∷ later) ≡ []
unfolding defaults_fault
default_passes n rows later h = both_pass (default_fault rows (rule_for n)) _ (no_default n rows) (h (with_default rows (rule_for n)))

no_defaults : (rows : List Row) → defaults_fault rows [] ≡ []
unfolding defaults_fault
no_defaults rows = refl

defaults_pass : (rows : List Row) → defaults_fault rows rules ≡ []
defaults_pass rows =
    ap (defaults_fault rows) rules_are
    ∙ default_passes workers rows (rule_for places ∷ rule_for demo ∷ []) (λ rs. default_passes places rs (rule_for demo ∷ [])
    (λ qs. default_passes demo qs [] no_defaults))

defaults_stay : (rows : List Row) → fold with_default rows rules ≡ rows
defaults_stay rows =
    ap (fold with_default rows) rules_are
    ∙ ap (λ (rs : List Row). with_default (with_default rs (rule_for places)) (rule_for demo)) (default_stays workers rows)
    ∙ ap (λ (rs : List Row). with_default rs (rule_for demo)) (default_stays places rows) ∙ default_stays demo rows

checks_pass : (rows : List Row) → check_fault shape rows false ≡ []
unfolding shape sdmp bare
checks_pass rows = refl

no_subcommand : (stop : Option (Text × List Text)) → entered alone stop ≡ None
no_subcommand None = refl
no_subcommand (Some p) = refl

no_fault_below : (stop : Option (Text × List Text)) → entered_fault alone stop ≡ []
no_fault_below None = refl
no_fault_below (Some p) = refl

abbrev ends_by : List Rule → Bool → List Text → Kinds
ends_by rs again words =
    let end = (walk rs [] nothing_held words).held in
    or_else (walk_fault shape [] (walk_from nothing_held) words)
    (or_else (settle_fault rs again end) (or_else (defaults_fault (settled rs end).rows rs) (check_fault shape (finished rs end) false)))

pub refused_is : (words : List Text) → refused_for words ≡ fault_from (walk_at (between [] None)) words
unfolding refused_for
refused_is words =
    let end = (walk shape.rules [] nothing_held words) in
    ap (λ (a : App). built_fault a nothing_held (argument_words sdmp words)) built_is
    ∙ ap (built_fault alone nothing_held) (words_are words)
    ∙ ap (λ (s : Option (Text × List Row)). level_fault shape [] nothing_held words (is_some s) (entered_fault alone end.stopped)) (no_subcommand end.stopped)
    ∙ ap (level_fault shape [] nothing_held words false) (no_fault_below end.stopped)
    ∙ ap (λ (rs : List Rule). ends_by rs shape.args_override_self words) rules_of_shape
    ∙ ap (λ (b : Bool). ends_by rules b words) uses_stay
    ∙ ap (λ (k : Kinds). or_else (walk_fault shape [] (walk_from nothing_held) words) (or_else (settle_fault rules false (walk rules [] nothing_held words).held) k))
    (both_pass _ _ (defaults_pass (settled rules (walk rules [] nothing_held words).held).rows) (checks_pass (finished rules (walk rules [] nothing_held words).held)))
    ∙ ap (or_else (walk_fault shape [] (walk_from nothing_held) words)) (or_else-nil (settle_fault rules false (walk rules [] nothing_held words).held))

pub found_is : (words : List Text) → found_in words ≡ rows_from (walk_at (between [] None)) words
unfolding found_in
found_is words =
    ap (λ (a : App). rows_after a.top.rules (names_of a) (argument_words sdmp words)) built_is
    ∙ ap (rows_after shape.rules []) (words_are words)
    ∙ ap (λ (rs : List Rule). rows_after rs [] words) rules_of_shape
    ∙ defaults_stay (rows_from (walk_at (between [] None)) words)

-- what the command makes of words without `--`
pub command_finds : (words : List Text) → has_no_dashes words ≡ true → Finds (refused_for words) (found_in words) (found_from (between [] None) words)
command_finds words apart = finds_along _ _ _ _ (found_from (between [] None) words) (refused_is words) (found_is words) (walk_finds (between [] None) words apart)
