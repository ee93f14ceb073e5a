-- One step of the command's walk.
use Rattle.std.proofs.Common.{◌≡◌, ◌≢◌, ℕ, Bool, true, false, cond, List, [], ◌∷◌, ◌++◌, length, Option, Some, None, codes, is_some, refl, sym, ap, subst, ◌∙◌, slice_get}
use Rattle.std.specs.Prelude.{◌==◌, option_map, option_and_then}
use Rattle.std.specs.Option.{option_map_or}
use Rattle.std.specs.Str.{bytes_eq, chars}
use Rattle.clap.specs.Kinds.{or_else}
use Rattle.clap.specs.Lexer.{long_of, short_of, short_of_rest}
use Rattle.clap.specs.Words.{Kinds, Rule}
use Rattle.clap.specs.Walk.{Outcome, flag_met, option_met, Held, Row, Step, Text, Waiting, Walk, after_flag, after_step, bundle_met, bundle_step, idle, option_word, plain_word, long_met, long_or_other, option, settled, short_or_plain, trailing, used, used_by_id, walked, plain}
use Rattle.std.specs.Prelude.{drop, encode_utf8}
use Rattle.clap.specs.Faults.{bundle_fault, bundle_step_fault, short_fault, flag_word_fault, flags_fault, long_fault, option_fault, react_fault, settle_fault, step_fault, turn_fault, use_fault}
use Rattle.clap.specs.declared.error.kind.ErrorKind.{ErrorKind}
use Rattle.clap.specs.declared.error.kind.ErrorKind.TheVariants.{ArgumentConflict, InvalidValue, TooManyValues, UnknownArgument}
use Rattle.sdmp_words.proofs.States.{Given, Name, State, between, waits, workers, places, demo, text_of, known, has, settle, step, after_long, after_value, taken, shape, rules, rule_for, rows_for, walk_at, walk_of, pending_of}
use Rattle.sdmp_words.proofs.Rules.{arg_by_long-known, arg_by_id-known, no_short, no_positional, rule_takes, rules_of_shape, uses_stay, id_of_rule, no_value, one_value, used_new, has_row-rows_for}

-- ---- faults

pub told : (k : ErrorKind) (ks f : Kinds) → f ≡ k ∷ ks → f ≢ []
told k ks f e h = cc

pub first_fails : (f next : Kinds) → f ≢ [] → or_else f next ≢ []
first_fails [] next h = λ _. h refl
first_fails (k ∷ ks) next h = h

pub second_fails : (f next : Kinds) → next ≢ [] → or_else f next ≢ []
second_fails [] next h = h
second_fails (k ∷ ks) next h = λ e. told k ks (k ∷ ks) refl e

pub both_pass : (f next : Kinds) → f ≡ [] → next ≡ [] → or_else f next ≡ []
both_pass f next e h = ap (λ (k : Kinds). or_else k next) e ∙ h

-- ---- turns

-- a fault, or none and this state
abbrev pub Leads : Kinds → Walk → Option State → Type 0
Leads fault walk None = fault ≢ []
Leads fault walk (Some state) = (fault ≡ []) × (walk ≡ walk_at state)

pub leads_along : (f g : Kinds) (v w : Walk) (state : Option State) → f ≡ g → v ≡ w → Leads g w state → Leads f v state
leads_along f g v w None e d h = λ k. h (sym e ∙ k)
leads_along f g v w (Some state) e d h = (e ∙ h.0, d ∙ h.1)

abbrev pub held : List Given → Option (Text × List Text) → Held
held done pending = record { rows = rows_for done; pending = pending; skip = 0 }

-- a turn, by what the word looks like
abbrev pub fault_by : Waiting → Text → Held → Option (Text × Option Text) → Kinds
fault_by waiting word h long =
    or_else (flag_word_fault rules false long word h) (step_fault shape 1 (long_or_other rules waiting word long h).0 (long_or_other rules waiting word long h).1)

abbrev pub walk_by : List Given → Option (Text × List Text) → Waiting → Text → Option (Text × Option Text) → Walk
walk_by done pending waiting word long =
    after_step rules word (walk_of done pending waiting) (long_or_other rules waiting word long (held done pending)).0 (long_or_other rules waiting word long (held done pending)).1

-- a turn, by whether the word is `--`
abbrev met_by : Bool → List Rule → Waiting → Text → Held → Held × Step
met_by dashes rs waiting word h = cond dashes (h, trailing 1) (long_or_other rs waiting word (long_of word) h)

abbrev fault_unless : Bool → List Rule → Bool → Waiting → Text → Held → Kinds
fault_unless dashes rs again waiting word h =
    or_else (cond dashes [] (flag_word_fault rs again (long_of word) word h))
    (step_fault shape 1 (met_by dashes rs waiting word h).0 (met_by dashes rs waiting word h).1)

unless : (waiting : Waiting) (word : Text) (h : Held) → bytes_eq word (codes "--") ≡ false
    → fault_unless (bytes_eq word (codes "--")) shape.rules shape.args_override_self waiting word h ≡ fault_by waiting word h (long_of word)
unless waiting word h apart =
    ap (λ (b : Bool). fault_unless b shape.rules shape.args_override_self waiting word h) apart
    ∙ ap (λ (rs : List Rule). fault_unless false rs shape.args_override_self waiting word h) rules_of_shape
    ∙ ap (λ (b : Bool). fault_unless false rules b waiting word h) uses_stay

-- the walk and its fault, at a word that isn't `--`
record Turned (done : List Given) (pending : Option (Text × List Text)) (waiting : Waiting) (word : Text) : Type 0 where
  fault : turn_fault shape [] (walk_of done pending waiting) word ≡ fault_by waiting word (held done pending) (long_of word)
  walk : walked rules [] (walk_of done pending waiting) word ≡ walk_by done pending waiting word (long_of word)

turned_idle : (done : List Given) (pending : Option (Text × List Text)) (word : Text) → bytes_eq word (codes "--") ≡ false → Turned done pending idle word
unfolding walked
turned_idle done pending word apart = record {
  fault = unless idle word (held done pending) apart;
  walk = ap (λ (b : Bool). after_step rules word (walk_of done pending idle) (met_by b rules idle word (held done pending)).0 (met_by b rules idle word (held done pending)).1) apart;
}

turned_option : (done : List Given) (pending : Option (Text × List Text)) (id word : Text) → bytes_eq word (codes "--") ≡ false → Turned done pending (option id) word
unfolding walked
turned_option done pending id word apart = record {
  fault = unless (option id) word (held done pending) apart;
  walk = ap (λ (b : Bool). after_step rules word (walk_of done pending (option id)) (met_by b rules (option id) word (held done pending)).0 (met_by b rules (option id) word (held done pending)).1) apart;
}

-- ---- an option and its value are used

-- the options that were taken are settled, or one is given twice
abbrev pub Settled : Held → Option (List Given) → Type 0
Settled h None = settle_fault rules false h ≢ []
Settled h (Some done) = (settle_fault rules false h ≡ []) × (settled rules h ≡ held done None)

pub use_of : (done : List Given) (g : Given) (b : Bool) → has g.0 done ≡ b
    → use_fault false (rule_for g.0) (g.1 ∷ []) (rows_for done) ≡ cond b (ArgumentConflict ∷ []) []
use_of done g b e = one_value g.0 g.1 (rows_for done) ∙ ap (λ (c : Bool). cond c (ArgumentConflict ∷ []) []) (has_row-rows_for g.0 done ∙ e)

pub settle_of : (done : List Given) (n : Name) (values : List Text)
    → settle_fault rules false (held done (Some (text_of n, values))) ≡ use_fault false (rule_for n) values (rows_for done)
settle_of done n values = ap (λ (r : Option Rule). option_map_or (λ a. use_fault false a values (rows_for done)) r []) (arg_by_id-known n)

one_more : (done : List Given) (g : Given) (b : Bool) → has g.0 done ≡ b → Settled (held done (pending_of (Some g))) (cond b None (Some (done ++ g ∷ [])))
one_more done g true e = told ArgumentConflict [] _ (settle_of done g.0 (g.1 ∷ []) ∙ use_of done g true e)
one_more done g false e = (
  settle_of done g.0 (g.1 ∷ []) ∙ use_of done g false e,
  ap (λ (r : Option Rule). held_rows (used_by_id r (g.1 ∷ []) (rows_for done))) (arg_by_id-known g.0) ∙ ap held_rows (used_new g.0 g.1 done e),
)
  where
    held_rows : List Row → Held
    held_rows rows = record { rows = rows; pending = None; skip = 0 }

pub settled_is : (done : List Given) (last : Option Given) → Settled (held done (pending_of last)) (settle done last)
settled_is done None = (refl, refl)
settled_is done (Some g) = one_more done g (has g.0 done) refl

-- ---- a word that is no `--name`

short_some : (word : Text) → short_of word ≡ Some [] → ⊥
short_some [] e = cc
short_some (x ∷ xs) e = by_hyphen (x == 45) e
  where
    by_rest : (rest : Text) → short_of_rest rest ≡ Some [] → ⊥
    by_rest [] e = cc
    by_rest (y ∷ ys) e = by_second (y == 45) e
      where
        by_second : (b : Bool) → cond b None (Some (y ∷ ys)) ≡ Some [] → ⊥
        by_second true e = cc
        by_second false e = cc

    by_hyphen : (b : Bool) → option_and_then short_of_rest (cond b (Some xs) None) ≡ Some [] → ⊥
    by_hyphen true e = by_rest xs e
    by_hyphen false e = cc

-- a turn at such a word, by what follows a hyphen, and by the first character of that
abbrev met_short : Waiting → Text → Held → Option Text → Held × Step
met_short waiting word h short = short_or_plain rules waiting word short h

abbrev fault_short : Waiting → Text → Held → Option Text → Kinds
fault_short waiting word h short =
    or_else (option_map_or (λ flags. bundle_fault rules false flags h) short []) (step_fault shape 1 (met_short waiting word h short).0 (met_short waiting word h short).1)

abbrev walk_short : List Given → Option (Text × List Text) → Waiting → Text → Option Text → Walk
walk_short done pending waiting word short =
    after_step rules word (walk_of done pending waiting) (met_short waiting word (held done pending) short).0 (met_short waiting word (held done pending) short).1

abbrev met_first : Waiting → Text → Held → ℕ → Text → Option ℕ → Held × Step
met_first waiting word h x xs first =
    let met = bundle_step rules first (x ∷ xs) 0 plain h (bundle_met rules (length xs)) in after_flag rules waiting word met.0 met.1

abbrev fault_first : Waiting → Text → Held → ℕ → Text → Option ℕ → Kinds
fault_first waiting word h x xs first =
    or_else (bundle_step_fault rules false first (x ∷ xs) 0 h (flags_fault rules false (length xs)))
    (step_fault shape 1 (met_first waiting word h x xs first).0 (met_first waiting word h x xs first).1)

first_character : (waiting : Waiting) (word : Text) (h : Held) (x c : ℕ) (xs : Text) → fault_first waiting word h x xs (Some c) ≢ []
first_character waiting word h x c xs = first_fails _ _ (told UnknownArgument [] _
    (ap (λ (r : Option Rule). short_fault rules false r (drop (length (encode_utf8 c)) (x ∷ xs)) h (flags_fault rules false (length xs) (drop (length (encode_utf8 c)) (x ∷ xs)) 0))
    (no_short c)))

idle_short : (word : Text) (done : List Given) (pending : Option (Text × List Text)) (short : Option Text) → short_of word ≡ short → fault_short idle word (held done pending) short ≢ []
unfolding flags_fault bundle_met
idle_short word done pending None e = second_fails [] _ (told UnknownArgument [] _ (no_positional (held done pending)))
idle_short word done pending (Some []) e = absurd (short_some word e)
idle_short word done pending (Some (x ∷ xs)) e = by_first (slice_get (chars (x ∷ xs)) 0)
  where
    by_first : (first : Option ℕ) → fault_first idle word (held done pending) x xs first ≢ []
    by_first None = second_fails [] _ (told UnknownArgument [] _ (no_positional (held done pending)))
    by_first (Some c) = first_character idle word (held done pending) x c xs

abbrev with_word : List Given → Name → Held × Waiting → Walk
with_word done n met = record (walk_of done (Some (text_of n, [])) (option (text_of n))) { held = met.0; waiting = met.1 }

filled_up : (done : List Given) (n : Name) (word : Text)
    → with_word done n (option_word (Some (rule_for n)) (text_of n) word (held done (Some (text_of n, [])))) ≡ walk_at (between done (Some (n, word)))
unfolding rule_for
filled_up done workers word = refl
filled_up done places word = refl
filled_up done demo word = refl

-- the word is the value that was waited for
valued : (done : List Given) (n : Name) (word : Text)
    → after_step rules word (walk_of done (Some (text_of n, [])) (option (text_of n))) (plain_word rules (option (text_of n)) word (held done (Some (text_of n, [])))).0
    (plain_word rules (option (text_of n)) word (held done (Some (text_of n, [])))).1
    ≡ walk_at (between done (Some (n, word)))
valued done n word = ap (λ (r : Option Rule). with_word done n (option_word r (text_of n) word (held done (Some (text_of n, []))))) (arg_by_id-known n) ∙ filled_up done n word

option_short : (word : Text) (done : List Given) (n : Name) (short : Option Text) → short_of word ≡ short
    → Leads (fault_short (option (text_of n)) word (held done (Some (text_of n, []))) short) (walk_short done (Some (text_of n, [])) (option (text_of n)) word short)
    (cond (option_map_or (λ flags. is_some (slice_get (chars flags) 0)) short false) None (Some (between done (Some (n, word)))))
unfolding flags_fault bundle_met
option_short word done n None e = (refl, valued done n word)
option_short word done n (Some []) e = absurd (short_some word e)
option_short word done n (Some (x ∷ xs)) e = by_first (slice_get (chars (x ∷ xs)) 0)
  where
    by_first : (first : Option ℕ)
        → Leads (fault_first (option (text_of n)) word (held done (Some (text_of n, []))) x xs first)
        (after_step rules word (walk_of done (Some (text_of n, [])) (option (text_of n))) (met_first (option (text_of n)) word (held done (Some (text_of n, []))) x xs first).0
        (met_first (option (text_of n)) word (held done (Some (text_of n, []))) x xs first).1)
        (cond (is_some first) None (Some (between done (Some (n, word)))))
    by_first None = (refl, valued done n word)
    by_first (Some c) = first_character (option (text_of n)) word (held done (Some (text_of n, []))) x c xs

-- ---- a word `--name` or `--name=value`

abbrev met_long : Waiting → Text → Held × Outcome → Held × Step
met_long waiting word met = after_flag rules waiting word met.0 met.1

abbrev fault_long : Waiting → Text → Kinds → Held × Outcome → Kinds
fault_long waiting word fault met = or_else fault (step_fault shape 1 (met_long waiting word met).0 (met_long waiting word met).1)

abbrev walk_long : List Given → Option (Text × List Text) → Waiting → Text → Held × Outcome → Walk
walk_long done pending waiting word met = after_step rules word (walk_of done pending waiting) (met_long waiting word met).0 (met_long waiting word met).1

abbrev option_walk : List Given → Option (Text × List Text) → Waiting → Name → Option Text → Held × Outcome
option_walk done pending waiting n v = option_met rules (rule_for n) v (held done pending)

known_turn : (done : List Given) (pending : Option (Text × List Text)) (waiting : Waiting) (word : Text) (n : Name) (v : Option Text) (next : Option (List Given))
    → Settled (held done pending) next
    → Leads (fault_long waiting word (option_fault rules false (rule_for n) v (held done pending)) (option_met rules (rule_for n) v (held done pending)))
    (walk_long done pending waiting word (option_met rules (rule_for n) v (held done pending)))
    (option_and_then (taken n v) next)
known_turn done pending waiting word n None None h = first_fails _ _ h
known_turn done pending waiting word n (Some v) None h = first_fails _ _ (first_fails _ _ h)
known_turn done pending waiting word n None (Some d) h = (
  both_pass _ _ h.0 refl,
  ap (λ (k : Held). waiting_walk (rule_for n).id k) h.1 ∙ ap (λ (id : Text). waiting_walk id (held d None)) (id_of_rule n),
)
  where
    waiting_walk : Text → Held → Walk
    waiting_walk id k = record (walk_of done pending waiting) { held = record k { pending = Some (id, []) }; waiting = option id }
known_turn done pending waiting word n (Some v) (Some d) h = by_new (has n d) refl
  where
    rows : (settled rules (held done pending)).rows ≡ rows_for d
    rows = ap (λ (k : Held). k.rows) h.1

    with_rows : List Row → Walk
    with_rows rs = record (walk_of done pending waiting) { held = record { rows = rs; pending = None; skip = 0 }; waiting = idle }

    by_new : (b : Bool) → has n d ≡ b
        → Leads (fault_long waiting word (option_fault rules false (rule_for n) (Some v) (held done pending)) (option_met rules (rule_for n) (Some v) (held done pending)))
        (walk_long done pending waiting word (option_met rules (rule_for n) (Some v) (held done pending)))
        (option_map (λ e. between e None) (cond b None (Some (d ++ (n, v) ∷ []))))
    by_new true e = first_fails _ _ (second_fails _ _ (told ArgumentConflict [] _
        (ap (use_fault false (rule_for n) (v ∷ [])) rows ∙ use_of d (n, v) true e)))
    by_new false e = (
      both_pass _ _ (both_pass _ _ h.0 (ap (use_fault false (rule_for n) (v ∷ [])) rows ∙ use_of d (n, v) false e)) refl,
      ap (λ (rs : List Row). with_rows (used (rule_for n) (v ∷ []) rs)) rows ∙ ap with_rows (used_new n v d e),
    )

-- the fault and the walk at the rule that the name finds
abbrev found_fault : Waiting → Text → Held → Option Text → Option Rule → Kinds
found_fault waiting word h v rule = fault_long waiting word (long_fault rules false rule v h) (long_met rules rule v h)

abbrev found_walk : List Given → Option (Text × List Text) → Waiting → Text → Option Text → Option Rule → Walk
found_walk done pending waiting word v rule = walk_long done pending waiting word (long_met rules rule v (held done pending))

found_turn : (done : List Given) (pending : Option (Text × List Text)) (waiting : Waiting) (word : Text) (v : Option Text) (name : Option Name) (next : Option (List Given))
    → Settled (held done pending) next
    → Leads (found_fault waiting word (held done pending) v (option_map rule_for name)) (found_walk done pending waiting word v (option_map rule_for name))
    (option_and_then (λ n. option_and_then (taken n v) next) name)
found_turn done pending waiting word v None next h = told UnknownArgument [] (UnknownArgument ∷ []) refl
found_turn done pending waiting word v (Some n) next h = leads_along _ _ _ _ _
    (ap (λ (b : Bool). fault_long waiting word (fault_if b) (met_if b)) (rule_takes n))
    (ap (λ (b : Bool). walk_long done pending waiting word (met_if b)) (rule_takes n))
    (known_turn done pending waiting word n v next h)
  where
    fault_if : Bool → Kinds
    fault_if b = cond b (option_fault rules false (rule_for n) v (held done pending))
        (cond (is_some v) (TooManyValues ∷ []) (react_fault rules false (rule_for n) [] (held done pending)))

    met_if : Bool → Held × Outcome
    met_if b = cond b (option_met rules (rule_for n) v (held done pending)) (flag_met rules (rule_for n) v (held done pending))

long_turn : (done : List Given) (pending : Option (Text × List Text)) (waiting : Waiting) (word : Text) (p : Text × Option Text) (next : Option (List Given))
    → Settled (held done pending) next
    → Leads (fault_by waiting word (held done pending) (Some p)) (walk_by done pending waiting word (Some p))
    (option_and_then (λ n. option_and_then (taken n p.1) next) (known p.0))
long_turn done pending waiting word p next h = leads_along _ _ _ _ _
    (ap (found_fault waiting word (held done pending) p.1) (arg_by_long-known p.0))
    (ap (found_walk done pending waiting word p.1) (arg_by_long-known p.0))
    (found_turn done pending waiting word p.1 (known p.0) next h)

no_state : (name : Option Name) (v : Option Text) → option_and_then {T = Name} {U = State} (λ n. option_and_then (taken n v) None) name ≡ None
no_state None v = refl
no_state (Some n) v = refl

-- ---- the turn

turn_between : (done : List Given) (last : Option Given) (word : Text) (long : Option (Text × Option Text)) → long_of word ≡ long
    → Leads (fault_by idle word (held done (pending_of last)) long) (walk_by done (pending_of last) idle word long) (after_long done last long)
turn_between done last word None e = idle_short word done (pending_of last) (short_of word) refl
turn_between done last word (Some p) e = long_turn done (pending_of last) idle word p (settle done last) (settled_is done last)

turn_waits : (done : List Given) (n : Name) (word : Text) (long : Option (Text × Option Text)) → long_of word ≡ long
    → Leads (fault_by (option (text_of n)) word (held done (Some (text_of n, []))) long) (walk_by done (Some (text_of n, [])) (option (text_of n)) word long)
    (after_value done n word long)
turn_waits done n word None e = option_short word done n (short_of word) refl
turn_waits done n word (Some p) e =
    subst (Leads (fault_by (option (text_of n)) word (held done (Some (text_of n, []))) (Some p)) (walk_by done (Some (text_of n, [])) (option (text_of n)) word (Some p)))
    (no_state (known p.0) p.1)
    (long_turn done (Some (text_of n, [])) (option (text_of n)) word p None (told InvalidValue [] _ (settle_of done n [] ∙ no_value n (rows_for done))))

pub turn : (state : State) (word : Text) → bytes_eq word (codes "--") ≡ false
    → Leads (turn_fault shape [] (walk_at state) word) (walked rules [] (walk_at state) word) (step state word)
turn (between done last) word apart =
    let turned = turned_idle done (pending_of last) word apart in
    leads_along _ _ _ _ _ turned.fault turned.walk (turn_between done last word (long_of word) refl)
turn (waits done n) word apart =
    let turned = turned_option done (Some (text_of n, [])) (text_of n) word apart in
    leads_along _ _ _ _ _ turned.fault turned.walk (turn_waits done n word (long_of word) refl)
