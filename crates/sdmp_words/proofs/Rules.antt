-- The command's three rules.
use Rattle.std.proofs.Common.{◌≡◌, ℕ, Bool, true, false, cond, List, [], ◌∷◌, ◌++◌, Some, None, codes, refl, sym, ap, ◌∙◌, append-nil}
use Rattle.std.proofs.lemmas.List.{map-append}
use Rattle.std.specs.Prelude.{option_map, ◌||◌, ◌&&◌}
use Rattle.std.proofs.lemmas.Bool.{true≢false}
use Rattle.clap.specs.Kinds.{or_else}
use Rattle.std.specs.Str.{bytes_eq}
use Rattle.clap.specs.Walk.{Held, Row, value, Text, arg_by_id, arg_by_index, arg_by_long, arg_by_short, at_row, has_row, more_values, most_values, reading_by, takes_values, used, without, with_values}
use Rattle.clap.specs.Faults.{step_fault, use_fault}
use Rattle.clap.specs.declared.error.kind.ErrorKind.TheVariants.{ArgumentConflict, InvalidValue, UnknownArgument}
use Rattle.clap.specs.declared.parser.matches.ValueSource.TheVariants.{CommandLine}
use Rattle.sdmp_words.specs.Command.{bare, sdmp}
use Rattle.sdmp_words.proofs.States.{Given, Name, workers, places, demo, text_of, known, has, shape, rules, rule_for, row_for, rows_for}

pub rules_are : rules ≡ rule_for workers ∷ rule_for places ∷ rule_for demo ∷ []
unfolding rules rule_for shape sdmp bare
rules_are = refl

first_true : {A : Type 0} (r s t : A) (a b c : Bool) (f : Name → A) → f workers ≡ r → f places ≡ s → f demo ≡ t
    → cond (a || false) (Some r) (cond (b || false) (Some s) (cond (c || false) (Some t) None))
    ≡ option_map f (cond a (Some workers) (cond b (Some places) (cond c (Some demo) None)))
first_true r s t true b c f x y z = ap Some (sym x)
first_true r s t false true c f x y z = ap Some (sym y)
first_true r s t false false true f x y z = ap Some (sym z)
first_true r s t false false false f x y z = refl

pub arg_by_long-known : (name : Text) → arg_by_long rules name ≡ option_map rule_for (known name)
unfolding rules rule_for shape sdmp bare
arg_by_long-known name =
    first_true (rule_for workers) (rule_for places) (rule_for demo) (bytes_eq (codes "workers") name) (bytes_eq (codes "places") name) (bytes_eq (codes "demo") name) rule_for refl refl refl

pub arg_by_id-known : (n : Name) → arg_by_id rules (text_of n) ≡ Some (rule_for n)
unfolding rules rule_for shape sdmp bare
arg_by_id-known workers = refl
arg_by_id-known places = refl
arg_by_id-known demo = refl

pub no_short : (x : ℕ) → arg_by_short rules x ≡ None
unfolding rules rule_for shape sdmp bare
no_short x = refl

pub no_index : (i : ℕ) → arg_by_index rules i ≡ None
unfolding rules rule_for shape sdmp bare
no_index i = refl

pub rule_takes : (n : Name) → takes_values (rule_for n) ≡ true
unfolding rule_for
rule_takes workers = refl
rule_takes places = refl
rule_takes demo = refl

pub rules_of_shape : shape.rules ≡ rules
unfolding rules
rules_of_shape = refl

pub uses_stay : shape.args_override_self ≡ false
unfolding shape sdmp bare
uses_stay = refl

-- a word that no option takes
pub no_positional : (h : Held) → step_fault shape 1 h value ≡ UnknownArgument ∷ []
unfolding shape sdmp bare
no_positional h = refl

pub id_of_rule : (n : Name) → (rule_for n).id ≡ text_of n
unfolding rule_for
id_of_rule n = refl

pub most_of_rule : (n : Name) → most_values (rule_for n) ≡ 1
unfolding rule_for
most_of_rule n = refl

-- ---- one use

pub no_value : (n : Name) (rows : List Row) → use_fault false (rule_for n) [] rows ≡ InvalidValue ∷ []
unfolding rule_for
no_value workers rows = refl
no_value places rows = refl
no_value demo rows = refl

or_none : (b : Bool) → or_else (cond (b && true) (ArgumentConflict ∷ []) []) [] ≡ cond b (ArgumentConflict ∷ []) []
or_none true = refl
or_none false = refl

pub one_value : (n : Name) (v : Text) (rows : List Row)
    → use_fault false (rule_for n) (v ∷ []) rows ≡ cond (has_row (text_of n) rows) (ArgumentConflict ∷ []) []
unfolding rule_for
one_value workers v rows = or_none (has_row (text_of workers) rows)
one_value places v rows = or_none (has_row (text_of places) rows)
one_value demo v rows = or_none (has_row (text_of demo) rows)

at_row_absent : (id : Text) (change : Row → List Row) (missing rows : List Row) → has_row id rows ≡ false → at_row id change missing rows ≡ rows ++ missing
at_row_absent id change missing [] absent = refl
at_row_absent id change missing (r ∷ rows) absent = past (bytes_eq r.id id) absent (at_row_absent id change missing rows)
  where
    past : (b : Bool) → (b || has_row id rows) ≡ false → (has_row id rows ≡ false → at_row id change missing rows ≡ rows ++ missing)
        → cond b (change r ++ rows) (r ∷ at_row id change missing rows) ≡ r ∷ (rows ++ missing)
    past true h later = absurd (true≢false h)
    past false h later = ap (λ (rs : List Row). r ∷ rs) (later h)

pub has_row-rows_for : (n : Name) (done : List Given) → has_row (text_of n) (rows_for done) ≡ has n done
has_row-rows_for n [] = refl
has_row-rows_for n (g ∷ done) = ap (λ (b : Bool). bytes_eq (text_of g.0) (text_of n) || b) (has_row-rows_for n done)

-- a use of an option that is new puts its row last
pub used_new : (n : Name) (v : Text) (done : List Given) → has n done ≡ false → used (rule_for n) (v ∷ []) (rows_for done) ≡ rows_for (done ++ (n, v) ∷ [])
unfolding rule_for
used_new n v done absent =
    let none : has_row (text_of n) (rows_for done) ≡ false = has_row-rows_for n done ∙ absent in
    let left : without (text_of n) (rows_for done) ≡ rows_for done = at_row_absent (text_of n) (λ _. []) [] (rows_for done) none ∙ append-nil (rows_for done) in
    let put : with_values (text_of n) (reading_by (rule_for n)) CommandLine (v ∷ []) (rows_for done) ≡ rows_for done ++ row_for (n, v) ∷ [] =
    at_row_absent (text_of n) (more_values CommandLine (v ∷ [])) (row_for (n, v) ∷ []) (rows_for done) none in
    ap (with_values (text_of n) (reading_by (rule_for n)) CommandLine (v ∷ [])) left ∙ put ∙ sym (map-append row_for done ((n, v) ∷ []))
