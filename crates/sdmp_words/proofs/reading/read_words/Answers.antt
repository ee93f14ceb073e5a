use Rattle.std.proofs.Common.{map, string_bytes, sym, ap, ◌∙◌, rules}
use Rattle.clap.proofs.WalkLemmas.{list_any-map}
use Rattle.sdmp_words.specs.Rows.{is_bare_dashes, settings_by_rows}
use Rattle.sdmp_words.proofs.Agreement.{command_refused, command_taken, dashes_refused}
use Rattle.sdmp_words.proofs.reading.read_words.Goals as goal

pub returns-then-has_bare_dashes-clause-bad_words : goal.returns-then-has_bare_dashes-clause-bad_words
returns-then-has_bare_dashes-clause-bad_words c = λ _.
    dashes_refused (map string_bytes c.args.words.now) (sym (list_any-map is_bare_dashes string_bytes c.args.words.now) ∙ sym c.has_bare_dashes.ensures ∙ c.if-has_bare_dashes.true)

pub returns-in_err-matches-clause-bad_words : goal.returns-in_err-matches-clause-bad_words
returns-in_err-matches-clause-bad_words c = λ bad.
    command_refused (map string_bytes c.args.words.now)
    (sym (list_any-map is_bare_dashes string_bytes c.args.words.now) ∙ sym c.has_bare_dashes.ensures ∙ c.if-has_bare_dashes.false)
    (c.in_err-matches.ensures.fault (search rules))

pub returns-in-Some-clause-settings : goal.returns-in-Some-clause-settings
returns-in-Some-clause-settings c =
    command_taken (map string_bytes c.args.words.now)
    (sym (list_any-map is_bare_dashes string_bytes c.args.words.now) ∙ sym c.has_bare_dashes.ensures ∙ c.if-has_bare_dashes.false)
    c.in_ok-matches.ensures.no_fault
    ∙ ap settings_by_rows (sym c.in_ok-matches.ensures.taken) ∙ sym c.in-Some.ensures.value

pub returns-clause-bad_words : goal.returns-clause-bad_words
returns-clause-bad_words c = λ _.
    command_taken (map string_bytes c.args.words.now)
    (sym (list_any-map is_bare_dashes string_bytes c.args.words.now) ∙ sym c.has_bare_dashes.ensures ∙ c.if-has_bare_dashes.false)
    c.in_ok-matches.ensures.no_fault
    ∙ ap settings_by_rows (sym c.in_ok-matches.ensures.taken) ∙ sym c.in-None.ensures.value
