use Rattle.std.proofs.Common.{◌≡◌, Some, None, ap, ◌∙◌, rules}
use Rattle.std.specs.Prelude.{option_map}
use Rattle.clap.proofs.WalkLemmas.{first_value-rows}
use Rattle.clap.specs.Words.{found_of}
use Rattle.sdmp_words.specs.Words.{number_in}
use Rattle.sdmp_words.specs.Rows.{number_given}
use Rattle.sdmp_words.proofs.reading.given.Goals as goal

pub returns-in-None-clause-value : goal.returns-in-None-clause-value
returns-in-None-clause-value c =
    ap (number_given c.args.low c.args.high) (c.in-None.ensures ∙ first_value-rows (found_of c.args.matches.now) c.args.name.now)

pub returns-in_ok-number_in-in-Some-clause-value : goal.returns-in_ok-number_in-in-Some-clause-value
returns-in_ok-number_in-in-Some-clause-value c =
    ap (option_map (λ n. Some n)) (c.in_ok-number_in-in-Some.ensures.value ∙ ap (number_in c.args.low c.args.high) c.as_bytes.ensures.value)
    ∙ ap (number_given c.args.low c.args.high) (c.in-Some.ensures ∙ first_value-rows (found_of c.args.matches.now) c.args.name.now)

pub returns-in_err-number_in-in-Some-clause-value : goal.returns-in_err-number_in-in-Some-clause-value
returns-in_err-number_in-in-Some-clause-value c =
    let none : c.from_residual.result ≡ None = search rules in
    none
    ∙ ap (option_map (λ n. Some n)) (c.in_err-number_in-in-Some.ensures.value ∙ ap (number_in c.args.low c.args.high) c.as_bytes.ensures.value)
    ∙ ap (number_given c.args.low c.args.high) (c.in-Some.ensures ∙ first_value-rows (found_of c.args.matches.now) c.args.name.now)
