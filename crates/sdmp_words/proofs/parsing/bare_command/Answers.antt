use Rattle.std.proofs.Common.{◌≡◌, true, ap, ◌∙◌}
use Rattle.clap.specs.Words.{app_of}
use Rattle.clap.specs.Simple.{on_top, app_of_fields}
use Rattle.sdmp_words.specs.Command.{bare}
use Rattle.sdmp_words.proofs.parsing.bare_command.Goals as goal

pub returns : goal.returns
unfolding bare
returns c =
    let one : app_of c.disable_help_subcommand.result ≡ on_top (λ s. record s { disable_help_subcommand = true }) (app_of c.disable_version_flag.result) = ap app_of_fields c.disable_help_subcommand.ensures in
    let two : app_of c.disable_version_flag.result ≡ on_top (λ s. record s { disable_version_flag = true }) (app_of c.disable_help_flag.result) = ap app_of_fields c.disable_version_flag.ensures in
    let three : app_of c.disable_help_flag.result ≡ on_top (λ s. record s { disable_help_flag = true }) (app_of c.no_binary_name.result) = ap app_of_fields c.disable_help_flag.ensures in
    let four : app_of c.no_binary_name.result ≡ on_top (λ s. record s { no_binary_name = true }) (app_of c.new.result) = ap app_of_fields c.no_binary_name.ensures in
    one ∙ ap (on_top (λ s. record s { disable_help_subcommand = true })) (two ∙ ap (on_top (λ s. record s { disable_version_flag = true })) (three
    ∙ ap (on_top (λ s. record s { disable_help_flag = true })) (four ∙ ap (on_top (λ s. record s { no_binary_name = true })) c.new.ensures.app)))
