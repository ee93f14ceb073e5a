use Rattle.std.proofs.Common.{ap₂, ◌∙◌}
use Rattle.clap.specs.Words.{with_rule}
use Rattle.sdmp_words.specs.Command.{sdmp}
use Rattle.sdmp_words.proofs.parsing.command_with_options.Goals as goal

pub returns : goal.returns
unfolding sdmp
returns c =
    c.in_ok-command.ensures.shape c.option-3.ensures.local
    ∙ ap₂ with_rule (c.in_ok-arg-2.ensures.shape c.option-2.ensures.local
    ∙ ap₂ with_rule (c.in_ok-arg.ensures.shape c.option.ensures.local
    ∙ ap₂ with_rule c.bare_command.ensures c.option.ensures.rule) c.option-2.ensures.rule) c.option-3.ensures.rule
