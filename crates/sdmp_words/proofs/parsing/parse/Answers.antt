use Rattle.std.proofs.Common.{◌∙◌, sym}
use Rattle.sdmp_words.proofs.CommandLemmas.{sdmp_simple, sdmp_free, found_of_app, refused_of_app, only_memory, memory_no_words}
use Rattle.sdmp_words.proofs.parsing.parse.Goals as goal

pub returns-in-Ok-clause-taken : goal.returns-in-Ok-clause-taken
returns-in-Ok-clause-taken c = (c.in-Ok.ensures.matches (sdmp_simple _ c.in_ok-command.ensures)).0 ∙ found_of_app _ _ c.in_ok-command.ensures

pub returns-in-Ok-clause-no_fault : goal.returns-in-Ok-clause-no_fault
returns-in-Ok-clause-no_fault c = sym (refused_of_app _ _ c.in_ok-command.ensures) ∙ c.in-Ok.ensures.kinds (sdmp_free _ c.in_ok-command.ensures)

pub returns-in-Err-clause-fault : goal.returns-in-Err-clause-fault
returns-in-Err-clause-fault c = λ bad none.
    let kinds = c.in-Err.ensures.kinds (sdmp_free _ c.in_ok-command.ensures) in
    let memory = only_memory _ c.in-Err.error kinds (refused_of_app _ _ c.in_ok-command.ensures ∙ none) in
    memory_no_words _ (c.fault_of.ensures.memory memory) bad
