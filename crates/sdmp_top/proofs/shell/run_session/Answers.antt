use Rattle.std.proofs.Common.{List, ℕ, Option, sym, subst, ◌∙◌, rules}
use Rattle.calc_session.specs.Answers.{text}
use Rattle.calc_session.specs.Session.{answers}
use Rattle.sdmp_top.specs.Outside.{AppendsPart}
use Rattle.sdmp_top.specs.Written.{AppendsPieces}
use Rattle.sdmp_top.proofs.AnswerLemmas.{all_pieces, pieces_part}
use Rattle.sdmp_top.proofs.shell.run_session.Goals as goal

-- after a want of memory the flush may fail
pub returns-clause-part : goal.returns-clause-part
returns-clause-part g c = λ _ input e.
    let held = g.K.Sink.held c.args.sink.now in
    let pieces : AppendsPieces held (g.K.Sink.held c.answer_input.new.sink) (answers c.deref.result.now).pieces = c.in-Err-NoMemory-answer_input.ensures.no_memory (search rules) in
    let kept = subst (λ (now : Option (List ℕ)). AppendsPieces held now (answers c.deref.result.now).pieces)
    (sym c.flush_after-in-Err-NoMemory-answer_input.ensures.kept) pieces in
    subst (λ (bytes : List ℕ). AppendsPart held (g.K.Sink.held c.flush_after-in-Err-NoMemory-answer_input.new.sink) (text (answers bytes))) (c.deref.ensures.value ∙ c.in-Ok.ensures.whole input e)
    (pieces_part held _ (answers c.deref.result.now) kept)

-- at the end of the answers a flush may fail as well
pub returns-in-Ok-Done-clause-flush_failed : goal.returns-in-Ok-Done-clause-flush_failed
returns-in-Ok-Done-clause-flush_failed g c = λ _ _ input e.
    subst (λ (bytes : List ℕ). AppendsPieces (g.K.Sink.held c.args.sink.now) (g.K.Sink.held c.flush_after.new.sink) (answers bytes).pieces) (c.deref.ensures.value ∙ c.in-Ok.ensures.whole input e)
    (all_pieces _ _ _ (answers c.deref.result.now) c.in-Ok-Done.ensures.text c.flush_after.ensures.kept)

pub returns-in-Ok-Refused-clause-flush_failed : goal.returns-in-Ok-Refused-clause-flush_failed
returns-in-Ok-Refused-clause-flush_failed g c = λ _ _ input e.
    subst (λ (bytes : List ℕ). AppendsPieces (g.K.Sink.held c.args.sink.now) (g.K.Sink.held c.flush_after-in-Ok-Refused.new.sink) (answers bytes).pieces) (c.deref.ensures.value ∙ c.in-Ok.ensures.whole input e)
    (all_pieces _ _ _ (answers c.deref.result.now) c.in-Ok-Refused.ensures.text c.flush_after-in-Ok-Refused.ensures.kept)
