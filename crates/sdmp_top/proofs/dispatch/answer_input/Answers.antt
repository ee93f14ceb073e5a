use Rattle.std.proofs.Common.{List, refl, sym, subst}
use Rattle.std.proofs.lemmas.Result.{on_ok_weaker}
use Rattle.calc_session.specs.Faults.{fault_line}
use Rattle.calc_session.specs.Says.{head_said}
use Rattle.calc_session.specs.Session.{answers}
use Rattle.calc_session.proofs.SessionLemmas.{answers_head, answers_fault}
use Rattle.sdmp_top.proofs.AnswerLemmas.{same_answering}
use Rattle.calc_session.specs.Answers.{refused}
use Rattle.sdmp_top.specs.Work.{Calculation, IsTallied, tally_of}
use Rattle.sdmp_top.proofs.WorkLemmas.{made_after_head, none_made, tallied_none}
use Rattle.sdmp_top.proofs.dispatch.answer_input.Goals as goal

pub returns-in-Ok-clause-ending : goal.returns-in-Ok-clause-ending
returns-in-Ok-clause-ending g c =
    (same_answering _ _ _ _ _ _ _ _ (sym (answers_head c.args.input.now (head_said c.in-Ok.header) c.in-Ok.ensures.head)) c.answer_body.ensures.answering).ending

pub returns-in-Ok-clause-text : goal.returns-in-Ok-clause-text
returns-in-Ok-clause-text g c =
    (same_answering _ _ _ _ _ _ _ _ (sym (answers_head c.args.input.now (head_said c.in-Ok.header) c.in-Ok.ensures.head)) c.answer_body.ensures.answering).written

pub returns-in-Ok-clause-write_fault : goal.returns-in-Ok-clause-write_fault
returns-in-Ok-clause-write_fault g c =
    (same_answering _ _ _ _ _ _ _ _ (sym (answers_head c.args.input.now (head_said c.in-Ok.header) c.in-Ok.ensures.head)) c.answer_body.ensures.answering).part

pub returns-in-Ok-clause-no_memory : goal.returns-in-Ok-clause-no_memory
returns-in-Ok-clause-no_memory g c =
    (same_answering _ _ _ _ _ _ _ _ (sym (answers_head c.args.input.now (head_said c.in-Ok.header) c.in-Ok.ensures.head)) c.answer_body.ensures.answering).pieces

pub returns-in-Err-clause-ending : goal.returns-in-Err-clause-ending
returns-in-Err-clause-ending g c =
    (c.refuse.ensures.answering (answers c.args.input.now) (λ other. answers_fault c.args.input.now c.in-Err.field-0 (c.in-Err.ensures.head other))).ending

pub returns-in-Err-clause-text : goal.returns-in-Err-clause-text
returns-in-Err-clause-text g c =
    (c.refuse.ensures.answering (answers c.args.input.now) (λ other. answers_fault c.args.input.now c.in-Err.field-0 (c.in-Err.ensures.head other))).written

pub returns-in-Err-clause-write_fault : goal.returns-in-Err-clause-write_fault
returns-in-Err-clause-write_fault g c =
    (c.refuse.ensures.answering (answers c.args.input.now) (λ other. answers_fault c.args.input.now c.in-Err.field-0 (c.in-Err.ensures.head other))).part

pub returns-in-Err-clause-no_memory : goal.returns-in-Err-clause-no_memory
returns-in-Err-clause-no_memory g c =
    (c.refuse.ensures.answering (answers c.args.input.now) (λ other. answers_fault c.args.input.now c.in-Err.field-0 (c.in-Err.ensures.head other))).pieces

pub returns-in-Err-clause-later : goal.returns-in-Err-clause-later
returns-in-Err-clause-later g c = (c.refuse.ensures.answering (refused (fault_line c.in-Err.field-0.line c.in-Err.field-0.fault)) (λ _. refl)).later

pub returns-in-Err-clause-rose : goal.returns-in-Err-clause-rose
returns-in-Err-clause-rose g c = (c.refuse.ensures.answering (refused (fault_line c.in-Err.field-0.line c.in-Err.field-0.fault)) (λ _. refl)).rose

pub returns-in-Err-clause-steady : goal.returns-in-Err-clause-steady
returns-in-Err-clause-steady g c = (c.refuse.ensures.answering (refused (fault_line c.in-Err.field-0.line c.in-Err.field-0.fault)) (λ _. refl)).steady

pub returns-in-Ok-clause-tallied : goal.returns-in-Ok-clause-tallied
returns-in-Ok-clause-tallied g c =
    on_ok_weaker c.answer_body.result
    (λ h. subst (λ (made : List Calculation). IsTallied c.args.by.now.workers made (tally_of c.args.ends.now) (tally_of c.answer_body.new.ends))
    (sym (made_after_head c.args.input.now _ c.in-Ok.ensures.head)) h)
    c.answer_body.ensures.tallied

pub returns-in-Err-clause-tallied : goal.returns-in-Err-clause-tallied
returns-in-Err-clause-tallied g c =
    let before = tally_of c.args.ends.now in
    on_ok_weaker c.refuse.result
    (λ other. subst (λ (made : List Calculation). IsTallied c.args.by.now.workers made before before) (sym (none_made c.args.input.now _ (c.in-Err.ensures.head other))) (tallied_none c.args.by.now.workers before))
    c.refuse.ensures.told
