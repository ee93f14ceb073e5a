use Rattle.sdmp_top.proofs.AnswerLemmas.{asked_for, same_answering}
use Rattle.std.proofs.lemmas.Result.{on_ok_weaker}
use Rattle.std.proofs.Common.{List, subst}
use Rattle.sdmp_top.specs.Work.{Calculation, IsTallied, tally_of}
use Rattle.sdmp_top.proofs.WorkLemmas.{asked_of}
use Rattle.sdmp_top.proofs.dispatch.answer_in.Goals as goal

pub returns-clause-answering : goal.returns-clause-answering
returns-clause-answering g c =
    same_answering _ _ _ _ _ _ _ _
    (asked_for c.args.header.ring c.args.header.order _ _ _ _ _ _ _ c.new-session.ensures c.requires.order c.requires.limit c.requires.ring)
    c.answer_lines.ensures.answering

pub returns-clause-tallied : goal.returns-clause-tallied
returns-clause-tallied g c =
    on_ok_weaker c.answer_lines.result
    (λ h. subst (λ (made : List Calculation). IsTallied c.args.by.now.workers made (tally_of c.args.ends.now) (tally_of c.answer_lines.new.ends))
    (asked_of c.args.header.ring c.args.header.order _ _ _ _ _ _ c.new-session.ensures c.requires.order c.requires.limit c.requires.ring) h)
    c.answer_lines.ensures.tallied
