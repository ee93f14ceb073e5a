use Rattle.std.proofs.Common.{rules, ◌≡◌, ◌+◌, ap, sym, ◌∙◌}
use Rattle.calc_session.specs.Answers.{refused, before}
use Rattle.calc_session.specs.Faults.{fault_line}
use Rattle.calc_session.specs.Session.{Setting, body_answers}
use Rattle.calc_session.specs.View.{held}
use Rattle.calc_session.proofs.CommandLemmas.{body_more, body_refused}
use Rattle.sdmp_top.specs.Work.{tally_of}
use Rattle.sdmp_top.proofs.WorkLemmas.{line_more, line_refused}
use Rattle.sdmp_top.proofs.answering.answer.Goals as goal

pub returns-in_default-clause-more : goal.returns-in_default-clause-more
returns-in_default-clause-more g c = λ is later.
    let new = c.answer_line.new.session in
    body_more c.args.session.now.setting (held c.args.session.now.defined) (held new.defined) c.args.number c.args.line.now c.answer_line.new.out.items c.in_default.ensures.answered later
    ∙ ap (λ (s : Setting). before c.answer_line.new.out.items (body_answers s (held new.defined) (c.args.number + 1) later)) (sym c.answer_line.ensures.setting)

pub returns-clause-refused : goal.returns-clause-refused
returns-clause-refused g c = λ is later.
    let written : c.write_fault.new.out.items ≡ fault_line c.args.number c.in-Err.fault = search rules in
    body_refused c.args.session.now.setting (held c.args.session.now.defined) c.args.number c.args.line.now c.in-Err.fault (c.in-Err.ensures.refused (search rules)) later
    ∙ ap refused (sym written)

pub returns-in_default-clause-more_tallied : goal.returns-in_default-clause-more_tallied
returns-in_default-clause-more_tallied g c = λ is later.
    line_more c.args.by.now.workers c.args.session.now c.answer_line.new.session c.args.line.now c.answer_line.new.out.items (tally_of c.args.ends.now) (tally_of c.answer_line.new.ends)
    c.in_default.ensures.answered c.answer_line.ensures.setting c.in_default.ensures.tallied later

pub returns-clause-refused_tallied : goal.returns-clause-refused_tallied
returns-clause-refused_tallied g c = λ is later.
    line_refused c.args.by.now.workers c.args.session.now c.args.line.now c.in-Err.fault (tally_of c.args.ends.now) (tally_of c.answer_line.new.ends)
    (c.in-Err.ensures.refused (search rules)) (c.in-Err.ensures.untallied (search rules)) later
