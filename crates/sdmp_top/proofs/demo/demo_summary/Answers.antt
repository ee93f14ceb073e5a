use Rattle.std.proofs.Common.{◌≡◌, List, ℕ, ◌++◌, length, ap, ◌∙◌, arith}
use Rattle.calc_session.specs.Answers.{text}
use Rattle.calc_session.specs.Session.{answers}
use Rattle.calc_session.specs.Demo.{summary}
use Rattle.sdmp_top.proofs.SummaryLemmas.{demo_summed, gathered_all}
use Rattle.sdmp_top.proofs.demo.demo_summary.Goals as goal

pub returns-in-Ok-write_summary-clause-text : goal.returns-in-Ok-write_summary-clause-text
returns-in-Ok-write_summary-clause-text g c =
    let long : c.len.result ≡ length c.in-Ok.input.items = omega (arith, c.len.ensures, c.deref.ensures.len, ap length c.deref.ensures.value) in
    demo_summed c.args.seed c.len.result c.deref-2.result.now c.write_summary.new.out.items
    (long ∙ ap length c.in-Ok.ensures)
    (c.deref-2.ensures.value ∙ gathered_all _ _ _ c.new-gathered.ensures c.in-Ok-answer_input.ensures.text
    ∙ ap (λ (bytes : List ℕ). text (answers bytes)) (c.deref.ensures.value ∙ c.in-Ok.ensures))
    (c.in-Ok-write_summary.ensures ∙ ap (λ (l : List ℕ). l ++ summary c.args.seed c.len.result c.deref-2.result.now) c.new-text.ensures.items)
