use Rattle.std.proofs.Common.{◌∙◌}
use Rattle.sdmp_top.specs.Outside.{Appends}
use Rattle.sdmp_top.specs.Written.{demo_text}
use Rattle.sdmp_top.proofs.AnswerLemmas.{when_ok}
use Rattle.sdmp_top.proofs.SummaryLemmas.{whole_part, whole_piece}
use Rattle.sdmp_top.proofs.shell.run_demo.Goals as goal

-- the flush failed
pub returns-in-Done-clause-part : goal.returns-in-Done-clause-part
returns-in-Done-clause-part g c = λ _.
    let appends = when_ok c.write_all.result c.is_err.result (Appends (g.K.Sink.held c.args.sink.now) (g.K.Sink.held c.write_all.new.sink) c.deref.result.now)
    c.is_err.ensures.value c.if-is_err.false c.write_all.ensures.appends in
    whole_part _ _ _ c.deref.result.now (demo_text c.args.seed) appends c.flush_after.ensures.kept (c.deref.ensures.value ∙ c.in-Ok.ensures.text)

pub returns-clause-part : goal.returns-clause-part
returns-clause-part g c = λ _.
    let appends = when_ok c.write_all.result c.is_err.result (Appends (g.K.Sink.held c.args.sink.now) (g.K.Sink.held c.write_all.new.sink) c.deref.result.now)
    c.is_err.ensures.value c.if-is_err.false c.write_all.ensures.appends in
    whole_part _ _ _ c.deref.result.now (demo_text c.args.seed) appends c.flush_after-in-Refused.ensures.kept (c.deref.ensures.value ∙ c.in-Ok.ensures.text)

pub returns-in-Done-clause-flush_failed : goal.returns-in-Done-clause-flush_failed
returns-in-Done-clause-flush_failed g c = λ _ _.
    let appends = when_ok c.write_all.result c.is_err.result (Appends (g.K.Sink.held c.args.sink.now) (g.K.Sink.held c.write_all.new.sink) c.deref.result.now)
    c.is_err.ensures.value c.if-is_err.false c.write_all.ensures.appends in
    whole_piece _ _ _ c.deref.result.now (demo_text c.args.seed) appends c.flush_after.ensures.kept (c.deref.ensures.value ∙ c.in-Ok.ensures.text)

pub returns-clause-flush_failed : goal.returns-clause-flush_failed
returns-clause-flush_failed g c = λ _ _.
    let appends = when_ok c.write_all.result c.is_err.result (Appends (g.K.Sink.held c.args.sink.now) (g.K.Sink.held c.write_all.new.sink) c.deref.result.now)
    c.is_err.ensures.value c.if-is_err.false c.write_all.ensures.appends in
    whole_piece _ _ _ c.deref.result.now (demo_text c.args.seed) appends c.flush_after-in-Refused.ensures.kept (c.deref.ensures.value ∙ c.in-Ok.ensures.text)
