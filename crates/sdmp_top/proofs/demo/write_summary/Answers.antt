use Rattle.std.proofs.Common.{refl}
use Rattle.sdmp_top.proofs.SummaryLemmas.{summed}
use Rattle.sdmp_top.proofs.demo.write_summary.Goals as goal

pub returns : goal.returns
returns c =
    summed c.args.seed c.args.input c.line_feeds.result _ c.sum_of_bytes.result c.args.answers.now _ _ _ _ _ _ _
    c.line_feeds.ensures refl c.sum_of_bytes.ensures
    c.in_ok-write_field.ensures c.in_ok-write_field-2.ensures c.in_ok-write_field-3.ensures c.in_ok-write_field-4.ensures c.in_ok-write_field-5.ensures
    c.in_ok-push.ensures.items
