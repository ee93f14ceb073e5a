use Rattle.std.proofs.Common.{arith, ap, ◌∙◌}
use Rattle.quotient_row.proofs.RuleStays.{copies_known, told_writer, looks_own}
use Rattle.quotient_row.proofs.row.RowWriter.meet.Goals as goal

pub split_seat-copy-requires : goal.split_seat-copy-requires
split_seat-copy-requires g c = (c.requires.reader.1, omega (arith, c.args.row.now.sized), copies_known _ _ _ _ _ _ _ c.requires.reader.0)

pub join_seat-requires : goal.join_seat-requires
join_seat-requires g c =
    let e = c.split_seat-copy.ensures in
    (c.requires.writer.1, e.3 ∙ c.requires.reader.1, ap (λ m. m.1) e.4, omega (arith, c.args.row.now.sized), told_writer _ _ _ _ _ _ _ _ _ c.requires.writer.0 (ap (λ m. m.0.kind) e.4))

pub load-requires : goal.load-requires
load-requires g c =
    let e = c.join_seat.ensures in (e.0 ∙ c.requires.writer.1, omega (arith, c.args.row.now.sized), looks_own _ _ _ _ _ _ _ _ (ap (λ m. m.0.kind) e.2 ∙ c.requires.writer.0))
