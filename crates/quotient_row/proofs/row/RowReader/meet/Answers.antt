use Rattle.std.proofs.Common.{arith, ap, ◌∙◌}
use Rattle.quotient_row.proofs.RuleStays.{copies_published, told_reader, looks_count}
use Rattle.quotient_row.proofs.row.RowReader.meet.Goals as goal

pub split_seat-copy-requires : goal.split_seat-copy-requires
split_seat-copy-requires g c = (c.meet.ensures.of.1, omega (arith, c.args.row.now.sized), copies_published _ _ _ _ _ _ _ c.meet.ensures.of.0)

pub join_seat-requires : goal.join_seat-requires
join_seat-requires g c =
    let e = c.split_seat-copy.ensures in let r = c.meet.ensures.reader in
    (r.1, e.3 ∙ c.meet.ensures.of.1, ap (λ m. m.1) e.4, omega (arith, c.args.row.now.sized), told_reader _ _ _ _ _ _ _ _ _ r.0 (ap (λ m. m.0.kind) e.4))

pub load-requires : goal.load-requires
load-requires g c =
    let e = c.join_seat.ensures in let r = c.meet.ensures.reader in
    (e.0 ∙ r.1, omega (arith, c.args.row.now.sized), looks_count _ _ _ _ _ _ _ _ (ap (λ m. m.0.kind) e.2 ∙ r.0))
