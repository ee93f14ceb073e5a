use Rattle.std.proofs.Common.{arith, ap, ◌∙◌}
use Rattle.quotient_row.proofs.RuleStays.{new_reader}
use Rattle.quotient_row.proofs.make.make_readers.Goals as goal

pub split_seat-other-requires : goal.split_seat-other-requires
split_seat-other-requires g c =
    let inv = c.loop.invariant in (inv.table ∙ c.requires.seat.0, omega (arith, c.args.row.now.sized), new_reader _ _ _ _ _ _ _ (ap (λ m. m.0.kind) inv.me ∙ ap (λ m. m.0.kind) c.requires.seat.1))
