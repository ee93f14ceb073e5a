use Rattle.std.proofs.Common.{arith, ap, ◌∙◌}
use Rattle.term_ring.specs.Steps.{copy_of}
use Rattle.term_ring.proofs.RuleStays.{copies_taken, told_taken, looks_head}
use Rattle.term_ring.proofs.ring.Writer.meet.Goals as goal

pub split_seat-copy-requires : goal.split_seat-copy-requires
split_seat-copy-requires g c = (c.requires.reader.1, omega (arith, c.args.ring.now.sized), copies_taken _ _ _ _ _ _ _ c.requires.reader.0)

pub join_seat-requires : goal.join_seat-requires
join_seat-requires g c =
    let e = c.split_seat-copy.ensures in
    (c.requires.writer.1, e.3 ∙ c.requires.reader.1, ap (λ m. m.1) e.4, omega (arith, c.args.ring.now.sized), told_taken _ _ _ _ _ _ _ _ _ c.requires.writer.0 (ap (λ m. m.0.kind) e.4 ∙ ap copy_of c.requires.reader.0))

pub load-end-requires : goal.load-end-requires
load-end-requires g c =
    let e = c.join_seat.ensures in (e.0 ∙ c.requires.writer.1, omega (arith, c.args.ring.now.sized), looks_head _ _ _ _ _ _ _ _ (ap (λ m. m.0.kind) e.2 ∙ c.requires.writer.0))
