use Rattle.std.proofs.Common.{arith, ap, ◌∙◌}
use Rattle.term_ring.specs.Steps.{copy_of}
use Rattle.term_ring.proofs.RuleStays.{copies_sent, told_sent, looks_tail}
use Rattle.term_ring.proofs.ring.Reader.meet.Goals as goal

pub split_seat-copy-requires : goal.split_seat-copy-requires
split_seat-copy-requires g c = (c.meet.ensures.of.1, omega (arith, c.args.ring.now.sized), copies_sent _ _ _ _ _ _ _ c.meet.ensures.of.0)

pub join_seat-requires : goal.join_seat-requires
join_seat-requires g c =
    let e = c.split_seat-copy.ensures in let r = c.meet.ensures.reader in
    (r.1, e.3 ∙ c.meet.ensures.of.1, ap (λ m. m.1) e.4, omega (arith, c.args.ring.now.sized), told_sent _ _ _ _ _ _ _ _ _ r.0 (ap (λ m. m.0.kind) e.4 ∙ ap copy_of c.meet.ensures.of.0))

pub load-end-requires : goal.load-end-requires
load-end-requires g c =
    let e = c.join_seat.ensures in let r = c.meet.ensures.reader in
    (e.0 ∙ r.1, omega (arith, c.args.ring.now.sized), looks_tail _ _ _ _ _ _ _ _ (ap (λ m. m.0.kind) e.2 ∙ r.0))
