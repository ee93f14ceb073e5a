use Rattle.std.proofs.Common.{sym, ap, ◌∙◌}
use Rattle.mul_workers.proofs.Sending.{writes_to}
use Rattle.mul_workers.proofs.sender.Sender.meet.Goals as goal

pub meet-requires-clause-writer : goal.meet-requires-clause-writer
meet-requires-clause-writer g c κs within =
    writes_to c.args.ring.now c.self.inside.writer c.self.invariant.writing (ap (λ v. v.ring) c.self.view_is ∙ sym c.requires.ring)
