use Rattle.std.proofs.Common.{arith}
use Rattle.term_ring.proofs.RuleStays.{looks_tail}
use Rattle.term_ring.proofs.ring.Reader.has_note.Goals as goal

pub load-end-requires : goal.load-end-requires
load-end-requires g c = (c.requires.1, omega (arith, c.args.ring.now.sized), looks_tail _ _ _ _ _ _ _ _ c.requires.0)
