use Rattle.std.proofs.Common.{refl}
use Rattle.divide_merge.proofs.Turning.{same_blocked, same_row_front, turns_front}
use Rattle.divide_merge.proofs.merge.DivideMerge.block.Goals as goal

pub returns-in_default-clause-turns : goal.returns-in_default-clause-turns
returns-in_default-clause-turns g c = same_blocked g.M.Monomial.LIM c.args.self.now _ c.requires.sound c.requires.going c.args.worker _ c.requires.next c.requires.stuck c.in_default.ensures refl

pub returns-then-is_row_full-clause-turns : goal.returns-then-is_row_full-clause-turns
returns-then-is_row_full-clause-turns g c =
    same_row_front g.M.Monomial.LIM c.args.self.now _ c.requires.sound c.requires.going c.args.worker _ (g.M.Monomial.vector c.in-Some.bound) c.requires.next c.requires.stuck c.in-Some.ensures (c.is_row_full.ensures.0 c.if-is_row_full.true) refl

pub returns-clause-turns : goal.returns-clause-turns
returns-clause-turns g c =
    turns_front g.M.Monomial.LIM c.args.self.now c.publish_front.new.self c.requires.sound c.requires.going (g.M.Monomial.vector c.in-Some.bound) c.args.worker c.publish_front.ensures.publishes c.in-Some.ensures
    (record { next = _; read = c.requires.next; first = c.requires.stuck })
