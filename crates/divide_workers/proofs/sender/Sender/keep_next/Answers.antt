use Rattle.std.proofs.Common.{inr, refl}
use Rattle.divide_workers.proofs.Fields.{hands_itself, hands_again, frontier_again}
use Rattle.divide_workers.proofs.Handing.{hands_fewer}
use Rattle.divide_workers.proofs.sender.Sender.keep_next.Goals as goal

pub loop-frontier-init : goal.loop-frontier-init
loop-frontier-init g c =
    record { hands = hands_itself g.M.Monomial.LIM c.args.self.now c.whole.ensures.working; frontier = c.requires; fewer = inr refl }

pub loop-frontier-preserved : goal.loop-frontier-preserved
loop-frontier-preserved g c =
    record {
      hands = hands_again c.args.self.now c.loop-frontier.self c.hand_out.new.self c.loop-frontier.invariant.hands c.hand_out.ensures.hands;
      frontier = frontier_again g.M.Monomial.vector c.args.frontier c.loop-frontier.self c.hand_out.new.self (c.may_hand.ensures.some c.if-not-may_hand.false) c.hand_out.ensures.hands c.loop-frontier.invariant.frontier;
      fewer = hands_fewer c.args.self.now c.loop-frontier.self c.hand_out.new.self c.loop-frontier.invariant.hands c.hand_out.ensures.fewer;
    }
