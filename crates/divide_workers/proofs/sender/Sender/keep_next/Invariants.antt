use Rattle.std.proofs.Common.{length}
use Rattle.divide_workers.specs.Fronts.{plain_front}
use Rattle.divide_workers.specs.Steps.{HandsOut, IsFrontier}
use Rattle.divide_workers.proofs.Handing.{HandsFewer}
use Rattle.divide_workers.proofs.sender.Sender.keep_next.Given as goal

abbrev pub invariant-loop-frontier : goal.invariant-loop-frontier
invariant-loop-frontier g l = record {
  hands : HandsOut l.initial.self l.self;
  frontier : IsFrontier l.self (plain_front g.M.Monomial.vector l.frontier);
  fewer : HandsFewer l.initial.self l.self;
}

abbrev pub decreases-loop-frontier : goal.decreases-loop-frontier
decreases-loop-frontier g l = length l.self.state.unread
