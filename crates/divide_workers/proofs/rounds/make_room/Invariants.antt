use Rattle.std.proofs.Common.{map}
use Rattle.divide_workers.specs.Rounds.{MakesRoom}
use Rattle.divide_workers.proofs.Changing.{ChangedUpTo}
use Rattle.divide_workers.proofs.rounds.make_room.Given as goal

abbrev pub invariant-loop-worker : goal.invariant-loop-worker
invariant-loop-worker g l = ChangedUpTo (MakesRoom l.found l.places) (map (λ w. w.worker.sender) l.initial.workers) (map (λ w. w.worker.sender) l.workers) l.worker
