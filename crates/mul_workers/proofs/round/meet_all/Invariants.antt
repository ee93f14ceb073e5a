use Rattle.std.proofs.Common.{◌≡◌, map}
use Rattle.term_ring.specs.Names.{NoneBelow}
use Rattle.mul_workers.proofs.Steps.{MeetsUpTo}
use Rattle.mul_workers.proofs.round.meet_all.Given as goal

abbrev pub invariant-loop-worker : goal.invariant-loop-worker
invariant-loop-worker g l = record {
  state : l.merge.state ≡ l.initial.merge.state;
  rings : l.merge.rings ≡ l.initial.merge.rings;
  spare : l.merge.spare ≡ l.initial.merge.spare;
  tails : NoneBelow l.initial.merge.tails l.merge.tails;
  meets : MeetsUpTo l.merge (map (λ w. w.worker.sender) l.initial.workers) (map (λ w. w.worker.sender) l.workers) l.worker;
}
