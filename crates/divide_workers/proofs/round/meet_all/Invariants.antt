use Rattle.std.proofs.Common.{◌≡◌, map}
use Rattle.term_ring.specs.Names.{NoneBelow}
use Rattle.divide_workers.proofs.TeamSteps.{MeetsUpTo}
use Rattle.divide_workers.proofs.round.meet_all.Given as goal

abbrev pub invariant-loop-worker : goal.invariant-loop-worker
invariant-loop-worker g l = record {
  run : l.merge.run ≡ l.initial.merge.run;
  rings : l.merge.rings ≡ l.initial.merge.rings;
  row : l.merge.row ≡ l.initial.merge.row;
  spare : l.merge.spare ≡ l.initial.merge.spare;
  tails : NoneBelow l.initial.merge.tails l.merge.tails;
  meets : MeetsUpTo g.M.Monomial.LIM l.merge (map (λ w. w.worker.sender) l.initial.workers) (map (λ w. w.worker.sender) l.workers) l.worker;
}
