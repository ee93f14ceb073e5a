use Rattle.std.proofs.Common.{◌≡◌, ◌≤◌, ◌-◌, map, length}
use Rattle.term_ring.specs.Names.{notes_count}
use Rattle.global_heap.specs.Names.{first_product, notes_total}
use Rattle.global_heap.specs.Merges.{IsSound}
use Rattle.mul_workers.specs.Rounds.{IsTeam}
use Rattle.mul_workers.proofs.rounds.finish.Given as goal

abbrev pub invariant-loop-merge : goal.invariant-loop-merge
invariant-loop-merge g l = record {
  rings : l.merge.rings ≡ l.initial.merge.rings;
  team : IsTeam l.merge (map (λ w. w.worker.sender) l.workers);
  sound : IsSound g.M.Monomial.LIM l.merge;
  count : l.rounds ≤ notes_count l.merge.state.taken;
}

abbrev pub decreases-loop-merge : goal.decreases-loop-merge
decreases-loop-merge g l = notes_total (first_product l.initial.merge.rings) (length l.initial.merge.rings) - notes_count l.merge.state.taken
