use Rattle.std.proofs.Common.{◌≡◌, ◌-◌, ◌<◌, ◌≤◌, map}
use Rattle.dividing_rounds.specs.Rounds.{progress}
use Rattle.divide_merge.specs.Names.{row_identity}
use Rattle.divide_workers.specs.Rounds.{IsTeam, HasPlace, rounds_bound}
use Rattle.divide_workers.proofs.rounds.finish.Given as goal

abbrev pub invariant-loop-row : goal.invariant-loop-row
invariant-loop-row g l = record {
  rings : l.merge.rings ≡ l.initial.merge.rings;
  row : l.merge.row ≡ row_identity l.row;
  team : IsTeam l.merge (map (λ w. w.worker.sender) l.workers);
  place : HasPlace l.merge;
  places : 0 < l.places;
  rounds : l.rounds ≤ progress l.merge.run;
}

abbrev pub decreases-loop-row : goal.decreases-loop-row
decreases-loop-row g l = rounds_bound l.initial.merge.run.state.division l.initial.merge.run.state.workers - progress l.merge.run
