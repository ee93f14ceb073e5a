use Rattle.std.proofs.Common.{◌≡◌, ◌+◌, [], All, length, map, vec_len}
use Rattle.quotient_row.specs.Ends.{known}
use Rattle.divide_merge.specs.Names.{IsLooking, reader_row}
use Rattle.divide_workers.specs.Steps.{CatchesUp}
use Rattle.divide_workers.proofs.Changing.{ChangedUpTo}
use Rattle.divide_workers.proofs.rounds.catch_up_all.Given as goal

abbrev pub invariant-loop-worker : goal.invariant-loop-worker
invariant-loop-worker g l = record {
  changed : ChangedUpTo (CatchesUp l.merge.row (length l.merge.run.state.q) l.merge.run.state.front) (map (λ w. w.worker.sender) l.initial.workers) (map (λ w. w.worker.sender) l.workers) l.worker;
  readers : All (λ r. IsLooking r × (reader_row r ≡ l.merge.row) × (known r ≡ [])) l.readers.items;
  count : vec_len l.readers + l.worker ≡ length l.initial.workers;
}
