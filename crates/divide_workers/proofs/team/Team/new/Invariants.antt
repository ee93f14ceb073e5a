use Rattle.std.proofs.Common.{◌≡◌, ◌+◌, ◌≤◌, [], All, map, vec_len, vec_capacity}
use Rattle.division_laws.specs.Outcome.{division_of}
use Rattle.term_ring.specs.Ends.{taken}
use Rattle.term_ring.specs.Names.{ring_name, reader_name, IsReading}
use Rattle.quotient_row.specs.Ends.{IsReaderOf, IsNew}
use Rattle.divide_merge.specs.Names.{row_identity}
use Rattle.divide_workers.proofs.Hiring.{AreHired}
use Rattle.divide_workers.proofs.team.Team.new.Given as goal

abbrev pub invariant-loop-worker : goal.invariant-loop-worker
invariant-loop-worker g l = record {
  below : l.worker ≤ l.workers;
  rings : (vec_len l.rings ≡ l.worker) × (l.workers ≤ vec_capacity l.rings);
  readers : (vec_len l.readers ≡ l.worker) × (l.workers ≤ vec_capacity l.readers);
  team : (vec_len l.team ≡ l.worker) × (l.workers ≤ vec_capacity l.team);
  lookers : vec_len l.lookers + l.worker ≡ l.workers;
  looking : All (λ r. IsReaderOf l.row r × IsNew r) l.lookers.items;
  names : map reader_name l.readers.items ≡ map ring_name l.rings.items;
  reading : All IsReading l.readers.items;
  taken : All (λ r. taken r ≡ []) l.readers.items;
  hired : AreHired (division_of l.job.mode g.M.Monomial.order g.M.Monomial.VARS l.job.f.now l.job.g.now) l.workers (row_identity l.row) (map ring_name l.rings.items) (map (λ w. w.worker.sender) l.team.items) l.worker;
}
