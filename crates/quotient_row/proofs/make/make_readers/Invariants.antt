use Rattle.std.proofs.Common.{◌≡◌, All}
use Rattle.std.specs.Vec.{vec_len}
use Rattle.quotient_row.specs.Ends.{IsReaderOf, IsNew}
use Rattle.quotient_row.proofs.make.make_readers.Given as goal

abbrev pub invariant-loop : goal.invariant-loop
invariant-loop g l = record {
  table : l.seat.table_id ≡ l.initial.seat.table_id;
  me : l.seat.me ≡ l.initial.seat.me;
  count : vec_len l.out ≡ l.counter;
  each : All (λ r. IsReaderOf l.row r × IsNew r) l.out.items;
}
