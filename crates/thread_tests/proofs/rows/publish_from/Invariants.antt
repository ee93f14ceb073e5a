use Rattle.std.proofs.Common.{◌≡◌, take}
use Rattle.quotient_row.specs.Ends.{IsWriterOf, published}
use Rattle.thread_tests.proofs.rows.publish_from.Given as goal

abbrev pub invariant-loop-i : goal.invariant-loop-i
invariant-loop-i g l = record {
  of : IsWriterOf l.row l.writer;
  published_is : published l.writer ≡ take l.i l.list;
}
