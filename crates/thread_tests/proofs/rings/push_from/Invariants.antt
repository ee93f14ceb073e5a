use Rattle.std.proofs.Common.{◌≡◌, take}
use Rattle.term_ring.specs.Ends.{IsWriterOf, sent}
use Rattle.thread_tests.proofs.rings.push_from.Given as goal

abbrev pub invariant-loop-i : goal.invariant-loop-i
invariant-loop-i g l = record {
  of : IsWriterOf l.ring l.writer;
  sent_is : sent l.writer ≡ take l.i l.list;
}
