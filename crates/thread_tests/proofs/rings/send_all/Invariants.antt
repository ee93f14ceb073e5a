use Rattle.std.proofs.Common.{◌≡◌, ◌≤◌, length, take}
use Rattle.term_ring.specs.Ends.{IsWriterOf, sent}
use Rattle.thread_tests.proofs.rings.send_all.Given as goal

abbrev pub invariant-loop : goal.invariant-loop
invariant-loop g l = record {
  inside : l.sent ≤ length l.list;
  of : IsWriterOf l.ring l.writer;
  sent_is : sent l.writer ≡ take l.sent l.list;
}
