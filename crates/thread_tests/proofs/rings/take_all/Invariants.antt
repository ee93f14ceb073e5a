use Rattle.term_ring.specs.Ends.{IsReaderOf}
use Rattle.thread_tests.proofs.rings.take_all.Given as goal

abbrev pub invariant-loop : goal.invariant-loop
invariant-loop g l = IsReaderOf l.ring l.reader
