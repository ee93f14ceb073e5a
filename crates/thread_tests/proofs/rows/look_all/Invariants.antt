use Rattle.quotient_row.specs.Ends.{IsReaderOf}
use Rattle.thread_tests.proofs.rows.look_all.Given as goal

abbrev pub invariant-loop : goal.invariant-loop
invariant-loop g l = IsReaderOf l.row l.reader
