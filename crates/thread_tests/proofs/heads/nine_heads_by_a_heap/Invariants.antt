use Rattle.std.proofs.Common.{◌≡◌, All, length}
use Rattle.thread_tests.proofs.Few.{Small}
use Rattle.thread_tests.proofs.heads.nine_heads_by_a_heap.Given as goal

abbrev pub invariant-loop-sum : goal.invariant-loop-sum
invariant-loop-sum g l = record {
  long : length l.heads ≡ 9;
  small : All Small l.heads;
}
