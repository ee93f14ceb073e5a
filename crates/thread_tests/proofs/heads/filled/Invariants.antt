use Rattle.std.proofs.Common.{◌≡◌, ℕ, ◌≤◌, All, length, slice_index_or}
use Rattle.ring_heads.specs.declared.head.HeadOf.TheVariants as head
use Rattle.thread_tests.proofs.Few.{Small}
use Rattle.thread_tests.proofs.heads.filled.Given as goal

abbrev pub invariant-loop-worker : goal.invariant-loop-worker
invariant-loop-worker l = record {
  long : length l.heads ≡ length l.pairs;
  ahead : (k : ℕ) → l.worker ≤ k → slice_index_or l.heads k head.Missing ≡ head.Missing;
  small : All Small l.heads;
}
