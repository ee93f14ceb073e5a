use Rattle.std.proofs.Common.{◌≡◌, ◌<◌, ℕ, get_or}
use Rattle.ring_heads.specs.declared.head.HeadOf.TheVariants as head
use Rattle.ring_heads.proofs.heads.Heads.all_ended.Given as goal

abbrev pub invariant-loop-head : goal.invariant-loop-head
invariant-loop-head g l = (w : ℕ) → w < l.head-index → get_or l.self w head.Missing ≡ head.Ended
