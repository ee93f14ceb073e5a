-- When a worker that waits gives up.
use Rattle.std.proofs.Common.{ℕ, List, Option, Some, None, arith}
use Rattle.turnstile.specs.declared.turn.Pass.{Pass}
use Rattle.term_ring.specs.Names.{RingName}
use Rattle.global_heap.specs.Merges.{MergeView}
use Rattle.global_heap.specs.declared.receipt.Advanced.{Advanced}
use Rattle.turnstile.specs.Passes.{patience}
use Rattle.mul_workers.specs.Workers.{IsReceipt, MayGiveUp}

module _ {X M E : Type 0} where
  -- a worker gives up after patience tries, or with a receipt
  pub gives_up : (names : List RingName) (tries : ℕ) (p q : Pass MergeView) (a : Option (Advanced X M E)) → MayGiveUp tries a → IsReceipt names tries p q a → IsReceipt names patience p q a
  gives_up names tries p q None m h = omega arith
  gives_up names tries p q (Some x) m h = h
