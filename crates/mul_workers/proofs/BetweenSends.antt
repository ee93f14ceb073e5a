-- A worker and its pass between two sends.
use Rattle.std.proofs.Common.{◌≤◌}
use Rattle.turnstile.specs.Passes.{IsPassOf, IsOutside, entries, busy}
use Rattle.turnstile.specs.declared.turn.Pass.{Pass}
use Rattle.turnstile.specs.declared.turn.Turnstile.{Turnstile}
use Rattle.global_heap.specs.Merges.{MergeView}
use Rattle.term_ring.specs.Sending.{SenderView, Sends}

-- the pass is outside; notes were sent, and no count fell
pub record GoesOn (t : Turnstile MergeView) (p q : Pass MergeView) (a b : SenderView) : Type 0 where
  pub pass : IsPassOf t q × IsOutside q
  pub entries_rise : entries p ≤ entries q
  pub busy_rise : busy p ≤ busy q
  pub sends : Sends a b
  pub looks : a.full_looks ≤ b.full_looks
