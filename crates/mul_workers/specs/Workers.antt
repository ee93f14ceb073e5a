-- How an advance of a worker ends.
use Rattle.std.specs.Prelude.{◌≡◌, ℕ, ◌+◌, ◌<◌, ◌≤◌, List, Option, Some, None}
use Rattle.whole_laws.specs.Notes.{NoEnd}
use Rattle.turnstile.specs.Passes.{entries, busy, entries_of, busy_of, patience}
use Rattle.turnstile.specs.declared.turn.Pass.{Pass}
use Rattle.term_ring.specs.Names.{RingName}
use Rattle.global_heap.specs.Merges.{MergeView}
use Rattle.global_heap.specs.declared.receipt.Advanced.{Advanced}
use Rattle.term_ring.specs.Sending.{SenderView, IsSentWhole, IsRefused, WasRefused}
use Rattle.mul_workers.specs.declared.stop.Stop.{Stop}
use Rattle.mul_workers.specs.declared.stop.Stop.TheVariants.{Ended, Full}

module _ {X M E : Type 0} where
  -- a receipt comes of an advance in the turnstile, of a merge that reads these rings; none comes only where so many tries found the turnstile held
  abbrev pub IsReceipt : List RingName → ℕ → Pass MergeView → Pass MergeView → Option (Advanced X M E) → Type 0
  IsReceipt names tries p q None = busy p + tries ≤ busy q
  IsReceipt names tries p q (Some x) = (entries p < entries q) × (x.merge.value.rings ≡ names)

  -- one more try: the receipt of an advance, or one more that found the turnstile held
  abbrev pub TriesOnce : List RingName → Pass MergeView → Pass MergeView → Option (Advanced X M E) → Option (Advanced X M E) → Type 0
  TriesOnce names p q a b = (s : Pass MergeView) (tries : ℕ) → entries s ≤ entries p → IsReceipt names tries s p a → IsReceipt names (tries + 1) s q b

  -- after so many tries with no receipt a worker may give up
  abbrev pub MayGiveUp : ℕ → Option (Advanced X M E) → Type 0
  MayGiveUp tries None = patience ≤ tries
  MayGiveUp tries (Some x) = Unit {0}

  -- why the worker stopped
  abbrev pub IsStop : List RingName → SenderView → SenderView → Option (Pass MergeView) → Option (Pass MergeView) → Stop X M E → Type 0
  IsStop names a b p q Ended = IsSentWhole b
  IsStop names a b p q (Full None) = NoEnd b.sent × IsRefused b × WasRefused a b × (busy_of p + patience ≤ busy_of q)
  IsStop names a b p q (Full (Some x)) = NoEnd b.sent × IsRefused b × WasRefused a b × (entries_of p < entries_of q) × (x.merge.value.rings ≡ names)
