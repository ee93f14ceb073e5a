-- How an advance of a dividing worker ends.
use Rattle.std.specs.Prelude.{◌≡◌, ◌⊎◌, ℕ, ◌+◌, ◌<◌, ◌≤◌, List, length, Option, Some, None}
use Rattle.turnstile.specs.Passes.{entries, busy, entries_of, busy_of, patience}
use Rattle.turnstile.specs.declared.turn.Pass.{Pass}
use Rattle.term_ring.specs.Sending.{IsRefused, WasRefused}
use Rattle.term_ring.specs.Names.{RingName}
use Rattle.divide_merge.specs.Names.{RowIdentity}
use Rattle.divide_merge.specs.Merges.{DivideView}
use Rattle.divide_merge.specs.Reached.{DivideName, divide_name}
use Rattle.divide_merge.specs.declared.receipt.DivideAdvanced.{DivideAdvanced}
use Rattle.divide_workers.specs.Paying.{HasRows, IsMarked}
use Rattle.divide_workers.specs.Views.{WorkerView, sender_of}
use Rattle.divide_workers.specs.Steps.{HoldsBack}
use Rattle.divide_workers.specs.declared.stop.DivideStop.{DivideStop}
use Rattle.divide_workers.specs.declared.stop.DivideStop.TheVariants.{Full, Waiting}

-- the merge reads these rings and publishes in this row
abbrev pub HasName : DivideView → List RingName → RowIdentity → Type 0
HasName v rings row = divide_name v ≡ record { rings = rings; row = row }

-- a push was refused, or more than one, and nothing else happened to the worker
pub record StaysRefused (a b : WorkerView) : Type 0 where
  pub same : b ≡ record a { head = b.head; full_looks = b.full_looks }
  pub head : a.head ≤ b.head
  pub looks : a.full_looks ≤ b.full_looks
  pub refused : IsRefused (sender_of b)

-- looks told no note that it didn't know, and nothing else happened to the worker
pub record StaysUntold (a b : WorkerView) : Type 0 where
  pub same : b ≡ record a { count = b.count; loads = b.loads }
  pub more : a.count ≤ b.count
  pub loads : a.loads ≤ b.loads
  pub count : b.count ≡ length b.notes

module _ {X M E : Type 0} where
  -- a receipt comes of an advance in the turnstile, of a merge with these rings and this row; none comes only where so many tries found the turnstile held
  abbrev pub IsReceipt : DivideName → ℕ → Pass DivideView → Pass DivideView → Option (DivideAdvanced X M E) → Type 0
  IsReceipt name tries p q None = busy p + tries ≤ busy q
  IsReceipt name tries p q (Some x) = (entries p < entries q) × (divide_name x.merge.value ≡ name)

  -- one more try: the receipt of an advance, or one more that found the turnstile held
  abbrev pub TriesOnce : DivideName → Pass DivideView → Pass DivideView → Option (DivideAdvanced X M E) → Option (DivideAdvanced X M E) → Type 0
  TriesOnce name p q a b = (s : Pass DivideView) (tries : ℕ) → entries s ≤ entries p → IsReceipt name tries s p a → IsReceipt name (tries + 1) s q b

  -- after so many tries with no receipt a worker may give up
  abbrev pub MayGiveUp : ℕ → Option (DivideAdvanced X M E) → Type 0
  MayGiveUp tries None = patience ≤ tries
  MayGiveUp tries (Some x) = Unit {0}

  -- the receipt with which a worker stops, which has this pass before its call and that one after it
  abbrev pub IsLastReceipt : DivideName → Option (Pass DivideView) → Option (Pass DivideView) → Option (DivideAdvanced X M E) → Type 0
  IsLastReceipt name p q None = busy_of p + patience ≤ busy_of q
  IsLastReceipt name p q (Some x) = (entries_of p < entries_of q) × (divide_name x.merge.value ≡ name)

  -- a worker without rows ends at once
  pub record EndsAtOnce (a b : WorkerView) (known : ℕ) (merged : Option (DivideAdvanced X M E)) : Type 0 where
    pub idle : HasRows a.state → ⊥
    pub same : b ≡ a
    pub known_terms : known ≡ length a.state.known
    pub none : merged ≡ None

  -- its latest mark tells what it knows, nothing that it holds may be sent, and its last look found nothing
  pub record WaitsInVain (name : DivideName) (a b : WorkerView) (p q : Option (Pass DivideView)) (known : ℕ) (merged : Option (DivideAdvanced X M E)) : Type 0 where
    pub known_terms : known ≡ length b.state.known
    pub marked : IsMarked b.state
    pub holds : HoldsBack b
    pub looked : a.loads < b.loads
    pub nothing : b.count ≡ length b.notes
    pub receipt : IsLastReceipt name p q merged

  -- why the worker stopped
  abbrev pub IsStop : DivideName → WorkerView → WorkerView → Option (Pass DivideView) → Option (Pass DivideView) → DivideStop X M E → Type 0
  IsStop name a b p q (Full merged) = IsRefused (sender_of b) × WasRefused (sender_of a) (sender_of b) × IsLastReceipt name p q merged
  IsStop name a b p q (Waiting known merged) = EndsAtOnce a b known merged ⊎ WaitsInVain name a b p q known merged
