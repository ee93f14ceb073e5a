-- A dividing worker as contracts see it.
use Rattle.std.specs.Prelude.{ℕ, List, Option}
use Rattle.whole_laws.specs.Notes.{Script, ProductScript, QuotientScript}
use Rattle.divide_wholes.specs.Row.{RowNote}
use Rattle.divide_wholes.specs.Workers.{WorkerState}
use Rattle.term_ring.specs.Names.{RingName}
use Rattle.term_ring.specs.Sending.{SenderView}
use Rattle.divide_merge.specs.Names.{RowIdentity}
use Rattle.divide_workers.specs.Fronts.{PlainFront}

-- what it holds; the ring of its writer, the head that this saw last and how often it found no room there; the row of its reader, the notes that it knows of it, the count that it saw last, how often it loaded that, and what was published when it last met the row's writer; what it knows of the terms to come, and for how many more terms its rows have room
pub record WorkerView : Type 0 where
  pub state : WorkerState
  pub ring : RingName
  pub head : ℕ
  pub full_looks : ℕ
  pub row : RowIdentity
  pub notes : List RowNote
  pub count : ℕ
  pub loads : ℕ
  pub told : List RowNote
  pub front : Option PlainFront
  pub spare : ℕ

-- what it has sent, as of any worker
abbrev pub sender_of : WorkerView → SenderView
sender_of v = record { ring = v.ring; worker = v.state.worker; sent = v.state.sent; head = v.head; full_looks = v.full_looks }

-- how many workers a script is one of
abbrev pub script_workers : Script → ℕ
script_workers (ProductScript m W w) = W
script_workers (QuotientScript d W w) = W
