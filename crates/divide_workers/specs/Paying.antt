-- What a dividing worker pays its notes with.
use Rattle.std.specs.Prelude.{◌≡◌, ◌≢◌, ℕ, ◌+◌, ◌*◌, ◌≤◌, List, [], ◌++◌, length, Option, Some, None, All, IsPermutation}
use Rattle.sdmp_laws.specs.Order.{Order}
use Rattle.sdmp_laws.specs.Poly.{Term, times}
use Rattle.sdmp_laws.specs.Division.{AllAtOrBelow}
use Rattle.divide_wholes.specs.Wholes.{latest_mark}
use Rattle.divide_wholes.specs.Workers.{WorkerState, IsUnreadTop, worker_rows}
use Rattle.dividing_rounds.specs.Counting.{NotesCounted}
use Rattle.divide_workers.specs.Fronts.{PlainFront, IsPast}

-- it has a part of the divisor; a worker that has none owes nothing, and learns nothing in a round
abbrev pub HasRows : WorkerState → Type 0
HasRows s = worker_rows s ≢ []

-- every monomial of A is at the top of a mark or below; where the top is None there is none
unfoldable pub AllAtTop : Order → Option (List ℕ) → List Term → Type 0
AllAtTop ord None A = A ≡ []
AllAtTop ord (Some top) A = AllAtOrBelow ord top A

-- the latest mark that it sent tells how much it knows and its greatest product
pub record IsMarked (s : WorkerState) : Type 0 where
  pub top : Option (List ℕ)
  pub mark : latest_mark s.sent ≡ (length s.known, top)
  pub is_top : IsUnreadTop s.division.ord s.unread top

-- Each product of what it knows is unread or was handed out, past the front that it knows; and its notes are counted: a term that it sent or keeps was paid for by a product handed out, and a mark by a term learned or a product handed out since the mark before it. Its latest mark knows no more than it, and where it knows as much, nothing unread is above the mark's top.
pub record HasPaid (s : WorkerState) (front : Option PlainFront) : Type 0 where
  pub handed : List Term
  pub split : IsPermutation (times s.known (worker_rows s)) (handed ++ s.unread)
  pub past : All (λ t. IsPast s.division (worker_rows s) front t.monomial) handed
  pub paid : ℕ
  pub counted : NotesCounted s paid
  pub mark_known : (latest_mark s.sent).0 ≤ length s.known
  pub mark_top : (latest_mark s.sent).0 ≡ length s.known → AllAtTop s.division.ord (latest_mark s.sent).1 s.unread

-- it has sent no more notes than terms that it knows and twice the products of these with its rows
abbrev pub IsFewSent : WorkerState → Type 0
IsFewSent s = length s.sent ≤ length s.known + 2 * (length s.known * length (worker_rows s))
