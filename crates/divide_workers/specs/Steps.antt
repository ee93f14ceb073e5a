-- What the steps of a dividing worker change.
use Rattle.std.specs.Prelude.{◌≡◌, ℕ, ◌+◌, ◌≤◌, ◌<◌, max, List, [], ◌∷◌, ◌++◌, length, Option, Some, None}
use mathlib.Core.List.{IsPrefix}
use Rattle.sdmp_laws.specs.Order.{◌⋅◌}
use Rattle.sdmp_laws.specs.Poly.{Term, lm}
use Rattle.sdmp_laws.specs.Division.{Division}
use Rattle.sdmp_laws.specs.LongDivision.{quotient_list}
use Rattle.sdmp_laws.specs.Limits.{PassesBound}
use Rattle.divide_wholes.specs.Wholes.{AllUnderFront}
use Rattle.divide_wholes.specs.Row.{row_terms}
use Rattle.divide_wholes.specs.Workers.{WorkerState, IsUnreadTop, worker_rows}
use Rattle.term_ring.specs.Sending.{Sends, IsRefused, WasRefused}
use Rattle.dividing_rounds.specs.Stalls.{IsHeld, IsLowered}
use Rattle.divide_workers.specs.Fronts.{PlainFront, IsPast, FrontFalls, front_mono}
use Rattle.divide_merge.specs.Names.{RowIdentity}
use Rattle.divide_workers.specs.Paying.{HasRows, IsMarked}
use Rattle.divide_workers.specs.Views.{WorkerView, sender_of}
use Rattle.divide_workers.specs.Working.{HasRoom}

-- It learned terms, handed out products and sent notes. Where it has rows it knows the terms that it knew or those that the row has told, whichever are more; where it has none it learned nothing.
pub record Works (a b : WorkerView) : Type 0 where
  pub division : b.state.division ≡ a.state.division
  pub workers : b.state.workers ≡ a.state.workers
  pub sends : Sends (sender_of a) (sender_of b)
  pub looks : a.full_looks ≤ b.full_looks
  pub known : IsPrefix a.state.known b.state.known
  pub learned : HasRows a.state → length b.state.known ≡ max (length a.state.known) (b.row.name.start + length (row_terms b.notes))
  pub idle : (HasRows a.state → ⊥) → b.state.known ≡ a.state.known
  pub row : b.row ≡ a.row
  pub notes : IsPrefix a.notes b.notes
  pub count : a.count ≤ b.count
  pub loads : a.loads ≤ b.loads
  pub told : b.told ≡ a.told
  pub front : FrontFalls a.state.division.ord a.front b.front
  pub room : HasRoom a → HasRoom b

-- a look told no note that it didn't know
pub record FindsNothing (a b : WorkerView) : Type 0 where
  pub same : b ≡ record a { count = b.count; loads = b.loads }
  pub loads : a.loads < b.loads
  pub count : b.count ≡ length b.notes

-- none of its products may be handed out: the greatest, times lm(g), is at its front times the first row or below
abbrev pub IsAllHeld : WorkerView → Type 0
IsAllHeld v = (top : Option (List ℕ)) → IsUnreadTop v.state.division.ord v.state.unread top → IsHeld v.state.division (worker_rows v.state) (front_mono v.front) top

-- it keeps no term, and may send none of its products
pub record HoldsBack (v : WorkerView) : Type 0 where
  pub kept : v.state.kept ≡ []
  pub held : IsAllHeld v

-- the front times the first row; where there is none, no product may be handed out
unfoldable pub IsFrontier : WorkerView → Option PlainFront → Type 0
IsFrontier v None = IsAllHeld v
IsFrontier v (Some a) = (f : PlainFront) × (v.front ≡ Some f) × (a.mono ≡ f.mono ⋅ lm (worker_rows v.state)) × (a.is_strict ≡ f.is_strict)

-- the greatest product is past the front
pub record MayHand (v : WorkerView) : Type 0 where
  pub top : List ℕ
  pub is_top : IsUnreadTop v.state.division.ord v.state.unread (Some top)
  pub past : IsPast v.state.division (worker_rows v.state) v.front top

-- products were handed out, and perhaps a term is kept
pub record HandsOut (a b : WorkerView) : Type 0 where
  pub works : Works a b
  pub same : b ≡ record a { state = record a.state { unread = b.state.unread; kept = b.state.kept } }
  pub less : length b.state.unread ≤ length a.state.unread

-- the mark of what it knows
abbrev pub IsMarkOf : WorkerView → ℕ × Option (List ℕ) → Type 0
IsMarkOf v mark = (mark.0 ≡ length v.state.known) × IsUnreadTop v.state.division.ord v.state.unread mark.1

-- a push went through: nothing is kept, and where nothing was before, the latest mark tells what is known
pub record Pushes (a b : WorkerView) : Type 0 where
  pub works : Works a b
  pub same : b ≡ record a { state = record a.state { kept = []; sent = b.state.sent }; head = b.head; full_looks = b.full_looks }
  pub marked : a.state.kept ≡ [] → IsMarked b.state

-- a push was refused: each place of the ring held a note
pub record Refuses (a b : WorkerView) : Type 0 where
  pub works : Works a b
  pub same : b ≡ record a { head = b.head; full_looks = b.full_looks }
  pub refused : IsRefused (sender_of b)
  pub was : WasRefused (sender_of a) (sender_of b)

-- it goes on with this row, of which it knows no note: it knows the terms of the quotient found, of which there are q, and its front is at that of the merge or below; what it has sent and keeps stays
pub record CatchesUp (row : RowIdentity) (q : ℕ) (front : Option (List ℕ)) (a b : WorkerView) : Type 0 where
  pub division : b.state.division ≡ a.state.division
  pub workers : b.state.workers ≡ a.state.workers
  pub sender : sender_of b ≡ sender_of a
  pub kept : b.state.kept ≡ a.state.kept
  pub known : IsPrefix a.state.known b.state.known
  pub learned : HasRows a.state → length b.state.known ≡ max (length a.state.known) q
  pub idle : (HasRows a.state → ⊥) → b.state.known ≡ a.state.known
  pub row_is : b.row ≡ row
  pub notes : b.notes ≡ []
  pub spare : HasRows a.state → a.spare + length a.state.known ≡ b.spare + length b.state.known
  pub falls : FrontFalls a.state.division.ord a.front b.front
  pub lowered : HasRows a.state → IsLowered a.state.division.ord (front_mono b.front) front

-- it learned more terms, and its front fell
pub record LearnsMore (a b : WorkerView) : Type 0 where
  pub same : b ≡ record a { state = record a.state { known = b.state.known; unread = b.state.unread }; front = b.front; spare = b.spare }
  pub known : IsPrefix a.state.known b.state.known
  pub spare : a.spare + length a.state.known ≡ b.spare + length b.state.known
  pub falls : FrontFalls a.state.division.ord a.front b.front

-- the term may be learned: it is the next quotient term, with which no bound is passed
pub record IsNextTerm (s : WorkerState) (t : Term) : Type 0 where
  pub begins : IsPrefix (s.known ++ t ∷ []) (quotient_list s.division)
  pub within : PassesBound s.division (s.known ++ t ∷ []) → ⊥

-- so may these: they begin the quotient's terms and pass no bound
pub record IsBegun (d : Division) (q : List Term) : Type 0 where
  pub begins : IsPrefix q (quotient_list d)
  pub within : PassesBound d q → ⊥

-- no term after those that are known, times lm(g), is above the front
abbrev pub IsFrontOf : WorkerState → Option (List ℕ) → Type 0
IsFrontOf s front = (later : List Term) → s.known ++ later ≡ quotient_list s.division → AllUnderFront s.division front later
