-- A team of dividing workers around a merge, and a round of it.
use Rattle.std.specs.Prelude.{◌≡◌, ◌≢◌, ◌⊎◌, ℕ, ◌+◌, ◌<◌, ◌≤◌, false, List, [], length, slice_index_or, Option, None, IfSome}
use mathlib.Core.List.{IsPrefix}
use Rattle.sdmp_laws.specs.Division.{Division}
use Rattle.sdmp_laws.specs.LongDivision.{quotient_list}
use Rattle.divide_wholes.specs.Row.{row_terms}
use Rattle.term_ring.specs.Names.{RingName, NoneBelow}
use Rattle.term_ring.specs.Sending.{Sends, HasMet, IsRefused}
use Rattle.dividing_rounds.specs.Stalls.{IsLowered}
use Rattle.dividing_rounds.specs.Rounds.{progress, most_rounds}
use Rattle.divide_merge.specs.Names.{RowIdentity, HasScripts}
use Rattle.divide_merge.specs.Verdicts.{Verdict, Finishes, HasNone, PassesNorm, PassesCount, IsBlocked, RowIsFull, OutIsFull, IsVerdict, kept_of}
use Rattle.divide_merge.specs.Merges.{DivideView, IsSound, IsCause, taken_of, free_places}
use Rattle.divide_merge.specs.Reached.{divide_reached, Follows}
use Rattle.divide_workers.specs.Fronts.{front_mono}
use Rattle.divide_workers.specs.Paying.{HasRows, IsMarked}
use Rattle.divide_workers.specs.Views.{WorkerView, sender_of}
use Rattle.divide_workers.specs.Working.{IsWorking, HasRoom}
use Rattle.divide_workers.specs.Steps.{Works, HoldsBack, CatchesUp}
use Rattle.divide_workers.specs.declared.rounds.Next.{Next}
use Rattle.divide_workers.specs.declared.rounds.Next.TheVariants.{Over, Row, Round}

-- the worker advanced until its ring was full, or it waited and its last look found nothing, or it has no rows
pub record Moves (a b : WorkerView) : Type 0 where
  pub works : Works a b
  pub stopped : IsRefused (sender_of b) ⊎ (HasRows a.state → IsMarked b.state × HoldsBack b × (b.count ≡ length b.notes))

pub record AllMove (a b : List WorkerView) : Type 0 where
  pub long : length b ≡ length a
  pub each : (k : ℕ) (d : WorkerView) → k < length a → Moves (slice_index_or a k d) (slice_index_or b k d)

-- the worker and the merge have met; nothing was sent, and nothing else happened to the worker than that its ends saw more
pub record Meets (m : DivideView) (a b : WorkerView) : Type 0 where
  pub same : b ≡ record a { head = b.head; full_looks = b.full_looks; count = b.count; loads = b.loads; told = m.run.notes }
  pub sends : Sends (sender_of a) (sender_of b)
  pub met : HasMet m.run.state.taken m.tails (sender_of b)
  pub count : a.count ≤ b.count
  pub seen : length m.run.notes ≤ b.count
  pub notes : IsPrefix b.notes m.run.notes

pub record AllMeet (m : DivideView) (a b : List WorkerView) : Type 0 where
  pub long : length b ≡ length a
  pub each : (k : ℕ) (d : WorkerView) → k < length a → Meets m (slice_index_or a k d) (slice_index_or b k d)

-- what holds of a worker at any time; the vector of its front has a place for each variable
pub record IsWorker (lim : ℕ) (v : WorkerView) : Type 0 where
  pub working : IsWorking lim v
  pub front : IfSome (front_mono v.front) (λ m. length m ≡ v.state.division.n)

abbrev pub AreWorkers : ℕ → List WorkerView → Type 0
AreWorkers lim team = (k : ℕ) (d : WorkerView) → k < length team → IsWorker lim (slice_index_or team k d)

-- the workers met the merge a, it advanced and answered x, and they met it again, which left it as b
pub record Settles (lim : ℕ) (a b : DivideView) (before after : List WorkerView) (x : Verdict) : Type 0 where
  -- the merge and the workers after the first meeting, and the merge after its advance
  pub met : DivideView
  pub team : List WorkerView
  pub advanced : DivideView
  pub first : AllMeet met before team
  pub second : AllMeet b team after
  pub workers : AreWorkers lim team
  pub met_run : met.run ≡ a.run
  pub met_spare : met.spare ≡ a.spare
  pub sound : IsSound lim advanced
  pub rings : advanced.rings ≡ a.rings
  pub row : advanced.row ≡ a.row
  pub tails : NoneBelow met.tails advanced.tails
  pub advance : Follows (divide_reached met) (divide_reached advanced)
  pub answer : advanced.answer ≡ kept_of x
  pub cause : IsCause met advanced x
  pub run : b.run ≡ advanced.run
  pub spare : b.spare ≡ advanced.spare

-- the worker has the number k, its ring is the k-th of these, with a place, and it reads this row
pub record IsMember (rings : List RingName) (row : RowIdentity) (k : ℕ) (v : WorkerView) : Type 0 where
  pub number : v.state.worker ≡ k
  pub below : k < length rings
  pub ring : (d : RingName) → slice_index_or rings k d ≡ v.ring
  pub places : 0 < v.ring.places
  pub row_is : v.row ≡ row

pub record AreMembers (rings : List RingName) (row : RowIdentity) (team : List WorkerView) : Type 0 where
  pub long : length team ≡ length rings
  pub each : (k : ℕ) (d : WorkerView) → k < length team → IsMember rings row k (slice_index_or team k d)

-- the worker's ends have seen all that the merge has taken and published, and it knows no more notes than were published
pub record HasHeard (m : DivideView) (v : WorkerView) : Type 0 where
  pub taken : IsPrefix (taken_of m v.state.worker) v.state.sent
  pub head : length (taken_of m v.state.worker) ≤ v.head
  pub count : length m.run.notes ≤ v.count
  pub notes : IsPrefix v.notes m.run.notes

abbrev pub IsTold : DivideView → List WorkerView → Type 0
IsTold m team = (k : ℕ) (d : WorkerView) → k < length team → HasHeard m (slice_index_or team k d)

-- where it has rows it has learned what it knows of the row, and has room for what the row may still tell; where it has none it knows no more than that; and while the row has no note its front is that of the merge or below
pub record IsUpToDate (m : DivideView) (v : WorkerView) : Type 0 where
  pub learned : HasRows v.state → length v.state.known ≡ m.run.state.start + length (row_terms v.notes)
  pub few : length v.state.known ≤ m.run.state.start + length (row_terms v.notes)
  pub room : HasRoom v
  pub fronted : HasRows v.state → m.run.notes ≡ [] → IsLowered m.run.state.division.ord (front_mono v.front) m.run.state.front

-- what is known of the workers at the beginning of a round
pub record IsTeam (m : DivideView) (team : List WorkerView) : Type 0 where
  pub members : AreMembers m.rings m.row team
  pub told : IsTold m team
  pub current : (k : ℕ) (d : WorkerView) → k < length team → IsUpToDate m (slice_index_or team k d)

-- it has room for the terms that it misses of so many, and for so many more; nothing else of it changed
pub record MakesRoom (q places : ℕ) (a b : WorkerView) : Type 0 where
  pub same : b ≡ record a { spare = b.spare }
  pub room : HasRows a.state → q + places ≤ length a.state.known + b.spare

pub record AllMakeRoom (q places : ℕ) (a b : List WorkerView) : Type 0 where
  pub long : length b ≡ length a
  pub each : (k : ℕ) (d : WorkerView) → k < length a → MakesRoom q places (slice_index_or a k d) (slice_index_or b k d)

-- each worker goes on with this row
pub record AllCatchUp (row : RowIdentity) (q : ℕ) (front : Option (List ℕ)) (a b : List WorkerView) : Type 0 where
  pub long : length b ≡ length a
  pub each : (k : ℕ) (d : WorkerView) → k < length a → CatchesUp row q front (slice_index_or a k d) (slice_index_or b k d)

-- the row has a place, or the merge, as it is, has answered something else than that it needs one
abbrev pub HasPlace : DivideView → Type 0
HasPlace m = (length m.run.notes < m.row.places) ⊎ ((spare : ℕ) × (x : Verdict) × IsVerdict m.run.state (free_places m) spare x × (x ≢ RowIsFull))

-- the merge gave this answer in the end of a round: it is over, or it has come farther
pub record IsRound (a b : DivideView) (x : Verdict) : Type 0 where
  pub answer : b.answer ≡ kept_of x
  pub cause : IsVerdict b.run.state (free_places b) b.spare x
  pub farther : b.run.over ≡ false → progress a.run < progress b.run

-- what follows a round in whose end the merge gave this answer
abbrev pub next_of : Verdict → Next
next_of Finishes = Over
next_of (HasNone x) = Over
next_of (PassesNorm t) = Over
next_of (PassesCount t) = Over
next_of (IsBlocked w) = Round
next_of RowIsFull = Row
next_of OutIsFull = Round

-- ---- the rounds of a division
-- 1 + 4*P + n + W*(n + 1), where n is the number of terms of q* and P that of f plus n times that of g less one
abbrev pub rounds_bound : Division → ℕ → ℕ
rounds_bound d W = most_rounds d W (length (quotient_list d))

-- ---- a team that has sent nothing
-- the worker knows, keeps and has sent nothing, was told nothing, has no front, and has room for what its row may tell
pub record IsFresh (v : WorkerView) : Type 0 where
  pub known : v.state.known ≡ []
  pub kept : v.state.kept ≡ []
  pub sent : v.state.sent ≡ []
  pub notes : v.notes ≡ []
  pub front : v.front ≡ None
  pub room : HasRoom v

-- the readers are those of these rings, which are those of the W workers of the division, in order
pub record AreRead (d : Division) (W : ℕ) (rings readers : List RingName) : Type 0 where
  pub same : readers ≡ rings
  pub scripts : HasScripts d rings
  pub count : length rings ≡ W
