-- A team of workers around a merge, and a round of it.
use Rattle.std.specs.Prelude.{◌≡◌, ℕ, ◌<◌, ◌≤◌, ◌⊎◌, List, length, slice_index_or}
use Rattle.whole_laws.specs.Notes.{Product, NoEnd}
use Rattle.term_ring.specs.Names.{RingName, notes_count}
use Rattle.global_heap.specs.Names.{HasScripts}
use Rattle.global_heap.specs.Merges.{MergeView, IsDoneOr, taken_of}
use Rattle.global_heap.specs.declared.answer.Advance.{Advance}
use Rattle.term_ring.specs.Sending.{SenderView, IsSentWhole, IsRefused, Sends, HasMet}

-- the sender has the number k, its ring is the k-th with these names, and has a place
pub record IsMember (names : List RingName) (k : ℕ) (s : SenderView) : Type 0 where
  pub number : s.worker ≡ k
  pub below : k < length names
  pub ring : (d : RingName) → slice_index_or names k d ≡ s.ring
  pub places : 0 < s.ring.places

-- the senders are those of all rings with these names, in order
pub record AreMembers (names : List RingName) (team : List SenderView) : Type 0 where
  pub long : length team ≡ length names
  pub each : (k : ℕ) (d : SenderView) → k < length team → IsMember names k (slice_index_or team k d)

-- the readers are those of the W rings of a product with these names, in their order
pub record AreRead (m : Product) (W : ℕ) (names readers : List RingName) : Type 0 where
  pub same : readers ≡ names
  pub scripts : HasScripts m names
  pub count : length names ≡ W

-- each writer has seen all that the merge has taken of its ring
pub record IsTeam (m : MergeView) (team : List SenderView) : Type 0 where
  pub members : AreMembers m.rings team
  pub seen : (k : ℕ) (d : SenderView) → k < length team → length (taken_of m k) ≤ (slice_index_or team k d).head

-- the worker sent notes until its end was sent or its ring was full
pub record Moves (a b : SenderView) : Type 0 where
  pub sends : Sends a b
  pub stopped : IsSentWhole b ⊎ IsRefused b

pub record AllMove (a b : List SenderView) : Type 0 where
  pub long : length b ≡ length a
  pub each : (k : ℕ) (d : SenderView) → k < length a → Moves (slice_index_or a k d) (slice_index_or b k d)

-- the worker and the merge have met, and nothing was sent
pub record Meets (m : MergeView) (a b : SenderView) : Type 0 where
  pub sends : Sends a b
  pub same : b.sent ≡ a.sent
  pub met : HasMet m.state.taken m.tails b

pub record AllMeet (m : MergeView) (a b : List SenderView) : Type 0 where
  pub long : length b ≡ length a
  pub each : (k : ℕ) (d : SenderView) → k < length a → Meets m (slice_index_or a k d) (slice_index_or b k d)

-- each worker's writer and the merge's reader of its ring have met
abbrev pub HaveMet : MergeView → List SenderView → Type 0
HaveMet m team = (k : ℕ) (d : SenderView) → k < length team → HasMet m.state.taken m.tails (slice_index_or team k d)

-- more notes are taken
abbrev pub TakesMore : MergeView → MergeView → Type 0
TakesMore a b = notes_count a.state.taken < notes_count b.state.taken

-- what is known where the merge answers after a meeting: it is done, or all that a worker with no end among it has sent is taken, or notes were taken
abbrev pub IsSettledBy : MergeView → List SenderView → MergeView → Advance → Type 0
IsSettledBy a team b =
    IsDoneOr b
    (λ w. (w < b.state.workers) × NoEnd (taken_of b w) × ((d : SenderView) → (slice_index_or team w d).sent ≡ taken_of b w))
    (TakesMore a b)

-- the merge is done, or more notes are taken
abbrev pub IsRound : (a b : MergeView) → Advance → Type 0
IsRound a b = IsDoneOr b (λ w. TakesMore a b) (TakesMore a b)
