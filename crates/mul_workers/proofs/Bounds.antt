-- How many rounds there are.
use Rattle.std.proofs.Common.{◌≡◌, ℕ, ◌<◌, ◌≤◌, ◌^◌, List, length, get_or, refl, sym, ap, ◌∙◌, subst, arith}
use Rattle.whole_laws.specs.Notes.{Product}
use Rattle.whole_laws.specs.Wholes.{MergeState, IsMergeDone, notes_of}
use Rattle.term_ring.specs.Names.{RingName, notes_count}
use Rattle.global_heap.specs.Names.{first_product, notes_total}
use Rattle.global_heap.specs.Merges.{MergeView, IsSound}
use Rattle.global_heap.specs.declared.answer.Advance.{Advance}
use Rattle.global_heap.specs.declared.answer.Advance.TheVariants.{Done, NeedsRing, OutFull}
use Rattle.global_heap.proofs.Counts.{count_within, count_all, few_notes}
use Rattle.term_ring.specs.Sending.{SenderView}
use Rattle.mul_workers.specs.Rounds.{AreMembers, IsTeam, IsRound}

-- that number as the merge sees it
total_is : (lim : ℕ) (v : MergeView) → IsSound lim v → notes_total v.state.product v.state.workers ≡ notes_total (first_product v.rings) (length v.rings)
total_is lim v s = ap (λ (m : Product). notes_total m v.state.workers) s.product ∙ ap (λ (n : ℕ). notes_total (first_product v.rings) n) (sym s.rings_count)

pub taken_within : (lim : ℕ) (v : MergeView) (names : List RingName) → IsSound lim v → v.rings ≡ names → notes_count v.state.taken ≤ notes_total (first_product names) (length names)
taken_within lim v names s e =
    let h = count_within v.state s.whole in
    let t = total_is lim v s in
    let n = ap (λ (r : List RingName). notes_total (first_product r) (length r)) e in
    omega arith

pub taken_all : (lim : ℕ) (v : MergeView) (names : List RingName) → IsSound lim v → v.rings ≡ names → IsMergeDone v.state → notes_count v.state.taken ≡ notes_total (first_product names) (length names)
taken_all lim v names s e done = count_all v.state s.whole done.ended ∙ total_is lim v s ∙ ap (λ (r : List RingName). notes_total (first_product r) (length r)) e

pub few_taken : (lim : ℕ) (v : MergeView) → IsSound lim v → notes_count v.state.taken < 2 ^ 61
few_taken lim v s =
    let h = count_within v.state s.whole in
    let f = few_notes lim v.state.product v.state.workers s.fit s.few in
    omega arith

-- a round that is not the last takes notes
pub round_takes : (a b : MergeView) (answer : Advance) → IsRound a b answer → (answer ≡ Done → ⊥) → notes_count a.state.taken < notes_count b.state.taken
round_takes a b Done h n = absurd (n refl)
round_takes a b (NeedsRing w) h n = h
round_takes a b OutFull h n = h

pub round_ends : (a b : MergeView) (answer : Advance) → IsRound a b answer → answer ≡ Done → IsMergeDone b.state
round_ends a b answer h is = subst (IsRound a b) is h

pub team_still : (a b : MergeView) (team : List SenderView) → b.state ≡ a.state → b.rings ≡ a.rings → IsTeam a team → IsTeam b team
team_still a b team state rings t = record {
  members = subst (λ (n : List RingName). AreMembers n team) (sym rings) t.members;
  seen = λ k d l. subst (λ (s : MergeState). length (notes_of s.taken k) ≤ (get_or team k d).head) (sym state) (t.seen k d l);
}
