-- A round takes notes.
use Rattle.std.proofs.Common.{◌≡◌, ◌⊎◌, inl, inr, ℕ, zero, suc, ◌<◌, ◌≤◌, ◌^◌, List, [], ◌∷◌, ◌++◌, length, map, get_or, refl, sym, ap, ◌∙◌, subst, arith, length-append, append-nil}
use Rattle.std.proofs.lemmas.List.{length-map}
use Rattle.std.proofs.lemmas.List.Sums.{sum_by-cons}
use Rattle.std.proofs.Math.ListN.{get_or-map}
use mathlib.Core.List.{IsPrefix}
use Rattle.sdmp_laws.specs.Poly.{Term}
use Rattle.whole_laws.specs.Notes.{Note, TermNote, NoEnd, script_list}
use Rattle.whole_laws.specs.Wholes.{MergeState, IsMergeDone, notes_of}
use Rattle.term_ring.specs.Names.{RingName, NoneBelow, notes_count}
use Rattle.global_heap.specs.Merges.{MergeView, taken_of, IsCause, IsSound}
use Rattle.global_heap.specs.Reached.{merge_reached}
use Rattle.global_heap.specs.declared.answer.Advance.{Advance}
use Rattle.global_heap.specs.declared.answer.Advance.TheVariants.{Done, NeedsRing, OutFull}
use Rattle.global_heap.proofs.Counts.{after_end, few_notes, count_within}
use Rattle.global_heap.proofs.Steps.{NoneBelow-trans}
use Rattle.term_ring.specs.Sending.{SenderView, Sends, IsAmong, IsSentWhole, IsRefused}
use Rattle.mul_workers.specs.Rounds.{IsMember, AreMembers, IsTeam, AllMove, AllMeet, HaveMet, IsSettledBy, IsRound}

-- ---- how many notes are taken
pub count_le : (a b : List (List Note)) → length b ≡ length a → ((k : ℕ) → length (get_or a k []) ≤ length (get_or b k [])) → notes_count a ≤ notes_count b
count_le [] [] l h = omega arith
count_le [] (y ∷ b) l h = omega arith
count_le (x ∷ a) [] l h = absurd (omega arith)
count_le (x ∷ a) (y ∷ b) l h =
    let here = h 0 in
    let i = count_le a b (omega arith) (λ k. h (suc k)) in
    let p = sum_by-cons (λ (n : List Note). length n) x a in
    let q = sum_by-cons (λ (n : List Note). length n) y b in
    omega arith

pub count_lt : (a b : List (List Note)) (w : ℕ) → length b ≡ length a → ((k : ℕ) → length (get_or a k []) ≤ length (get_or b k [])) → length (get_or a w []) < length (get_or b w []) → notes_count a < notes_count b
count_lt [] [] w l h less = absurd (omega arith)
count_lt [] (y ∷ b) w l h less = absurd (omega arith)
count_lt (x ∷ a) [] w l h less = absurd (omega arith)
count_lt (x ∷ a) (y ∷ b) zero l h less =
    let i = count_le a b (omega arith) (λ k. h (suc k)) in
    let p = sum_by-cons (λ (n : List Note). length n) x a in
    let q = sum_by-cons (λ (n : List Note). length n) y b in
    omega arith
count_lt (x ∷ a) (y ∷ b) (suc w) l h less =
    let here = h 0 in
    let i = count_lt a b w (omega arith) (λ k. h (suc k)) less in
    let p = sum_by-cons (λ (n : List Note). length n) x a in
    let q = sum_by-cons (λ (n : List Note). length n) y b in
    omega arith

one_of : (a : List (List Note)) (w : ℕ) → length (get_or a w []) ≤ notes_count a
one_of [] w = omega arith
one_of (x ∷ a) zero = let p = sum_by-cons (λ (n : List Note). length n) x a in omega arith
one_of (x ∷ a) (suc w) = let i = one_of a w in let p = sum_by-cons (λ (n : List Note). length n) x a in omega arith

pub reached_long : (a b : MergeView) → NoneBelow (merge_reached a) (merge_reached b) → length b.state.taken ≡ length a.state.taken
reached_long a b r = sym (length-map b.state.taken (λ (n : List Note). length n)) ∙ r.long ∙ length-map a.state.taken (λ (n : List Note). length n)

pub reached_each : (a b : MergeView) → NoneBelow (merge_reached a) (merge_reached b) → (k : ℕ) → length (taken_of a k) ≤ length (taken_of b k)
unfolding notes_of
reached_each a b r k =
    let h = r.each k in
    let x = get_or-map (λ (n : List Note). length n) a.state.taken k [] in
    let y = get_or-map (λ (n : List Note). length n) b.state.taken k [] in
    omega arith

pub reached_more : (a b : MergeView) (w : ℕ) → NoneBelow (merge_reached a) (merge_reached b) → length (taken_of a w) < length (taken_of b w) → notes_count a.state.taken < notes_count b.state.taken
unfolding notes_of
reached_more a b w r less = count_lt a.state.taken b.state.taken w (reached_long a b r) (reached_each a b r) less

pub reached_count : (a b : MergeView) → NoneBelow (merge_reached a) (merge_reached b) → notes_count a.state.taken ≤ notes_count b.state.taken
unfolding notes_of
reached_count a b r = count_le a.state.taken b.state.taken (reached_long a b r) (reached_each a b r)

few_taken : (lim : ℕ) (b : MergeView) (w : ℕ) → IsSound lim b → length (taken_of b w) < 2 ^ 63
unfolding notes_of
few_taken lim b w s =
    let one = one_of b.state.taken w in
    let all = count_within b.state s.whole in
    let few = few_notes lim b.state.product b.state.workers s.fit s.few in
    omega arith

-- ---- members of a team
pub members_among : (names : List RingName) (k : ℕ) (s : SenderView) → IsMember names k s → IsAmong names s
members_among names k s m = record {
  number = subst (λ (j : ℕ). j < length names) (sym m.number) m.below;
  ring = λ d. subst (λ (j : ℕ). get_or names j d ≡ s.ring) (sym m.number) (m.ring d);
}

member_sends : (names : List RingName) (k : ℕ) (a b : SenderView) → IsMember names k a → Sends a b → IsMember names k b
member_sends names k a b m s = record {
  number = s.worker ∙ m.number;
  below = m.below;
  ring = λ d. m.ring d ∙ sym s.ring;
  places = subst (λ (r : RingName). 0 < r.places) (sym s.ring) m.places;
}

pub members_move : (names : List RingName) (a b : List SenderView) → AreMembers names a → AllMove a b → AreMembers names b
members_move names a b m s = record {
  long = s.long ∙ m.long;
  each = λ k d l. let h : k < length a = let e = s.long in omega arith in member_sends names k (get_or a k d) (get_or b k d) (m.each k d h) (s.each k d h).sends;
}

pub members_meet : (v : MergeView) (names : List RingName) (a b : List SenderView) → AreMembers names a → AllMeet v a b → AreMembers names b
members_meet v names a b m s = record {
  long = s.long ∙ m.long;
  each = λ k d l. let h : k < length a = let e = s.long in omega arith in member_sends names k (get_or a k d) (get_or b k d) (m.each k d h) (s.each k d h).sends;
}

-- after a meeting each writer has seen what was taken
pub met_team : (v : MergeView) (a b : List SenderView) → AreMembers v.rings a → AllMeet v a b → IsTeam v b
met_team v a b m s = record {
  members = members_meet v v.rings a b m s;
  seen = λ k d l.
      let h : k < length a = let e = s.long in omega arith in
      let mine = (members_meet v v.rings a b m s).each k d l in
      subst (λ (j : ℕ). length (taken_of v j) ≤ (get_or b k d).head) mine.number (s.each k d h).met.writer_seen;
}

pub have_met : (v : MergeView) (a b : List SenderView) → AllMeet v a b → HaveMet v b
have_met v a b s k d l = (s.each k d (let e = s.long in omega arith)).met

-- ---- what a round takes
pub needs_moves : (lim : ℕ) (a b : MergeView) (first second : List SenderView) (w : ℕ) (d : SenderView) → IsSound lim b → IsTeam a first → AllMove first second → NoneBelow (merge_reached a) (merge_reached b) → w < length first
    → NoEnd (taken_of b w) → (get_or second w d).sent ≡ taken_of b w → notes_count a.state.taken < notes_count b.state.taken
needs_moves lim a b first second w d sound team moves reached below clear all = pick (moves.each w d below).stopped
  where
    s0 : SenderView
    s0 = get_or first w d

    s1 : SenderView
    s1 = get_or second w d

    sends : Sends s0 s1
    sends = (moves.each w d below).sends

    pick : IsSentWhole s1 ⊎ IsRefused s1 → notes_count a.state.taken < notes_count b.state.taken
    pick (inl whole) = absurd (after_end (map (λ (t : Term). TermNote t) (script_list s1.ring.script)) (subst NoEnd (sym all ∙ whole) clear))
    pick (inr (inl full)) =
        let l = ap (λ (n : List Note). length n) all in
        let seen = team.seen w d below in
        let head = sends.head in
        let places = (team.members.each w d below).places in
        let same = ap (λ (r : RingName). r.places) sends.ring in
        reached_more a b w reached (omega arith)
    pick (inr (inr many)) =
        let l = ap (λ (n : List Note). length n) all in
        let few = few_taken lim b w sound in
        absurd (omega arith)

a_member : (team : List SenderView) (w : ℕ) → w < length team → SenderView
a_member [] w l = absurd (omega arith)
a_member (s ∷ team) w l = s

pub round_is : (lim : ℕ) (a c b : MergeView) (first second : List SenderView) (answer : Advance) → IsSound lim b → IsTeam a first → AllMove first second → NoneBelow (merge_reached a) (merge_reached c) → NoneBelow (merge_reached c) (merge_reached b)
    → b.rings ≡ a.rings → IsSettledBy c second b answer → IsRound a b answer
round_is lim a c b first second Done sound team moves r s rings h = h
round_is lim a c b first second (NeedsRing w) sound team moves r s rings h =
    let below : w < length first = let l = team.members.long in let e = ap (λ (x : List RingName). length x) rings in let n = sound.rings_count in let k = h.0 in omega arith in
    let d = a_member first w below in
    needs_moves lim a b first second w d sound team moves (NoneBelow-trans (merge_reached a) (merge_reached c) (merge_reached b) r s) below h.1 (h.2 d)
round_is lim a c b first second OutFull sound team moves r s rings h = let e = reached_count a c r in omega arith

-- ---- what the merge's answer says between two meetings
prefix_whole : (a b : List Note) → IsPrefix a b → length b ≤ length a → b ≡ a
prefix_whole a b p l =
    let n = length-append a p.0 in
    let e = ap (λ (x : List Note). length x) p.1 in
    let none : length p.0 ≡ 0 = omega arith in
    sym p.1 ∙ ap (λ (x : List Note). a ++ x) (empty p.0 none) ∙ append-nil a
  where
    empty : (x : List Note) → length x ≡ 0 → x ≡ []
    empty [] e = refl
    empty (y ∷ x) e = absurd (omega arith)

pub settled_by : (a b c e : MergeView) (first second third : List SenderView) (answer : Advance) → length first ≡ a.state.workers → b.state ≡ a.state → b.state.workers ≡ c.state.workers → e.state ≡ c.state → AreMembers a.rings first → AllMeet b first second → NoneBelow b.tails c.tails → AllMeet e second third
    → (answer ≡ OutFull → notes_count b.state.taken < notes_count c.state.taken) → IsCause b c answer → IsSettledBy a first e answer
settled_by a b c e first second third Done long same workers still members met tails again moved cause = subst IsMergeDone (sym still) cause
settled_by a b c e first second third (NeedsRing w) long same workers still members met tails again moved cause = (
  subst (λ (s : MergeState). w < s.workers) (sym still) cause.0.worker,
  subst (λ (s : MergeState). NoEnd (notes_of s.taken w)) (sym still) cause.0.wanting.1,
  λ d.
      let below : w < length first = let k = cause.0.worker in let n = ap (λ (s : MergeState). s.workers) same in omega arith in
      let below' : w < length second = let n = met.long in omega arith in
      let x = met.each w d below in
      let y = again.each w d below' in
      let m = members.each w d below in
      let nx : (get_or second w d).worker ≡ w = x.sends.worker ∙ m.number in
      let ny : (get_or third w d).worker ≡ w = y.sends.worker ∙ nx in
      let sent : (get_or third w d).sent ≡ (get_or first w d).sent = y.same ∙ x.same in
      let pre : IsPrefix (taken_of e w) (get_or first w d).sent = subst (IsPrefix (taken_of e w)) sent (subst (λ (j : ℕ). IsPrefix (taken_of e j) (get_or third w d).sent) ny y.met.taken) in
      let seen : length (get_or second w d).sent ≤ get_or b.tails w 0 = subst (λ (j : ℕ). length (get_or second w d).sent ≤ get_or b.tails j 0) nx x.met.reader_seen in
      let up = tails.each w in
      let starved = cause.1 in
      let l2 = ap (λ (n : List Note). length n) x.same in
      let lt = ap (λ (s : MergeState). length (notes_of s.taken w)) still in
      prefix_whole (taken_of e w) (get_or first w d).sent pre (omega arith),
)
settled_by a b c e first second third OutFull long same workers still members met tails again moved cause =
    let x = ap (λ (s : MergeState). notes_count s.taken) same in
    let y = ap (λ (s : MergeState). notes_count s.taken) still in
    let m = moved refl in
    omega arith
