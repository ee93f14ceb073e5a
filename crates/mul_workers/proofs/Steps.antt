-- For loops over a team's workers.
use Rattle.std.proofs.Common.{◌≡◌, ℕ, zero, suc, ◌+◌, ◌<◌, ◌≤◌, List, [], ◌∷◌, length, map, get_or, set, refl, sym, ap, ◌∙◌, subst, arith, length-set}
use Rattle.std.proofs.lemmas.List.{get_or-set_same, get_or-set_other, length-map, map-set}
use Rattle.std.proofs.Math.ListN.{get_or-map}
use mathlib.Core.Logic.{dite}
use mathlib.Core.List.{IsPrefix}
use native.Mathlib.Decide.{ℕ_discrete}
use Rattle.whole_laws.specs.Wholes.{MergeState, notes_of}
use Rattle.term_ring.specs.Names.{RingName, NoneBelow}
use Rattle.global_heap.specs.Merges.{MergeView}
use Rattle.term_ring.specs.Sending.{SenderView, IsAmong}
use Rattle.mul_workers.specs.Rounds.{IsMember, AreMembers, Moves, AllMove, Meets, AllMeet}
use Rattle.mul_workers.proofs.Teams.{members_among}

module _ {X : Type 0} where
  -- the senders of two teams, place by place
  at_each : (P : SenderView → SenderView → Type 0) (f : X → SenderView) (xs ys : List X) → length ys ≡ length xs → ((k : ℕ) (d : X) → k < length xs → P (f (get_or xs k d)) (f (get_or ys k d))) → (k : ℕ) (d : SenderView) → k < length (map f xs) → P (get_or (map f xs) k d) (get_or (map f ys) k d)
  at_each P f [] ys e h k d lt = absurd (omega arith)
  at_each P f (x ∷ xs) [] e h k d lt = absurd (omega arith)
  at_each P f (x ∷ xs) (y ∷ ys) e h zero d lt = h zero x (omega arith)
  at_each P f (x ∷ xs) (y ∷ ys) e h (suc k) d lt = at_each P f xs ys (omega arith) (λ j c l. h (suc j) c (omega arith)) k d (omega arith)

  pub all_move : (f : X → SenderView) (xs ys : List X) → length ys ≡ length xs → ((k : ℕ) (d : X) → k < length xs → Moves (f (get_or xs k d)) (f (get_or ys k d))) → AllMove (map f xs) (map f ys)
  all_move f xs ys e h = record { long = length-map ys f ∙ e ∙ sym (length-map xs f); each = at_each Moves f xs ys e h }

  pub all_among : (names : List RingName) (f : X → SenderView) (xs : List X) → AreMembers names (map f xs) → (k : ℕ) (d : X) → k < length xs → IsAmong names (f (get_or xs k d))
  all_among names f xs m k d lt =
      let l = length-map xs f in
      subst (IsAmong names) (get_or-map f xs k d) (members_among names k (get_or (map f xs) k (f d)) (m.each k (f d) (omega arith)))

-- ---- meetings
-- the first i workers have met the merge, and the others are as they were
pub record MeetsUpTo (m : MergeView) (a b : List SenderView) (i : ℕ) : Type 0 where
  pub long : length b ≡ length a
  pub done : (k : ℕ) (d : SenderView) → k < i → Meets m (get_or a k d) (get_or b k d)
  pub rest : (k : ℕ) (d : SenderView) → i ≤ k → get_or b k d ≡ get_or a k d

pub meets_first : (m : MergeView) (a : List SenderView) → MeetsUpTo m a a 0
meets_first m a = record { long = refl; done = λ k d l. absurd (omega arith); rest = λ k d l. refl }

meets_still : (m n : MergeView) (a b : SenderView) → n.state ≡ m.state → NoneBelow m.tails n.tails → Meets m a b → Meets n a b
meets_still m n a b same tails x = record {
  sends = x.sends;
  same = x.same;
  met = record {
    taken = subst (λ (s : MergeState). IsPrefix (notes_of s.taken b.worker) b.sent) (sym same) x.met.taken;
    writer_seen = subst (λ (s : MergeState). length (notes_of s.taken b.worker) ≤ b.head) (sym same) x.met.writer_seen;
    reader_seen = let p = x.met.reader_seen in let q = tails.each b.worker in omega arith;
  };
}

pub meets_next : (m n : MergeView) (a b : List SenderView) (i : ℕ) (s : SenderView) (e : SenderView) → MeetsUpTo m a b i → n.state ≡ m.state → NoneBelow m.tails n.tails → i < length b → Meets n (get_or b i e) s → MeetsUpTo n a (set b i s) (i + 1)
meets_next m n a b i s e u same tails lt one = record {
  long = length-set b i s ∙ u.long;
  done = λ k d l. dite (ℕ_discrete k i)
      (λ is. subst (λ (j : ℕ). Meets n (get_or a j d) (get_or (set b i s) j d)) (sym is)
      (subst (Meets n (get_or a i d)) (sym (get_or-set_same b i s d lt)) (subst (λ (x : SenderView). Meets n x s) (u.rest i d (omega arith)) (at_default one d))))
      (λ not. subst (Meets n (get_or a k d)) (sym (get_or-set_other b i k s d not)) (meets_still m n (get_or a k d) (get_or b k d) same tails (u.done k d (omega (arith, not)))));
  rest = λ k d l. get_or-set_other b i k s d (λ is. absurd (omega arith)) ∙ u.rest k d (omega arith);
}
  where
    any_default : (xs : List SenderView) (j : ℕ) (c d : SenderView) → j < length xs → get_or xs j c ≡ get_or xs j d
    any_default [] j c d l = absurd (omega arith)
    any_default (x ∷ xs) zero c d l = refl
    any_default (x ∷ xs) (suc j) c d l = any_default xs j c d (omega arith)

    at_default : Meets n (get_or b i e) s → (d : SenderView) → Meets n (get_or b i d) s
    at_default x d = subst (λ (y : SenderView). Meets n y s) (any_default b i e d lt) x

pub all_met : (m : MergeView) (a b : List SenderView) (i : ℕ) → MeetsUpTo m a b i → length a ≤ i → AllMeet m a b
all_met m a b i u l = record { long = u.long; each = λ k d lt. u.done k d (omega arith) }

-- a worker that has not met the merge is as it was
pub member_here : {X : Type 0} (f : X → SenderView) (names : List RingName) (m : MergeView) (xs ys : List X) (k : ℕ) (r : X) → AreMembers names (map f xs) → MeetsUpTo m (map f xs) (map f ys) k → k < length xs → IsMember names k (f (get_or ys k r))
member_here f names m xs ys k r members u lt =
    let l = length-map xs f in
    subst (IsMember names k) (sym (u.rest k (f r) (omega arith)) ∙ get_or-map f ys k r) (members.each k (f r) (omega arith))

pub met_here : {X : Type 0} (f : X → SenderView) (m n : MergeView) (xs ys : List X) (k : ℕ) (r y : X) (s : SenderView) → f y ≡ s → MeetsUpTo m (map f xs) (map f ys) k → n.state ≡ m.state → NoneBelow m.tails n.tails → k < length ys → Meets n (f (get_or ys k r)) s → MeetsUpTo n (map f xs) (map f (set ys k y)) (k + 1)
met_here f m n xs ys k r y s is u same tails lt one =
    let l = length-map ys f in
    subst (λ (b : List SenderView). MeetsUpTo n (map f xs) b (k + 1)) (ap (set (map f ys) k) (sym is) ∙ sym (map-set f ys k y))
    (meets_next m n (map f xs) (map f ys) k s (f r) u same tails (omega arith) (subst (λ (x : SenderView). Meets n x s) (sym (get_or-map f ys k r)) one))
