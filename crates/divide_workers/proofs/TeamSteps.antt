-- For loops over the workers of a team.
use Rattle.std.proofs.Common.{◌≡◌, ℕ, zero, suc, ◌+◌, ◌<◌, ◌≤◌, ℤ, List, [], ◌∷◌, length, map, get_or, set, Option, Some, None, IfSome, refl, sym, ap, ◌∙◌, subst, arith, length-set}
use Rattle.std.proofs.lemmas.List.{get_or-set_same, get_or-set_other, length-map, map-set}
use Rattle.std.proofs.Math.ListN.{get_or-map}
use mathlib.Core.Logic.{dite}
use mathlib.Core.List.{IsPrefix}
use native.Mathlib.Decide.{ℕ_discrete}
use Rattle.sdmp_laws.specs.Order.{Order}
use Rattle.whole_laws.specs.Wholes.{notes_of}
use Rattle.canonical_terms.specs.declared.term.TermOf.{TermOf}
use Rattle.row_merge.specs.Learned.{QuotientState}
use Rattle.term_ring.specs.Names.{RingName, NoneBelow}
use Rattle.term_ring.specs.Sending.{IsAmong}
use Rattle.term_ring.specs.declared.ring.Writer.{Writer}
use Rattle.quotient_row.specs.declared.row.RowReader.{RowReader}
use Rattle.dividing_rounds.specs.Runs.{DivideRun}
use Rattle.divide_merge.specs.Names.{RowIdentity}
use Rattle.divide_merge.specs.Merges.{DivideView}
use Rattle.divide_workers.specs.declared.front.Front.{Front}
use Rattle.divide_workers.specs.declared.mark.Mark.{Mark}
use Rattle.divide_workers.specs.Fronts.{front_mono, plain_front}
use Rattle.divide_workers.specs.Inside.{view_of, IsSender}
use Rattle.divide_workers.specs.Views.{WorkerView, sender_of}
use Rattle.divide_workers.specs.Working.{HasRoom}
use Rattle.divide_workers.specs.Rounds.{IsMember, AreMembers, IsTeam, IsWorker, AreWorkers, Moves, AllMove, Meets, AllMeet}

-- what its fields keep
module _ {X M E : Type 0} (vector : M → List ℕ) (value : E → ℤ) (belongs : ℕ → E → Type 0) (ord : Order) (n lim p worker : ℕ) (vars : (m : M) → length (vector m) ≡ n) (rows : QuotientState) (writer : Writer X M E) (reader : RowReader X M E) (lead : M) (place : ℕ) (front : Option (Front M)) (kept : Option (TermOf M E)) (marked : Mark M) where
  front_place : (k : ℕ) (o : Option (Front M)) → k ≡ n → IfSome (front_mono (plain_front vector o)) (λ m. length m ≡ k)
  front_place k None e = tt
  front_place k (Some f) e = vars f.mono ∙ sym e

  pub is_worker : IsSender vector value belongs ord n lim p worker rows writer reader lead place front kept marked → IsWorker lim (view_of vector value worker rows writer reader front kept)
  is_worker s = record { working = s.working; front = front_place (view_of vector value worker rows writer reader front kept).state.division.n front s.variables }

pub member_among : (rings : List RingName) (row : RowIdentity) (k : ℕ) (v : WorkerView) → IsMember rings row k v → IsAmong rings (sender_of v)
member_among rings row k v m = record {
  number = subst (λ (j : ℕ). j < length rings) (sym m.number) m.below;
  ring = λ d. subst (λ (j : ℕ). get_or rings j d ≡ v.ring) (sym m.number) (m.ring d);
}

module _ {X : Type 0} where
  -- two teams, place by place
  at_each : (P : WorkerView → WorkerView → Type 0) (f : X → WorkerView) (xs ys : List X) → length ys ≡ length xs → ((k : ℕ) (d : X) → k < length xs → P (f (get_or xs k d)) (f (get_or ys k d))) → (k : ℕ) (d : WorkerView) → k < length (map f xs) → P (get_or (map f xs) k d) (get_or (map f ys) k d)
  at_each P f [] ys e h k d lt = absurd (omega (arith, lt))
  at_each P f (x ∷ xs) [] e h k d lt = absurd (omega (arith, e))
  at_each P f (x ∷ xs) (y ∷ ys) e h zero d lt = h zero x (omega arith)
  at_each P f (x ∷ xs) (y ∷ ys) e h (suc k) d lt = at_each P f xs ys (omega (arith, e)) (λ j c l. h (suc j) c (omega (arith, l))) k d (omega (arith, lt))

  pub all_move : (f : X → WorkerView) (xs ys : List X) → length ys ≡ length xs → ((k : ℕ) (d : X) → k < length xs → Moves (f (get_or xs k d)) (f (get_or ys k d))) → AllMove (map f xs) (map f ys)
  all_move f xs ys e h = record { long = length-map ys f ∙ e ∙ sym (length-map xs f); each = at_each Moves f xs ys e h }

  -- each worker of a team may advance with its ring and its row
  pub all_among : (m : DivideView) (f : X → WorkerView) (xs : List X) → IsTeam m (map f xs) → (k : ℕ) (d : X) → k < length xs → IsAmong m.rings (sender_of (f (get_or xs k d))) × ((f (get_or xs k d)).row ≡ m.row) × HasRoom (f (get_or xs k d))
  all_among m f xs t k d lt =
      let l : k < length (map f xs) = let e = length-map xs f in omega (arith, lt, e) in
      let i = t.members.each k (f d) l in
      subst (λ (v : WorkerView). IsAmong m.rings (sender_of v) × (v.row ≡ m.row) × HasRoom v) (get_or-map f xs k d) (member_among m.rings m.row k (get_or (map f xs) k (f d)) i, i.row_is, (t.current k (f d) l).room)

-- ---- meetings
-- the first i workers have met the merge, and the others are as they were
pub record MeetsUpTo (lim : ℕ) (m : DivideView) (a b : List WorkerView) (i : ℕ) : Type 0 where
  pub long : length b ≡ length a
  pub done : (k : ℕ) (d : WorkerView) → k < i → Meets m (get_or a k d) (get_or b k d) × IsWorker lim (get_or b k d)
  pub rest : (k : ℕ) (d : WorkerView) → i ≤ k → get_or b k d ≡ get_or a k d

pub meets_first : (lim : ℕ) (m : DivideView) (a : List WorkerView) → MeetsUpTo lim m a a 0
meets_first lim m a = record { long = refl; done = λ k d l. absurd (omega (arith, l)); rest = λ k d l. refl }

-- a worker that met the merge has met it where another has met it since
meets_still : (m n : DivideView) (a b : WorkerView) → n.run ≡ m.run → NoneBelow m.tails n.tails → Meets m a b → Meets n a b
meets_still m n a b run tails x = record {
  same = subst (λ (r : DivideRun). b ≡ record a { head = b.head; full_looks = b.full_looks; count = b.count; loads = b.loads; told = r.notes }) (sym run) x.same;
  sends = x.sends;
  met = record {
    taken = subst (λ (r : DivideRun). IsPrefix (notes_of r.state.taken b.state.worker) b.state.sent) (sym run) x.met.taken;
    writer_seen = subst (λ (r : DivideRun). length (notes_of r.state.taken b.state.worker) ≤ b.head) (sym run) x.met.writer_seen;
    reader_seen = let p = x.met.reader_seen in let q = tails.each b.state.worker in omega (arith, p, q);
  };
  count = x.count;
  seen = subst (λ (r : DivideRun). length r.notes ≤ b.count) (sym run) x.seen;
  notes = subst (λ (r : DivideRun). IsPrefix b.notes r.notes) (sym run) x.notes;
}

meets_next : (lim : ℕ) (m n : DivideView) (a b : List WorkerView) (i : ℕ) (s e : WorkerView) → MeetsUpTo lim m a b i → n.run ≡ m.run → NoneBelow m.tails n.tails → i < length b → Meets n (get_or b i e) s → IsWorker lim s → MeetsUpTo lim n a (set b i s) (i + 1)
meets_next lim m n a b i s e u run tails lt one is_worker = record {
  long = length-set b i s ∙ u.long;
  done = λ k d l. dite (ℕ_discrete k i)
      (λ is. subst (λ (j : ℕ). Meets n (get_or a j d) (get_or (set b i s) j d) × IsWorker lim (get_or (set b i s) j d)) (sym is)
      (subst (λ (x : WorkerView). Meets n (get_or a i d) x × IsWorker lim x) (sym (get_or-set_same b i s d lt)) (subst (λ (x : WorkerView). Meets n x s) (u.rest i d (omega arith)) (at_default one d), is_worker)))
      (λ not. subst (λ (x : WorkerView). Meets n (get_or a k d) x × IsWorker lim x) (sym (get_or-set_other b i k s d not)) (let h = u.done k d (omega (arith, l, not)) in (meets_still m n (get_or a k d) (get_or b k d) run tails h.0, h.1)));
  rest = λ k d l. get_or-set_other b i k s d (λ is. absurd (omega (arith, l, is))) ∙ u.rest k d (omega (arith, l));
}
  where
    any_default : (xs : List WorkerView) (j : ℕ) (c d : WorkerView) → j < length xs → get_or xs j c ≡ get_or xs j d
    any_default [] j c d l = absurd (omega (arith, l))
    any_default (x ∷ xs) zero c d l = refl
    any_default (x ∷ xs) (suc j) c d l = any_default xs j c d (omega (arith, l))

    at_default : Meets n (get_or b i e) s → (d : WorkerView) → Meets n (get_or b i d) s
    at_default x d = subst (λ (y : WorkerView). Meets n y s) (any_default b i e d lt) x

module _ (lim : ℕ) (m : DivideView) (a b : List WorkerView) (i : ℕ) (u : MeetsUpTo lim m a b i) where
  pub all_met : length a ≤ i → AllMeet m a b
  all_met l = record { long = u.long; each = λ k d lt. (u.done k d (omega (arith, l, lt))).0 }

  pub are_workers : length a ≤ i → AreWorkers lim b
  are_workers l = λ k d lt. let e = u.long in (u.done k d (omega (arith, l, lt, e))).1

module _ {X : Type 0} (f : X → WorkerView) (lim : ℕ) where
  -- a worker that has not met the merge is as it was
  pub member_here : (rings : List RingName) (row : RowIdentity) (m : DivideView) (xs ys : List X) (k : ℕ) (r : X) → AreMembers rings row (map f xs) → MeetsUpTo lim m (map f xs) (map f ys) k → k < length xs → IsMember rings row k (f (get_or ys k r))
  member_here rings row m xs ys k r members u lt =
      let l = length-map xs f in
      subst (IsMember rings row k) (sym (u.rest k (f r) (omega arith)) ∙ get_or-map f ys k r) (members.each k (f r) (omega (arith, l, lt)))

  pub met_here : (m n : DivideView) (xs ys : List X) (k : ℕ) (r y : X) (s : WorkerView) → f y ≡ s → MeetsUpTo lim m (map f xs) (map f ys) k → n.run ≡ m.run → NoneBelow m.tails n.tails → k < length ys → Meets n (f (get_or ys k r)) s → IsWorker lim s → MeetsUpTo lim n (map f xs) (map f (set ys k y)) (k + 1)
  met_here m n xs ys k r y s is u run tails lt one is_worker =
      let l = length-map ys f in
      subst (λ (b : List WorkerView). MeetsUpTo lim n (map f xs) b (k + 1)) (ap (set (map f ys) k) (sym is) ∙ sym (map-set f ys k y))
      (meets_next lim m n (map f xs) (map f ys) k s (f r) u run tails (omega (arith, l, lt)) (subst (λ (x : WorkerView). Meets n x s) (sym (get_or-map f ys k r)) one) is_worker)
