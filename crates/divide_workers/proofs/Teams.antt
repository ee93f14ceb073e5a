-- What is known of the workers at the beginning of a round holds again in its end, and with a new row.
use Rattle.std.proofs.Common.{◌≡◌, ℕ, ◌+◌, ◌<◌, ◌≤◌, List, [], ◌∷◌, length, slice_index_or, Option, refl, sym, ap, ◌∙◌, subst, arith}
use mathlib.Core.List.{IsPrefix}
use Rattle.sdmp_laws.specs.Poly.{Term}
use Rattle.sdmp_laws.specs.Division.{Division}
use Rattle.divide_wholes.specs.Row.{row_terms}
use Rattle.divide_wholes.specs.Workers.{WorkerState, worker_rows}
use Rattle.term_ring.specs.Names.{RingName}
use Rattle.divide_wholes.specs.MergeRow.{with_new_row}
use Rattle.dividing_rounds.specs.Runs.{DivideRun, RunWhole}
use Rattle.dividing_rounds.specs.Stalls.{IsLowered}
use Rattle.divide_merge.specs.Names.{RowIdentity}
use Rattle.divide_merge.specs.Merges.{DivideView}
use Rattle.divide_workers.specs.Fronts.{PlainFront, front_mono, FrontFalls}
use Rattle.divide_workers.specs.Paying.{HasRows}
use Rattle.divide_workers.specs.Views.{WorkerView}
use Rattle.divide_workers.specs.Working.{HasRoom}
use Rattle.divide_workers.specs.Steps.{Works, CatchesUp}
use Rattle.divide_workers.specs.Rounds.{Moves, Meets, AllMove, AllMeet, IsMember, AreMembers, IsTold, IsUpToDate}
use Rattle.divide_workers.proofs.Ahead.{lowered_again}
use Rattle.divide_workers.proofs.Working.{more_terms, learned_count}
use Rattle.divide_workers.proofs.Bounding.{known_few}

-- ---- members
meets_member : (m : DivideView) (rings : List RingName) (row : RowIdentity) (k : ℕ) (u v : WorkerView) → Meets m u v → IsMember rings row k u → IsMember rings row k v
meets_member m rings row k u v h i =
    let ring : v.ring ≡ u.ring = ap (λ (x : WorkerView). x.ring) h.same in record {
      number = ap (λ (x : WorkerView). x.state.worker) h.same ∙ i.number;
      below = i.below;
      ring = λ z. i.ring z ∙ sym ring;
      places = subst (λ (r : RingName). 0 < r.places) (sym ring) i.places;
      row_is = ap (λ (x : WorkerView). x.row) h.same ∙ i.row_is;
    }

works_member : (rings : List RingName) (row : RowIdentity) (k : ℕ) (u v : WorkerView) → Works u v → IsMember rings row k u → IsMember rings row k v
works_member rings row k u v h i = record {
  number = h.sends.worker ∙ i.number;
  below = i.below;
  ring = λ z. i.ring z ∙ sym h.sends.ring;
  places = subst (λ (r : RingName). 0 < r.places) (sym h.sends.ring) i.places;
  row_is = h.row ∙ i.row_is;
}

-- the members move and stay members
pub members_move : (rings : List RingName) (row : RowIdentity) (a b : List WorkerView) → AllMove a b → AreMembers rings row a → AreMembers rings row b
members_move rings row a b h t =
    let l = h.long in record {
      long = l ∙ t.long;
      each = λ k y i. let j : k < length a = omega (arith, i, l) in works_member rings row k (slice_index_or a k y) (slice_index_or b k y) (h.each k y j).works (t.each k y j);
    }

pub members_meet : (m : DivideView) (rings : List RingName) (row : RowIdentity) (a b : List WorkerView) → AllMeet m a b → AreMembers rings row a → AreMembers rings row b
members_meet m rings row a b h t =
    let l = h.long in record {
      long = l ∙ t.long;
      each = λ k y i. let j : k < length a = omega (arith, i, l) in meets_member m rings row k (slice_index_or a k y) (slice_index_or b k y) (h.each k y j) (t.each k y j);
    }

-- after a meeting they have heard all
pub meeting_tells : (m : DivideView) (a b : List WorkerView) → AllMeet m a b → IsTold m b
meeting_tells m a b h k y i =
    let l = h.long in let g = h.each k y (omega (arith, i, l)) in record {
      taken = g.met.taken;
      head = g.met.writer_seen;
      count = g.seen;
      notes = g.notes;
    }

-- ---- one worker in a round
-- the worker's states at the beginning, after its call and after both meetings, where f is the merge in the end
pub record Passes (a e f : DivideView) (v0 v1 v2 v3 : WorkerView) : Type 0 where
  pub moves : Moves v0 v1
  pub first : Meets e v1 v2
  pub second : Meets f v2 v3
  pub current : IsUpToDate a v0
  pub start : f.run.state.start ≡ a.run.state.start
  pub row_start : v0.row.name.start ≡ a.run.state.start
  pub division : f.run.state.division ≡ a.run.state.division
  pub mine : v0.state.division ≡ a.run.state.division
  -- while the row has no note the merge's front stays
  pub still : f.run.notes ≡ [] → (a.run.notes ≡ []) × (f.run.state.front ≡ a.run.state.front)

module _ (a e f : DivideView) (v0 v1 v2 v3 : WorkerView) (p : Passes a e f v0 v1 v2 v3) where
  state3 : v3.state ≡ v1.state
  state3 = ap (λ (v : WorkerView). v.state) p.second.same ∙ ap (λ (v : WorkerView). v.state) p.first.same

  notes3 : v3.notes ≡ v1.notes
  notes3 = ap (λ (v : WorkerView). v.notes) p.second.same ∙ ap (λ (v : WorkerView). v.notes) p.first.same

  front3 : v3.front ≡ v1.front
  front3 = ap (λ (v : WorkerView). v.front) p.second.same ∙ ap (λ (v : WorkerView). v.front) p.first.same

  known3 : length v3.state.known ≡ length v1.state.known
  known3 = ap (λ (s : WorkerState). length s.known) state3

  terms3 : length (row_terms v3.notes) ≡ length (row_terms v1.notes)
  terms3 = ap (λ n. length (row_terms n)) notes3

  start1 : v1.row.name.start ≡ f.run.state.start
  start1 = ap (λ (r : RowIdentity). r.name.start) p.moves.works.row ∙ p.row_start ∙ sym p.start

  rows_alike : worker_rows v0.state ≡ worker_rows v3.state
  unfolding worker_rows
  rows_alike = sym (λ j. worker_rows record { division = p.moves.works.division j; workers = p.moves.works.workers j; worker = p.moves.works.sends.worker j; known = []; unread = []; kept = []; sent = [] }) ∙ ap worker_rows (sym state3)

  rows0 : HasRows v3.state → HasRows v0.state
  rows0 r none = r (sym rows_alike ∙ none)

  learned : HasRows v3.state → length v3.state.known ≡ f.run.state.start + length (row_terms v3.notes)
  learned r =
      let step = p.moves.works.learned (rows0 r) in let old = p.current.learned (rows0 r) in
      let more = more_terms v0.notes v1.notes p.moves.works.notes in
      learned_count (length v3.state.known) (length v1.state.known) (length v0.state.known) (length (row_terms v3.notes)) (length (row_terms v1.notes)) (length (row_terms v0.notes)) v1.row.name.start f.run.state.start a.run.state.start known3 terms3 step old more start1 (sym p.start)

  few : length v3.state.known ≤ f.run.state.start + length (row_terms v3.notes)
  few = pick (worker_rows v0.state) refl
    where
      known_once : length v1.state.known ≡ length v0.state.known → length v3.state.known ≤ f.run.state.start + length (row_terms v3.notes)
      known_once e =
          let more = more_terms v0.notes v1.notes p.moves.works.notes in let old = p.current.few in let s = p.start in omega (arith, e, more, old, s, known3, terms3)

      pick : (rows : List Term) → worker_rows v0.state ≡ rows → length v3.state.known ≤ f.run.state.start + length (row_terms v3.notes)
      pick [] e = known_once (ap (λ (L : List Term). length L) (p.moves.works.idle (λ r. r e)))
      pick (t ∷ rows) e = let l = learned (λ none. cc (sym e ∙ rows_alike ∙ none)) in omega (arith, l)

  fronted : HasRows v3.state → f.run.notes ≡ [] → IsLowered f.run.state.division.ord (front_mono v3.front) f.run.state.front
  fronted r none =
      let s = p.still none in
      let old : IsLowered f.run.state.division.ord (front_mono v0.front) f.run.state.front =
      subst (λ (x : Option (List ℕ)). IsLowered f.run.state.division.ord (front_mono v0.front) x) (sym s.1) (subst (λ (d : Division). IsLowered d.ord (front_mono v0.front) a.run.state.front) (sym p.division) (p.current.fronted (rows0 r) s.0)) in
      let falls : FrontFalls f.run.state.division.ord v0.front v3.front =
      subst (λ (x : Option PlainFront). FrontFalls f.run.state.division.ord v0.front x) (sym front3) (subst (λ (d : Division). FrontFalls d.ord v0.front v1.front) (p.mine ∙ sym p.division) p.moves.works.front) in
      lowered_again f.run.state.division.ord v0.front v3.front f.run.state.front falls old

  room : HasRoom v3
  room r =
      let h = p.moves.works.room p.current.room (λ none. r (ap worker_rows state3 ∙ none)) in
      let n : length v3.notes ≡ length v1.notes = ap length notes3 in
      let s : v3.spare ≡ v1.spare = ap (λ (v : WorkerView). v.spare) p.second.same ∙ ap (λ (v : WorkerView). v.spare) p.first.same in
      let o : v3.row.places ≡ v1.row.places = ap (λ (v : WorkerView). v.row.places) p.second.same ∙ ap (λ (v : WorkerView). v.row.places) p.first.same in omega (arith, h, n, s, o)

  pub up_to_date : IsUpToDate f v3
  up_to_date = record { learned = learned; few = few; room = room; fronted = fronted }

-- ---- a new row
-- a worker that goes on with a new row keeps its rows
pub caught_rows : (row : RowIdentity) (q : ℕ) (front : Option (List ℕ)) (u v : WorkerView) → CatchesUp row q front u v → worker_rows u.state ≡ worker_rows v.state
unfolding worker_rows
caught_rows row q front u v c = sym (λ j. worker_rows record { division = c.division j; workers = c.workers j; worker = (c.sender j).worker; known = []; unread = []; kept = []; sent = [] })

-- a worker that knew no more than was found is up to date with the merge's new row
pub catches_up : (m n : DivideView) (u v : WorkerView) → RunWhole m.run → n.run ≡ record m.run { state = with_new_row m.run.state; notes = [] } → length u.state.known ≤ m.run.state.start + length (row_terms u.notes) → IsPrefix u.notes m.run.notes → u.state.division ≡ m.run.state.division
    → HasRoom v → CatchesUp n.row (length m.run.state.q) m.run.state.front u v → IsUpToDate n v
unfolding with_new_row row_terms
catches_up m n u v w run old notes mine room c =
    let start : n.run.state.start ≡ length m.run.state.q = ap (λ (r : DivideRun). r.state.start) run in
    let front : n.run.state.front ≡ m.run.state.front = ap (λ (r : DivideRun). r.state.front) run in
    let division : n.run.state.division ≡ m.run.state.division = ap (λ (r : DivideRun). r.state.division) run in
    let none : length (row_terms v.notes) ≡ 0 = ap (λ x. length (row_terms x)) c.notes in
    let few = known_few m u w notes old in
    let same : worker_rows u.state ≡ worker_rows v.state = caught_rows n.row (length m.run.state.q) m.run.state.front u v c in record {
      learned = λ r. let l = c.learned (λ e. r (sym same ∙ e)) in omega (arith, l, few, start, none);
      few = pick few start none (worker_rows u.state) refl;
      room = room;
      fronted = λ r e. subst (λ (x : Option (List ℕ)). IsLowered n.run.state.division.ord (front_mono v.front) x) (sym front) (subst (λ (d : Division). IsLowered d.ord (front_mono v.front) m.run.state.front) (mine ∙ sym division) (c.lowered (λ e. r (sym same ∙ e))));
    }
  where
    pick : length u.state.known ≤ length m.run.state.q → n.run.state.start ≡ length m.run.state.q → length (row_terms v.notes) ≡ 0 → (rows : List Term) → worker_rows u.state ≡ rows → length v.state.known ≤ n.run.state.start + length (row_terms v.notes)
    pick few start none [] e = let k = ap (λ (L : List Term). length L) (c.idle (λ r. r e)) in omega (arith, k, few, start, none)
    pick few start none (t ∷ rows) e = let l = c.learned (λ z. cc (sym e ∙ z)) in omega (arith, l, few, start, none)
