-- A team goes on with a new row.
use Rattle.std.proofs.Common.{◌≡◌, inr, ℕ, ◌+◌, ◌^◌, ◌<◌, ◌≤◌, List, [], ◌++◌, All, length, get_or, Option, sym, ap, ◌∙◌, subst, arith, append-nil}
use mathlib.Core.List.{IsPrefix}
use Rattle.sdmp_laws.specs.Poly.{Term}
use Rattle.sdmp_laws.specs.Division.{Division}
use Rattle.sdmp_laws.specs.LongDivision.{quotient_list}
use Rattle.sdmp_laws.specs.Limits.{PassesBound}
use Rattle.whole_laws.specs.Wholes.{notes_of}
use Rattle.divide_wholes.specs.Wholes.{AllUnderFront}
use Rattle.divide_wholes.specs.Row.{RowNote, row_terms}
use Rattle.divide_wholes.specs.Workers.{WorkerState, worker_rows}
use Rattle.divide_wholes.specs.MergeRow.{with_new_row}
use Rattle.term_ring.specs.Names.{RingName}
use Rattle.term_ring.specs.Sending.{SenderView}
use Rattle.dividing_rounds.specs.Runs.{DivideRun, run_row}
use Rattle.divide_merge.specs.Names.{RowIdentity}
use Rattle.divide_merge.specs.Merges.{DivideView, IsSound}
use Rattle.divide_workers.specs.Paying.{HasRows}
use Rattle.divide_workers.specs.Views.{WorkerView, sender_of}
use Rattle.divide_workers.specs.Working.{IsWorking, HasRoom}
use Rattle.divide_workers.specs.Steps.{IsBegun, CatchesUp}
use Rattle.divide_workers.specs.Rounds.{IsMember, HasHeard, IsUpToDate, IsTeam, AllMakeRoom, AllCatchUp}
use Rattle.divide_workers.proofs.Hearing.{its_division}
use Rattle.divide_workers.proofs.Bounding.{known_few}
use Rattle.divide_workers.proofs.Teams.{caught_rows, catches_up}
use Rattle.divide_workers.proofs.Working.{known_below}

-- a merge m and its team; then the merge has a new row of so many places, and each worker room for as many terms
pub record HasNewRow (lim : ℕ) (m n : DivideView) (places : ℕ) (a b : List WorkerView) : Type 0 where
  pub sound : IsSound lim m
  pub team : IsTeam m a
  pub working : All (IsWorking lim) a
  pub run : n.run ≡ run_row m.run
  pub rings : n.rings ≡ m.rings
  pub places_are : n.row.places ≡ places
  pub room : AllMakeRoom (length m.run.state.q) places a b

module _ (lim : ℕ) (m n : DivideView) (places : ℕ) (a b : List WorkerView) (h : HasNewRow lim m n places a b) where
  run_is : n.run ≡ record m.run { state = with_new_row m.run.state; notes = [] }
  unfolding run_row
  run_is = h.run

  q_is : n.run.state.q ≡ m.run.state.q
  unfolding with_new_row
  q_is = ap (λ (r : DivideRun). r.state.q) run_is

  pub start_is : n.run.state.start ≡ length n.run.state.q
  unfolding with_new_row
  start_is = ap (λ (r : DivideRun). r.state.start) run_is ∙ ap (λ (q : List Term). length q) (sym q_is)

  front_is : n.run.state.front ≡ m.run.state.front
  unfolding with_new_row
  front_is = ap (λ (r : DivideRun). r.state.front) run_is

  division_is : n.run.state.division ≡ m.run.state.division
  unfolding with_new_row
  division_is = ap (λ (r : DivideRun). r.state.division) run_is

  taken_is : n.run.state.taken ≡ m.run.state.taken
  unfolding with_new_row
  taken_is = ap (λ (r : DivideRun). r.state.taken) run_is

  no_notes : n.run.notes ≡ []
  no_notes = ap (λ (r : DivideRun). r.notes) run_is

  module _ (k : ℕ) (d : WorkerView) (lt : k < length a) where
    abbrev u : WorkerView
    u = get_or a k d

    abbrev v : WorkerView
    v = get_or b k d

    state_is : v.state ≡ u.state
    state_is = ap (λ (x : WorkerView). x.state) (h.room.each k d lt).same

    notes_are : v.notes ≡ u.notes
    notes_are = ap (λ (x : WorkerView). x.notes) (h.room.each k d lt).same

    mine : v.state.division ≡ m.run.state.division
    mine = ap (λ (s : WorkerState). s.division) state_is ∙ (its_division lim m u u.ring k h.sound (h.working k d lt) (h.team.members.each k d lt)).0

    its_room : HasRows v.state → length m.run.state.q + places ≤ length v.state.known + v.spare
    its_room r = subst (λ (s : WorkerState). length m.run.state.q + places ≤ length s.known + v.spare) (sym state_is) ((h.room.each k d lt).room (λ none. r (ap worker_rows state_is ∙ none)))

    few : length v.state.known ≤ m.run.state.start + length (row_terms v.notes)
    few =
        let old = (h.team.current k d lt).few in
        let known : length v.state.known ≡ length u.state.known = ap (λ (s : WorkerState). length s.known) state_is in
        let terms : length (row_terms v.notes) ≡ length (row_terms u.notes) = ap (λ (l : List RowNote). length (row_terms l)) notes_are in omega (arith, old, known, terms)

    told : IsPrefix v.notes m.run.notes
    told = subst (λ (l : List RowNote). IsPrefix l m.run.notes) (sym notes_are) (h.team.told k d lt).notes

    -- the worker goes on with the row
    module _ (w : WorkerView) (c : CatchesUp n.row (length n.run.state.q) n.run.state.front v w) where
      caught : CatchesUp n.row (length m.run.state.q) m.run.state.front v w
      caught = subst (λ (q : List Term). CatchesUp n.row (length q) m.run.state.front v w) q_is (subst (λ front. CatchesUp n.row (length n.run.state.q) front v w) front_is c)

      sender_is : sender_of w ≡ sender_of u
      sender_is = c.sender ∙ ap sender_of (h.room.each k d lt).same

      room_there : HasRoom w
      room_there r =
          let rows : HasRows v.state = λ none. r (sym (caught_rows n.row (length m.run.state.q) m.run.state.front v w caught) ∙ none) in
          let spare = c.spare rows in let learned = caught.learned rows in let room = its_room rows in
          let below = known_few m v h.sound.whole told few in
          let here : w.row.places ≡ places = ap (λ (x : RowIdentity). x.places) c.row_is ∙ h.places_are in omega (arith, spare, learned, room, below, here)

      current_there : IsUpToDate n w
      current_there = catches_up m n v w h.sound.whole run_is few told mine room_there caught

      member_there : IsMember n.rings n.row k w
      member_there =
          let i = h.team.members.each k d lt in let ring : w.ring ≡ u.ring = ap (λ (s : SenderView). s.ring) sender_is in record {
            number = ap (λ (s : SenderView). s.worker) sender_is ∙ i.number;
            below = subst (λ (l : List RingName). k < length l) (sym h.rings) i.below;
            ring = λ x. ap (λ (l : List RingName). get_or l k x) h.rings ∙ i.ring x ∙ sym ring;
            places = subst (λ (r : RingName). 0 < r.places) (sym ring) i.places;
            row_is = c.row_is;
          }

      heard_there : HasHeard n w
      heard_there =
          let o = h.team.told k d lt in record {
            taken = subst (λ taken. IsPrefix (notes_of taken w.state.worker) w.state.sent) (sym taken_is) (subst (λ (s : SenderView). IsPrefix (notes_of m.run.state.taken s.worker) s.sent) (sym sender_is) o.taken);
            head = subst (λ taken. length (notes_of taken w.state.worker) ≤ w.head) (sym taken_is) (subst (λ (s : SenderView). length (notes_of m.run.state.taken s.worker) ≤ s.head) (sym sender_is) o.head);
            count = subst (λ (l : List RowNote). length l ≤ w.count) (sym no_notes) (omega arith);
            notes = ([], append-nil w.notes ∙ c.notes ∙ sym no_notes);
          }

  -- what the workers need to go on with the row
  pub divisions : All (λ (v : WorkerView). v.state.division ≡ n.run.state.division) b
  divisions k d lt = let l = h.room.long in mine k d (omega (arith, l, lt)) ∙ sym division_is

  pub rooms : All (λ (v : WorkerView). HasRows v.state → length n.run.state.q ≤ length v.state.known + v.spare) b
  rooms k d lt r =
      let l = h.room.long in let room = its_room k d (omega (arith, l, lt)) r in
      let q : length n.run.state.q ≡ length m.run.state.q = ap (λ (q : List Term). length q) q_is in omega (arith, room, q)

  pub team_there : (c : List WorkerView) → AllCatchUp n.row (length n.run.state.q) n.run.state.front b c → IsTeam n c
  team_there c e =
      let la = h.room.long in let lb = e.long in record {
        members = record {
          long = lb ∙ la ∙ h.team.members.long ∙ ap (λ (l : List RingName). length l) (sym h.rings);
          each = λ k d lt. member_there k d (omega (arith, la, lb, lt)) (get_or c k d) (e.each k d (omega (arith, lb, lt)));
        };
        told = λ k d lt. heard_there k d (omega (arith, la, lb, lt)) (get_or c k d) (e.each k d (omega (arith, lb, lt)));
        current = λ k d lt. current_there k d (omega (arith, la, lb, lt)) (get_or c k d) (e.each k d (omega (arith, lb, lt)));
      }

-- ---- what the workers are given
-- the terms found are fewer than a quotient may have
pub found_few : (lim : ℕ) (m : DivideView) → IsSound lim m → length m.run.state.q < 2 ^ 30
found_few lim m s = known_below (length m.run.state.q) (λ h. s.whole.whole.within (inr h))

module _ (lim : ℕ) (n : DivideView) (v : WorkerView) (q : List Term) (s : IsSound lim n) (mine : v.state.division ≡ n.run.state.division) (found : q ≡ n.run.state.q) where
  pub begun_there : IsBegun v.state.division q
  begun_there = record {
    begins = subst (λ (d : Division). IsPrefix q (quotient_list d)) (sym mine) (subst (λ (l : List Term). IsPrefix l (quotient_list n.run.state.division)) (sym found) s.whole.whole.quotient);
    within = subst (λ (d : Division). PassesBound d q → ⊥) (sym mine) (subst (λ (l : List Term). PassesBound n.run.state.division l → ⊥) (sym found) s.whole.whole.within);
  }

  pub front_there : (front : Option (List ℕ)) → front ≡ n.run.state.front → (later : List Term) → q ++ later ≡ quotient_list v.state.division → AllUnderFront v.state.division front later
  front_there front is later e =
      let under = s.whole.whole.under_front later (ap (λ (l : List Term). l ++ later) (sym found) ∙ e ∙ ap quotient_list mine) in
      subst (λ (f : Option (List ℕ)). AllUnderFront v.state.division f later) (sym is) (subst (λ (d : Division). AllUnderFront d n.run.state.front later) (sym mine) under)

  pub name_there : (row : RowIdentity) (start : ℕ) → row ≡ n.row → start ≡ n.run.state.start → row.name ≡ record { division = v.state.division; start = start }
  name_there row start is at = ap (λ (r : RowIdentity). r.name) is ∙ (λ j. record { division = (s.row_division ∙ sym mine) j; start = (s.row_start ∙ sym at) j })

pub caught_there : (n : DivideView) (v w : WorkerView) (row : RowIdentity) (q : ℕ) (front : Option (List ℕ)) → row ≡ n.row → q ≡ length n.run.state.q → front ≡ n.run.state.front → CatchesUp row q front v w → CatchesUp n.row (length n.run.state.q) n.run.state.front v w
caught_there n v w row q front a b c h =
    subst (λ (r : RowIdentity). CatchesUp r (length n.run.state.q) n.run.state.front v w) a (subst (λ (k : ℕ). CatchesUp row k n.run.state.front v w) b (subst (λ (f : Option (List ℕ)). CatchesUp row q f v w) c h))
