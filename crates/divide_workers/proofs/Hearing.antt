-- A dividing worker that waits after a meeting has said what it can.
use Rattle.std.proofs.Common.{◌≡◌, ◌≢◌, ◌⊎◌, inl, inr, ℕ, suc, ◌+◌, ◌*◌, ◌^◌, ◌%◌, ◌<◌, ◌≤◌, Bool, true, false, cond, eqb, List, [], ◌∷◌, length, slice_index_or, Option, Some, None, IfSome, sym, ap, ◌∙◌, subst, arith, append-nil, length-append}
use Rattle.std.proofs.Math.Nat.{le_trans, mul-le-mul_left, mul-le-mul_right}
use mathlib.Core.List.{IsPrefix}
use Rattle.sdmp_laws.specs.Poly.{Term, every}
use Rattle.sdmp_laws.specs.Division.{Division}
use Rattle.whole_laws.specs.Notes.{QuotientScript, after_lead, divisor_rows}
use Rattle.whole_laws.specs.Wholes.{notes_of}
use Rattle.divide_wholes.specs.Wholes.{latest_mark}
use Rattle.divide_wholes.specs.Row.{row_terms}
use Rattle.divide_wholes.specs.Workers.{WorkerState, worker_rows, worker_script}
use Rattle.term_ring.specs.Names.{RingName, NoneBelow}
use Rattle.term_ring.specs.Sending.{IsRefused}
use Rattle.term_ring.proofs.Lists.{prefix_length}
use Rattle.dividing_rounds.specs.Runs.{DivideRun}
use Rattle.dividing_rounds.specs.Stalls.{HasWaited, IsHeld, IsLowered}
use Rattle.dividing_rounds.proofs.StallLemmas.{heard_has_waited}
use Rattle.divide_merge.specs.Names.{script_division}
use Rattle.divide_merge.specs.Merges.{DivideView, IsSound, IsStarved, taken_of}
use Rattle.divide_workers.specs.Fronts.{PlainFront, front_mono, FrontFalls}
use Rattle.divide_workers.specs.Paying.{HasRows, IsMarked}
use Rattle.divide_workers.specs.Views.{WorkerView, sender_of, script_workers}
use Rattle.divide_workers.specs.Working.{IsWorking}
use Rattle.divide_workers.specs.Steps.{HoldsBack}
use Rattle.divide_workers.specs.Rounds.{Moves, Meets, IsMember, HasHeard, IsUpToDate}
use Rattle.divide_workers.proofs.Ahead.{same_begin, lowered_again}
use Rattle.divide_workers.proofs.Falling.{IsFrontVector}
use Rattle.divide_workers.proofs.Paying.{few_sent}
use Rattle.divide_workers.proofs.Working.{more_terms, known_below, learned_count}

-- ---- whose worker it is
pub its_division : (lim : ℕ) (m : DivideView) (v : WorkerView) (z : RingName) (k : ℕ) → IsSound lim m → IsWorking lim v → IsMember m.rings m.row k v → (v.state.division ≡ m.run.state.division) × (v.state.workers ≡ m.run.state.workers)
unfolding worker_script
its_division lim m v z k s w i =
    let e : QuotientScript v.state.division v.state.workers v.state.worker ≡ QuotientScript m.run.state.division (length m.rings) k =
    sym w.script ∙ sym (ap (λ (r : RingName). r.script) (i.ring z)) ∙ s.scripts k z i.below in
    (ap script_division e, ap script_workers e ∙ s.rings_count)

-- ---- how many notes it has sent
length-every : (W w i : ℕ) (A : List Term) → length (every W w i A) ≤ length A
unfolding every
length-every W w i [] = omega arith
length-every W w i (t ∷ A) = pick (eqb (i % W) w) (length-every W w (suc i) A)
  where
    pick : (b : Bool) → length (every W w (suc i) A) ≤ length A → length {A = Term} (cond b (t ∷ every W w (suc i) A) (every W w (suc i) A)) ≤ length (t ∷ A)
    pick true h = omega (arith, h)
    pick false h = omega (arith, h)

later_length : (A : List Term) → length (after_lead A) ≤ length A
unfolding after_lead
later_length [] = omega arith
later_length (t ∷ A) = omega arith

rows_length : (d : Division) (W w : ℕ) → length (divisor_rows d.g W w) ≤ length d.g
unfolding divisor_rows
rows_length d W w = let a = length-every W w 1 (after_lead d.g) in let b = later_length d.g in omega (arith, a, b)

small_product : (a b : ℕ) → a < 2 ^ 30 → b < 2 ^ 30 → a * b ≤ 2 ^ 60
small_product a b h k = le_trans (mul-le-mul_left a (le_from k)) (le_trans (mul-le-mul_right (2 ^ 30) (le_from h)) (omega arith))
  where
    le_from : {x : ℕ} → x < 2 ^ 30 → x ≤ 2 ^ 30
    le_from h = omega (arith, h)

-- fewer than a ring takes
pub few_notes : (lim : ℕ) (v : WorkerView) → IsWorking lim v → length v.state.sent < 2 ^ 63
unfolding worker_rows
few_notes lim v w =
    let k : length v.state.known < 2 ^ 30 = known_below (length v.state.known) (λ h. w.within (inr h)) in
    let r : length (worker_rows v.state) < 2 ^ 30 = let a = rows_length v.state.division v.state.workers v.state.worker in let b = w.fit.few_divisor in omega (arith, a, b) in
    let p = small_product (length v.state.known) (length (worker_rows v.state)) k r in
    let f = few_sent v.state v.front w.paid in omega (arith, k, p, f)

-- ---- what was heard
-- a worker whose ring was full when it had met the merge would have had notes taken
never_full : (a e d : DivideView) (v0 v1 : WorkerView) (k : ℕ) → length v1.state.sent ≡ length (taken_of d k) → length (taken_of a k) ≤ v0.head → length (taken_of d k) ≡ length (taken_of a k) → v0.head ≤ v1.head → 0 < v1.ring.places → length v1.state.sent < 2 ^ 63
    → IsRefused (sender_of v1) → ⊥
never_full a e d v0 v1 k all seen same up some few (inl f) = omega (arith, all, seen, same, up, some, f)
never_full a e d v0 v1 k all seen same up some few (inr f) = omega (arith, few, f)

-- the front is a vector
front_vector : (n : ℕ) (front : Option PlainFront) → IsFrontVector n front → IfSome (front_mono front) (λ m. length m ≡ n)
unfolding IsFrontVector
front_vector n None h = tt
front_vector n (Some f) h = h

-- ---- a worker that waits
-- the worker k, whose state is that of v0 at the beginning of a round, v1 after its call and v2 after the meeting; the merge has taken, found and published nothing in the round, and looked in vain for its notes
pub record InVain (lim : ℕ) (a e d : DivideView) (k : ℕ) (v0 v1 v2 : WorkerView) : Type 0 where
  pub sound : IsSound lim d
  pub working : IsWorking lim v2
  pub vector : IsFrontVector v2.state.division.n v2.front
  pub member : IsMember a.rings a.row k v0
  pub heard : HasHeard a v0
  pub current : IsUpToDate a v0
  pub moves : Moves v0 v1
  pub meets : Meets e v1 v2
  pub before : e.run ≡ a.run
  pub after : d.run ≡ e.run
  pub rings : d.rings ≡ a.rings
  pub row : d.row ≡ a.row
  pub tails : NoneBelow e.tails d.tails
  pub starved : IsStarved d k
  pub rows : divisor_rows d.run.state.division.g d.run.state.workers k ≢ []

module _ (lim : ℕ) (a e d : DivideView) (k : ℕ) (v0 v1 v2 : WorkerView) (z : RingName) (i : InVain lim a e d k v0 v1 v2) where
  same_run : d.run ≡ a.run
  same_run = i.after ∙ i.before

  number0 : v0.state.worker ≡ k
  number0 = i.member.number

  number1 : v1.state.worker ≡ k
  number1 = i.moves.works.sends.worker ∙ number0

  state2 : v2.state ≡ v1.state
  state2 = ap (λ (v : WorkerView). v.state) i.meets.same

  number2 : v2.state.worker ≡ k
  number2 = ap (λ (s : WorkerState). s.worker) state2 ∙ number1

  ring2 : v2.ring ≡ v0.ring
  ring2 = ap (λ (v : WorkerView). v.ring) i.meets.same ∙ i.moves.works.sends.ring

  row2 : v2.row ≡ v0.row
  row2 = ap (λ (v : WorkerView). v.row) i.meets.same ∙ i.moves.works.row

  member2 : IsMember d.rings d.row k v2
  member2 = record {
    number = number2;
    below = subst (λ (l : List RingName). k < length l) (sym i.rings) i.member.below;
    ring = λ x. ap (λ (l : List RingName). slice_index_or l k x) i.rings ∙ i.member.ring x ∙ sym ring2;
    places = subst (λ (r : RingName). 0 < r.places) (sym ring2) i.member.places;
    row_is = row2 ∙ i.member.row_is ∙ sym i.row;
  }

  division : (v2.state.division ≡ d.run.state.division) × (v2.state.workers ≡ d.run.state.workers)
  division = its_division lim d v2 z k i.sound i.working member2

  rows2 : HasRows v2.state
  unfolding worker_rows
  rows2 none = i.rows (sym (λ j. divisor_rows (division.0 j).g (division.1 j) (number2 j)) ∙ none)

  rows_alike : worker_rows v0.state ≡ worker_rows v2.state
  unfolding worker_rows
  rows_alike = (λ j. divisor_rows (sym i.moves.works.division j).g (sym i.moves.works.workers j) (sym i.moves.works.sends.worker j)) ∙ ap worker_rows (sym state2)

  rows0 : HasRows v0.state
  rows0 none = rows2 (sym rows_alike ∙ none)

  -- all that it sent is taken
  taken_of_it : notes_of d.run.state.taken v2.state.worker ≡ v2.state.sent
  taken_of_it =
      let met = i.meets.met in
      let p : IsPrefix (notes_of d.run.state.taken v2.state.worker) v2.state.sent = subst (λ (r : DivideRun). IsPrefix (notes_of r.state.taken v2.state.worker) v2.state.sent) (sym i.after) met.taken in
      let l : length v2.state.sent ≤ slice_index_or e.tails v2.state.worker 0 = met.reader_seen in
      let t = i.tails.each v2.state.worker in
      let s : slice_index_or d.tails v2.state.worker 0 ≡ length (notes_of d.run.state.taken v2.state.worker) = subst (λ (w : ℕ). slice_index_or d.tails w 0 ≡ length (notes_of d.run.state.taken w)) (sym number2) i.starved in
      let q = prefix_length (notes_of d.run.state.taken v2.state.worker) v2.state.sent p in
      same_begin (notes_of d.run.state.taken v2.state.worker) v2.state.sent v2.state.sent p ([], append-nil v2.state.sent) (both _ _ _ _ q l t s)
    where
      both : (t s a b : ℕ) → t ≤ s → s ≤ a → a ≤ b → b ≡ t → t ≡ s
      both t s a b h k l m = omega (arith, h, k, l, m)

  -- so its ring wasn't full
  waits : IsMarked v1.state × HoldsBack v1 × (v1.count ≡ length v1.notes)
  waits = pick i.moves.stopped
    where
      sent_length : length v1.state.sent ≡ length (taken_of d k)
      sent_length = ap (λ (s : WorkerState). length s.sent) (sym state2) ∙ ap length (sym taken_of_it) ∙ ap (λ (w : ℕ). length (taken_of d w)) number2

      few : length v1.state.sent < 2 ^ 63
      few = subst (λ (s : WorkerState). length s.sent < 2 ^ 63) state2 (few_notes lim v2 i.working)

      full_not : IsRefused (sender_of v1) → ⊥
      full_not = never_full a e d v0 v1 k sent_length
          (subst (λ (w : ℕ). length (taken_of a w) ≤ v0.head) number0 i.heard.head)
          (ap (λ (r : DivideRun). length (notes_of r.state.taken k)) same_run)
          i.moves.works.sends.head
          (subst (λ (r : RingName). 0 < r.places) (sym i.moves.works.sends.ring) i.member.places)
          few

      pick : IsRefused (sender_of v1) ⊎ (HasRows v0.state → IsMarked v1.state × HoldsBack v1 × (v1.count ≡ length v1.notes)) → IsMarked v1.state × HoldsBack v1 × (v1.count ≡ length v1.notes)
      pick (inl f) = absurd (full_not f)
      pick (inr h) = h rows0

  -- it knows all notes of the row
  all_notes : v2.notes ≡ d.run.notes
  all_notes =
      let p : IsPrefix v2.notes d.run.notes = subst (λ (r : DivideRun). IsPrefix v2.notes r.notes) (sym i.after) i.meets.notes in
      let n : v2.notes ≡ v1.notes = ap (λ (v : WorkerView). v.notes) i.meets.same in
      let c = i.heard.count in let m = i.moves.works.count in let k = waits.2 in
      let r : length a.run.notes ≡ length d.run.notes = ap (λ (r : DivideRun). length r.notes) (sym same_run) in
      let l : length v2.notes ≡ length v1.notes = ap length n in
      let s : length d.run.notes ≡ length v2.notes + length p.0 = ap length (sym p.1) ∙ length-append v2.notes p.0 in
      same_begin v2.notes d.run.notes d.run.notes p ([], append-nil d.run.notes) (omega (arith, c, m, k, r, l, s))

  -- and has learned its terms
  all_learned : length v2.state.known ≡ d.run.state.start + length (row_terms v2.notes)
  all_learned =
      let known : length v2.state.known ≡ length v1.state.known = ap (λ (s : WorkerState). length s.known) state2 in
      let notes : length (row_terms v2.notes) ≡ length (row_terms v1.notes) = ap (λ (v : WorkerView). length (row_terms v.notes)) i.meets.same in
      let step = i.moves.works.learned rows0 in
      let first = i.current.learned rows0 in
      let more = more_terms v0.notes v1.notes i.moves.works.notes in
      let start : v1.row.name.start ≡ d.run.state.start = ap (λ r. r.name.start) (sym (ap (λ (v : WorkerView). v.row) i.meets.same) ∙ member2.row_is) ∙ i.sound.row_start in
      let begun : a.run.state.start ≡ d.run.state.start = ap (λ (r : DivideRun). r.state.start) (sym same_run) in
      learned_count (length v2.state.known) (length v1.state.known) (length v0.state.known) (length (row_terms v2.notes)) (length (row_terms v1.notes)) (length (row_terms v0.notes)) v1.row.name.start d.run.state.start a.run.state.start known notes step first more start begun

  front2 : v2.front ≡ v1.front
  front2 = ap (λ (v : WorkerView). v.front) i.meets.same

  -- before the row's first note its front is the merge's or below
  fronted : v2.notes ≡ [] → IsLowered v2.state.division.ord (front_mono v2.front) d.run.state.front
  fronted none =
      let empty : a.run.notes ≡ [] = ap (λ (r : DivideRun). r.notes) (sym same_run) ∙ sym all_notes ∙ none in
      let old : IsLowered d.run.state.division.ord (front_mono v0.front) d.run.state.front = subst (λ (r : DivideRun). IsLowered r.state.division.ord (front_mono v0.front) r.state.front) (sym same_run) (i.current.fronted rows0 empty) in
      let falls : FrontFalls v2.state.division.ord v0.front v2.front =
      subst (λ (f : Option PlainFront). FrontFalls v2.state.division.ord v0.front f) (sym front2) (subst (λ (x : Division). FrontFalls x.ord v0.front v1.front) (sym (ap (λ (s : WorkerState). s.division) state2 ∙ i.moves.works.division)) i.moves.works.front) in
      lowered_again v2.state.division.ord v0.front v2.front d.run.state.front falls (subst (λ (x : Division). IsLowered x.ord (front_mono v0.front) d.run.state.front) (sym division.0) old)

  -- the worker has said all that it can
  pub has_waited : HasWaited d.run.state k
  has_waited =
      let w = i.working in let m = waits.0 in
      let top : Option (List ℕ) = m.top in
      let held : IsHeld v2.state.division (worker_rows v2.state) (front_mono v2.front) top =
      subst (λ (f : Option PlainFront). IsHeld v2.state.division (worker_rows v2.state) (front_mono f) top) (sym front2) (subst (λ (s : WorkerState). IsHeld s.division (worker_rows s) (front_mono v1.front) top) (sym state2) (waits.1.held top m.is_top)) in
      subst (HasWaited d.run.state) number2 (heard_has_waited d.run v2.state v2.notes (front_mono v2.front) top i.sound.whole record {
        division = division.0;
        workers = division.1;
        taken = taken_of_it;
        row = all_notes;
        learned = all_learned;
        mark = subst (λ (s : WorkerState). latest_mark s.sent ≡ (length s.known, top)) (sym state2) m.mark;
        vector = front_vector v2.state.division.n v2.front i.vector;
        held = held;
        noted = w.lowest;
        handed = fronted;
      })
