-- A team that has sent nothing, and its merge.
use Rattle.std.proofs.Common.{◌≡◌, ◌≢◌, inl, ℕ, zero, suc, ◌+◌, ◌<◌, ◌≤◌, List, [], ◌∷◌, ◌++◌, length, drop, get_or, slice_index_or, map, replicate, Option, Some, None, MatchOption, Bool, false, true≢false, ℤ, All, refl, sym, ap, ◌∙◌, subst, arith, length-append}
use Rattle.std.proofs.lemmas.List.{map-append, length-map}
use Rattle.std.proofs.lemmas.List.Folds.{sum_by-replicate}
use Rattle.std.specs.Option.{is_some}
use Rattle.sdmp_laws.specs.Poly.{Term, every}
use Rattle.sdmp_laws.specs.Division.{Division}
use Rattle.whole_laws.specs.Notes.{Note, QuotientScript, after_lead, divisor_rows}
use Rattle.whole_laws.specs.Wholes.{notes_of as notes_at}
use Rattle.divide_wholes.specs.Wholes.{divide_start}
use Rattle.divide_wholes.specs.Row.{row_terms}
use Rattle.divide_wholes.specs.Workers.{worker_rows}
use Rattle.row_merge.specs.Learned.{QuotientState}
use Rattle.dividing_rounds.specs.Runs.{DivideRun, run_start}
use Rattle.dividing_rounds.specs.Rounds.{progress}
use Rattle.dividing_rounds.specs.Stalls.{IsLowered}
use Rattle.term_ring.specs.Spelling.{notes_of}
use Rattle.term_ring.specs.Ends.{sent}
use Rattle.term_ring.specs.declared.ring.Writer.{Writer}
use Rattle.term_ring.specs.Names.{RingName, writer_name}
use Rattle.term_ring.proofs.Lists.{each_more}
use Rattle.quotient_row.specs.Ends.{known, IsReaderOf as IsRowReaderOf}
use Rattle.quotient_row.specs.declared.row.Row.{Row}
use Rattle.quotient_row.specs.Spelling.{notes_of as row_notes_of}
use Rattle.quotient_row.specs.declared.row.RowReader.{RowReader}
use Rattle.divide_merge.specs.Names.{RowIdentity, row_identity, reader_row, HasScripts, script_division, first_division}
use Rattle.divide_merge.specs.Merges.{DivideView, taken_of, IsSound}
use Rattle.divide_workers.specs.Fronts.{front_mono}
use Rattle.divide_workers.specs.Views.{WorkerView, script_workers}
use Rattle.divide_workers.specs.Inside.{view_of}
use Rattle.divide_workers.specs.Rounds.{AreMembers, AreRead, IsFresh, HasHeard, IsUpToDate, IsTeam, HasPlace}

-- ---- one worker
pub its_rows : (g : List Term) (W w : ℕ) → every W w 1 (drop 1 g) ≡ divisor_rows g W w
unfolding divisor_rows after_lead
its_rows [] W w = refl
its_rows (t ∷ g) W w = refl

pub its_part : (rows first : QuotientState) (p W V w : ℕ) (g h : List Term) → first ≡ record { modulus = p; divisor = g; rows = every W w 1 (drop 1 g); learned = []; unread = []; spare = 0 } → rows.rows ≡ first.rows → h ≡ g → V ≡ W → rows.rows ≡ divisor_rows h V w
its_part rows first p W V w g h e same divisor workers = same ∙ ap (λ (q : QuotientState). q.rows) e ∙ its_rows g W w ∙ sym (λ i. divisor_rows (divisor i) (workers i) w)

-- where there is no first row there is none
pub none_first : {A : Type 0} (o : Option A) (b : Bool) (rows : List Term) (Q : A → Type 0) → MatchOption o (rows ≡ []) Q → b ≡ is_some o → b ≡ false → rows ≡ []
none_first None b rows Q h e f = h
none_first (Some x) b rows Q h e f = absurd (true≢false (sym e ∙ f))

-- a worker that begins with these fields is new
pub begins_fresh : {X M E : Type 0} (vector : M → List ℕ) (value : E → ℤ) (worker : ℕ) (rows : QuotientState) (writer : Writer X M E) (reader : RowReader X M E) (v : WorkerView) → v ≡ view_of vector value worker rows writer reader None None
    → rows.learned ≡ [] → sent writer ≡ [] → known reader ≡ [] → rows.rows ≡ divisor_rows (script_division (writer_name writer).script).g (script_workers (writer_name writer).script) worker → (rows.rows ≢ [] → (reader_row reader).places ≤ rows.spare) → IsFresh v
unfolding worker_rows
begins_fresh vector value worker rows writer reader v e learned nothing told are room = subst IsFresh (sym e) record {
  known = learned;
  kept = refl;
  sent = ap (notes_of vector value) nothing;
  notes = ap (row_notes_of vector value) told;
  front = refl;
  room = λ r. let k = room (λ z. r (sym are ∙ z)) in omega (arith, k);
}

module _ {X M E : Type 0} where
  pub row_of_reader : (row : Row X M E) (r : RowReader X M E) → IsRowReaderOf row r → reader_row r ≡ row_identity row
  row_of_reader row r h = λ i. record { table = h.1 i; name = h.2 i; places = h.3 i }

-- the ring has the script of the worker k of W, and the worker is new and reads this row
pub record IsHired (d : Division) (W : ℕ) (row : RowIdentity) (k : ℕ) (name : RingName) (v : WorkerView) : Type 0 where
  pub script : name.script ≡ QuotientScript d W k
  pub places : 0 < name.places
  pub number : v.state.worker ≡ k
  pub ring : v.ring ≡ name
  pub row_is : v.row ≡ row
  pub fresh : IsFresh v

-- the first i workers have their rings
pub record AreHired (d : Division) (W : ℕ) (row : RowIdentity) (names : List RingName) (team : List WorkerView) (i : ℕ) : Type 0 where
  pub count : length names ≡ i
  pub long : length team ≡ i
  pub each : (k : ℕ) (c : RingName) (y : WorkerView) → k < i → IsHired d W row k (get_or names k c) (get_or team k y)

pub none_hired : {A B : Type 0} (d : Division) (W : ℕ) (row : RowIdentity) (f : A → RingName) (h : B → WorkerView) (xs : List A) (ys : List B) → length xs ≡ 0 → length ys ≡ 0 → AreHired d W row (map f xs) (map h ys) 0
none_hired d W row f h xs ys p q = record { count = length-map xs f ∙ p; long = length-map ys h ∙ q; each = λ k c y l. absurd (omega (arith, l)) }

one_hired : (d : Division) (W : ℕ) (row : RowIdentity) (i : ℕ) (names : List RingName) (team : List WorkerView) (name : RingName) (v : WorkerView) → AreHired d W row names team i → IsHired d W row i name v → AreHired d W row (names ++ name ∷ []) (team ++ v ∷ []) (i + 1)
one_hired d W row i names team name v h new = record {
  count = let l = length-append names (name ∷ []) in let c = h.count in omega (arith, l, c);
  long = let l = length-append team (v ∷ []) in let c = h.long in omega (arith, l, c);
  each = each_more (IsHired d W row) names team name v i h.count h.long h.each new;
}

module _ {A B : Type 0} (xs later : List A) (a : A) (ys after : List B) (b : B) (p : later ≡ xs ++ a ∷ []) (q : after ≡ ys ++ b ∷ []) where
  pub hired_more : (f : A → RingName) (h : B → WorkerView) (d : Division) (W : ℕ) (row : RowIdentity) (i : ℕ) → AreHired d W row (map f xs) (map h ys) i → IsHired d W row i (f a) (h b) → AreHired d W row (map f later) (map h after) (i + 1)
  hired_more f h d W row i old new =
      subst (λ (n : List RingName). AreHired d W row n (map h after) (i + 1)) (sym (ap (map f) p ∙ map-append f xs (a ∷ [])))
      (subst (λ (t : List WorkerView). AreHired d W row (map f xs ++ f a ∷ []) t (i + 1)) (sym (ap (map h) q ∙ map-append h ys (b ∷ [])))
      (one_hired d W row i (map f xs) (map h ys) (f a) (h b) old new))

-- ---- all workers
module _ (d : Division) (W : ℕ) (row : RowIdentity) (names : List RingName) (team : List WorkerView) (h : AreHired d W row names team W) where
  -- any view stands for one past the end
  some_view : RingName → WorkerView
  some_view a =
      record {
        state = record { division = d; workers = W; worker = 0; known = []; unread = []; kept = []; sent = [] };
        ring = a;
        head = 0;
        full_looks = 0;
        row = row;
        notes = [];
        count = 0;
        loads = 0;
        told = [];
        front = None;
        spare = 0;
      }

  pub hired_scripts : HasScripts d names
  hired_scripts w a l =
      subst (λ (n : ℕ). (get_or names w a).script ≡ QuotientScript d n w) (sym h.count)
      (h.each w a (some_view a) (let c = h.count in omega (arith, c, l))).script

  pub hired_members : AreMembers names row team
  hired_members = record {
    long = h.long ∙ sym h.count;
    each = λ k y l.
        let below : k < W = let c = h.long in omega (arith, c, l) in
        let one : (e : RingName) → IsHired d W row k (get_or names k e) (get_or team k y) = λ e. h.each k e y below in
        let any : RingName = (get_or team k y).ring in
        record {
          number = (one any).number;
          below = let c = h.count in omega (arith, c, below);
          ring = λ e. sym (one e).ring;
          places = subst (λ (r : RingName). 0 < r.places) (sym (one any).ring) (one any).places;
          row_is = (one any).row_is;
        };
  }

  pub hired_fresh : All IsFresh team
  hired_fresh k y l = (h.each k (get_or team k y).ring y (let c = h.long in omega (arith, c, l))).fresh

-- ---- their merge
no_notes_at : (n k : ℕ) → get_or (replicate {A = List Note} n []) k [] ≡ []
no_notes_at zero k = refl
no_notes_at (suc n) zero = refl
no_notes_at (suc n) (suc k) = no_notes_at n k

pub nothing_done : (r : DivideRun) (d : Division) (W : ℕ) → r ≡ run_start d W → progress r ≡ 0
unfolding progress run_start divide_start
nothing_done r d W e =
    ap progress e ∙ (let c = sum_by-replicate (λ (n : List Note). length n) W [] in omega (arith, c))

module _ (m : DivideView) (d : Division) (W : ℕ) (start : m.run ≡ run_start d W) where
  pub its_division : m.run.state.division ≡ d
  unfolding run_start divide_start
  its_division = ap (λ (r : DivideRun). r.state.division) start

  pub its_workers : m.run.state.workers ≡ W
  unfolding run_start divide_start
  its_workers = ap (λ (r : DivideRun). r.state.workers) start

  no_notes : m.run.notes ≡ []
  unfolding run_start
  no_notes = ap (λ (r : DivideRun). r.notes) start

  none_taken : (w : ℕ) → taken_of m w ≡ []
  unfolding run_start divide_start notes_at
  none_taken w = ap (λ (r : DivideRun). notes_at r.state.taken w) start ∙ no_notes_at W w

  no_front : m.run.state.front ≡ None
  unfolding run_start divide_start
  no_front = ap (λ (r : DivideRun). r.state.front) start

  from_nothing : m.run.state.start ≡ 0
  unfolding run_start divide_start
  from_nothing = ap (λ (r : DivideRun). r.state.start) start

  heard : (v : WorkerView) → IsFresh v → HasHeard m v
  heard v f =
      let t = ap (λ (n : List Note). length n) (none_taken v.state.worker) in
      let n = ap (λ ns. length ns) no_notes in record {
        taken = ([], ap (λ (x : List Note). x ++ []) (none_taken v.state.worker) ∙ sym f.sent);
        head = omega (arith, t);
        count = omega (arith, n);
        notes = ([], ap (λ ns. ns ++ []) f.notes ∙ sym no_notes);
      }

  up_to_date : (v : WorkerView) → IsFresh v → IsUpToDate m v
  unfolding row_terms IsLowered
  up_to_date v f =
      let k : length v.state.known ≡ 0 = ap (λ (L : List Term). length L) f.known in
      let n : length (row_terms v.notes) ≡ 0 = ap (λ ns. length (row_terms ns)) f.notes in
      let s = from_nothing in record {
        learned = λ r. omega (arith, k, n, s);
        few = omega (arith, k, n, s);
        room = f.room;
        fronted = λ r e. subst (λ (x : Option (List ℕ)). IsLowered m.run.state.division.ord (front_mono v.front) x) (sym no_front) tt;
      }

  first_team : (team : List WorkerView) → AreMembers m.rings m.row team → All IsFresh team → IsTeam m team
  first_team team members fresh = record {
    members = members;
    told = λ k y l. heard (slice_index_or team k y) (fresh k y l);
    current = λ k y l. up_to_date (slice_index_or team k y) (fresh k y l);
  }

  pub team_of_merge : (team : List WorkerView) (names : List RingName) (row : RowIdentity) → m.rings ≡ names → m.row ≡ row → AreMembers names row team → All IsFresh team → IsTeam m team
  team_of_merge team names row e f members fresh = first_team team (subst (λ (r : List RingName). AreMembers r m.row team) (sym e) (subst (λ (r : RowIdentity). AreMembers names r team) (sym f) members)) fresh

  pub has_place : 0 < m.row.places → HasPlace m
  has_place some = inl (let n = ap (λ ns. length ns) no_notes in omega (arith, n, some))

-- ---- the division of a merge of these rings
first_is : (d : Division) (names : List RingName) → HasScripts d names → 0 < length names → first_division names ≡ d
first_is d [] h l = absurd (omega (arith, l))
first_is d (a ∷ names) h l = ap script_division (h 0 a l)

module _ {d : Division} {W : ℕ} {names readers : List RingName} (r : AreRead d W names readers) where
  pub readers_scripts : HasScripts d readers
  readers_scripts = subst (HasScripts d) (sym r.same) r.scripts

  pub readers_count : {A : Type 0} (f : A → RingName) (xs : List A) → map f xs ≡ readers → length xs ≡ W
  readers_count f xs e = sym (length-map xs f) ∙ ap (λ (x : List RingName). length x) (e ∙ r.same) ∙ r.count

  pub division_of_merge : (lim : ℕ) (v : DivideView) → 0 < W → IsSound lim v → v.rings ≡ readers → v.run.state.division ≡ d
  division_of_merge lim v some s e =
      s.division ∙ ap first_division (e ∙ r.same) ∙ first_is d names r.scripts (let c = r.count in omega (arith, c, some))

  pub workers_of_merge : (lim : ℕ) (v : DivideView) → IsSound lim v → v.rings ≡ readers → v.run.state.workers ≡ W
  workers_of_merge lim v s e = sym s.rings_count ∙ ap (λ (x : List RingName). length x) (e ∙ r.same) ∙ r.count
