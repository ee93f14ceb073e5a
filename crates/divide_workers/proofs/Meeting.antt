-- How the ends of a dividing worker meet those of the merge, and how it goes on with another row.
use Rattle.std.proofs.Common.{◌≡◌, ℕ, ◌+◌, ◌≤◌, max, false, ℤ, List, [], ◌++◌, length, slice_index_or, Option, Some, None, refl, sym, ap, ◌∙◌, subst, arith, append-nil, append_assoc}
use Rattle.std.proofs.lemmas.List.{length-map}
use mathlib.Core.List.{IsPrefix}
use Rattle.sdmp_laws.specs.Order.{Order}
use Rattle.sdmp_laws.specs.Poly.{Term}
use Rattle.sdmp_laws.specs.Division.{Division}
use Rattle.sdmp_laws.specs.LongDivision.{quotient_list}
use Rattle.divide_wholes.specs.Wholes.{AllUnderFront}
use Rattle.divide_wholes.specs.Row.{RowNote, row_terms}
use Rattle.divide_wholes.specs.Workers.{WorkerState, worker_rows}
use Rattle.row_merge.specs.Learned.{QuotientState}
use Rattle.canonical_terms.specs.declared.term.TermOf.{TermOf}
use Rattle.term_ring.specs.Ends.{sent, head_seen, full_looks}
use Rattle.term_ring.specs.Names.{RingName, writer_name, IsWriting}
use Rattle.term_ring.specs.Spelling.{notes_of}
use Rattle.term_ring.specs.declared.ring.Writer.{Writer}
use Rattle.quotient_row.specs.Names.{RowName}
use Rattle.quotient_row.specs.Ends.{IsReaderOf, known, count_seen, count_loads, told_published}
use Rattle.quotient_row.specs.Spelling.{notes_of as row_notes_of}
use Rattle.quotient_row.specs.declared.note.RowNoteOf.{RowNoteOf}
use Rattle.quotient_row.specs.declared.row.Row.{Row}
use Rattle.quotient_row.specs.declared.row.RowReader.{RowReader}
use Rattle.dividing_rounds.specs.Stalls.{IsLowered}
use Rattle.divide_merge.specs.Names.{IsLooking, script_division, row_identity, reader_row}
use Rattle.divide_merge.specs.Merges.{DivideView, taken_of}
use Rattle.divide_workers.specs.Fronts.{front_mono, UnderBy}
use Rattle.divide_workers.specs.Paying.{HasRows}
use Rattle.divide_workers.specs.Views.{WorkerView, script_workers, sender_of}
use Rattle.divide_workers.specs.Working.{IsWorking}
use Rattle.divide_workers.specs.Inside.{view_of, IsSender}
use Rattle.divide_workers.specs.Steps.{CatchesUp, LearnsMore, IsFrontOf}
use Rattle.divide_workers.specs.Rounds.{Meets}
use Rattle.divide_workers.specs.declared.front.Front.{Front}
use Rattle.divide_workers.specs.declared.mark.Mark.{Mark}
use Rattle.divide_workers.proofs.Ahead.{begins_longer, ahead_back}
use Rattle.divide_workers.proofs.Stepping.{takes_row, ends_change}
use Rattle.divide_workers.proofs.Fields.{learns_none, learns_again, none_sent}
use Rattle.divide_workers.proofs.Looking.{own_row, row_stays, with_reader}

-- ---- a meeting
module _ {X M E : Type 0} (vector : M → List ℕ) (value : E → ℤ) (belongs : ℕ → E → Type 0) (ord : Order) (n lim p worker : ℕ) (vars : (m : M) → length (vector m) ≡ n) (rows : QuotientState) (writer : Writer X M E) (reader : RowReader X M E) (lead : M) (place : ℕ) (front : Option (Front M)) (kept : Option (TermOf M E)) (marked : Mark M)
    (s : IsSender vector value belongs ord n lim p worker rows writer reader lead place front kept marked) (its_row : Row X M E) (u : WorkerView) (view : view_of vector value worker rows writer reader front kept ≡ u) (here : u.row ≡ row_identity its_row)
    (writer' : Writer X M E) (reader' : RowReader X M E) (name : writer_name writer' ≡ writer_name writer) (writing : IsWriting writer') (of : IsReaderOf its_row reader') (same_sent : sent writer' ≡ sent writer) (same_known : known reader' ≡ known reader) where
  abbrev V : WorkerView
  V = view_of vector value worker rows writer reader front kept

  abbrev U : WorkerView
  U = view_of vector value worker rows writer' reader' front kept

  its_own : reader_row reader ≡ row_identity its_row
  its_own = own_row vector value belongs ord n lim p worker vars rows writer reader lead place front kept marked s its_row u view here

  stays : reader_row reader' ≡ reader_row reader
  stays = row_stays vector value belongs ord n lim p worker vars rows writer reader lead place front kept marked s its_row u view here reader' of

  same_script : (writer_name writer').script ≡ (writer_name writer).script
  same_script = ap (λ (r : RingName). r.script) name

  seen_so : (told : List RowNote) → row_notes_of vector value (told_published reader') ≡ told → record V { head = head_seen writer'; full_looks = full_looks writer'; count = count_seen reader'; loads = count_loads reader'; told = told } ≡ U
  seen_so told t = λ i. record V {
    state = record V.state { division = script_division (sym same_script i); workers = script_workers (sym same_script i); sent = notes_of vector value (sym same_sent i) };
    ring = sym name i;
    head = head_seen writer';
    full_looks = full_looks writer';
    row = sym stays i;
    notes = row_notes_of vector value (sym same_known i);
    count = count_seen reader';
    loads = count_loads reader';
    told = sym t i;
  }

  pub met_is : IsSender vector value belongs ord n lim p worker rows writer' reader' lead place front kept marked
  met_is =
      let path = seen_so (row_notes_of vector value (told_published reader')) refl in
      with_reader vector value belongs ord n lim p worker vars rows writer' reader lead place front kept marked (none_sent vector value belongs ord n lim p worker vars rows writer reader lead place front kept marked s writer' name writing same_sent) its_row (view_of vector value worker rows writer' reader front kept) refl its_own reader' of rows place front refl refl refl
      (subst (IsWorking lim) path (ends_change lim V (head_seen writer') (full_looks writer') (count_seen reader') (count_loads reader') (row_notes_of vector value (told_published reader')) s.working))
      (subst (λ (v : WorkerView). place ≡ v.row.name.start + length (row_terms v.notes)) path s.place_is)

  pub meets : (m : DivideView) → row_notes_of vector value (told_published reader') ≡ m.run.notes → head_seen writer ≤ head_seen writer' → IsPrefix (taken_of m worker) (notes_of vector value (sent writer')) → length (sent writer') ≤ slice_index_or m.tails worker 0
      → length (taken_of m worker) ≤ head_seen writer' → count_seen reader ≤ count_seen reader' → length m.run.notes ≤ count_seen reader' → IsPrefix (row_notes_of vector value (known reader')) m.run.notes → Meets m V U
  meets m told head taken seen heard count all begins = record {
    same = sym (seen_so m.run.notes told);
    sends = record { ring = name; worker = refl; sent = ([], append-nil V.state.sent ∙ ap (notes_of vector value) (sym same_sent)); head = head };
    met = record {
      taken = taken;
      writer_seen = heard;
      reader_seen = let l : length (notes_of vector value (sent writer')) ≡ length (sent writer') = length-map (sent writer') _ in omega (arith, l, seen);
    };
    count = count;
    seen = all;
    notes = begins;
  }

-- ---- another row
-- what it learned before it goes on with another row
pub record CaughtUp (q : ℕ) (front : Option (List ℕ)) (a b : WorkerView) : Type 0 where
  pub learns : LearnsMore a b
  pub learned : HasRows a.state → length b.state.known ≡ max (length a.state.known) q
  pub idle : (HasRows a.state → ⊥) → b.state.known ≡ a.state.known
  pub lowered : HasRows a.state → IsLowered a.state.division.ord (front_mono b.front) front

pub caught_idle : (a : WorkerView) (q : ℕ) (front : Option (List ℕ)) → (HasRows a.state → ⊥) → CaughtUp q front a a
caught_idle a q front n = record { learns = learns_none a; learned = λ r. absurd (n r); idle = λ k. refl; lowered = λ r. absurd (n r) }

pub caught : (a b c : WorkerView) (q : ℕ) (front : Option (List ℕ)) → HasRows a.state → LearnsMore a b → length b.state.known ≡ max (length a.state.known) q → LearnsMore b c → c.state ≡ b.state → IsLowered b.state.division.ord (front_mono c.front) front → CaughtUp q front a c
caught a b c q front r f known g same low = record {
  learns = learns_again a b c f g;
  learned = λ k. ap (λ (s : WorkerState). length s.known) same ∙ known;
  idle = λ n. absurd (n r);
  lowered = λ k. subst (λ (v : WorkerView). IsLowered v.state.division.ord (front_mono c.front) front) f.same low;
}

under_later : (d : Division) (front : Option (List ℕ)) (A B : List Term) → AllUnderFront d front (A ++ B) → AllUnderFront d front B
unfolding UnderBy AllUnderFront
under_later d None A B h = tt
under_later d (Some m) A B h = ahead_back d (Some (record { mono = m; is_strict = false })) A B h

under_known : (d : Division) (q known : List Term) (front : Option (List ℕ)) → IsPrefix q (quotient_list d) → length q ≤ length known → ((later : List Term) → q ++ later ≡ quotient_list d → AllUnderFront d front later)
    → (later : List Term) → known ++ later ≡ quotient_list d → AllUnderFront d front later
under_known d q known front i l h later e =
    let r = begins_longer q known (quotient_list d) i (later, e) l in
    under_later d front r.0 later (h (r.0 ++ later) (sym (append_assoc q r.0 later) ∙ ap (λ (L : List Term). L ++ later) r.1 ∙ e))

-- the front of the merge holds after all that it knows, where it has learned what was found
pub under_still : (a b : WorkerView) (q : List Term) (front : Option (List ℕ)) → LearnsMore a b → IsPrefix q (quotient_list a.state.division) → length q ≤ length b.state.known
    → ((later : List Term) → q ++ later ≡ quotient_list a.state.division → AllUnderFront a.state.division front later) → IsFrontOf b.state front
under_still a b q front m i l h =
    subst (λ (d : Division). (later : List Term) → b.state.known ++ later ≡ quotient_list d → AllUnderFront d front later) (sym (ap (λ (v : WorkerView). v.state.division) m.same)) (under_known a.state.division q b.state.known front i l h)

module _ {X M E : Type 0} (vector : M → List ℕ) (value : E → ℤ) (belongs : ℕ → E → Type 0) (ord : Order) (n lim p worker : ℕ) (vars : (m : M) → length (vector m) ≡ n) (rows : QuotientState) (writer : Writer X M E) (reader : RowReader X M E) (lead : M) (place : ℕ) (front : Option (Front M)) (kept : Option (TermOf M E)) (marked : Mark M)
    (s : IsSender vector value belongs ord n lim p worker rows writer reader lead place front kept marked) (u : WorkerView) (view : view_of vector value worker rows writer reader front kept ≡ u)
    (reader' : RowReader X M E) (looking : IsLooking reader') (none : known reader' ≡ []) (a : WorkerView) (q : ℕ) (front' : Option (List ℕ)) (name : (reader_row reader').name ≡ record { division = a.state.division; start = q }) (c : CaughtUp q front' a u) where
  abbrev B : WorkerView
  B = view_of vector value worker rows writer reader front kept

  abbrev W : WorkerView
  W = view_of vector value worker rows writer reader' front kept

  caught_so : CaughtUp q front' a B
  caught_so = subst (CaughtUp q front' a) (sym view) c

  start : (reader_row reader').name.start ≡ q
  start = ap (λ (r : RowName). r.start) name

  division_stays : B.state.division ≡ a.state.division
  division_stays = ap (λ (v : WorkerView). v.state.division) caught_so.learns.same

  had_rows : HasRows B.state → HasRows a.state
  unfolding worker_rows
  had_rows r = subst (λ (v : WorkerView). HasRows v.state) caught_so.learns.same r

  path : record B { row = reader_row reader'; notes = []; count = count_seen reader'; loads = count_loads reader'; told = row_notes_of vector value (told_published reader') } ≡ W
  path = λ i. record B { row = reader_row reader'; notes = row_notes_of vector value (sym none i); count = count_seen reader'; loads = count_loads reader'; told = row_notes_of vector value (told_published reader') }

  pub caught_up_is : (place' : ℕ) → place' ≡ q → IsSender vector value belongs ord n lim p worker rows writer reader' lead place' front kept marked
  unfolding worker_rows row_terms
  caught_up_is place' e = record {
    working = subst (IsWorking lim) path
        (takes_row lim B (reader_row reader') (count_seen reader') (count_loads reader') (row_notes_of vector value (told_published reader')) s.working (ap (λ (r : RowName). r.division) name ∙ sym division_stays)
        (λ r. let l = caught_so.learned (had_rows r) in let z = start in omega (arith, l, z)));
    writing = s.writing;
    looking = looking;
    ordered = s.ordered;
    variables = s.variables;
    modulus = s.modulus;
    characteristic = s.characteristic;
    divisor = s.divisor;
    rows_are = s.rows_are;
    lead_is = s.lead_is;
    place_is = let b : length (row_terms (row_notes_of vector value (known reader'))) ≡ 0 = ap (λ (x : List (RowNoteOf M E)). length (row_terms (row_notes_of vector value x))) none in let z = start in omega (arith, e, z, b);
    mark_is = s.mark_is;
    kept_belongs = s.kept_belongs;
  }

  pub catches_up : CatchesUp (reader_row reader') q front' a W
  catches_up =
      let l = caught_so.learns in record {
        division = division_stays;
        workers = ap (λ (v : WorkerView). v.state.workers) l.same;
        sender = ap sender_of l.same;
        kept = ap (λ (v : WorkerView). v.state.kept) l.same;
        known = l.known;
        learned = caught_so.learned;
        idle = caught_so.idle;
        row_is = refl;
        notes = ap (row_notes_of vector value) none;
        spare = λ r. l.spare;
        falls = l.falls;
        lowered = caught_so.lowered;
      }
