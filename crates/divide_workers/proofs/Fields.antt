-- The fields of a dividing worker, and what it sees of itself, at each of its steps.
use Rattle.std.proofs.Common.{◌≡◌, ◌≢◌, inl, inr, ℕ, ◌+◌, ◌*◌, ◌<◌, ◌≤◌, Bool, true, false, ℤ, pos, cond, List, [], ◌∷◌, ◌++◌, get_or, length, Option, Some, None, Result, Ok, Err, IfErr, MatchOption, refl, sym, ap, ◌∙◌, subst, arith, All, IsPermutation, append-nil, append_assoc, length-append}
use Rattle.std.proofs.lemmas.List.Elements.{All-nil, All-cons, All-head, All-weaker, All-contains}
use Rattle.std.proofs.lemmas.List.Sorted.{All-permutation, IsPermutation-sym, length_permutation}
use Rattle.std.proofs.lemmas.List.{map-append, length-map}
use mathlib.Core.List.{IsPrefix}
use Rattle.sdmp_laws.specs.Order.{Order, ◌⋅◌, Below, alike, degree}
use Rattle.sdmp_laws.specs.Poly.{Term, coef, norm, row, AllBelow, Decreasing, IsPoly, is_zero, lm}
use Rattle.sdmp_laws.specs.Limits.{greatest_norm, PassesBound}
use Rattle.sdmp_laws.specs.Division.{Division}
use Rattle.sdmp_laws.specs.LongDivision.{quotient_list}
use Rattle.sdmp_laws.proofs.OrderLemmas.{order_facts, alike_self, length_times}
use Rattle.sdmp_laws.proofs.Tests.{or_in_left, or_in_right}
use Rattle.sdmp_laws.proofs.ListLemmas.{All-front, All-back, each_below}
use Rattle.sdmp_laws.proofs.TermsLemmas.{is_zero_yes}
use Rattle.whole_laws.specs.Notes.{Note, TermNote, MarkNote, Script, QuotientScript, MayFollow, Carry, has, divisor_rows}
use Rattle.whole_laws.proofs.NotesLemmas.{Carry-push}
use Rattle.sdmp_laws.proofs.Parts.{norm_nil}
use Rattle.sdmp_laws.proofs.PlaceLemmas.{passes_grows}
use Rattle.sdmp_laws.proofs.Merging.{Decreasing-front}
use Rattle.divide_wholes.specs.Wholes.{latest_mark, mark_after}
use Rattle.divide_wholes.specs.Row.{RowNote, RowCarryAfter, row_terms, front_after}
use Rattle.divide_wholes.specs.Workers.{WorkerState, IsUnreadTop, worker_rows, worker_script, sum_at}
use Rattle.divide_wholes.proofs.MarkLemmas.{worker_start}
use Rattle.divide_wholes.proofs.Candidate.{quotient_poly}
use Rattle.divide_core.proofs.DividingSteps.{not_passed}
use Rattle.row_merge.specs.Learned.{QuotientState, IsGreatest, HandOut}
use Rattle.row_merge.proofs.LearnedRows.{lead_degree}
use Rattle.canonical_terms.specs.View.{term_of, sum_of}
use Rattle.canonical_terms.specs.declared.term.TermOf.{TermOf}
use Rattle.dividing_rounds.specs.Stalls.{IsLowered}
use Rattle.dividing_rounds.proofs.WorkloadLemmas.{has_nothing}
use Rattle.divide_merge.specs.Names.{RowIdentity, IsFit, IsLooking, script_division, reader_row}
use Rattle.divide_merge.proofs.OneAnswer.{top_one}
use Rattle.divide_merge.proofs.States.{latest_new, latest_term}
use Rattle.divide_merge.specs.Inside.{vector_of}
use Rattle.term_ring.specs.Plain.{modulus_of}
use Rattle.term_ring.specs.Rule.{LeavesNoRoom}
use Rattle.term_ring.specs.Spelling.{note_of, notes_of}
use Rattle.term_ring.specs.Carried.{Fits, Carries}
use Rattle.term_ring.specs.declared.note.NoteOf.{NoteOf}
use Rattle.term_ring.specs.declared.note.NoteOf.TheVariants as note
use Rattle.term_ring.specs.declared.ring.Ring.{Ring}
use Rattle.term_ring.specs.Ends.{script_in, sent, head_seen, full_looks, IsWriterOf}
use Rattle.term_ring.specs.Names.{RingName, ring_name, writer_name, IsWriting}
use Rattle.term_ring.specs.declared.ring.Writer.{Writer}
use Rattle.quotient_row.specs.Ends.{IsNew, known, count_seen, count_loads, told_published}
use Rattle.quotient_row.specs.Spelling.{notes_of as row_notes_of}
use Rattle.quotient_row.specs.declared.note.RowNoteOf.{RowNoteOf}
use Rattle.quotient_row.specs.declared.row.RowReader.{RowReader}
use Rattle.divide_workers.specs.Fronts.{PlainFront, front_of, plain_front, IsPastBy, UnderBy, IsAhead, IsPast, FrontFalls}
use Rattle.divide_workers.specs.Views.{WorkerView, script_workers}
use Rattle.divide_workers.specs.Working.{IsWorking}
use Rattle.divide_workers.specs.Inside.{view_of, mark_of, kept_terms, KeptBelongs, IsSender}
use Rattle.divide_workers.specs.Steps.{Works, HandsOut, IsFrontier, MayHand, IsMarkOf, Pushes, Refuses, LearnsMore, IsNextTerm, IsBegun, IsFrontOf}
use Rattle.divide_workers.specs.Learning.{Learns}
use Rattle.divide_workers.specs.declared.front.Front.{Front}
use Rattle.divide_workers.specs.declared.mark.Mark.{Mark}
use Rattle.divide_workers.proofs.Falling.{IsFrontVector, falls_itself, falls_again}
use Rattle.divide_workers.proofs.Ahead.{quotient_low}
use Rattle.divide_workers.proofs.Stepping.{Hears, front_of_term, learns, takes_front, ends_change, hands_out, sends_term, may_send_term, sends_mark, may_send_mark}
use Rattle.divide_workers.proofs.Paying.{start_pays, some_length}
use Rattle.divide_workers.proofs.Working.{works_itself, works_again}

-- ---- a term that may be learned
-- the rows may learn the next quotient term
pub next_falls : (lim : ℕ) (v : WorkerView) (t : Term) → IsWorking lim v → IsNextTerm v.state t → Decreasing v.state.division.ord (v.state.known ++ t ∷ [])
next_falls lim v t w next =
    let d = v.state.division in let p : IsPoly d.ord d.p d.n (quotient_list d) = quotient_poly d w.fit.accepted in
    Decreasing-front d.ord (v.state.known ++ t ∷ []) next.begins.0 (subst (Decreasing d.ord) (sym next.begins.1) p.decreasing)

pub next_low : (lim : ℕ) (v : WorkerView) (t : Term) → IsWorking lim v → IsNextTerm v.state t → degree t.monomial + degree (lm v.state.division.g) ≤ lim
next_low lim v t w next =
    let d = v.state.division in
    let P : Term → Type 0 = λ u. degree u.monomial + degree (lm d.g) ≤ degree (lm d.f) in
    let all : All P (v.state.known ++ t ∷ []) = All-front P (v.state.known ++ t ∷ []) next.begins.0 (subst (λ (Q : List Term). All P Q) (sym next.begins.1) (quotient_low d w.fit.accepted)) in
    let one : P t = All-head P t [] (All-back P v.state.known (t ∷ []) all) in
    let low = lead_degree lim d.f w.fit.dividend.degrees in omega (arith, one, low)

pub next_fits : (v : WorkerView) (t : Term) → IsNextTerm v.state t → v.state.division.p ≡ 0 → norm (v.state.known ++ t ∷ []) * norm v.state.division.g ≤ greatest_norm
next_fits v t next z = let k = not_passed v.state.division (v.state.known ++ t ∷ []) z next.within in omega (arith, k)

passes_more : (d : Division) (a b : List Term) → IsPrefix a b → PassesBound d a → PassesBound d b
passes_more d a b i h = passes_grows d a b i h

-- ---- what stays of `Works`
-- its front alone fell, or nothing changed
pub takes_lower : (v : WorkerView) (front : PlainFront) → FrontFalls v.state.division.ord v.front (Some front) → LearnsMore v (record v { front = Some front })
takes_lower v front falls = record { same = refl; known = ([], append-nil v.state.known); spare = refl; falls = falls }

pub learns_none : (v : WorkerView) → LearnsMore v v
learns_none v = record { same = refl; known = ([], append-nil v.state.known); spare = refl; falls = falls_itself v.state.division.ord v.front }

pub learns_again : (a b c : WorkerView) → LearnsMore a b → LearnsMore b c → LearnsMore a c
learns_again a b c f g = record {
  same = g.same ∙ ap (λ (v : WorkerView). record v { state = record v.state { known = c.state.known; unread = c.state.unread }; front = c.front; spare = c.spare }) f.same;
  known = (f.known.0 ++ g.known.0, sym (append_assoc a.state.known f.known.0 g.known.0) ∙ (ap (λ (l : List Term). l ++ g.known.0) f.known.1 ∙ g.known.1));
  spare = f.spare ∙ g.spare;
  falls = falls_again a.state.division.ord a.front b.front c.front f.falls (subst (λ (v : WorkerView). FrontFalls v.state.division.ord b.front c.front) f.same g.falls);
}

-- the term after those that are known, in a longer list that begins as they do
begins_next : {A : Type 0} (known q Q : List A) (d : A) → IsPrefix known Q → IsPrefix q Q → length known < length q → IsPrefix (known ++ get_or q (length known) d ∷ []) q
begins_next [] [] Q d a b l = absurd (omega (arith, l))
begins_next [] (x ∷ q) Q d a b l = (q, refl)
begins_next (y ∷ known) [] Q d a b l = absurd (omega (arith, l))
begins_next (y ∷ known) (x ∷ q) [] d a b l = absurd (cc a.1)
begins_next (y ∷ known) (x ∷ q) (z ∷ Q) d a b l =
    let e : known ++ a.0 ≡ Q = cc a.1 in let f : q ++ b.0 ≡ Q = cc b.1 in let g : y ≡ x = cc (a.1, b.1) in
    let t = begins_next known q Q d (a.0, e) (b.0, f) (omega (arith, l)) in (t.0, λ i. g i ∷ t.1 i)

-- a term of a quotient that was found may be learned where those before it are known
pub next_found : (s : WorkerState) (q : List Term) (d : Term) (k : ℕ) → IsPrefix s.known (quotient_list s.division) → IsBegun s.division q → length s.known ≡ k → k < length q → IsNextTerm s (get_or q k d)
next_found s q d k knows begun e l =
    let p = begins_next s.known q (quotient_list s.division) d knows begun.begins (omega (arith, e, l)) in
    let r : IsPrefix (s.known ++ get_or q k d ∷ []) q = subst (λ (j : ℕ). IsPrefix (s.known ++ get_or q j d ∷ []) q) e p in record {
      begins = (r.0 ++ begun.begins.0, sym (append_assoc (s.known ++ get_or q k d ∷ []) r.0 begun.begins.0) ∙ ap (λ (l : List Term). l ++ begun.begins.0) r.1 ∙ begun.begins.1);
      within = λ h. begun.within (passes_more s.division (s.known ++ get_or q k d ∷ []) q r h);
    }

-- what a front of the merge says of the terms to come
pub ahead_of_news : (v : WorkerView) (m : List ℕ) → IsFrontOf v.state (Some m) → (later : List Term) → v.state.known ++ later ≡ quotient_list v.state.division → IsAhead v.state.division (Some (record { mono = m; is_strict = false })) later
unfolding UnderBy
ahead_of_news v m h later e = h later e

pub lowered_none : (ord : Order) (a : Option (List ℕ)) → IsLowered ord a None
unfolding IsLowered
lowered_none ord a = tt

pub if_err : {A E : Type 0} (r : Result A E) (P : Type 0) → P → IfErr r (λ x. P)
if_err (Ok a) P h = tt
if_err (Err e) P h = h

-- products were handed out, and then again
pub hands_itself : (lim : ℕ) (v : WorkerView) → IsWorking lim v → HandsOut v v
hands_itself lim v w = record { works = works_itself lim v w; same = refl; less = omega arith }

pub hands_again : (a b c : WorkerView) → HandsOut a b → HandsOut b c → HandsOut a c
hands_again a b c f g = record {
  works = works_again a b c f.works g.works;
  same = g.same ∙ ap (λ (v : WorkerView). record v { state = record v.state { unread = c.state.unread; kept = c.state.kept } }) f.same;
  less = let x = f.less in let y = g.less in omega (arith, x, y);
}

-- the front and the first row stay
pub frontier_stays : (a b : WorkerView) (f : PlainFront) → HandsOut a b → IsFrontier a (Some f) → IsFrontier b (Some f)
unfolding IsFrontier worker_rows
frontier_stays a b f h k = subst (λ (v : WorkerView). IsFrontier v (Some f)) (sym h.same) (k.0, k.1, k.2, k.3)

pub frontier_again : {M : Type 0} (vector : M → List ℕ) (o : Option (Front M)) (a b : WorkerView) → o ≢ None → HandsOut a b → IsFrontier a (plain_front vector o) → IsFrontier b (plain_front vector o)
frontier_again vector None a b n h k = absurd (n refl)
frontier_again vector (Some f) a b n h k = frontier_stays a b (front_of vector f) h k

-- nothing but its products and the term that it keeps changed
pub hands_works : (lim : ℕ) (v : WorkerView) (unread kept : List Term) → IsWorking lim v → Works v (record v { state = record v.state { unread = unread; kept = kept } })
unfolding worker_rows
hands_works lim v unread kept w =
    let i = works_itself lim v w in record {
      division = refl;
      workers = refl;
      sends = record { ring = refl; worker = refl; sent = ([], append-nil v.state.sent); head = omega arith };
      looks = i.looks;
      known = i.known;
      learned = i.learned;
      idle = i.idle;
      row = refl;
      notes = i.notes;
      count = i.count;
      loads = i.loads;
      told = refl;
      front = i.front;
      room = λ h. h;
    }

-- notes were sent, or the writer saw more
pub sends_works : (lim : ℕ) (v : WorkerView) (kept : List Term) (notes : List Note) (head looks : ℕ) → IsWorking lim v → IsPrefix v.state.sent notes → v.head ≤ head → v.full_looks ≤ looks
    → Works v (record v { state = record v.state { kept = kept; sent = notes }; head = head; full_looks = looks })
unfolding worker_rows
sends_works lim v kept notes head looks w more rises looked =
    let i = works_itself lim v w in record {
      division = refl;
      workers = refl;
      sends = record { ring = refl; worker = refl; sent = more; head = rises };
      looks = looked;
      known = i.known;
      learned = i.learned;
      idle = i.idle;
      row = refl;
      notes = i.notes;
      count = i.count;
      loads = i.loads;
      told = refl;
      front = i.front;
      room = λ h. h;
    }

-- ---- the greatest product
has_each : (A : List Term) → All (λ (t : Term). has t.monomial A ≡ true) A
unfolding has
has_each [] = All-nil _
has_each (t ∷ A) =
    All-cons (λ (u : Term). has u.monomial (t ∷ A) ≡ true) t A (or_in_left (alike t.monomial t.monomial) (has t.monomial A) (alike_self t.monomial))
    (All-weaker (λ (u : Term). has u.monomial A ≡ true) (λ (u : Term). has u.monomial (t ∷ A) ≡ true) (λ u h. or_in_right (alike t.monomial u.monomial) (has u.monomial A) h) A (has_each A))

greatest_in : (ord : Order) (A : List Term) (x : List ℕ) → IsGreatest ord A x → has x A ≡ true
greatest_in ord A x g = subst (λ (y : List ℕ). has y A ≡ true) g.at (All-contains (λ (t : Term). has t.monomial A ≡ true) A g.some (has_each A) g.inside)

-- what the rows give as their top
pub top_of : {M : Type 0} (vector : M → List ℕ) (ord : Order) (U : List Term) (o : Option M) → MatchOption o (U ≡ []) (λ m. IsGreatest ord U (vector m)) → IsUnreadTop ord U (vector_of vector o)
unfolding IsUnreadTop
top_of vector ord U None h = h
top_of vector ord U (Some m) h = (greatest_in ord U (vector m) h, h.below)

-- what is handed out isn't nothing
some_out : (ord : Order) (a b : QuotientState) (t : Term) (out : HandOut ord a b t) → out.out.taken ≢ []
some_out ord a b t h e =
    let x = t.monomial in let P : Term → Type 0 = λ u. Below ord u.monomial x in
    let below : All P a.unread = All-permutation P b.unread a.unread (IsPermutation-sym a.unread b.unread (subst (λ (L : List Term). IsPermutation a.unread (L ++ b.unread)) e h.out.split)) (each_below ord x b.unread h.out.below) in
    (order_facts ord).irreflexive x (subst (λ (y : List ℕ). Below ord y x) h.greatest.at (All-contains P a.unread h.greatest.some below h.greatest.inside))

-- what is kept of a sum
pub kept_zero : (c : ℤ) (x : List ℕ) → c ≡ pos 0 → [] ≡ sum_at c x
unfolding sum_at is_zero
kept_zero c x e = sym (ap (λ (k : ℤ). sum_at k x) e)

pub kept_other : (t : Term) → t.coefficient ≢ pos 0 → t ∷ [] ≡ sum_at t.coefficient t.monomial
unfolding sum_at
kept_other t n = pick (is_zero t.coefficient) refl
  where
    pick : (b : Bool) → is_zero t.coefficient ≡ b → t ∷ [] ≡ cond b [] (t ∷ [])
    pick true e = absurd (n (is_zero_yes t.coefficient e))
    pick false e = refl

-- ---- a worker at first
none_passes : (lim : ℕ) (d : Division) → IsFit lim d → PassesBound d [] → ⊥
none_passes lim d f (inl h) = let k = f.dividend.norm_fits h.integers in let o = h.over in let z = norm_nil in omega (arith, k, o, ap (λ (m : ℕ). m * norm d.g) z)
none_passes lim d f (inr h) = omega (arith, h)

works_first : (lim W w : ℕ) (ring : RingName) (head looks : ℕ) (row : RowIdentity) (count loads : ℕ) (told : List RowNote) (spare : ℕ) → IsFit lim row.name.division → ring.script ≡ QuotientScript row.name.division W w → row.name.start ≡ 0
    → IsWorking lim (record {
      state = record { division = row.name.division; workers = W; worker = w; known = []; unread = []; kept = []; sent = [] };
      ring = ring;
      head = head;
      full_looks = looks;
      row = row;
      notes = [];
      count = count;
      loads = loads;
      told = told;
      front = None;
      spare = spare;
    })
unfolding worker_script RowCarryAfter IsLowered front_after row_terms
works_first lim W w ring head looks row count loads told spare fit script start = record {
  whole = worker_start row.name.division W w;
  fit = fit;
  script = script;
  row_division = refl;
  within = none_passes lim row.name.division fit;
  ahead = λ later e. tt;
  carried = tt;
  lowest = tt;
  fronted = λ n e. n refl;
  enough = λ r. omega (arith, start);
  paid = start_pays row.name.division W w;
}

pub divisor_some : (lim : ℕ) (d : Division) → IsFit lim d → d.g ≢ []
divisor_some lim d f = f.accepted.nonzero

pub lead_first : {M E : Type 0} (vector : M → List ℕ) (value : E → ℤ) (ts : List (TermOf M E)) (d : TermOf M E) → sum_of vector value ts ≢ [] → vector (get_or ts 0 d).mono ≡ lm (sum_of vector value ts)
unfolding lm
lead_first vector value [] d n = absurd (n refl)
lead_first vector value (t ∷ ts) d n = refl

module _ {X M E : Type 0} (vector : M → List ℕ) (value : E → ℤ) (belongs : ℕ → E → Type 0) (ord : Order) (n lim p worker : ℕ) (rows : QuotientState) (writer : Writer X M E) (reader : RowReader X M E) (lead : M) (marked : Mark M) where
  pub begins : IsWriting writer → IsLooking reader → (writer_name writer).script ≡ QuotientScript (reader_row reader).name.division (script_workers (writer_name writer).script) worker → IsFit lim (reader_row reader).name.division → (reader_row reader).name.division.ord ≡ ord
      → (reader_row reader).name.division.n ≡ n → rows.modulus ≡ (reader_row reader).name.division.p → rows.divisor ≡ (reader_row reader).name.division.g → rows.rows ≡ divisor_rows rows.divisor (script_workers (writer_name writer).script) worker → (reader_row reader).name.start ≡ 0
      → (rows.learned ≡ []) × (rows.unread ≡ []) → sent writer ≡ [] → IsNew reader → p ≡ rows.modulus → vector lead ≡ lm (reader_row reader).name.division.g → mark_of vector marked ≡ (0, None)
      → IsSender vector value belongs ord n lim p worker rows writer reader lead 0 None None marked
  unfolding worker_rows row_terms latest_mark mark_after
  begins writing looking script fit order variables modulus divisor are start none nothing fresh same lead_is mark = record {
    working = subst (IsWorking lim) path (works_first lim (script_workers (writer_name writer).script) worker (writer_name writer) (head_seen writer) (full_looks writer) (reader_row reader) (count_seen reader) (count_loads reader) (row_notes_of vector value (told_published reader)) rows.spare fit script start);
    writing = writing;
    looking = looking;
    ordered = ap (λ (d : Division). d.ord) division ∙ order;
    variables = ap (λ (d : Division). d.n) division ∙ variables;
    modulus = sym same;
    characteristic = ap (λ (d : Division). d.p) division ∙ sym modulus ∙ sym same;
    divisor = divisor ∙ ap (λ (d : Division). d.g) (sym division);
    rows_are = are ∙ ap (λ (G : List Term). divisor_rows G (script_workers (writer_name writer).script) worker) (divisor ∙ ap (λ (d : Division). d.g) (sym division));
    lead_is = lead_is ∙ ap (λ (d : Division). lm d.g) (sym division);
    place_is = let b : length (row_terms (row_notes_of vector value (known reader))) ≡ 0 = ap (λ (x : List (RowNoteOf M E)). length (row_terms (row_notes_of vector value x))) fresh.0 in omega (arith, start, b);
    mark_is = mark ∙ ap (λ (x : List (NoteOf M E)). latest_mark (notes_of vector value x)) (sym nothing);
    kept_belongs = tt;
  }
    where
      division : script_division (writer_name writer).script ≡ (reader_row reader).name.division
      division = ap script_division script

      path : record {
        state = record { division = (reader_row reader).name.division; workers = script_workers (writer_name writer).script; worker = worker; known = []; unread = []; kept = []; sent = [] };
        ring = writer_name writer;
        head = head_seen writer;
        full_looks = full_looks writer;
        row = reader_row reader;
        notes = [];
        count = count_seen reader;
        loads = count_loads reader;
        told = row_notes_of vector value (told_published reader);
        front = None;
        spare = rows.spare;
      } ≡ view_of vector value worker rows writer reader None None
      path = λ i. record (view_of vector value worker rows writer reader None None) {
        state = record { division = sym division i; workers = script_workers (writer_name writer).script; worker = worker; known = sym none.0 i; unread = sym none.1 i; kept = []; sent = notes_of vector value (sym nothing i) };
        notes = row_notes_of vector value (sym fresh.0 i);
      }

-- ---- the fields
module _ {X M E : Type 0} (vector : M → List ℕ) (value : E → ℤ) (belongs : ℕ → E → Type 0) (ord : Order) (n lim p worker : ℕ) (vars : (m : M) → length (vector m) ≡ n) (rows : QuotientState) (writer : Writer X M E) (reader : RowReader X M E) (lead : M) (place : ℕ) (front : Option (Front M)) (kept : Option (TermOf M E)) (marked : Mark M) (s : IsSender vector value belongs ord n lim p worker rows writer reader lead place front kept marked) where
  -- as the worker is seen
  abbrev V : WorkerView
  V = view_of vector value worker rows writer reader front kept

  front_vector : (k : ℕ) (o : Option (Front M)) → k ≡ n → IsFrontVector k (plain_front vector o)
  unfolding IsFrontVector
  front_vector k None e = tt
  front_vector k (Some f) e = vars f.mono ∙ sym e

  -- the lower of its front and some news
  pub hears : (news : PlainFront) (lower : Front M) → FrontFalls ord (plain_front vector front) (Some (front_of vector lower)) → FrontFalls ord (Some news) (Some (front_of vector lower))
      → ((d : Division) (later : List Term) → IsAhead d (plain_front vector front) later → IsAhead d (Some news) later → IsAhead d (Some (front_of vector lower)) later) → Hears V.state.division V.front news (front_of vector lower)
  hears news lower a b says = record {
    old_vector = front_vector V.state.division.n front s.variables;
    new_vector = front_vector V.state.division.n (Some lower) s.variables;
    falls = subst (λ (o : Order). FrontFalls o (plain_front vector front) (Some (front_of vector lower))) (sym s.ordered) a;
    falls_news = subst (λ (o : Order). FrontFalls o (Some news) (Some (front_of vector lower))) (sym s.ordered) b;
    says = says V.state.division;
  }

  -- the news of a term
  pub term_news : (t news : M) (c : E) → vector news ≡ vector t ⋅ vector lead → record { mono = vector news; is_strict = true } ≡ front_of_term V.state.division (term_of vector value (record { mono = t; coef = c }))
  term_news t news c e = λ i. record { mono = (e ∙ ap (λ (m : List ℕ). vector t ⋅ m) s.lead_is) i; is_strict = true }

  -- it learned the next quotient term
  pub learned : (rows' : QuotientState) (t : TermOf M E) (lower : Front M) → IsNextTerm V.state (term_of vector value t) → Learns vector value rows rows' t → Hears V.state.division V.front (front_of_term V.state.division (term_of vector value t)) (front_of vector lower)
      → IsSender vector value belongs ord n lim p worker rows' writer reader lead place (Some lower) kept marked
  unfolding worker_rows
  learned rows' t lower next l h = record {
    working = subst (λ (L : List Term). IsWorking lim (record V { state = record V.state { known = L; unread = rows'.unread }; front = Some (front_of vector lower); spare = rows'.spare })) (sym l.learned)
        (learns lim V (term_of vector value t) rows'.unread (front_of vector lower) rows'.spare s.working next.begins next.within (subst (λ (G : List Term). IsPermutation (rows.unread ++ row (term_of vector value t) G) rows'.unread) s.rows_are l.unread) h);
    writing = s.writing;
    looking = s.looking;
    ordered = s.ordered;
    variables = s.variables;
    modulus = ap (λ (q : QuotientState). q.modulus) l.same ∙ s.modulus;
    characteristic = s.characteristic;
    divisor = ap (λ (q : QuotientState). q.divisor) l.same ∙ s.divisor;
    rows_are = ap (λ (q : QuotientState). q.rows) l.same ∙ s.rows_are;
    lead_is = s.lead_is;
    place_is = s.place_is;
    mark_is = s.mark_is;
    kept_belongs = s.kept_belongs;
  }

  -- the rows may learn it
  pub may_learn_next : (t : TermOf M E) → IsNextTerm V.state (term_of vector value t) → Decreasing ord (rows.learned ++ term_of vector value t ∷ []) × (degree (vector t.mono) + degree (lm rows.divisor) ≤ lim) × (rows.modulus ≡ 0 → norm (rows.learned ++ term_of vector value t ∷ []) * norm rows.divisor ≤ greatest_norm)
  may_learn_next t next =
      let T = term_of vector value t in (
        subst (λ (o : Order). Decreasing o (rows.learned ++ T ∷ [])) s.ordered (next_falls lim V T s.working next),
        subst (λ (G : List Term). degree T.monomial + degree (lm G) ≤ lim) (sym s.divisor) (next_low lim V T s.working next),
        λ z. subst (λ (G : List Term). norm (rows.learned ++ T ∷ []) * norm G ≤ greatest_norm) (sym s.divisor) (next_fits V T next (s.characteristic ∙ sym s.modulus ∙ z)),
      )

  -- it took over a front
  pub lowered : (news : PlainFront) (lower : Front M) → ((later : List Term) → V.state.known ++ later ≡ quotient_list V.state.division → IsAhead V.state.division (Some news) later) → Hears V.state.division V.front news (front_of vector lower)
      → IsSender vector value belongs ord n lim p worker rows writer reader lead place (Some lower) kept marked
  unfolding worker_rows
  lowered news lower holds h = record {
    working = takes_front lim V news (front_of vector lower) s.working holds h;
    writing = s.writing;
    looking = s.looking;
    ordered = s.ordered;
    variables = s.variables;
    modulus = s.modulus;
    characteristic = s.characteristic;
    divisor = s.divisor;
    rows_are = s.rows_are;
    lead_is = s.lead_is;
    place_is = s.place_is;
    mark_is = s.mark_is;
    kept_belongs = s.kept_belongs;
  }

  -- it handed out its greatest products
  module _ (rows' : QuotientState) (t : TermOf M E) (kept' : Option (TermOf M E)) (out : HandOut ord rows rows' (term_of vector value t)) where
    abbrev W : WorkerView
    W = view_of vector value worker rows' writer reader front kept'

    pub handed : V.state.kept ≡ [] → MayHand V → kept_terms vector value kept' ≡ sum_at (value t.coef) (vector t.mono) → KeptBelongs (belongs p) kept' → IsSender vector value belongs ord n lim p worker rows' writer reader lead place front kept' marked
    unfolding worker_rows
    handed none may keeps mine = record {
      working = subst (IsWorking lim) path
          (hands_out lim V (vector t.mono) out.out.taken rows'.unread (front_vector V.state.division.n front s.variables) s.working none (vars t.mono ∙ sym s.variables) out.out.split out.out.at
          (subst (λ (o : Order). AllBelow o (vector t.mono) rows'.unread) (sym s.ordered) out.out.below) (some_out ord rows rows' (term_of vector value t) out) past);
      writing = s.writing;
      looking = s.looking;
      ordered = s.ordered;
      variables = s.variables;
      modulus = ap (λ (q : QuotientState). q.modulus) out.same ∙ s.modulus;
      characteristic = s.characteristic;
      divisor = ap (λ (q : QuotientState). q.divisor) out.same ∙ s.divisor;
      rows_are = ap (λ (q : QuotientState). q.rows) out.same ∙ s.rows_are;
      lead_is = s.lead_is;
      place_is = s.place_is;
      mark_is = s.mark_is;
      kept_belongs = mine;
    }
      where
        sum : sum_at (coef V.state.division.p rows.unread (vector t.mono)) (vector t.mono) ≡ kept_terms vector value kept'
        sum = ap (λ (k : ℕ). sum_at (coef k rows.unread (vector t.mono)) (vector t.mono)) (s.characteristic ∙ sym s.modulus) ∙ ap (λ (c : ℤ). sum_at c (vector t.mono)) (sym out.out.sum) ∙ sym keeps

        path : record V { state = record V.state { unread = rows'.unread; kept = sum_at (coef V.state.division.p rows.unread (vector t.mono)) (vector t.mono) } } ≡ W
        path = λ i. record V { state = record V.state { known = (ap (λ (q : QuotientState). q.learned) (sym out.same)) i; unread = rows'.unread; kept = sum i }; spare = (ap (λ (q : QuotientState). q.spare) (sym out.same)) i }

        top_is : may.top ≡ vector t.mono
        top_is =
            let e = top_one V.state.division.ord rows.unread (Some may.top) (Some (vector t.mono)) may.is_top (subst (λ (o : Order). IsUnreadTop o rows.unread (Some (vector t.mono))) (sym s.ordered) (top_of vector ord rows.unread (Some t.mono) out.greatest)) in
            cc e

        past : IsPast V.state.division (worker_rows V.state) V.front (vector t.mono)
        past = subst (IsPast V.state.division (worker_rows V.state) V.front) top_is may.past

    pub fewer : length rows'.unread < length rows.unread
    fewer =
        let l = length_permutation rows.unread (out.out.taken ++ rows'.unread) out.out.split in let k = length-append out.out.taken rows'.unread in
        let m = some_length out.out.taken (some_out ord rows rows' (term_of vector value t) out) in omega (arith, l, k, m)

    pub handed_out : HandsOut V W
    handed_out = record {
      works = subst (Works V) same (hands_works lim V rows'.unread (kept_terms vector value kept') s.working);
      same = sym same;
      less = let l = length_permutation rows.unread (out.out.taken ++ rows'.unread) out.out.split in let k = length-append out.out.taken rows'.unread in omega (arith, l, k);
    }
      where
        same : record V { state = record V.state { unread = rows'.unread; kept = kept_terms vector value kept' } } ≡ W
        same = λ i. record V { state = record V.state { known = (ap (λ (q : QuotientState). q.learned) (sym out.same)) i; unread = rows'.unread; kept = kept_terms vector value kept' }; spare = (ap (λ (q : QuotientState). q.spare) (sym out.same)) i }

  -- it hands out nothing where it holds nothing
  pub not_empty : MayHand V → rows.unread ≡ [] → ⊥
  unfolding IsUnreadTop
  not_empty may none = has_nothing may.top rows.unread none may.is_top.0

  -- the greatest product, as the rows give it
  pub own_top : (o : Option M) → MatchOption o (rows.unread ≡ []) (λ m. IsGreatest ord rows.unread (vector m)) → IsUnreadTop V.state.division.ord rows.unread (vector_of vector o)
  own_top o h = subst (λ (k : Order). IsUnreadTop k rows.unread (vector_of vector o)) (sym s.ordered) (top_of vector ord rows.unread o h)

  -- what is past the frontier, as the code tests it
  pub own_past : (b : Bool) (m x : List ℕ) → IsPastBy b ord m (x ⋅ vector lead) → IsPastBy b V.state.division.ord m (x ⋅ lm V.state.division.g)
  own_past b m x h = subst (λ (k : Order). IsPastBy b k m (x ⋅ lm V.state.division.g)) (sym s.ordered) (subst (λ (l : List ℕ). IsPastBy b ord m (x ⋅ l)) s.lead_is h)

  pub past_own : (b : Bool) (m x : List ℕ) → IsPastBy b V.state.division.ord m (x ⋅ lm V.state.division.g) → IsPastBy b ord m (x ⋅ vector lead)
  past_own b m x h = subst (λ (l : List ℕ). IsPastBy b ord m (x ⋅ l)) (sym s.lead_is) (subst (λ (k : Order). IsPastBy b k m (x ⋅ lm V.state.division.g)) s.ordered h)

  pub own_length : (a x : M) → length (vector a) ≡ length (vector x ⋅ lm V.state.division.g)
  own_length a x = vars a ∙ sym (vars x) ∙ sym (length_times (vector x) (lm V.state.division.g) (vars x ∙ sym (vars lead) ∙ ap (λ (m : List ℕ). length m) s.lead_is))

  -- ---- what it sends
  -- its writer with one note more or with none; the head that it saw rose, or how often it was refused
  module _ (writer' : Writer X M E) (kept' : Option (TermOf M E)) (marked' : Mark M) (name : writer_name writer' ≡ writer_name writer) (writing : IsWriting writer') where
    abbrev U : WorkerView
    U = view_of vector value worker rows writer' reader front kept'

    script_same : (writer_name writer').script ≡ (writer_name writer).script
    script_same = ap (λ (r : RingName). r.script) name

    pub seen_so : (notes : List Note) (kept_is : List Term) → notes_of vector value (sent writer') ≡ notes → kept_terms vector value kept' ≡ kept_is
        → record V { state = record V.state { kept = kept_is; sent = notes }; head = head_seen writer'; full_looks = full_looks writer' } ≡ U
    seen_so notes kept_is e k = λ i. record V {
      state = record V.state { division = script_division (sym script_same i); workers = script_workers (sym script_same i); kept = sym k i; sent = sym e i };
      ring = sym name i;
      head = head_seen writer';
      full_looks = full_looks writer';
    }

    pub with_writer : IsWorking lim U → mark_of vector marked' ≡ latest_mark (notes_of vector value (sent writer')) → KeptBelongs (belongs p) kept' → IsSender vector value belongs ord n lim p worker rows writer' reader lead place front kept' marked'
    unfolding worker_rows
    with_writer w mark mine = record {
      working = w;
      writing = writing;
      looking = s.looking;
      ordered = ap (λ (x : Script). (script_division x).ord) script_same ∙ s.ordered;
      variables = ap (λ (x : Script). (script_division x).n) script_same ∙ s.variables;
      modulus = s.modulus;
      characteristic = ap (λ (x : Script). (script_division x).p) script_same ∙ s.characteristic;
      divisor = s.divisor ∙ ap (λ (x : Script). (script_division x).g) (sym script_same);
      rows_are = s.rows_are ∙ ap (λ (x : Script). divisor_rows (script_division x).g (script_workers x) worker) (sym script_same);
      lead_is = s.lead_is ∙ ap (λ (x : Script). lm (script_division x).g) (sym script_same);
      place_is = s.place_is;
      mark_is = mark;
      kept_belongs = mine;
    }

  -- its ring
  own_script : (writer_name writer).script ≡ worker_script V.state
  own_script = s.working.script

  module _ (ring : Ring X M E) (u : WorkerView) (view : V ≡ u) (e : ring_name ring ≡ u.ring) where
    own_name : writer_name writer ≡ ring_name ring
    own_name = ap (λ (v : WorkerView). v.ring) view ∙ sym e

    pub writes_own : IsWriterOf ring writer
    writes_own = (s.writing, ap (λ (r : RingName). r.table) own_name, ap (λ (r : RingName). r.script) own_name, ap (λ (r : RingName). r.places) own_name)

    pub name_stays : (writer' : Writer X M E) → IsWriterOf ring writer' → writer_name writer' ≡ writer_name writer
    name_stays writer' h = (λ i. record { table = h.1 i; script = h.2 i; places = h.3 i }) ∙ sym own_name

    script_own : worker_script V.state ≡ script_in ring
    script_own = sym own_script ∙ ap (λ (r : RingName). r.script) own_name

    pub fits_term : (t : TermOf M E) → belongs u.state.division.p t.coef → Fits belongs (script_in ring) (note.Term t)
    unfolding worker_script
    fits_term t mine = subst (λ (k : ℕ). belongs k t.coef) (ap (λ (v : WorkerView). v.state.division.p) (sym view) ∙ ap modulus_of script_own) mine

    pub carries_own : (x : NoteOf M E) → MayFollow (worker_script V.state) V.state.sent (note_of vector value x) → Carries vector value (script_in ring) (sent writer ++ x ∷ [])
    carries_own x may =
        subst (λ (k : Script). Carry k (notes_of vector value (sent writer ++ x ∷ []))) script_own
        (subst (Carry (worker_script V.state)) (sym (map-append (note_of vector value) (sent writer) (x ∷ []))) (Carry-push (worker_script V.state) V.state.sent (note_of vector value x) s.working.whole.carried may))

  note_of_mark : (m : Mark M) → note_of vector value (note.Mark m.known m.top) ≡ MarkNote m.known (vector_of vector m.top)
  note_of_mark m = pick m.top refl
    where
      pick : (o : Option M) → m.top ≡ o → note_of vector value (note.Mark m.known m.top) ≡ MarkNote m.known (vector_of vector m.top)
      pick None e = subst (λ (o : Option M). note_of vector value (note.Mark m.known o) ≡ MarkNote m.known (vector_of vector o)) (sym e) refl
      pick (Some x) e = subst (λ (o : Option M). note_of vector value (note.Mark m.known o) ≡ MarkNote m.known (vector_of vector o)) (sym e) refl

  pub may_send_kept : (t : TermOf M E) → V.state.kept ≡ term_of vector value t ∷ [] → MayFollow (worker_script V.state) V.state.sent (note_of vector value (note.Term t))
  may_send_kept t one = may_send_term lim V (term_of vector value t) s.working one

  -- it may send a mark that tells something new
  module _ (m : Mark M) (none : V.state.kept ≡ []) (tells : IsMarkOf V (mark_of vector m)) (new : mark_of vector m ≡ mark_of vector marked → ⊥) where
    rises : latest_mark V.state.sent ≡ (length V.state.known, vector_of vector m.top) → ⊥
    rises h = new ((λ i. (tells.0 i, vector_of vector m.top)) ∙ sym h ∙ sym s.mark_is)

    note_is : MarkNote (length V.state.known) (vector_of vector m.top) ≡ note_of vector value (note.Mark m.known m.top)
    note_is = ap (λ (k : ℕ). MarkNote k (vector_of vector m.top)) (sym tells.0) ∙ sym (note_of_mark m)

    pub may_send_new : MayFollow (worker_script V.state) V.state.sent (note_of vector value (note.Mark m.known m.top))
    may_send_new = subst (MayFollow (worker_script V.state) V.state.sent) note_is (may_send_mark lim V (vector_of vector m.top) s.working none tells.1 rises)

    pub new_mark_sent : (writer' : Writer X M E) → writer_name writer' ≡ writer_name writer → IsWriting writer' → sent writer' ≡ sent writer ++ note.Mark m.known m.top ∷ []
        → IsSender vector value belongs ord n lim p worker rows writer' reader lead place front kept m
    new_mark_sent writer' name writing e =
        let notes : notes_of vector value (sent writer') ≡ V.state.sent ++ MarkNote (length V.state.known) (vector_of vector m.top) ∷ [] =
        ap (notes_of vector value) e ∙ map-append (note_of vector value) (sent writer) (note.Mark m.known m.top ∷ []) ∙ ap (λ (x : Note). V.state.sent ++ x ∷ []) (sym note_is) in
        with_writer writer' kept m name writing
        (subst (IsWorking lim) (seen_so writer' kept m name writing (V.state.sent ++ MarkNote (length V.state.known) (vector_of vector m.top) ∷ []) (kept_terms vector value kept) notes refl)
        (sends_mark lim V (vector_of vector m.top) (head_seen writer') (full_looks writer') s.working none tells.1 rises))
        ((λ i. (tells.0 i, vector_of vector m.top)) ∙ sym (ap latest_mark notes ∙ latest_new V.state.sent (length V.state.known) (vector_of vector m.top))) s.kept_belongs

    pub pushes_mark : (writer' : Writer X M E) → writer_name writer' ≡ writer_name writer → IsWriting writer' → sent writer' ≡ sent writer ++ note.Mark m.known m.top ∷ [] → head_seen writer ≤ head_seen writer' → full_looks writer' ≡ full_looks writer
        → Pushes V (view_of vector value worker rows writer' reader front kept)
    pushes_mark writer' name writing e head looks =
        let more = map-append (note_of vector value) (sent writer) (note.Mark m.known m.top ∷ []) in
        let after : notes_of vector value (sent writer') ≡ V.state.sent ++ note_of vector value (note.Mark m.known m.top) ∷ [] = ap (notes_of vector value) e ∙ more in
        record {
          works = subst (Works V) (seen_so writer' kept m name writing (notes_of vector value (sent writer')) (kept_terms vector value kept) refl refl)
              (sends_works lim V (kept_terms vector value kept) (notes_of vector value (sent writer')) (head_seen writer') (full_looks writer') s.working (note_of vector value (note.Mark m.known m.top) ∷ [], sym after) head (omega (arith, looks)));
          same = sym (seen_so writer' kept m name writing (notes_of vector value (sent writer')) [] refl none);
          marked = λ z. record {
            top = vector_of vector m.top;
            mark = ap latest_mark (after ∙ ap (λ (x : Note). V.state.sent ++ x ∷ []) (sym note_is)) ∙ latest_new V.state.sent (length V.state.known) (vector_of vector m.top);
            is_top = subst (λ (k : Order). IsUnreadTop k rows.unread (vector_of vector m.top)) (ap (λ (x : Script). (script_division x).ord) (sym (ap (λ (r : RingName). r.script) name))) tells.1;
          };
        }

  -- its latest mark says all
  pub pushes_nothing : (m : Mark M) → V.state.kept ≡ [] → IsMarkOf V (mark_of vector m) → mark_of vector m ≡ mark_of vector marked → Pushes V V
  pushes_nothing m none tells same = record {
    works = works_itself lim V s.working;
    same = λ i. record V { state = record V.state { kept = none i } };
    marked = λ z. record { top = vector_of vector m.top; mark = sym s.mark_is ∙ sym same ∙ (λ i. (tells.0 i, vector_of vector m.top)); is_top = tells.1 };
  }

  -- the term that is kept was sent
  module _ (t : TermOf M E) (one : V.state.kept ≡ term_of vector value t ∷ []) (writer' : Writer X M E) (name : writer_name writer' ≡ writer_name writer) (writing : IsWriting writer') (e : sent writer' ≡ sent writer ++ note.Term t ∷ []) where
    term_after : notes_of vector value (sent writer') ≡ V.state.sent ++ TermNote (term_of vector value t) ∷ []
    term_after = ap (notes_of vector value) e ∙ map-append (note_of vector value) (sent writer) (note.Term t ∷ [])

    pub kept_sent : IsSender vector value belongs ord n lim p worker rows writer' reader lead place front None marked
    kept_sent =
        with_writer writer' None marked name writing
        (subst (IsWorking lim) (seen_so writer' None marked name writing (V.state.sent ++ TermNote (term_of vector value t) ∷ []) [] term_after refl) (sends_term lim V (term_of vector value t) (head_seen writer') (full_looks writer') s.working one))
        (s.mark_is ∙ sym (ap latest_mark term_after ∙ latest_term V.state.sent (term_of vector value t))) tt

    pub pushes_term : head_seen writer ≤ head_seen writer' → full_looks writer' ≡ full_looks writer → Pushes V (view_of vector value worker rows writer' reader front None)
    pushes_term head looks = record {
      works = subst (Works V) (seen_so writer' None marked name writing (notes_of vector value (sent writer')) [] refl refl)
          (sends_works lim V [] (notes_of vector value (sent writer')) (head_seen writer') (full_looks writer') s.working (TermNote (term_of vector value t) ∷ [], sym term_after) head (omega (arith, looks)));
      same = sym (seen_so writer' None marked name writing (notes_of vector value (sent writer')) [] refl refl);
      marked = λ none. absurd (let k : term_of vector value t ∷ [] ≡ [] = sym one ∙ none in cc k);
    }

  -- a note was refused
  module _ (writer' : Writer X M E) (name : writer_name writer' ≡ writer_name writer) (writing : IsWriting writer') (e : sent writer' ≡ sent writer) where
    pub none_sent : IsSender vector value belongs ord n lim p worker rows writer' reader lead place front kept marked
    none_sent =
        with_writer writer' kept marked name writing
        (subst (IsWorking lim) (seen_so writer' kept marked name writing V.state.sent (kept_terms vector value kept) (ap (notes_of vector value) e) refl) (ends_change lim V (head_seen writer') (full_looks writer') V.count V.loads V.told s.working))
        (s.mark_is ∙ sym (ap (λ (x : List (NoteOf M E)). latest_mark (notes_of vector value x)) e)) s.kept_belongs

    pub refuses : (places : ℕ) → (writer_name writer').places ≡ places → head_seen writer ≤ head_seen writer' → full_looks writer' ≡ full_looks writer + 1 → LeavesNoRoom (head_seen writer') places (length (sent writer)) → Refuses V (view_of vector value worker rows writer' reader front kept)
    refuses places named head looks full = record {
      works = subst (Works V) path (sends_works lim V (kept_terms vector value kept) V.state.sent (head_seen writer') (full_looks writer') s.working ([], append-nil V.state.sent) head (omega (arith, looks)));
      same = sym path;
      refused = subst (λ (k : ℕ). LeavesNoRoom (head_seen writer') k (length (notes_of vector value (sent writer')))) (sym named) (subst (λ (k : ℕ). LeavesNoRoom (head_seen writer') places k) long full);
      was = omega (arith, looks);
    }
      where
        path : record V { state = record V.state { kept = kept_terms vector value kept; sent = V.state.sent }; head = head_seen writer'; full_looks = full_looks writer' } ≡ view_of vector value worker rows writer' reader front kept
        path = seen_so writer' kept marked name writing V.state.sent (kept_terms vector value kept) (ap (notes_of vector value) e) refl

        long : length (sent writer) ≡ length (notes_of vector value (sent writer'))
        long = ap (λ (x : List (NoteOf M E)). length x) (sym e) ∙ sym (length-map (sent writer') (note_of vector value))
