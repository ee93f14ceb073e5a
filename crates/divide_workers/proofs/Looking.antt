-- A look at the row, as a dividing worker makes it.
use Rattle.std.proofs.Common.{◌≡◌, inr, ℕ, ◌+◌, ◌^◌, ◌<◌, ◌≤◌, max, true, false, ℤ, List, [], ◌∷◌, ◌++◌, length, get_or, Option, Some, refl, sym, ap, ◌∙◌, subst, arith, All, IsPermutation, append-nil}
use Rattle.std.proofs.lemmas.List.Elements.{All-head}
use Rattle.std.proofs.lemmas.List.{map-append, length-map, length_push, get_or-map}
use mathlib.Core.List.{IsPrefix}
use Rattle.sdmp_laws.specs.Order.{Order, ◌⋅◌, degree}
use Rattle.sdmp_laws.specs.Poly.{Term, row, lm}
use Rattle.sdmp_laws.specs.Division.{Division}
use Rattle.sdmp_laws.specs.LongDivision.{quotient_list}
use Rattle.sdmp_laws.proofs.OrderLemmas.{numbers, Three, is_less, is_equal, is_greater}
use Rattle.sdmp_laws.proofs.ListLemmas.{All-front, All-back}
use Rattle.whole_laws.specs.Notes.{divisor_rows}
use Rattle.divide_wholes.specs.Row.{RowNote, RowTerm, RowFront, row_terms, known_after, RowMayFollow, RowCarry}
use Rattle.divide_wholes.specs.Workers.{WorkerState, worker_rows}
use Rattle.divide_wholes.proofs.RowLemmas.{row_terms-front}
use Rattle.row_merge.specs.Learned.{QuotientState}
use Rattle.row_merge.proofs.LearnedRows.{lead_degree}
use Rattle.canonical_terms.specs.View.{term_of, sum_of}
use Rattle.canonical_terms.specs.declared.term.TermOf.{TermOf}
use Rattle.term_ring.specs.declared.ring.Writer.{Writer}
use Rattle.quotient_row.specs.Names.{RowName}
use Rattle.quotient_row.specs.Legal.{Fits, Legal}
use Rattle.quotient_row.specs.Ends.{IsReaderOf, name_of, places_of, known, count_seen, count_loads, told_published}
use Rattle.quotient_row.specs.Spelling.{note_of, notes_of}
use Rattle.quotient_row.specs.declared.note.RowNoteOf.{RowNoteOf}
use Rattle.quotient_row.specs.declared.note.RowNoteOf.TheVariants as note
use Rattle.quotient_row.specs.declared.row.Row.{Row}
use Rattle.quotient_row.specs.declared.row.RowReader.{RowReader}
use Rattle.quotient_row.proofs.Carrying.{terms_are_next}
use Rattle.divide_merge.specs.Names.{RowIdentity, row_identity, reader_row}
use Rattle.divide_workers.specs.Fronts.{PlainFront, front_of, plain_front, FrontFalls}
use Rattle.divide_workers.specs.Paying.{HasRows}
use Rattle.divide_workers.specs.Views.{WorkerView}
use Rattle.divide_workers.specs.Working.{IsWorking, HasRoom}
use Rattle.divide_workers.specs.Inside.{view_of, IsSender}
use Rattle.divide_workers.specs.Steps.{Works, FindsNothing, LearnsMore, IsNextTerm, IsBegun}
use Rattle.divide_workers.specs.Learning.{MayLearn, Learns, LearnsOnce, CanTakeIn, TakesIn}
use Rattle.divide_workers.specs.declared.front.Front.{Front}
use Rattle.divide_workers.specs.declared.mark.Mark.{Mark}
use Rattle.divide_workers.proofs.Falling.{falls_itself}
use Rattle.divide_workers.proofs.Ahead.{quotient_low, followed}
use Rattle.divide_workers.proofs.Stepping.{Hears, front_of_term, one_more_term, learns, next_term, hears_term, hears_front, ends_change}
use Rattle.divide_workers.proofs.Fields.{may_learn_next, next_found}
use Rattle.divide_workers.proofs.Working.{known_below}

-- ---- what always holds of it
-- a front that fell by some news falls no more by them
hears_again : (d : Division) (old : Option PlainFront) (news new : PlainFront) → Hears d old news new → Hears d (Some new) news new
hears_again d old news new h = record { old_vector = h.new_vector; new_vector = h.new_vector; falls = falls_itself d.ord (Some new); falls_news = h.falls_news; says = λ later a b. a }

-- it heard one note more, and learned the term that this told
pub record Heard (lim place : ℕ) (a b : WorkerView) : Type 0 where
  pub working : IsWorking lim b
  pub place_is : place ≡ b.row.name.start + length (row_terms b.notes)
  pub works : Works a b
  pub more : length b.notes ≡ length a.notes + 1

-- it learned terms, and heard notes
hears_works : (v : WorkerView) (known unread : List Term) (notes : List RowNote) (count loads : ℕ) (front : Option PlainFront) (spare : ℕ) → HasRows v.state → IsPrefix v.state.known known → length known ≡ max (length v.state.known) (v.row.name.start + length (row_terms notes))
    → IsPrefix v.notes notes → v.count ≤ count → v.loads ≤ loads → FrontFalls v.state.division.ord v.front front → length v.notes + v.spare ≤ length notes + spare
    → Works v (record v { state = record v.state { known = known; unread = unread }; notes = notes; count = count; loads = loads; front = front; spare = spare })
unfolding worker_rows
hears_works v known unread notes count loads front spare r more learned told c l falls room = record {
  division = refl;
  workers = refl;
  sends = record { ring = refl; worker = refl; sent = ([], append-nil v.state.sent); head = omega arith };
  looks = omega arith;
  known = more;
  learned = λ k. learned;
  idle = λ k. absurd (k r);
  row = refl;
  notes = told;
  count = c;
  loads = l;
  told = refl;
  front = falls;
  room = λ h k. let j = h r in omega (arith, j, room);
}

module _ (lim : ℕ) (v : WorkerView) (w : IsWorking lim v) (r : HasRows v.state) (count loads place : ℕ) (more : v.count ≤ count) (again : v.loads ≤ loads) (front : PlainFront) where
  -- the row tells the next quotient term
  heard_next : (t : Term) (unread : List Term) (spare : ℕ) → RowCarry v.state.division v.row.name.start (v.notes ++ RowTerm t ∷ []) → v.row.name.start + length (row_terms v.notes) ≡ length v.state.known
      → IsPermutation (v.state.unread ++ row t (worker_rows v.state)) unread → Hears v.state.division v.front (front_of_term v.state.division t) front → v.spare ≡ spare + 1 → place ≡ v.row.name.start + length (row_terms v.notes) + 1
      → Heard lim place v (record v { state = record v.state { known = v.state.known ++ t ∷ []; unread = unread }; notes = v.notes ++ RowTerm t ∷ []; count = count; loads = loads; front = Some front; spare = spare })
  heard_next t unread spare c e h hears room at =
      let i = next_term lim v t w c e in
      let l = length_push v.state.known t in let m = one_more_term v.notes t in let k = length_push v.notes (RowTerm t) in record {
        working = hears_term lim (record v { state = record v.state { known = v.state.known ++ t ∷ []; unread = unread }; front = Some front; spare = spare }) t front count loads spare (learns lim v t unread front spare w i.0 i.1 h hears) c (omega (arith, l, e))
            (hears_again v.state.division v.front (front_of_term v.state.division t) front hears);
        place_is = omega (arith, m, at);
        works = hears_works v (v.state.known ++ t ∷ []) unread (v.notes ++ RowTerm t ∷ []) count loads (Some front) spare r (t ∷ [], refl) (omega (arith, l, m, e)) (RowTerm t ∷ [], refl) more again hears.falls (omega (arith, k, room));
        more = k;
      }

  -- it tells a term that the worker knows
  heard_known : (t : Term) → RowCarry v.state.division v.row.name.start (v.notes ++ RowTerm t ∷ []) → v.row.name.start + length (row_terms v.notes) < length v.state.known
      → Hears v.state.division v.front (front_of_term v.state.division t) front → place ≡ v.row.name.start + length (row_terms v.notes) + 1
      → Heard lim place v (record v { notes = v.notes ++ RowTerm t ∷ []; count = count; loads = loads; front = Some front })
  heard_known t c below hears at =
      let m = one_more_term v.notes t in let k = length_push v.notes (RowTerm t) in record {
        working = hears_term lim v t front count loads v.spare w c below hears;
        place_is = omega (arith, m, at);
        works = hears_works v v.state.known v.state.unread (v.notes ++ RowTerm t ∷ []) count loads (Some front) v.spare r ([], append-nil v.state.known) (omega (arith, m, below)) (RowTerm t ∷ [], refl) more again hears.falls (omega (arith, k));
        more = k;
      }

  -- it tells a front
  heard_front : (m : List ℕ) → RowCarry v.state.division v.row.name.start (v.notes ++ RowFront m ∷ []) → Hears v.state.division v.front (record { mono = m; is_strict = false }) front → place ≡ v.row.name.start + length (row_terms v.notes)
      → Heard lim place v (record v { notes = v.notes ++ RowFront m ∷ []; count = count; loads = loads; front = Some front })
  heard_front m c hears at =
      let e : length (row_terms (v.notes ++ RowFront m ∷ [])) ≡ length (row_terms v.notes) = ap (λ (L : List Term). length L) (row_terms-front v.notes m) in
      let k = length_push v.notes (RowFront m) in let few = w.enough r in record {
        working = hears_front lim v m front count loads v.spare w r c hears (terms_are_next v.state.division v.row.name.start v.notes w.carried).0;
        place_is = omega (arith, e, at);
        works = hears_works v v.state.known v.state.unread (v.notes ++ RowFront m ∷ []) count loads (Some front) v.spare r ([], append-nil v.state.known) (omega (arith, e, few)) (RowFront m ∷ [], refl) more again hears.falls (omega (arith, k));
        more = k;
      }

-- ---- one step after another
pub rows_stay : (a b : WorkerView) → Works a b → HasRows a.state → HasRows b.state
unfolding worker_rows
rows_stay a b w r e = r (sym alike ∙ e)
  where
    alike : worker_rows b.state ≡ worker_rows a.state
    alike = λ i. divisor_rows (w.division i).g (w.workers i) (w.sends.worker i)

-- of the quotient terms that were found the next one may be learned
pub next_at : {M E : Type 0} (vector : M → List ℕ) (value : E → ℤ) (s : WorkerState) (q : List (TermOf M E)) (k : ℕ) (t : TermOf M E) → IsPrefix s.known (quotient_list s.division) → IsBegun s.division (sum_of vector value q) → length s.known ≡ k → k < length q → t ≡ get_or q k t
    → IsNextTerm s (term_of vector value t)
next_at {M = M} {E = E} vector value s q k t knows begun e l is =
    let f : TermOf M E → Term = term_of vector value in
    let at : get_or (sum_of vector value q) k (f t) ≡ f t = get_or-map f q k t (f t) l ∙ ap f (sym is) in
    let m = length-map q f in subst (IsNextTerm s) at (next_found s (sum_of vector value q) (f t) k knows begun e (omega (arith, l, m)))

-- the terms that were found stay that
pub begun_still : (a b : WorkerView) (q : List Term) → LearnsMore a b → IsBegun a.state.division q → IsBegun b.state.division q
begun_still a b q m h = subst (λ (d : Division). IsBegun d q) (sym (ap (λ (v : WorkerView). v.state.division) m.same)) h

-- what it knows then begins the quotient still
pub knows_more : (a b : WorkerView) (t : Term) → LearnsMore a b → b.state.known ≡ a.state.known ++ t ∷ [] → IsNextTerm a.state t → IsPrefix b.state.known (quotient_list b.state.division)
knows_more a b t m e n =
    subst (λ (d : Division). IsPrefix b.state.known (quotient_list d)) (sym (ap (λ (v : WorkerView). v.state.division) m.same)) (subst (λ (K : List Term). IsPrefix K (quotient_list a.state.division)) (sym e) n.begins)

-- ---- bounds
-- a term that the row tells has a degree within the limit
told_low : (lim : ℕ) (v : WorkerView) (t : Term) → IsWorking lim v → RowCarry v.state.division v.row.name.start (v.notes ++ RowTerm t ∷ []) → degree t.monomial ≤ lim
unfolding RowMayFollow
told_low lim v t w c =
    let d = v.state.division in let before = known_after d v.row.name.start v.notes in
    let may = followed d v.row.name.start v.notes (RowTerm t) c in
    let P : Term → Type 0 = λ u. degree u.monomial + degree (lm d.g) ≤ degree (lm d.f) in
    let all : All P (before ++ t ∷ []) = All-front P (before ++ t ∷ []) may.0.0 (subst (λ (Q : List Term). All P Q) (sym may.0.1) (quotient_low d w.fit.accepted)) in
    let one : P t = All-head P t [] (All-back P before (t ∷ []) all) in
    let low = lead_degree lim d.f w.fit.dividend.degrees in omega (arith, one, low)

few_known : (lim : ℕ) (v : WorkerView) → IsWorking lim v → length v.state.known < 2 ^ 30
few_known lim v w = known_below (length v.state.known) (λ h. w.within (inr h))

-- ---- the fields
-- the reader of the row looked, and found the note x
pub record Found {X M E : Type 0} (vector : M → List ℕ) (value : E → ℤ) (belongs : ℕ → E → Type 0) (row : Row X M E) (a b : RowReader X M E) (x : RowNoteOf M E) : Type 0 where
  pub of : IsReaderOf row b
  pub notes : known b ≡ known a ++ x ∷ []
  pub count : count_seen a ≤ count_seen b
  pub within : count_seen b ≤ places_of row
  pub found : length (known a) < count_seen b
  pub loads : count_loads b ≡ count_loads a + 1
  pub told : told_published b ≡ told_published a
  pub fits : Fits belongs (name_of row) x
  pub legal : Legal vector value (name_of row) (known b)

-- it found nothing
pub record FoundNothing {X M E : Type 0} (row : Row X M E) (a b : RowReader X M E) : Type 0 where
  pub of : IsReaderOf row b
  pub notes : known b ≡ known a
  pub count : count_seen a ≤ count_seen b
  pub all : count_seen b ≡ length (known a)
  pub loads : count_loads b ≡ count_loads a + 1
  pub told : told_published b ≡ told_published a

module _ {X M E : Type 0} (vector : M → List ℕ) (value : E → ℤ) (belongs : ℕ → E → Type 0) (ord : Order) (n lim p worker : ℕ) (vars : (m : M) → length (vector m) ≡ n) (rows : QuotientState) (writer : Writer X M E) (reader : RowReader X M E) (lead : M) (place : ℕ) (front : Option (Front M)) (kept : Option (TermOf M E)) (marked : Mark M)
    (s : IsSender vector value belongs ord n lim p worker rows writer reader lead place front kept marked) (its_row : Row X M E) (u : WorkerView) (view : view_of vector value worker rows writer reader front kept ≡ u) (here : u.row ≡ row_identity its_row) where
  abbrev V : WorkerView
  V = view_of vector value worker rows writer reader front kept

  pub own_row : reader_row reader ≡ row_identity its_row
  own_row = ap (λ (v : WorkerView). v.row) view ∙ here

  pub reads_own : IsReaderOf its_row reader
  reads_own = (s.looking, ap (λ (r : RowIdentity). r.table) own_row, ap (λ (r : RowIdentity). r.name) own_row, ap (λ (r : RowIdentity). r.places) own_row)

  module _ (reader' : RowReader X M E) (of : IsReaderOf its_row reader') where
    pub row_stays : reader_row reader' ≡ reader_row reader
    row_stays = (λ i. record { table = of.1 i; name = of.2 i; places = of.3 i }) ∙ sym own_row

    -- other rows and another reader of the same row
    module _ (rows' : QuotientState) (place' : ℕ) (front' : Option (Front M)) where
      abbrev U : WorkerView
      U = view_of vector value worker rows' writer reader' front' kept

      seen_so : (learned unread : List Term) (notes : List RowNote) (spare : ℕ) → rows'.learned ≡ learned → rows'.unread ≡ unread → rows'.spare ≡ spare → notes_of vector value (known reader') ≡ notes → told_published reader' ≡ told_published reader
          → record V { state = record V.state { known = learned; unread = unread }; notes = notes; count = count_seen reader'; loads = count_loads reader'; front = plain_front vector front'; spare = spare } ≡ U
      seen_so learned unread notes spare a b c e t = λ i. record V {
        state = record V.state { known = sym a i; unread = sym b i };
        row = sym row_stays i;
        notes = sym e i;
        count = count_seen reader';
        loads = count_loads reader';
        told = notes_of vector value (sym t i);
        front = plain_front vector front';
        spare = sym c i;
      }

      pub with_reader : rows'.modulus ≡ rows.modulus → rows'.divisor ≡ rows.divisor → rows'.rows ≡ rows.rows → IsWorking lim U → place' ≡ U.row.name.start + length (row_terms U.notes) → IsSender vector value belongs ord n lim p worker rows' writer reader' lead place' front' kept marked
      unfolding worker_rows
      with_reader m d r w at = record {
        working = w;
        writing = s.writing;
        looking = of.0;
        ordered = s.ordered;
        variables = s.variables;
        modulus = m ∙ s.modulus;
        characteristic = s.characteristic;
        divisor = d ∙ s.divisor;
        rows_are = r ∙ s.rows_are;
        lead_is = s.lead_is;
        place_is = at;
        mark_is = s.mark_is;
        kept_belongs = s.kept_belongs;
      }

  -- the note that was found
  module _ (has : HasRows u.state) (room : HasRoom u) (reader' : RowReader X M E) where
    own_rows : HasRows V.state
    own_rows = subst (λ (v : WorkerView). HasRows v.state) (sym view) has

    carry : (x : RowNoteOf M E) → Found vector value belongs its_row reader reader' x → RowCarry V.state.division V.row.name.start (V.notes ++ note_of vector value x ∷ [])
    carry x f =
        let notes : notes_of vector value (known reader') ≡ V.notes ++ note_of vector value x ∷ [] = ap (notes_of vector value) f.notes ∙ map-append (note_of vector value) (known reader) (x ∷ []) in
        let all = V.notes ++ note_of vector value x ∷ [] in
        subst (λ (d : Division). RowCarry d V.row.name.start all) s.working.row_division
        (subst (λ (k : RowName). RowCarry k.division k.start all) (ap (λ (r : RowIdentity). r.name) (sym own_row)) (subst (RowCarry (name_of its_row).division (name_of its_row).start) notes f.legal))

    reached : place ≤ length rows.learned
    reached = let k = s.working.enough own_rows in let e = s.place_is in omega (arith, k, e)

    -- a note that is found has room in the rows
    some_room : (x : RowNoteOf M E) → Found vector value belongs its_row reader reader' x → 0 < rows.spare
    some_room x f =
        let k : V.row.places ≤ length V.notes + V.spare = subst HasRoom (sym view) room own_rows in
        let e : V.row.places ≡ places_of its_row = ap (λ (r : RowIdentity). r.places) own_row in
        let l : length V.notes ≡ length (known reader) = length-map (known reader) (note_of vector value) in
        let a = f.found in let b = f.within in omega (arith, k, e, l, a, b)

    pub within_places : (x : RowNoteOf M E) → Found vector value belongs its_row reader reader' x → length (notes_of vector value (known reader')) ≤ u.row.places
    within_places x f =
        let e : u.row.places ≡ places_of its_row = ap (λ (r : RowIdentity). r.places) here in
        let l : length (notes_of vector value (known reader')) ≡ length (known reader') = length-map (known reader') (note_of vector value) in
        let k : length (known reader') ≡ length (known reader) + 1 = ap (λ (L : List (RowNoteOf M E)). length L) f.notes ∙ length_push (known reader) x in
        let a = f.found in let b = f.within in omega (arith, e, l, k, a, b)

    may_learn_now : (t : TermOf M E) → Found vector value belongs its_row reader reader' (note.Term t) → place ≡ length rows.learned → MayLearn vector value (belongs rows.modulus) ord lim rows t
    may_learn_now t f e =
        let next = next_term lim V (term_of vector value t) s.working (carry (note.Term t) f) (sym s.place_is ∙ e) in
        let may = may_learn_next vector value belongs ord n lim p worker vars rows writer reader lead place front kept marked s t (record { begins = next.0; within = next.1 }) in record {
          room = some_room (note.Term t) f;
          belonging = subst (λ (k : ℕ). belongs k t.coef) (ap (λ (r : RowIdentity). r.name.division.p) (sym own_row) ∙ ap (λ (d : Division). d.p) s.working.row_division ∙ s.characteristic ∙ sym s.modulus) f.fits;
          falls = may.0;
          low = may.1;
          fits = may.2;
        }

    pub may_take : (x : RowNoteOf M E) → Found vector value belongs its_row reader reader' x → CanTakeIn vector value belongs ord lim rows place lead x
    may_take (note.Term t) f = (
      record { reached = reached; next = may_learn_now t f },
      told_low lim V (term_of vector value t) s.working (carry (note.Term t) f),
      (let k = lead_degree lim V.state.division.g s.working.fit.divisor.degrees in let e = ap degree s.lead_is in omega (arith, k, e)),
      (let k = few_known lim V s.working in let e = reached in omega (arith, k, e)),
    )
    may_take (note.Front m) f = tt

    module _ (rows' : QuotientState) (place' : ℕ) (news lower : Front M) where
      abbrev T : WorkerView
      T = view_of vector value worker rows' writer reader' (Some lower) kept

      more_notes : (x : RowNoteOf M E) → Found vector value belongs its_row reader reader' x → notes_of vector value (known reader') ≡ V.notes ++ note_of vector value x ∷ []
      more_notes x f = ap (notes_of vector value) f.notes ∙ map-append (note_of vector value) (known reader) (x ∷ [])

      -- it heard a term and learned it, or knew it; or it heard a front
      heard_learned : (t : TermOf M E) → Found vector value belongs its_row reader reader' (note.Term t) → Learns vector value rows rows' t → place ≡ length rows.learned → place' ≡ place + 1
          → Hears V.state.division V.front (front_of_term V.state.division (term_of vector value t)) (front_of vector lower) → Heard lim place' V T
      heard_learned t f l e next h =
          let at = s.place_is in let loads = f.loads in
          subst (Heard lim place' V) (seen_so reader' f.of rows' place' (Some lower) (rows.learned ++ term_of vector value t ∷ []) rows'.unread (V.notes ++ RowTerm (term_of vector value t) ∷ []) rows'.spare l.learned refl refl (more_notes (note.Term t) f) f.told)
          (heard_next lim V s.working own_rows (count_seen reader') (count_loads reader') place' f.count (omega (arith, loads)) (front_of vector lower) (term_of vector value t) rows'.unread rows'.spare (carry (note.Term t) f) (sym s.place_is ∙ e)
          (subst (λ (G : List Term). IsPermutation (rows.unread ++ row (term_of vector value t) G) rows'.unread) s.rows_are l.unread) h l.spare (omega (arith, at, next)))

      heard_same : (t : TermOf M E) → Found vector value belongs its_row reader reader' (note.Term t) → rows' ≡ rows → place < length rows.learned → place' ≡ place + 1
          → Hears V.state.division V.front (front_of_term V.state.division (term_of vector value t)) (front_of vector lower) → Heard lim place' V T
      heard_same t f same l next h =
          let at = s.place_is in let loads = f.loads in
          subst (Heard lim place' V) (seen_so reader' f.of rows' place' (Some lower) rows.learned rows.unread (V.notes ++ RowTerm (term_of vector value t) ∷ []) rows.spare (ap (λ (q : QuotientState). q.learned) same) (ap (λ (q : QuotientState). q.unread) same) (ap (λ (q : QuotientState). q.spare) same) (more_notes (note.Term t) f) f.told)
          (heard_known lim V s.working own_rows (count_seen reader') (count_loads reader') place' f.count (omega (arith, loads)) (front_of vector lower) (term_of vector value t) (carry (note.Term t) f) (omega (arith, at, l)) h (omega (arith, at, next)))

      heard_now : (m : M) → Found vector value belongs its_row reader reader' (note.Front m) → rows' ≡ rows → place' ≡ place → Hears V.state.division V.front (record { mono = vector m; is_strict = false }) (front_of vector lower) → Heard lim place' V T
      heard_now m f same next h =
          let at = s.place_is in let loads = f.loads in
          subst (Heard lim place' V) (seen_so reader' f.of rows' place' (Some lower) rows.learned rows.unread (V.notes ++ RowFront (vector m) ∷ []) rows.spare (ap (λ (q : QuotientState). q.learned) same) (ap (λ (q : QuotientState). q.unread) same) (ap (λ (q : QuotientState). q.spare) same) (more_notes (note.Front m) f) f.told)
          (heard_front lim V s.working own_rows (count_seen reader') (count_loads reader') place' f.count (omega (arith, loads)) (front_of vector lower) (vector m) (carry (note.Front m) f) h (omega (arith, at, next)))

      -- it heard the note, with the same rows of the divisor
      record Took : Type 0 where
        pub heard : Heard lim place' V T
        pub modulus : rows'.modulus ≡ rows.modulus
        pub divisor : rows'.divisor ≡ rows.divisor
        pub rows_same : rows'.rows ≡ rows.rows

      took_term : (t : TermOf M E) → Found vector value belongs its_row reader reader' (note.Term t) → LearnsOnce vector value rows rows' place t → place' ≡ place + 1
          → Hears V.state.division V.front (front_of_term V.state.division (term_of vector value t)) (front_of vector lower) → Took
      took_term t f once next h = pick (numbers place (length rows.learned))
        where
          pick : Three (place < length rows.learned) (place ≡ length rows.learned) (length rows.learned < place) → Took
          pick (is_less l) =
              let e = once.known l in record {
                heard = heard_same t f e l next h;
                modulus = ap (λ (q : QuotientState). q.modulus) e;
                divisor = ap (λ (q : QuotientState). q.divisor) e;
                rows_same = ap (λ (q : QuotientState). q.rows) e;
              }
          pick (is_equal e) =
              let l = once.next e in record {
                heard = heard_learned t f l e next h;
                modulus = ap (λ (q : QuotientState). q.modulus) l.same;
                divisor = ap (λ (q : QuotientState). q.divisor) l.same;
                rows_same = ap (λ (q : QuotientState). q.rows) l.same;
              }
          pick (is_greater l) = let k = reached in absurd (omega (arith, k, l))

      took : (x : RowNoteOf M E) → Found vector value belongs its_row reader reader' x → TakesIn vector value rows rows' place place' lead x news → Hears V.state.division V.front (front_of vector news) (front_of vector lower) → Took
      took (note.Term t) f k h =
          took_term t f k.0 k.1
          (subst (λ (o : PlainFront). Hears V.state.division V.front o (front_of vector lower)) (k.2 ∙ (λ i. record { mono = vector t.mono ⋅ s.lead_is i; is_strict = true })) h)
      took (note.Front m) f k h = record {
        heard = heard_now m f k.0 k.1 (subst (λ (o : PlainFront). Hears V.state.division V.front o (front_of vector lower)) k.2 h);
        modulus = ap (λ (q : QuotientState). q.modulus) k.0;
        divisor = ap (λ (q : QuotientState). q.divisor) k.0;
        rows_same = ap (λ (q : QuotientState). q.rows) k.0;
      }

      pub heard_note : (x : RowNoteOf M E) → Found vector value belongs its_row reader reader' x → TakesIn vector value rows rows' place place' lead x news → Hears V.state.division V.front (front_of vector news) (front_of vector lower) → Heard lim place' V T
      heard_note x f k h = (took x f k h).heard

      pub heard_is : (x : RowNoteOf M E) → Found vector value belongs its_row reader reader' x → TakesIn vector value rows rows' place place' lead x news → Hears V.state.division V.front (front_of vector news) (front_of vector lower)
          → IsSender vector value belongs ord n lim p worker rows' writer reader' lead place' (Some lower) kept marked
      heard_is x f k h = let t = took x f k h in with_reader reader' f.of rows' place' (Some lower) t.modulus t.divisor t.rows_same t.heard.working t.heard.place_is

  -- nothing was found
  module _ (reader' : RowReader X M E) (f : FoundNothing its_row reader reader') where
    abbrev N : WorkerView
    N = view_of vector value worker rows writer reader' front kept

    same_notes : notes_of vector value (known reader') ≡ V.notes
    same_notes = ap (notes_of vector value) f.notes

    path : record V { count = count_seen reader'; loads = count_loads reader' } ≡ N
    path = seen_so reader' f.of rows place front rows.learned rows.unread V.notes rows.spare refl refl refl same_notes f.told

    pub found_none_is : IsSender vector value belongs ord n lim p worker rows writer reader' lead place front kept marked
    found_none_is =
        with_reader reader' f.of rows place front refl refl refl (subst (IsWorking lim) path (ends_change lim V V.head V.full_looks (count_seen reader') (count_loads reader') V.told s.working))
        (subst (λ (v : WorkerView). place ≡ v.row.name.start + length (row_terms v.notes)) path s.place_is)

    pub found_none_works : HasRows u.state → Works V N
    found_none_works has =
        let own = subst (λ (v : WorkerView). HasRows v.state) (sym view) has in let loads = f.loads in let few = s.working.enough own in
        subst (Works V) path (hears_works V V.state.known V.state.unread V.notes (count_seen reader') (count_loads reader') V.front V.spare own ([], append-nil V.state.known) (omega (arith, few)) ([], append-nil V.notes) f.count (omega (arith, loads)) (falls_itself V.state.division.ord V.front) (omega arith))

    pub finds_none : FindsNothing V N
    finds_none = record {
      same = sym path;
      loads = let l = f.loads in omega (arith, l);
      count = f.all ∙ ap (λ (L : List (RowNoteOf M E)). length L) (sym f.notes) ∙ sym (length-map (known reader') (note_of vector value));
    }
