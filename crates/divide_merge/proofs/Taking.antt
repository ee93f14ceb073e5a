-- A merge of a division stays as it is to be when it takes a note.
use Rattle.std.proofs.Common.{◌≡◌, ℕ, ◌+◌, ◌<◌, ◌≤◌, ◌^◌, ℤ, min, true≢false, is_some, List, [], ◌∷◌, ◌++◌, length, get_or, set, map, Option, Some, None, refl, sym, ap, ◌∙◌, subst, arith, length-set}
use Rattle.std.proofs.lemmas.List as lists
use Rattle.std.proofs.lemmas.List.{length-map, map-set, get_or-set_same, get_or-set_other}
use Rattle.std.proofs.lemmas.Option.{MatchOption-from_none}
use Rattle.std.proofs.Math.ListN.{get_or-map}
use Rattle.std.proofs.lemmas.List.Elements.{All-set}
use Rattle.sdmp_laws.specs.Order.{Order}
use Rattle.sdmp_laws.specs.declared.Order.TheVariants as order
use Rattle.sdmp_laws.specs.Division.{Division}
use Rattle.whole_laws.specs.Notes.{Note, TermNote, EndNote, Script, QuotientScript, Carry, CarryAfter, MayFollow, EndMayFollow}
use Rattle.whole_laws.specs.Wholes.{MergeState, notes_of as notes_at, head_of_worker, merge_start}
use Rattle.whole_laws.proofs.StepLemmas.{each_worker}
use Rattle.divide_wholes.specs.Wholes.{DivideState, divide_script, latest_mark}
use Rattle.canonical_terms.specs.View.{term_of}
use Rattle.canonical_terms.specs.declared.term.TermOf.{TermOf}
use Rattle.dividing_rounds.specs.Runs.{RunWhole, run_take}
use Rattle.term_ring.specs.Spelling.{note_of}
use Rattle.term_ring.specs.Plain.{modulus_of}
use Rattle.term_ring.specs.Carried.{Fits, Carries}
use Rattle.term_ring.specs.Ends.{taken, tail_seen, empty_looks, script_in, IsReaderOf}
use Rattle.term_ring.specs.Names.{RingName, NoneBelow, notes_count, reader_name, ring_name, IsReading}
use Rattle.term_ring.specs.declared.note.NoteOf.{NoteOf}
use Rattle.term_ring.specs.declared.note.NoteOf.TheVariants as note
use Rattle.term_ring.specs.declared.ring.Ring.{Ring}
use Rattle.term_ring.specs.declared.ring.Reader.{Reader}
use Rattle.ring_heads.specs.declared.head.HeadOf.{HeadOf}
use Rattle.ring_heads.specs.declared.head.HeadOf.TheVariants as head
use Rattle.ring_heads.specs.Heads.{plain, HeadBelongs}
use Rattle.global_heap.specs.Inside.{reader_notes}
use Rattle.global_heap.proofs.States.{same_names, one_more}
use Rattle.global_heap.proofs.Steps.{NoneBelow-set, count_one, taking}
use Rattle.global_heap.proofs.Taking.{read_is, met_tail, met_looks, notes_now}
use Rattle.divide_merge.specs.Names.{writer_row, first_division}
use Rattle.divide_merge.specs.Verdicts.{Verdict}
use Rattle.divide_merge.specs.Merges.{DivideView, IsSound, taken_of, IsStarved, FoundEmpty}
use Rattle.divide_merge.specs.Steps.{Looks, TakesNote}
use Rattle.divide_merge.specs.Inside.{Held, answer_of, NotEnded, taken_notes, divide_state, divide_run, divide_view, IsLatest, IsMadeFor, IsDivideMerge}
use Rattle.divide_merge.specs.declared.mark.Mark.{Mark}
use Rattle.dividing_rounds.proofs.RunLemmas.{run_take_law}
use Rattle.divide_merge.proofs.Sound.{is_sound}
use Rattle.divide_merge.proofs.States.{latest_term, latest_new, notes_more, term_state, mark_state, idle_state}

-- how many notes are taken after one more
pub count_more : (taken : List (List Note)) (w : ℕ) (x : Note) → w < length taken → notes_count (set taken w (notes_at taken w ++ x ∷ [])) ≡ notes_count taken + 1
count_more taken w x l =
    let s : MergeState = record (merge_start (record { ord = order.Grlex; p = 0; n = 0; f = []; g = [] }) 0) { taken = taken } in
    let k = taking s w x in
    ap notes_count (sym k.taken) ∙ count_one s _ w x l k

count_saturates : (count : ℕ) → min (min count 18446744073709551615 + 1) 18446744073709551615 ≡ min (count + 1) 18446744073709551615
count_saturates count = grind arith

-- no answer is there
pub not_over : {M E : Type 0} (vector : M → List ℕ) (value : E → ℤ) (o : Option _) → answer_of vector value o ≡ None → o ≡ None
not_over vector value None e = refl
not_over vector value (Some x) e = absurd (true≢false (ap (λ (v : Option Verdict). is_some v) e))

-- what a view shows where a reader looked in vain
pub record Idle (lim : ℕ) (v u : DivideView) (w : ℕ) : Type 0 where
  pub sound : IsSound lim u
  pub looks : Looks v u w
  pub run : u.run ≡ v.run
  pub dry : IsStarved u w
  pub empty : FoundEmpty v u w

-- and where a note was taken
pub record Found (lim : ℕ) (v u : DivideView) (w : ℕ) : Type 0 where
  pub sound : IsSound lim u
  pub looks : Looks v u w
  pub took : TakesNote v u w
  pub few : length (taken_of u w) ≤ 2 ^ 63

-- an end is no note of a division
end_after : (d : Division) (W w : ℕ) (a b : List Note) → CarryAfter (QuotientScript d W w) a (b ++ EndNote ∷ []) → ⊥
unfolding CarryAfter MayFollow EndMayFollow
end_after d W w a [] c = c.0.1
end_after d W w a (x ∷ b) c = end_after d W w (a ++ x ∷ []) b c.1

quotient_no_end : (d : Division) (W w : ℕ) (before : List Note) → Carry (QuotientScript d W w) (before ++ EndNote ∷ []) → ⊥
quotient_no_end d W w before c = end_after d W w [] before c

module _ {X M E : Type 0} (vector : M → List ℕ) (value : E → ℤ) (belongs : ℕ → E → Type 0) (ord : Order) (n lim p quotient_room rest_room : ℕ) where
  abbrev Keeps : Held X M E → Type 0
  Keeps h = IsDivideMerge vector value belongs ord n lim p quotient_room rest_room h

  -- d is the reader of w, whose ring this is
  pub record Asked (h : Held X M E) (w : ℕ) (ring : Ring X M E) (d : Reader X M E) : Type 0 where
    pub kept : IsDivideMerge vector value belongs ord n lim p quotient_room rest_room h
    pub going : answer_of vector value h.over ≡ None
    pub below : w < length h.readers
    pub at : (a : RingName) → get_or (map reader_name h.readers) w a ≡ ring_name ring
    pub was : d ≡ get_or h.readers w d

  -- what a call is told of its worker and its ring
  pub asked : (h : Held X M E) (w : ℕ) (ring : Ring X M E) (d : Reader X M E) (v : DivideView) → IsDivideMerge vector value belongs ord n lim p quotient_room rest_room h → divide_view vector value h ≡ v → v.answer ≡ None → w < v.run.state.workers
      → ((a : RingName) → get_or v.rings w a ≡ ring_name ring) → d ≡ get_or h.readers w d → Asked h w ring d
  asked h w ring d v k view going worker of was = record {
    kept = k;
    going = ap (λ (u : DivideView). u.answer) view ∙ going;
    below = subst (λ (u : DivideView). w < u.run.state.workers) (sym view) worker;
    at = λ a. ap (λ (u : DivideView). get_or u.rings w a) view ∙ of a;
    was = was;
  }

  module _ (h : Held X M E) (w : ℕ) (ring : Ring X M E) (d : Reader X M E) (a : Asked h w ring d) where
    here : (r : Reader X M E) → get_or h.readers w r ≡ d
    here r = read_is h.readers w d r a.below a.was

    name_at : (r : Reader X M E) → reader_name (get_or h.readers w r) ≡ ring_name ring
    name_at r = sym (get_or-map reader_name h.readers w r) ∙ a.at (reader_name r)

    pub own_reader : IsReaderOf ring d
    own_reader =
        subst (λ (q : Reader X M E). IsReaderOf ring q) (here d)
        (a.kept.workers.reading w d a.below, ap (λ (b : RingName). b.table) (name_at d), ap (λ (b : RingName). b.script) (name_at d), ap (λ (b : RingName). b.places) (name_at d))

    name : (r : Reader X M E) → IsReaderOf ring r → reader_name r ≡ reader_name (get_or h.readers w r)
    name r of = (λ i. record { table = of.1 i; script = of.2 i; places = of.3 i }) ∙ sym (name_at r)

    names : (r : Reader X M E) → IsReaderOf ring r → map reader_name (set h.readers w r) ≡ map reader_name h.readers
    names r of = same_names vector value h.readers w r r (name r of)

    same : (r : Reader X M E) → taken r ≡ taken d → taken r ≡ taken (get_or h.readers w r)
    same r e = e ∙ ap (λ (q : Reader X M E). taken q) (sym (here r))

    more : (r : Reader X M E) (x : NoteOf M E) → taken r ≡ taken d ++ x ∷ [] → taken r ≡ taken (get_or h.readers w r) ++ x ∷ []
    more r x e = e ∙ ap (λ (q : Reader X M E). taken q ++ x ∷ []) (sym (here r))

    inside : w < length (taken_notes vector value h.readers)
    inside = let e = length-map h.readers (reader_notes vector value) in let b = a.below in omega arith

    -- the ring's script is the merge's for this worker
    pub script_is : script_in ring ≡ QuotientScript (first_division (map reader_name h.readers)) (length h.readers) w
    script_is =
        ap (λ (b : RingName). b.script) (sym (a.at (ring_name ring))) ∙ a.kept.made_for.scripts w (ring_name ring) (let e = length-map h.readers reader_name in let b = a.below in omega arith)
        ∙ ap (λ (c : ℕ). QuotientScript (first_division (map reader_name h.readers)) c w) (length-map h.readers reader_name)

    pub own_script : script_in ring ≡ divide_script (divide_state vector value h) w
    unfolding divide_script
    own_script = script_is

    -- the rule of the notes after one more
    carried : (r : Reader X M E) (x : NoteOf M E) → taken r ≡ taken d ++ x ∷ [] → Carries vector value (script_in ring) (taken r)
        → Carry (divide_script (divide_state vector value h) w) (notes_at (taken_notes vector value h.readers) w ++ note_of vector value x ∷ [])
    carried r x e c =
        subst (λ (s : Script). Carry s (notes_at (taken_notes vector value h.readers) w ++ note_of vector value x ∷ [])) own_script
        (subst (λ (ns : List Note). Carry (script_in ring) ns) (one_more vector value h.readers w r r x a.below (more r x e)) c)

    pub head_here : head_of_worker (divide_state vector value h).heads w ≡ plain vector value (get_or h.heads w head.Missing)
    unfolding head_of_worker
    head_here = get_or-map (plain vector value) h.heads w head.Missing

    -- ---- the parts that a new reader leaves
    made : (r : Reader X M E) → IsReaderOf ring r → IsMadeFor vector value belongs ord n lim p h.divisor h.dividend (writer_row h.writer) (map reader_name (set h.readers w r))
    made r of = subst (λ (ns : List RingName). IsMadeFor vector value belongs ord n lim p h.divisor h.dividend (writer_row h.writer) ns) (sym (names r of)) a.kept.made_for

    wide : (r : Reader X M E) → length (set h.readers w r) ≡ length h.readers
    wide r = length-set h.readers w r

    -- the latest marks, where w has these notes
    marks : (r : Reader X M E) (ms : List (Mark M)) (notes : List Note) → taken_notes vector value (set h.readers w r) ≡ set (taken_notes vector value h.readers) w notes
        → ((e : Mark M) → IsLatest vector (get_or ms w e) (latest_mark notes)) → ((v : ℕ) (e : Mark M) → (v ≡ w → ⊥) → get_or ms v e ≡ get_or h.marks v e)
        → (v : ℕ) (e : Mark M) → v < length (set h.readers w r) → IsLatest vector (get_or ms v e) (latest_mark (notes_at (taken_notes vector value (set h.readers w r)) v))
    unfolding notes_at
    marks r ms notes t mine others v e l =
        subst (λ (ts : List (List Note)). IsLatest vector (get_or ms v e) (latest_mark (get_or ts v []))) (sym t)
        (each_worker (λ u. u < length h.readers → IsLatest vector (get_or ms u e) (latest_mark (get_or (set (taken_notes vector value h.readers) w notes) u []))) w v
        (λ b. subst (λ (ns : List Note). IsLatest vector (get_or ms w e) (latest_mark ns)) (sym (get_or-set_same (taken_notes vector value h.readers) w notes [] inside)) (mine e))
        (λ other b. subst (λ (m : Mark M). IsLatest vector m (latest_mark (get_or (set (taken_notes vector value h.readers) w notes) v []))) (sym (others v e other))
        (subst (λ (ns : List Note). IsLatest vector (get_or h.marks v e) (latest_mark ns)) (sym (get_or-set_other (taken_notes vector value h.readers) w v notes [] other)) (a.kept.workers.marks_are v e b)))
        (let e = wide r in omega arith))

    mark_now : (e : Mark M) → IsLatest vector (get_or h.marks w e) (latest_mark (notes_at (taken_notes vector value h.readers) w))
    mark_now e = a.kept.workers.marks_are w e a.below

    -- ---- nothing was taken
    idle : (r : Reader X M E) → IsReaderOf ring r → taken r ≡ taken d → divide_state vector value (record h { readers = set h.readers w r }) ≡ divide_state vector value h
    idle r of e = idle_state vector value h w r r (name r of) (same r e)

    idle_run : (r : Reader X M E) → IsReaderOf ring r → taken r ≡ taken d → divide_run vector value (record h { readers = set h.readers w r }) ≡ divide_run vector value h
    idle_run r of e = ap (λ (s : DivideState). record (divide_run vector value h) { state = s }) (idle r of e)

    idle_notes : (r : Reader X M E) → IsReaderOf ring r → taken r ≡ taken d → taken_notes vector value (set h.readers w r) ≡ taken_notes vector value h.readers
    idle_notes r of e = ap (λ (s : DivideState). s.taken) (idle r of e)

    pub idle_kept : (r : Reader X M E) → IsReaderOf ring r → taken r ≡ taken d → IsDivideMerge vector value belongs ord n lim p quotient_room rest_room (record h { readers = set h.readers w r })
    idle_kept r of e = record {
      made_for = made r of;
      workers = record {
        some = let s = a.kept.workers.some in let z = wide r in omega arith;
        few = subst (λ (m : ℕ). m < 2 ^ 32) (sym (wide r)) a.kept.workers.few;
        reading = All-set IsReading h.readers w r of.0 a.kept.workers.reading;
        heads_long = a.kept.workers.heads_long ∙ sym (wide r);
        not_ended = a.kept.workers.not_ended;
        heads_belong = a.kept.workers.heads_belong;
        marks_long = a.kept.workers.marks_long ∙ sym (wide r);
        marks_are = λ v m l. subst (λ (ts : List (List Note)). IsLatest vector (get_or h.marks v m) (latest_mark (notes_at ts v))) (sym (idle_notes r of e)) (a.kept.workers.marks_are v m (let z = wide r in omega arith));
      };
      terms = a.kept.terms;
      publishing = a.kept.publishing;
      row_room = a.kept.row_room;
      whole = subst RunWhole (sym (idle_run r of e)) a.kept.whole;
      begun = a.kept.begun;
      cause = MatchOption-from_none (answer_of vector value h.over) _ a.going;
      counted = a.kept.counted ∙ ap (λ (ts : List (List Note)). min (notes_count ts) 18446744073709551615) (sym (idle_notes r of e));
    }

    -- what the reader has seen
    pub looks_at : (r : Reader X M E) (h' : Held X M E) → h'.readers ≡ set h.readers w r → IsReaderOf ring r → tail_seen d ≤ tail_seen r → empty_looks d ≤ empty_looks r → h'.over ≡ h.over → h'.spare ≡ h.spare → h'.writer ≡ h.writer
        → Looks (divide_view vector value h) (divide_view vector value h') w
    looks_at r h' is of tail looks over spare writer =
        let seen = ap (λ (q : Reader X M E). tail_seen q) (here r) in
        let looked = ap (λ (q : Reader X M E). empty_looks q) (here r) in record {
          answer = ap (answer_of vector value) over;
          spare = spare;
          rings = ap (λ (L : List (Reader X M E)). map reader_name L) is ∙ names r of;
          row = ap writer_row writer;
          tail = tail_seen r;
          tails = ap (λ (L : List (Reader X M E)). map tail_seen L) is ∙ map-set tail_seen h.readers w r;
          higher = let e = lists.get_or-map tail_seen h.readers w r 0 a.below in omega arith;
          looks =
              subst (NoneBelow (map empty_looks h.readers)) (sym (ap (λ (L : List (Reader X M E)). map empty_looks L) is ∙ map-set empty_looks h.readers w r))
              (NoneBelow-set (map empty_looks h.readers) w (empty_looks r) (let e = lists.get_or-map empty_looks h.readers w r 0 a.below in omega arith));
        }

    pub dry : (r : Reader X M E) → taken r ≡ taken d → tail_seen r ≡ length (taken d) → IsStarved (divide_view vector value (record h { readers = set h.readers w r })) w
    dry r e z =
        met_tail h.readers w r a.below ∙ z ∙ ap (λ (ns : List (NoteOf M E)). length ns) (sym e)
        ∙ sym (ap (λ (ns : List Note). length ns) (notes_now vector value h.readers w r a.below) ∙ length-map (taken r) (note_of vector value))

    pub empty : (r : Reader X M E) → empty_looks r ≡ empty_looks d + 1 → FoundEmpty (divide_view vector value h) (divide_view vector value (record h { readers = set h.readers w r })) w
    empty r e =
        let before = lists.get_or-map empty_looks h.readers w r 0 a.below in
        let z = ap (λ (q : Reader X M E). empty_looks q) (here r) in
        let after = met_looks h.readers w r a.below in
        omega arith

    -- ---- a note was taken
    taken_whole : (r : Reader X M E) (x : NoteOf M E) (h' : Held X M E) → taken r ≡ taken d ++ x ∷ [] → Carries vector value (script_in ring) (taken r) → head_of_worker (divide_state vector value h).heads w ≡ None
        → divide_run vector value h' ≡ run_take (divide_run vector value h) w (note_of vector value x) → RunWhole (divide_run vector value h')
    taken_whole r x h' e c none run = subst RunWhole (sym run) (run_take_law (divide_run vector value h) w (note_of vector value x) a.kept.whole a.below none (carried r x e c))

    counted : (r : Reader X M E) (x : NoteOf M E) → taken r ≡ taken d ++ x ∷ [] → min (h.taken + 1) 18446744073709551615 ≡ min (notes_count (taken_notes vector value (set h.readers w r))) 18446744073709551615
    counted r x e =
        ap (λ (c : ℕ). min (c + 1) 18446744073709551615) a.kept.counted ∙ count_saturates (notes_count (taken_notes vector value h.readers))
        ∙ ap (λ (c : ℕ). min c 18446744073709551615) (sym (ap notes_count (notes_more vector value h.readers w r r x a.below (more r x e)) ∙ count_more (taken_notes vector value h.readers) w (note_of vector value x) inside))

    term_run : (r : Reader X M E) (t : TermOf M E) (c : ℕ) → IsReaderOf ring r → taken r ≡ taken d ++ note.Term t ∷ []
        → divide_run vector value (record h { readers = set h.readers w r; heads = set h.heads w (head.Term t); taken = c }) ≡ run_take (divide_run vector value h) w (TermNote (term_of vector value t))
    unfolding run_take
    term_run r t c of e = ap (λ (s : DivideState). record (divide_run vector value h) { state = s }) (term_state vector value h w r r t a.below (name r of) (more r (note.Term t) e) c)

    mark_run : (r : Reader X M E) (k : ℕ) (top : Option M) (ms : List (Mark M)) (c : ℕ) → IsReaderOf ring r → taken r ≡ taken d ++ note.Mark k top ∷ []
        → divide_run vector value (record h { readers = set h.readers w r; marks = ms; taken = c }) ≡ run_take (divide_run vector value h) w (note_of vector value (note.Mark k top))
    unfolding run_take
    mark_run r k top ms c of e = ap (λ (s : DivideState). record (divide_run vector value h) { state = s }) (mark_state vector value h w r r k top a.below (name r of) (more r (note.Mark k top) e) ms c)

    pub term_kept : (r : Reader X M E) (t : TermOf M E) → IsReaderOf ring r → taken r ≡ taken d ++ note.Term t ∷ [] → Carries vector value (script_in ring) (taken r) → Fits belongs (script_in ring) (note.Term t) → head_of_worker (divide_state vector value h).heads w ≡ None
        → IsDivideMerge vector value belongs ord n lim p quotient_room rest_room (record h { readers = set h.readers w r; heads = set h.heads w (head.Term t); taken = min (h.taken + 1) 18446744073709551615 })
    term_kept r t of e c fits none =
        let notes = notes_more vector value h.readers w r r (note.Term t) a.below (more r (note.Term t) e) in record {
          made_for = made r of;
          workers = record {
            some = let s = a.kept.workers.some in let z = wide r in omega arith;
            few = subst (λ (m : ℕ). m < 2 ^ 32) (sym (wide r)) a.kept.workers.few;
            reading = All-set IsReading h.readers w r of.0 a.kept.workers.reading;
            heads_long = length-set h.heads w (head.Term t) ∙ a.kept.workers.heads_long ∙ sym (wide r);
            not_ended = All-set NotEnded h.heads w (head.Term t) tt a.kept.workers.not_ended;
            heads_belong = All-set (HeadBelongs (belongs p)) h.heads w (head.Term t) (subst (λ (q : ℕ). belongs q t.coef) (ap modulus_of script_is ∙ a.kept.made_for.modulus) fits) a.kept.workers.heads_belong;
            marks_long = a.kept.workers.marks_long ∙ sym (wide r);
            marks_are =
                marks r h.marks _ notes
                (λ m. subst (IsLatest vector (get_or h.marks w m)) (sym (latest_term (notes_at (taken_notes vector value h.readers) w) (term_of vector value t))) (mark_now m))
                (λ v m other. refl);
          };
          terms = a.kept.terms;
          publishing = a.kept.publishing;
          row_room = a.kept.row_room;
          whole = taken_whole r (note.Term t) (record h { readers = set h.readers w r; heads = set h.heads w (head.Term t); taken = min (h.taken + 1) 18446744073709551615 }) e c none (term_run r t (min (h.taken + 1) 18446744073709551615) of e);
          begun = a.kept.begun;
          cause = MatchOption-from_none (answer_of vector value h.over) _ a.going;
          counted = counted r (note.Term t) e;
        }

    latest_of : (k : ℕ) (top : Option M) (notes : List Note) → IsLatest vector (record { known = k; top = top }) (latest_mark (notes ++ note_of vector value (note.Mark k top) ∷ []))
    latest_of k None notes = subst (IsLatest vector (record { known = k; top = None })) (sym (latest_new notes k None)) (record { known = refl; top = refl })
    latest_of k (Some top) notes = subst (IsLatest vector (record { known = k; top = Some top })) (sym (latest_new notes k (Some (vector top)))) (record { known = refl; top = refl })

    pub mark_kept : (r : Reader X M E) (k : ℕ) (top : Option M) → IsReaderOf ring r → taken r ≡ taken d ++ note.Mark k top ∷ [] → Carries vector value (script_in ring) (taken r) → head_of_worker (divide_state vector value h).heads w ≡ None
        → IsDivideMerge vector value belongs ord n lim p quotient_room rest_room (record h { readers = set h.readers w r; marks = set h.marks w (record { known = k; top = top }); taken = min (h.taken + 1) 18446744073709551615 })
    mark_kept r k top of e c none =
        let m : Mark M = record { known = k; top = top } in
        let notes = notes_more vector value h.readers w r r (note.Mark k top) a.below (more r (note.Mark k top) e) in
        let there : w < length h.marks = let z = a.kept.workers.marks_long in let b = a.below in omega arith in record {
          made_for = made r of;
          workers = record {
            some = let s = a.kept.workers.some in let z = wide r in omega arith;
            few = subst (λ (i : ℕ). i < 2 ^ 32) (sym (wide r)) a.kept.workers.few;
            reading = All-set IsReading h.readers w r of.0 a.kept.workers.reading;
            heads_long = a.kept.workers.heads_long ∙ sym (wide r);
            not_ended = a.kept.workers.not_ended;
            heads_belong = a.kept.workers.heads_belong;
            marks_long = length-set h.marks w m ∙ a.kept.workers.marks_long ∙ sym (wide r);
            marks_are =
                marks r (set h.marks w m) _ notes
                (λ z. subst (λ (i : Mark M). IsLatest vector i (latest_mark (notes_at (taken_notes vector value h.readers) w ++ note_of vector value (note.Mark k top) ∷ []))) (sym (get_or-set_same h.marks w m z there)) (latest_of k top (notes_at (taken_notes vector value h.readers) w)))
                (λ v z other. get_or-set_other h.marks w v m z other);
          };
          terms = a.kept.terms;
          publishing = a.kept.publishing;
          row_room = a.kept.row_room;
          whole = taken_whole r (note.Mark k top) (record h { readers = set h.readers w r; marks = set h.marks w m; taken = min (h.taken + 1) 18446744073709551615 }) e c none (mark_run r k top (set h.marks w m) (min (h.taken + 1) 18446744073709551615) of e);
          begun = a.kept.begun;
          cause = MatchOption-from_none (answer_of vector value h.over) _ a.going;
          counted = counted r (note.Mark k top) e;
        }

    -- ---- what contracts see of it
    -- w has no head
    pub missing_here : head_of_worker (divide_state vector value h).heads w ≡ None → get_or h.heads w head.Missing ≡ head.Missing
    missing_here e = pick (get_or h.heads w head.Missing) (a.kept.workers.not_ended w head.Missing (let z = a.kept.workers.heads_long in let b = a.below in omega arith)) (sym head_here ∙ e)
      where
        pick : (k : HeadOf M E) → NotEnded k → plain vector value k ≡ None → k ≡ head.Missing
        pick head.Missing n e = refl
        pick (head.Term t) n e = absurd (true≢false (ap (λ (o : Option _). is_some o) e))
        pick head.Ended n e = absurd n

    few_taken : (r : Reader X M E) → length (taken r) ≤ 2 ^ 63 → length (notes_at (taken_notes vector value (set h.readers w r)) w) ≤ 2 ^ 63
    few_taken r l = let n = ap (λ (ns : List Note). length ns) (notes_now vector value h.readers w r a.below) ∙ length-map (taken r) (note_of vector value) in omega arith

    pub idle_view : (r : Reader X M E) → IsReaderOf ring r → taken r ≡ taken d → tail_seen d ≤ tail_seen r → tail_seen r ≡ length (taken d) → empty_looks r ≡ empty_looks d + 1
        → Idle lim (divide_view vector value h) (divide_view vector value (record h { readers = set h.readers w r })) w
    idle_view r of e tail z looks = record {
      sound = is_sound vector value belongs ord n lim p quotient_room rest_room (record h { readers = set h.readers w r }) (idle_kept r of e);
      looks = looks_at r (record h { readers = set h.readers w r }) refl of tail (let l = looks in omega arith) refl refl refl;
      run = idle_run r of e;
      dry = dry r e z;
      empty = empty r looks;
    }

    pub term_view : (r : Reader X M E) (t : TermOf M E) → IsReaderOf ring r → taken r ≡ taken d ++ note.Term t ∷ [] → Carries vector value (script_in ring) (taken r) → Fits belongs (script_in ring) (note.Term t) → head_of_worker (divide_state vector value h).heads w ≡ None
        → tail_seen d ≤ tail_seen r → empty_looks r ≡ empty_looks d → length (taken r) ≤ 2 ^ 63
        → Found lim (divide_view vector value h) (divide_view vector value (record h { readers = set h.readers w r; heads = set h.heads w (head.Term t); taken = min (h.taken + 1) 18446744073709551615 })) w
    term_view r t of e c fits none tail looks few =
        let h' = record h { readers = set h.readers w r; heads = set h.heads w (head.Term t); taken = min (h.taken + 1) 18446744073709551615 } in record {
          sound = is_sound vector value belongs ord n lim p quotient_room rest_room h' (term_kept r t of e c fits none);
          looks = looks_at r h' refl of tail (let l = looks in omega arith) refl refl refl;
          took = record { note = TermNote (term_of vector value t); run = term_run r t (min (h.taken + 1) 18446744073709551615) of e };
          few = few_taken r few;
        }

    pub mark_view : (r : Reader X M E) (k : ℕ) (top : Option M) → IsReaderOf ring r → taken r ≡ taken d ++ note.Mark k top ∷ [] → Carries vector value (script_in ring) (taken r) → head_of_worker (divide_state vector value h).heads w ≡ None
        → tail_seen d ≤ tail_seen r → empty_looks r ≡ empty_looks d → length (taken r) ≤ 2 ^ 63
        → Found lim (divide_view vector value h) (divide_view vector value (record h { readers = set h.readers w r; marks = set h.marks w (record { known = k; top = top }); taken = min (h.taken + 1) 18446744073709551615 })) w
    mark_view r k top of e c none tail looks few =
        let ms = set h.marks w (record { known = k; top = top }) in
        let h' = record h { readers = set h.readers w r; marks = ms; taken = min (h.taken + 1) 18446744073709551615 } in record {
          sound = is_sound vector value belongs ord n lim p quotient_room rest_room h' (mark_kept r k top of e c none);
          looks = looks_at r h' refl of tail (let l = looks in omega arith) refl refl refl;
          took = record { note = note_of vector value (note.Mark k top); run = mark_run r k top ms (min (h.taken + 1) 18446744073709551615) of e };
          few = few_taken r few;
        }

    -- no end was taken
    pub no_end : (r : Reader X M E) → taken r ≡ taken d ++ note.End ∷ [] → Carries vector value (script_in ring) (taken r) → ⊥
    no_end r e c = quotient_no_end (first_division (map reader_name h.readers)) (length h.readers) w (notes_at (taken_notes vector value h.readers) w) (subst (λ (s : Script). Carry s (notes_at (taken_notes vector value h.readers) w ++ EndNote ∷ [])) script_is (subst (λ (ns : List Note). Carry (script_in ring) ns) (one_more vector value h.readers w r r note.End a.below (more r note.End e)) c))

-- what a call's contract says of it, where a view of the merge is called v
module _ {X M E : Type 0} {vector : M → List ℕ} {value : E → ℤ} {belongs : ℕ → E → Type 0} {ord : Order} {n lim p quotient_room rest_room : ℕ} {h : Held X M E} {w : ℕ} {ring : Ring X M E} {d : Reader X M E} (a : Asked vector value belongs ord n lim p quotient_room rest_room h w ring d) {v : DivideView} (view : divide_view vector value h ≡ v) where
  wanted : head_of_worker v.run.state.heads w ≡ None → head_of_worker (divide_state vector value h).heads w ≡ None
  wanted none = subst (λ (u : DivideView). head_of_worker u.run.state.heads w ≡ None) (sym view) none

  pub missing : head_of_worker v.run.state.heads w ≡ None → get_or h.heads w head.Missing ≡ head.Missing
  missing none = missing_here vector value belongs ord n lim p quotient_room rest_room h w ring d a (wanted none)

  pub found_none : (r : Reader X M E) → IsReaderOf ring r → taken r ≡ taken d → tail_seen d ≤ tail_seen r → tail_seen r ≡ length (taken d) → empty_looks r ≡ empty_looks d + 1
      → Idle lim v (divide_view vector value (record h { readers = set h.readers w r })) w
  found_none r of e tail z looks =
      subst (λ (u : DivideView). Idle lim u (divide_view vector value (record h { readers = set h.readers w r })) w) view
      (idle_view vector value belongs ord n lim p quotient_room rest_room h w ring d a r of e tail z looks)

  after : (r : Reader X M E) (y x : NoteOf M E) → taken r ≡ taken d ++ y ∷ [] → y ≡ x → taken r ≡ taken d ++ x ∷ []
  after r y x e is = e ∙ ap (λ (z : NoteOf M E). taken d ++ z ∷ []) is

  pub found_term : (r : Reader X M E) (hs : List (HeadOf M E)) (c : ℕ) (y : NoteOf M E) (t : TermOf M E) → hs ≡ set h.heads w (head.Term t) → c ≡ min (h.taken + 1) 18446744073709551615 → y ≡ note.Term t
      → head_of_worker v.run.state.heads w ≡ None → IsReaderOf ring r → tail_seen d ≤ tail_seen r → empty_looks r ≡ empty_looks d → taken r ≡ taken d ++ y ∷ [] → Carries vector value (script_in ring) (taken r) → Fits belongs (script_in ring) y → length (taken r) ≤ 2 ^ 63
      → IsDivideMerge vector value belongs ord n lim p quotient_room rest_room (record h { readers = set h.readers w r; heads = hs; taken = c }) × Found lim v (divide_view vector value (record h { readers = set h.readers w r; heads = hs; taken = c })) w
  found_term r hs c y t put count is none of tail looks e carries fits few =
      let at = after r y (note.Term t) e is in
      let fits' = subst (Fits belongs (script_in ring)) is fits in (
        subst (λ (k : ℕ). IsDivideMerge vector value belongs ord n lim p quotient_room rest_room (record h { readers = set h.readers w r; heads = hs; taken = k })) (sym count)
            (subst (λ (ks : List (HeadOf M E)). IsDivideMerge vector value belongs ord n lim p quotient_room rest_room (record h { readers = set h.readers w r; heads = ks; taken = min (h.taken + 1) 18446744073709551615 })) (sym put)
            (term_kept vector value belongs ord n lim p quotient_room rest_room h w ring d a r t of at carries fits' (wanted none))),
        subst (λ (u : DivideView). Found lim u (divide_view vector value (record h { readers = set h.readers w r; heads = hs; taken = c })) w) view
            (subst (λ (ks : List (HeadOf M E)). Found lim (divide_view vector value h) (divide_view vector value (record h { readers = set h.readers w r; heads = ks; taken = c })) w) (sym put)
            (term_view vector value belongs ord n lim p quotient_room rest_room h w ring d a r t of at carries fits' (wanted none) tail looks few)),
      )

  pub found_mark : (r : Reader X M E) (c : ℕ) (y : NoteOf M E) (k : ℕ) (top : Option M) → c ≡ min (h.taken + 1) 18446744073709551615 → y ≡ note.Mark k top
      → head_of_worker v.run.state.heads w ≡ None → IsReaderOf ring r → tail_seen d ≤ tail_seen r → empty_looks r ≡ empty_looks d → taken r ≡ taken d ++ y ∷ [] → Carries vector value (script_in ring) (taken r) → length (taken r) ≤ 2 ^ 63
      → IsDivideMerge vector value belongs ord n lim p quotient_room rest_room (record h { readers = set h.readers w r; marks = set h.marks w (record { known = k; top = top }); taken = c })
      × Found lim v (divide_view vector value (record h { readers = set h.readers w r; marks = set h.marks w (record { known = k; top = top }); taken = c })) w
  found_mark r c y k top count is none of tail looks e carries few =
      let at = after r y (note.Mark k top) e is in
      let ms = set h.marks w (record { known = k; top = top }) in (
        subst (λ (i : ℕ). IsDivideMerge vector value belongs ord n lim p quotient_room rest_room (record h { readers = set h.readers w r; marks = ms; taken = i })) (sym count)
            (mark_kept vector value belongs ord n lim p quotient_room rest_room h w ring d a r k top of at carries (wanted none)),
        subst (λ (u : DivideView). Found lim u (divide_view vector value (record h { readers = set h.readers w r; marks = ms; taken = c })) w) view
            (mark_view vector value belongs ord n lim p quotient_room rest_room h w ring d a r k top of at carries (wanted none) tail looks few),
      )

  pub found_end : (r : Reader X M E) (y : NoteOf M E) → y ≡ note.End → taken r ≡ taken d ++ y ∷ [] → Carries vector value (script_in ring) (taken r) → ⊥
  found_end r y is e carries = no_end vector value belongs ord n lim p quotient_room rest_room h w ring d a r (after r y note.End e is) carries
