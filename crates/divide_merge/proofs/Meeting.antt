-- A worker's reader meets its writer, and the row's writer a reader.
use Rattle.std.proofs.Common.{◌≡◌, ℕ, ◌<◌, ◌≤◌, ◌^◌, ℤ, min, List, ◌++◌, length, get_or, set, map, sym, ap, ◌∙◌, subst, arith, length-set}
use Rattle.std.proofs.lemmas.List as lists
use Rattle.std.proofs.lemmas.List.{length-map, map-set}
use Rattle.std.proofs.Math.ListN.{get_or-map}
use Rattle.std.proofs.lemmas.List.Elements.{All-set}
use Rattle.std.specs.Option.{IfSome, is_some}
use mathlib.Core.List.{IsPrefix}
use Rattle.sdmp_laws.specs.Order.{Order}
use Rattle.whole_laws.specs.Notes.{Note, Script, QuotientScript, Carry, terms_in, owed}
use Rattle.whole_laws.specs.Wholes.{notes_of as notes_at}
use Rattle.whole_laws.proofs.OwedLemmas.{owed_split}
use Rattle.divide_wholes.specs.Row.{RowNote, row_terms}
use Rattle.divide_wholes.specs.Wholes.{DivideState, divide_script, latest_mark}
use Rattle.dividing_rounds.specs.Runs.{RunWhole}
use Rattle.term_ring.specs.Spelling.{notes_of}
use Rattle.term_ring.specs.Carried.{Carries}
use Rattle.term_ring.specs.Ends.{taken, tail_seen, script_in, IsReaderOf}
use Rattle.term_ring.specs.Names.{RingName, NoneBelow, notes_count, reader_name, ring_name, IsReading}
use Rattle.term_ring.specs.declared.note.NoteOf.{NoteOf}
use Rattle.term_ring.specs.declared.ring.Ring.{Ring}
use Rattle.term_ring.specs.declared.ring.Reader.{Reader}
use Rattle.quotient_row.specs.Ends as row_ends
use Rattle.quotient_row.specs.Spelling as row_notes
use Rattle.quotient_row.specs.declared.row.Row.{Row}
use Rattle.quotient_row.specs.declared.row.RowWriter.{RowWriter}
use Rattle.quotient_row.specs.declared.note.RowNoteOf.{RowNoteOf}
use Rattle.global_heap.proofs.States.{same_names}
use Rattle.global_heap.proofs.Steps.{NoneBelow-set}
use Rattle.global_heap.proofs.Taking.{read_is, met_prefix, met_count, met_tail}
use Rattle.divide_merge.specs.Names.{RowIdentity, writer_row, row_identity, first_division}
use Rattle.divide_merge.specs.Verdicts.{IsVerdict, IsFinal}
use Rattle.divide_merge.specs.Merges.{DivideView, free_places, taken_of, IsOwed}
use Rattle.divide_merge.specs.Inside.{Held, answer_of, taken_notes, published_notes, divide_state, divide_run, divide_view, IsLatest, IsMadeFor, IsDivideMerge}
use Rattle.divide_merge.proofs.States.{idle_state}

-- what a view shows after that, where the worker had sent these notes, so many, and has seen this head
pub record Met (w : ℕ) (v u : DivideView) (sent : List Note) (count head : ℕ) : Type 0 where
  pub run : u.run ≡ v.run
  pub answer : u.answer ≡ v.answer
  pub spare : u.spare ≡ v.spare
  pub rings : u.rings ≡ v.rings
  pub row : u.row ≡ v.row
  pub tails : NoneBelow v.tails u.tails
  pub prefix : IsPrefix (taken_of u w) sent
  pub reader_seen : count ≤ get_or u.tails w 0
  pub writer_seen : length (taken_of u w) ≤ head

-- what a reader of the row knows begins what was published, as plain notes too
pub met_row : {M E : Type 0} (vector : M → List ℕ) (value : E → ℤ) (xs ys : List (RowNoteOf M E)) → IsPrefix xs ys → IsPrefix (row_notes.notes_of vector value xs) (row_notes.notes_of vector value ys)
met_row vector value xs ys p = (row_notes.notes_of vector value p.0, sym (lists.map-append (row_notes.note_of vector value) xs p.0) ∙ ap (row_notes.notes_of vector value) p.1)

module _ {X M E : Type 0} (vector : M → List ℕ) (value : E → ℤ) (belongs : ℕ → E → Type 0) (ord : Order) (n lim p quotient_room rest_room : ℕ) where
  -- d is the reader of w, whose ring this is, and whoever writes the merge's row
  pub record Meets (h : Held X M E) (w : ℕ) (ring : Ring X M E) (row : Row X M E) (d : Reader X M E) : Type 0 where
    pub kept : IsDivideMerge vector value belongs ord n lim p quotient_room rest_room h
    pub below : w < length h.readers
    pub at : (a : RingName) → get_or (map reader_name h.readers) w a ≡ ring_name ring
    pub row_is : writer_row h.writer ≡ row_identity row
    pub was : d ≡ get_or h.readers w d

  pub meets : (h : Held X M E) (w : ℕ) (ring : Ring X M E) (row : Row X M E) (d : Reader X M E) (v : DivideView) → IsDivideMerge vector value belongs ord n lim p quotient_room rest_room h → divide_view vector value h ≡ v → w < v.run.state.workers
      → ((a : RingName) → get_or v.rings w a ≡ ring_name ring) → v.row ≡ row_identity row → d ≡ get_or h.readers w d → Meets h w ring row d
  meets h w ring row d v k view worker of at was = record {
    kept = k;
    below = subst (λ (u : DivideView). w < u.run.state.workers) (sym view) worker;
    at = λ a. ap (λ (u : DivideView). get_or u.rings w a) view ∙ of a;
    row_is = ap (λ (u : DivideView). u.row) view ∙ at;
    was = was;
  }

  module _ (h : Held X M E) (w : ℕ) (ring : Ring X M E) (row : Row X M E) (d : Reader X M E) (a : Meets h w ring row d) where
    here : (r : Reader X M E) → get_or h.readers w r ≡ d
    here r = read_is h.readers w d r a.below a.was

    name_at : (r : Reader X M E) → reader_name (get_or h.readers w r) ≡ ring_name ring
    name_at r = sym (get_or-map reader_name h.readers w r) ∙ a.at (reader_name r)

    pub own_reader : IsReaderOf ring d
    own_reader =
        subst (λ (q : Reader X M E). IsReaderOf ring q) (here d)
        (a.kept.workers.reading w d a.below, ap (λ (b : RingName). b.table) (name_at d), ap (λ (b : RingName). b.script) (name_at d), ap (λ (b : RingName). b.places) (name_at d))

    pub own_writer : row_ends.IsWriterOf row h.writer
    own_writer = (a.kept.publishing, ap (λ (b : RowIdentity). b.table) a.row_is, ap (λ (b : RowIdentity). b.name) a.row_is, ap (λ (b : RowIdentity). b.places) a.row_is)

    -- ---- afterwards
    module _ (r : Reader X M E) (of : IsReaderOf ring r) (e : taken r ≡ taken d) (y : RowWriter X M E) (yof : row_ends.IsWriterOf row y) (f : row_ends.published y ≡ row_ends.published h.writer) where
      abbrev after : Held X M E
      after = record h { readers = set h.readers w r; writer = y }

      name : reader_name r ≡ reader_name (get_or h.readers w r)
      name = (λ i. record { table = of.1 i; script = of.2 i; places = of.3 i }) ∙ sym (name_at r)

      names : map reader_name (set h.readers w r) ≡ map reader_name h.readers
      names = same_names vector value h.readers w r r name

      wide : length (set h.readers w r) ≡ length h.readers
      wide = length-set h.readers w r

      same_row : writer_row y ≡ writer_row h.writer
      same_row = (λ i. record { table = yof.1 i; name = yof.2 i; places = yof.3 i }) ∙ sym a.row_is

      same_notes : published_notes vector value y ≡ published_notes vector value h.writer
      same_notes = ap (row_notes.notes_of vector value) f

      only_reader : divide_state vector value (record h { readers = set h.readers w r }) ≡ divide_state vector value h
      only_reader = idle_state vector value h w r r name (e ∙ ap (λ (q : Reader X M E). taken q) (sym (here r)))

      same_state : divide_state vector value after ≡ divide_state vector value h
      same_state =
          (λ i. record (divide_state vector value (record h { readers = set h.readers w r })) { start = (ap (λ (b : RowIdentity). b.name.start) same_row) i; published = (ap row_terms same_notes) i })
          ∙ only_reader

      pub same_run : divide_run vector value after ≡ divide_run vector value h
      same_run = λ i. record { state = same_state i; notes = same_notes i; fronts_count = h.fronts; processed_count = h.processed; over = is_some (answer_of vector value h.over) }

      same_taken : taken_notes vector value (set h.readers w r) ≡ taken_notes vector value h.readers
      same_taken = ap (λ (s : DivideState). s.taken) only_reader

      same_free : free_places (divide_view vector value after) ≡ free_places (divide_view vector value h)
      same_free = λ i. free_places (record (divide_view vector value h) { run = same_run i; row = same_row i })

      pub met_kept : IsDivideMerge vector value belongs ord n lim p quotient_room rest_room after
      met_kept = record {
        made_for =
            subst (λ (b : RowIdentity). IsMadeFor vector value belongs ord n lim p h.divisor h.dividend b (map reader_name (set h.readers w r))) (sym same_row)
            (subst (λ (ns : List RingName). IsMadeFor vector value belongs ord n lim p h.divisor h.dividend (writer_row h.writer) ns) (sym names) a.kept.made_for);
        workers = record {
          some = let s = a.kept.workers.some in let z = wide in omega arith;
          few = subst (λ (m : ℕ). m < 2 ^ 32) (sym wide) a.kept.workers.few;
          reading = All-set IsReading h.readers w r of.0 a.kept.workers.reading;
          heads_long = a.kept.workers.heads_long ∙ sym wide;
          not_ended = a.kept.workers.not_ended;
          heads_belong = a.kept.workers.heads_belong;
          marks_long = a.kept.workers.marks_long ∙ sym wide;
          marks_are = λ v m l. subst (λ (ts : List (List Note)). IsLatest vector (get_or h.marks v m) (latest_mark (notes_at ts v))) (sym same_taken) (a.kept.workers.marks_are v m (let z = wide in omega arith));
        };
        terms = a.kept.terms;
        publishing = yof.0;
        row_room =
            subst (λ (ns : List RowNote). length ns ≤ (writer_row y).places) (sym same_notes)
            (subst (λ (b : RowIdentity). length (published_notes vector value h.writer) ≤ b.places) (sym same_row) a.kept.row_room);
        whole = subst RunWhole (sym same_run) a.kept.whole;
        begun = a.kept.begun;
        cause =
            subst (λ (i : ℕ). IfSome (answer_of vector value h.over) (λ x. IsFinal x × IsVerdict (divide_state vector value after) i h.spare x)) (sym same_free)
            (subst (λ (s : DivideState). IfSome (answer_of vector value h.over) (λ x. IsFinal x × IsVerdict s (free_places (divide_view vector value h)) h.spare x)) (sym same_state) a.kept.cause);
        counted = a.kept.counted ∙ ap (λ (ts : List (List Note)). min (notes_count ts) 18446744073709551615) (sym same_taken);
      }

      pub met : (v : DivideView) (xs : List (NoteOf M E)) (head : ℕ) → divide_view vector value h ≡ v → tail_seen d ≤ tail_seen r → IsPrefix (taken r) xs → length (taken r) ≤ head → length xs ≤ tail_seen r
          → Met w v (divide_view vector value after) (notes_of vector value xs) (length xs) head
      met v xs head view tail begins seen told = record {
        run = same_run ∙ ap (λ (u : DivideView). u.run) view;
        answer = ap (λ (u : DivideView). u.answer) view;
        spare = ap (λ (u : DivideView). u.spare) view;
        rings = names ∙ ap (λ (u : DivideView). u.rings) view;
        row = same_row ∙ ap (λ (u : DivideView). u.row) view;
        tails = subst (λ (u : DivideView). NoneBelow u.tails (map tail_seen (set h.readers w r))) view
            (subst (NoneBelow (map tail_seen h.readers)) (sym (map-set tail_seen h.readers w r)) (NoneBelow-set (map tail_seen h.readers) w (tail_seen r) (let z = ap (λ (q : Reader X M E). tail_seen q) (here r) in let m = lists.get_or-map tail_seen h.readers w r 0 a.below in omega arith)));
        prefix = met_prefix vector value h.readers w r xs a.below begins;
        reader_seen = let m = met_tail h.readers w r a.below in omega arith;
        writer_seen = let m = met_count vector value h.readers w r a.below in omega arith;
      }

      script_is : script_in ring ≡ divide_script (divide_state vector value after) w
      unfolding divide_script
      script_is =
          ap (λ (b : RingName). b.script) (sym (a.at (ring_name ring))) ∙ a.kept.made_for.scripts w (ring_name ring) (let z = length-map h.readers reader_name in let b = a.below in omega arith)
          ∙ ap (λ (c : ℕ). QuotientScript (first_division (map reader_name h.readers)) c w) (length-map h.readers reader_name)
          ∙ ap (λ (s : DivideState). QuotientScript s.division s.workers w) (sym same_state)

      pub met_owed : (xs : List (NoteOf M E)) → IsPrefix (taken r) xs → Carries vector value (script_in ring) xs → IsOwed (divide_view vector value after) w (notes_of vector value xs)
      met_owed xs begins carries =
          let u : DivideView = divide_view vector value after in
          let s : Script = divide_script u.run.state w in
          let q : IsPrefix (taken_of u w) (notes_of vector value xs) = met_prefix vector value h.readers w r xs a.below begins in
          let mine : Carry s (notes_of vector value xs) = subst (λ (t : Script). Carry t (notes_of vector value xs)) script_is carries in
          let whole : Carry s (taken_of u w ++ q.0) = subst (λ (ns : List Note). Carry s ns) (sym q.1) mine in
          (q.0, sym q.1, owed_split s (taken_of u w) q.0 whole ∙ ap (λ (ns : List Note). terms_in q.0 ++ owed s ns) q.1)
