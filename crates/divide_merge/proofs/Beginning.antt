-- A merge of a division as it begins, and as it goes on with a new row.
use Rattle.std.proofs.Common.{◌≡◌, inl, inr, ℕ, ◌*◌, ◌<◌, ◌^◌, ℤ, min, false, List, [], ◌∷◌, length, map, replicate, All, Option, Some, None, refl, sym, ap, ◌∙◌, subst, arith}
use Rattle.std.proofs.lemmas.List.{length-replicate, get_or-replicate}
use Rattle.std.proofs.lemmas.List.Elements.{All-nil, All-replicate}
use Rattle.sdmp_laws.specs.Order.{Order}
use Rattle.sdmp_laws.specs.Poly.{Term, norm}
use Rattle.sdmp_laws.specs.Canonical.{Polynomial}
use Rattle.sdmp_laws.specs.Division.{Division}
use Rattle.sdmp_laws.specs.Limits.{PassesBound}
use Rattle.sdmp_laws.proofs.Parts.{norm_nil}
use Rattle.whole_laws.specs.Notes.{Note}
use Rattle.whole_laws.specs.Wholes.{MergeState, merge_start, notes_of as notes_at}
use Rattle.divide_wholes.specs.Row.{RowNote, row_terms}
use Rattle.divide_wholes.specs.Wholes.{DivideState, divide_start, latest_mark, mark_after}
use Rattle.divide_wholes.specs.MergeRow.{with_new_row}
use Rattle.dividing_rounds.specs.Found.{Fits}
use Rattle.dividing_rounds.specs.Stalls.{IsStuck, IsLow}
use Rattle.dividing_rounds.specs.Runs.{RunWhole, run_start, run_row}
use Rattle.divide_merge.specs.Verdicts.{Verdict, Finishes, HasNone, PassesNorm, PassesCount, IsBlocked, RowIsFull, OutIsFull, IsVerdict, IsFinal, IsPresentAt, IsTermDue}
use Rattle.divide_merge.specs.Merges.{free_places}
use Rattle.canonical_terms.specs.View.{sum_of}
use Rattle.canonical_terms.specs.declared.term.TermOf.{TermOf}
use Rattle.std.specs.Option.{IfSome, is_some}
use Rattle.term_ring.specs.Ends.{taken}
use Rattle.term_ring.specs.Names.{notes_count, reader_name, IsReading}
use Rattle.term_ring.specs.declared.ring.Reader.{Reader}
use Rattle.ring_heads.specs.declared.head.HeadOf.{HeadOf}
use Rattle.ring_heads.specs.declared.head.HeadOf.TheVariants as head
use Rattle.ring_heads.specs.Heads.{plain_heads, HeadBelongs}
use Rattle.quotient_row.specs.Ends.{published}
use Rattle.quotient_row.specs.Names.{RowName}
use Rattle.quotient_row.specs.Spelling.{notes_of as row_notes_of}
use Rattle.quotient_row.specs.declared.row.RowWriter.{RowWriter}
use Rattle.global_heap.specs.Inside.{merge_state}
use Rattle.global_heap.specs.Names.{first_product}
use Rattle.global_heap.proofs.Begun.{start_state, no_count}
use Rattle.divide_merge.specs.Names.{writer_row, IsPublishing, script_division, first_division, HasScripts, IsFit}
use Rattle.divide_merge.specs.Divisors.{IsDivisor}
use Rattle.divide_merge.specs.Inside.{Held, answer_of, NotEnded, taken_notes, published_notes, divide_state, divide_run, divide_view, IsLatest, IsDivideMerge}
use Rattle.divide_merge.specs.declared.divisor.Divisor.{Divisor}
use Rattle.divide_merge.specs.declared.mark.Mark.{Mark}
use Rattle.dividing_rounds.proofs.RunLemmas.{run_start_law, run_row_law}

no_mark : latest_mark [] ≡ (0, None)
unfolding latest_mark mark_after
no_mark = refl

-- ---- what an answer says of the state it says with a new row
module _ (s : DivideState) where
  stuck_on : (m : Option (List ℕ)) (w : ℕ) → IsStuck (with_new_row s) m w → IsStuck s m w
  unfolding with_new_row IsLow
  stuck_on m w k = record { asked = record { worker = k.asked.worker; no_head = k.asked.no_head; rows = k.asked.rows }; waits = k.waits }

  fits_on : (x : List ℕ) (u : ℤ) → Fits (with_new_row s) x u → Fits s x u
  unfolding with_new_row
  fits_on x u f = record { divides = f.divides; reduced = f.reduced; product = f.product }

  fits_back : (x : List ℕ) (u : ℤ) → Fits s x u → Fits (with_new_row s) x u
  unfolding with_new_row
  fits_back x u f = record { divides = f.divides; reduced = f.reduced; product = f.product }

  present_on : (x : List ℕ) → IsPresentAt s x → IsPresentAt (with_new_row s) x
  unfolding with_new_row
  present_on x k = record { read = k.read; heard = λ w h. k.heard w (stuck_on (Some x) w h); there = k.there }

  term_on : (t : Term) → IsTermDue s t → IsTermDue (with_new_row s) t
  unfolding with_new_row
  term_on t k = record { at = k.at; present = present_on k.at k.present; fits = fits_back k.at t.coefficient k.fits; is = k.is }

  row_changed : (x : Verdict) (i j m n : ℕ) → IsFinal x → IsVerdict s i m x → IsVerdict (with_new_row s) j n x
  unfolding IsVerdict IsFinal with_new_row
  row_changed Finishes i j m n f v = (v.0, λ w k. v.1 w (stuck_on None w k))
  row_changed (HasNone x) i j m n f v = (v.0, record { present = present_on x v.1.present; none = λ u k. v.1.none u (fits_on x u k) })
  row_changed (PassesNorm t) i j m n f v = (term_on t v.0, v.1)
  row_changed (PassesCount t) i j m n f v = (term_on t v.0, v.1, v.2)
  row_changed (IsBlocked w) i j m n f v = absurd f
  row_changed RowIsFull i j m n f v = absurd f
  row_changed OutIsFull i j m n f v = absurd f

module _ {X M E : Type 0} (vector : M → List ℕ) (value : E → ℤ) (belongs : ℕ → E → Type 0) (ord : Order) (n lim p quotient_room rest_room : ℕ) where
  -- what a new merge is made of
  pub record Begins (D : Division) (rs : List (Reader X M E)) (w : RowWriter X M E) (a : Divisor M E) (f : Polynomial) : Type 0 where
    pub some : 0 < length rs
    pub few : length rs < 2 ^ 32
    pub scripts : HasScripts D (map reader_name rs)
    pub fit : IsFit lim D
    pub ordered : D.ord ≡ ord
    pub variables : D.n ≡ n
    pub modulus : D.p ≡ p
    pub reading : All IsReading rs
    pub nothing : All (λ r. taken r ≡ []) rs
    pub publishing : IsPublishing w
    pub row : (writer_row w).name ≡ record { division = D; start = 0 }
    pub unpublished : published w ≡ []
    pub divisor_is : IsDivisor vector value (belongs p) lim D a
    pub dividend_is : f ≡ record { modulus = p; list = D.f }

  module _ (D : Division) (rs : List (Reader X M E)) (w : RowWriter X M E) (a : Divisor M E) (f : Polynomial) (b : Begins D rs w a f) where
    pub first_is : first_division (map reader_name rs) ≡ D
    first_is = walk rs b.some b.scripts
      where
        walk : (ys : List (Reader X M E)) → 0 < length ys → HasScripts D (map reader_name ys) → first_division (map reader_name ys) ≡ D
        walk [] l h = absurd (omega arith)
        walk (r ∷ ys) l h = ap script_division (h 0 (reader_name r) (omega arith))

    abbrev pub fresh : Held X M E
    fresh = record {
      divisor = a;
      dividend = f;
      seen = 0;
      readers = rs;
      marks = replicate (length rs) (record { known = 0; top = None });
      heads = replicate (length rs) head.Missing;
      found = [];
      rest = [];
      norm = 0;
      spare = 0;
      writer = w;
      front = None;
      last = None;
      over = None;
      taken = 0;
      fronts = 0;
      processed = 0;
    }

    plain : merge_state vector value rs (replicate (length rs) head.Missing) [] ≡ merge_start (first_product (map reader_name rs)) (length rs)
    plain = start_state vector value rs b.nothing

    none_taken : taken_notes vector value rs ≡ replicate (length rs) []
    unfolding merge_start
    none_taken = ap (λ (s : MergeState). s.taken) plain

    no_heads : plain_heads vector value (replicate (length rs) head.Missing) ≡ replicate (length rs) None
    unfolding merge_start
    no_heads = ap (λ (s : MergeState). s.heads) plain

    fresh_state : divide_state vector value fresh ≡ divide_start D (length rs)
    unfolding divide_start row_terms
    fresh_state = λ i. record {
      division = first_is i;
      workers = length rs;
      q = [];
      r = [];
      unread = (ap (λ (g : Polynomial). g.list) b.dividend_is) i;
      heads = no_heads i;
      taken = none_taken i;
      last = None;
      front = None;
      start = (ap (λ (r : RowName). r.start) b.row) i;
      published = (ap (λ (ns : List _). row_terms (row_notes_of vector value ns)) b.unpublished) i;
    }

    pub fresh_run : divide_run vector value fresh ≡ run_start D (length rs)
    unfolding run_start
    fresh_run = λ i. record { state = fresh_state i; notes = (ap (row_notes_of vector value) b.unpublished) i; fronts_count = 0; processed_count = 0; over = false }

    not_passed : PassesBound D [] → ⊥
    not_passed (inl h) = let z = norm_nil in let k = b.fit.dividend.norm_fits h.integers in let o = h.over in let m = ap (λ (i : ℕ). i * norm D.g) z in omega arith
    not_passed (inr l) = omega arith

    pub begins : IsDivideMerge vector value belongs ord n lim p quotient_room rest_room fresh
    unfolding notes_at
    begins = record {
      made_for = record {
        scripts = subst (λ (d : Division). HasScripts d (map reader_name rs)) (sym first_is) b.scripts;
        fit = subst (IsFit lim) (sym first_is) b.fit;
        ordered = ap (λ (d : Division). d.ord) first_is ∙ b.ordered;
        variables = ap (λ (d : Division). d.n) first_is ∙ b.variables;
        modulus = ap (λ (d : Division). d.p) first_is ∙ b.modulus;
        row_division = ap (λ (r : RowName). r.division) b.row ∙ sym first_is;
        divisor_is = subst (λ (d : Division). IsDivisor vector value (belongs p) lim d a) (sym first_is) b.divisor_is;
        dividend_is = b.dividend_is ∙ ap (λ (d : Division). record { modulus = p; list = d.f }) (sym first_is);
      };
      workers = record {
        some = b.some;
        few = b.few;
        reading = b.reading;
        heads_long = length-replicate {A = HeadOf M E} (length rs) head.Missing;
        not_ended = All-replicate NotEnded (length rs) head.Missing tt;
        heads_belong = All-replicate (HeadBelongs (belongs p)) (length rs) head.Missing tt;
        marks_long = length-replicate {A = Mark M} (length rs) (record { known = 0; top = None });
        marks_are = λ v m l.
            subst (λ (k : Mark M). IsLatest vector k (latest_mark (notes_at (taken_notes vector value rs) v))) (sym (get_or-replicate {A = Mark M} (length rs) v (record { known = 0; top = None }) m l))
            (subst (λ (ts : List (List Note)). IsLatest vector (record { known = 0; top = None }) (latest_mark (notes_at ts v))) (sym none_taken) (no_notes v l));
      };
      terms = record {
        found_belongs = All-nil (λ t. belongs p t.coef);
        rest_belongs = All-nil (λ t. belongs p t.coef);
        norm_is = λ z. sym norm_nil;
        room = omega arith;
        rest_fits = omega arith;
      };
      publishing = b.publishing;
      row_room = let e = ap (λ (ns : List RowNote). length ns) (ap (row_notes_of vector value) b.unpublished) in omega arith;
      whole = subst RunWhole (sym fresh_run) (run_start_law D (length rs) b.some not_passed);
      begun = ((λ e. omega arith), (λ e. refl));
      cause = tt;
      counted = ap (λ (c : ℕ). min c 18446744073709551615) (sym (ap notes_count none_taken ∙ no_count (length rs)));
    }
      where
        no_notes : (v : ℕ) → v < length rs → IsLatest vector (record { known = 0; top = None }) (latest_mark (notes_at (replicate (length rs) []) v))
        no_notes v l =
            subst (λ (ns : List Note). IsLatest vector (record { known = 0; top = None }) (latest_mark ns)) (sym (get_or-replicate {A = List Note} (length rs) v [] [] l))
            (subst (IsLatest vector (record { known = 0; top = None })) (sym no_mark) (record { known = refl; top = refl }))

    -- the same, by what the lists hold
    abbrev with_lists : List (HeadOf M E) → List (Mark M) → List (TermOf M E) → List (TermOf M E) → Held X M E
    with_lists hs ms found rest = record fresh { heads = hs; marks = ms; found = found; rest = rest }

    module _ (hs : List (HeadOf M E)) (ms : List (Mark M)) (found rest : List (TermOf M E)) (eh : hs ≡ replicate (length rs) head.Missing) (em : ms ≡ replicate (length rs) (record { known = 0; top = None })) (ef : found ≡ []) (er : rest ≡ []) where
      pub begins_with : IsDivideMerge vector value belongs ord n lim p quotient_room rest_room (with_lists hs ms found rest)
      begins_with = subst (IsDivideMerge vector value belongs ord n lim p quotient_room rest_room) (sym (λ i. with_lists (eh i) (em i) (ef i) (er i))) begins

      pub run_with : divide_run vector value (with_lists hs ms found rest) ≡ run_start D (length rs)
      run_with = (λ i. divide_run vector value (with_lists (eh i) (em i) (ef i) (er i))) ∙ fresh_run

  -- ---- a new row
  -- a front that was published once is there still, and what the answers say doesn't speak of the row
  module _ (h : Held X M E) (k : IsDivideMerge vector value belongs ord n lim p quotient_room rest_room h) (w : RowWriter X M E) where
    pub record Renewed : Type 0 where
      pub publishing : IsPublishing w
      pub division : (writer_row w).name.division ≡ first_division (map reader_name h.readers)
      pub start : (writer_row w).name.start ≡ length (sum_of vector value h.found)
      pub unpublished : published w ≡ []

    module _ (u : Renewed) where
      notes_none : published_notes vector value w ≡ []
      notes_none = ap (row_notes_of vector value) u.unpublished

      renewed_state : divide_state vector value (record h { writer = w }) ≡ with_new_row (divide_state vector value h)
      unfolding with_new_row row_terms
      renewed_state = λ i. record (divide_state vector value h) { start = u.start i; published = (ap row_terms notes_none) i }

      pub renewed_run : divide_run vector value (record h { writer = w }) ≡ run_row (divide_run vector value h)
      unfolding run_row
      renewed_run = λ i. record { state = renewed_state i; notes = notes_none i; fronts_count = h.fronts; processed_count = h.processed; over = is_some (answer_of vector value h.over) }

      pub renews : IsDivideMerge vector value belongs ord n lim p quotient_room rest_room (record h { writer = w })
      renews = record {
        made_for = record {
          scripts = k.made_for.scripts;
          fit = k.made_for.fit;
          ordered = k.made_for.ordered;
          variables = k.made_for.variables;
          modulus = k.made_for.modulus;
          row_division = u.division;
          divisor_is = k.made_for.divisor_is;
          dividend_is = k.made_for.dividend_is;
        };
        workers = k.workers;
        terms = k.terms;
        publishing = u.publishing;
        row_room = let e = ap (λ (ns : List RowNote). length ns) notes_none in omega arith;
        whole = subst RunWhole (sym renewed_run) (run_row_law (divide_run vector value h) k.whole).0;
        begun = k.begun;
        cause = pick (answer_of vector value h.over) k.cause;
        counted = k.counted;
      }
        where
          pick : (o : Option Verdict) → IfSome o (λ x. IsFinal x × IsVerdict (divide_state vector value h) (free_places (divide_view vector value h)) h.spare x)
              → IfSome o (λ x. IsFinal x × IsVerdict (divide_state vector value (record h { writer = w })) (free_places (divide_view vector value (record h { writer = w }))) h.spare x)
          pick None c = tt
          pick (Some x) c = (c.0, subst (λ (s : DivideState). IsVerdict s (free_places (divide_view vector value (record h { writer = w }))) h.spare x) (sym renewed_state) (row_changed (divide_state vector value h) x _ _ _ _ c.0 c.1))
