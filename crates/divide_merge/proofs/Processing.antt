-- A merge of a division stays as it is to be when it processes what is read next.
use Rattle.std.proofs.Common.{◌≡◌, ℕ, zero, suc, ◌+◌, ◌<◌, ◌^◌, ℤ, pos, true, false, Bool, cond, true≢false, List, [], ◌∷◌, ◌++◌, length, drop, map, All, Option, Some, None, is_some, refl, sym, ap, ◌∙◌, subst, arith, length-append}
use Rattle.std.proofs.lemmas.List.{length-map, map-append}
use Rattle.std.proofs.lemmas.Option.{MatchOption-from_none}
use Rattle.std.proofs.lemmas.List.Elements.{All-push}
use Rattle.sdmp_laws.specs.Order.{Order, ◌⋅◌}
use Rattle.sdmp_laws.specs.Poly.{Term, without, lm, AllBelow, Decreasing, norm}
use Rattle.sdmp_laws.specs.Canonical.{Polynomial}
use Rattle.sdmp_laws.specs.Division.{Division, AllAtOrBelow}
use Rattle.sdmp_laws.proofs.LongLemmas.{over_times}
use Rattle.sdmp_laws.proofs.NextTerm.{at_both}
use Rattle.whole_laws.specs.Wholes.{head_terms, clear_at}
use Rattle.whole_laws.proofs.NotesLemmas.{alike_from}
use Rattle.divide_wholes.specs.Row.{RowNote, RowTerm, RowCarry, row_terms}
use Rattle.divide_wholes.specs.Wholes.{DivideState, processed, found, kept}
use Rattle.divide_wholes.proofs.RowLemmas.{row_terms-append}
use Rattle.divide_wholes.proofs.ProcessLemmas.{without_below}
use Rattle.canonical_terms.specs.View.{term_of, sum_of}
use Rattle.canonical_terms.specs.declared.term.TermOf.{TermOf}
use Rattle.dividing_rounds.specs.Found.{read_coef, IsNext, IsQuotientAt, IsRestAt}
use Rattle.dividing_rounds.specs.Runs.{RunWhole, run_zero, run_rest, run_found, run_over}
use Rattle.dividing_rounds.specs.Stalls.{GoesOn}
use Rattle.ring_heads.specs.declared.head.HeadOf.{HeadOf}
use Rattle.ring_heads.specs.Heads.{plain_heads, HeadBelongs, TopFits, size_at}
use Rattle.quotient_row.specs.Ends.{published, IsWriterOf, name_of}
use Rattle.quotient_row.specs.Legal.{Legal, Fits as RowFits}
use Rattle.quotient_row.specs.Spelling.{notes_of as row_notes_of, note_of as row_note_of}
use Rattle.quotient_row.specs.declared.row.Row.{Row}
use Rattle.quotient_row.specs.declared.row.RowWriter.{RowWriter}
use Rattle.quotient_row.specs.declared.note.RowNoteOf.TheVariants as row_note
use Rattle.term_ring.specs.Names.{reader_name}
use Rattle.divide_merge.specs.Names.{RowIdentity, row_identity, writer_row, IsPublishing, first_division, IsFit}
use Rattle.divide_merge.specs.Verdicts.{NoneStuck, IsVerdict, IsFinal}
use Rattle.divide_merge.specs.Merges.{DivideView, IsSound, verdict_of, free_places}
use Rattle.divide_merge.specs.Reading.{IsReadNext, BeginsAt}
use Rattle.divide_merge.specs.Steps.{PassesOver, FindsTerm, KeepsTerm, EndsWith}
use Rattle.divide_merge.specs.Inside.{Held, vector_of, answer_of, NotEnded, taken_notes, published_notes, divide_state, divide_run, divide_view, IsMadeFor, HasWorkers, IsDivideMerge}
use Rattle.divide_merge.specs.declared.answer.DivideAdvanceOf.{DivideAdvanceOf}
use Rattle.divide_merge.specs.declared.mark.Next.{Next}
use Rattle.dividing_rounds.proofs.LogLemmas.{counts_fit}
use Rattle.dividing_rounds.proofs.RunLemmas.{run_zero_law, run_rest_law, run_found_law, run_row_law}
use Rattle.dividing_rounds.proofs.StallLemmas.{nobody_stuck}
use Rattle.divide_merge.proofs.Sound.{workload_low, is_sound}
use Rattle.divide_merge.proofs.Overflow.{read_fits}
use Rattle.divide_merge.proofs.Publishing.{row_of, legal_after}
use Rattle.divide_merge.proofs.OneAnswer.{at_has}

-- ---- the unread terms after those at x
not_cons : (t : Term) (rest : List Term) → t ∷ rest ≡ [] → ⊥
not_cons t rest e = true≢false (ap (λ (A : List Term). elim A as (λ _. Bool) [ [] ↦ false | u ∷ B ↦ true ]) e)

drop_nothing : (n : ℕ) → drop {A = Term} n [] ≡ []
drop_nothing zero = refl
drop_nothing (suc n) = refl

drop_next : (n : ℕ) (L : List Term) (t : Term) (rest : List Term) → drop n L ≡ t ∷ rest → drop (n + 1) L ≡ rest
drop_next n [] t rest e = absurd (not_cons t rest (sym e ∙ drop_nothing n))
drop_next zero (u ∷ L) t rest e = ap (λ (A : List Term). drop 1 A) e
drop_next (suc n) (u ∷ L) t rest e = ap (λ (i : ℕ). drop i (u ∷ L)) (let f : suc n + 1 ≡ suc (n + 1) = omega arith in f) ∙ drop_next n L t rest e

decreasing_drop : (ord : Order) (n : ℕ) (L : List Term) → Decreasing ord L → Decreasing ord (drop n L)
unfolding Decreasing
decreasing_drop ord zero L d = d
decreasing_drop ord (suc n) [] d = tt
decreasing_drop ord (suc n) (t ∷ L) d = decreasing_drop ord n L d.1

pub unread_after : (ord : Order) (n : ℕ) (L : List Term) (x : List ℕ) (b : Bool) → Decreasing ord L → (b ≡ true → BeginsAt x (drop n L)) → (b ≡ false → AllBelow ord x (drop n L)) → drop (cond b (n + 1) n) L ≡ without x (drop n L)
unfolding Decreasing without
unread_after ord n L x true d at below =
    let u = at refl in
    let k : Decreasing ord (u.0 ∷ u.1) = subst (Decreasing ord) u.2 (decreasing_drop ord n L d) in
    drop_next n L u.0 u.1 u.2
    ∙ sym (ap (without x) u.2 ∙ ap (λ (c : Bool). cond c (without x u.1) (u.0 ∷ without x u.1)) (alike_from u.0.monomial x u.3)
    ∙ without_below ord x u.1 (subst (λ (v : List ℕ). AllBelow ord v u.1) u.3 k.0))
unread_after ord n L x false d at below = sym (without_below ord x (drop n L) (below refl))

-- it is read where an unread term stands there
pub read_below : (n : ℕ) (L : List Term) (x : List ℕ) → BeginsAt x (drop n L) → n < length L
read_below n L x u = some n L (ap (λ (A : List Term). length A) u.2)
  where
    some : (n : ℕ) (L : List Term) → length (drop n L) ≡ length (u.0 ∷ u.1) → n < length L
    some zero [] e = absurd (omega arith)
    some (suc n) [] e = absurd (omega arith)
    some zero (t ∷ L) e = omega arith
    some (suc n) (t ∷ L) e = let i = some n L e in omega arith

-- one more term is found
sum_more : {M E : Type 0} (vector : M → List ℕ) (value : E → ℤ) (ts : List (TermOf M E)) (t : TermOf M E) → sum_of vector value (ts ++ t ∷ []) ≡ sum_of vector value ts ++ term_of vector value t ∷ []
sum_more vector value ts t = map-append (term_of vector value) ts (t ∷ [])

module _ {X M E : Type 0} (vector : M → List ℕ) (value : E → ℤ) (belongs : ℕ → E → Type 0) (ord : Order) (n lim p quotient_room rest_room : ℕ) where
  -- what is read next, of which nothing more has to be heard
  pub record Ready (h : Held X M E) (x : Next M) : Type 0 where
    pub kept : IsDivideMerge vector value belongs ord n lim p quotient_room rest_room h
    pub going : answer_of vector value h.over ≡ None
    pub next : IsReadNext vector (divide_state vector value h) x
    pub heard : NoneStuck (divide_state vector value h) (Some (vector x.mono))

  -- the heads and the number read after it
  pub record Cleared (h : Held X M E) (x : Next M) (hs : List (HeadOf M E)) (k : ℕ) : Type 0 where
    pub heads : plain_heads vector value hs ≡ clear_at (vector x.mono) (plain_heads vector value h.heads)
    pub long : length hs ≡ length h.heads
    pub belongs_all : All (HeadBelongs (belongs p)) hs
    pub not_ended : All NotEnded hs
    pub seen : k ≡ cond x.unread (h.seen + 1) h.seen

  module _ (h : Held X M E) (x : Next M) (r : Ready h x) where
    abbrev d : Division
    d = first_division (map reader_name h.readers)

    fit : IsFit lim (first_division (map reader_name h.readers))
    fit = r.kept.made_for.fit

    pub next_is : IsNext (divide_state vector value h) (vector x.mono)
    unfolding GoesOn
    next_is = nobody_stuck (divide_state vector value h) (Some (vector x.mono)) fit.accepted r.kept.whole.whole r.next.greatest r.heard

    list_is : h.dividend.list ≡ d.f
    list_is = ap (λ (f : Polynomial). f.list) r.kept.made_for.dividend_is

    -- the sum of the heads there has room
    pub top_fits : p ≡ 0 → x.headed ≡ true → TopFits ord (plain_heads vector value h.heads)
    top_fits over headed y top =
        let mine = r.next.headed headed in
        let o = r.kept.made_for.ordered in
        let same : y ≡ vector x.mono = at_both d.ord y (vector x.mono) (at_has d.ord y (vector x.mono) (head_terms (plain_heads vector value h.heads)) top.there mine.greatest)
        (at_has d.ord (vector x.mono) y (head_terms (plain_heads vector value h.heads)) mine.there (subst (λ (i : Order). AllAtOrBelow i y (head_terms (plain_heads vector value h.heads))) (sym o) top.greatest)) in
        let f = read_fits (divide_state vector value h) (vector x.mono) fit.accepted r.kept.whole.whole next_is.candidate (r.kept.made_for.modulus ∙ over) in
        let e = ap (λ (v : List ℕ). size_at v (head_terms (plain_heads vector value h.heads))) same in
        omega arith

    pub seen_low : x.unread ≡ true → h.seen < 2 ^ 63
    seen_low u =
        let b = read_below h.seen h.dividend.list (vector x.mono) (r.next.unread u) in
        let e = ap (λ (L : List Term). length L) list_is in
        let f = fit.few_dividend in
        omega arith

    -- one more may be counted
    pub processed_low : h.processed + 1 < 2 ^ 64
    processed_low =
        let c = (counts_fit (divide_run vector value h) r.kept.whole).0 in
        let w = workload_low lim d (sum_of vector value h.found) fit r.kept.whole.whole.within in
        omega arith

    -- ---- what is processed
    module _ (hs : List (HeadOf M E)) (k : ℕ) (c : Cleared h x hs k) where
      unread_is : drop k h.dividend.list ≡ without (vector x.mono) (drop h.seen h.dividend.list)
      unread_is =
          ap (λ (i : ℕ). drop i h.dividend.list) c.seen
          ∙ unread_after d.ord h.seen h.dividend.list (vector x.mono) x.unread (subst (Decreasing d.ord) (sym list_is) fit.dividend.poly.decreasing) r.next.unread r.next.no_unread

      workers_after : HasWorkers vector value (belongs p) h.readers hs h.marks
      workers_after =
          let w = r.kept.workers in record {
            some = w.some;
            few = w.few;
            reading = w.reading;
            heads_long = c.long ∙ w.heads_long;
            not_ended = c.not_ended;
            heads_belong = c.belongs_all;
            marks_long = w.marks_long;
            marks_are = w.marks_are;
          }

      -- where the coefficient is zero
      abbrev passed : Held X M E
      passed = record h { heads = hs; seen = k; last = Some x.mono; processed = h.processed + 1 }

      passed_state : divide_state vector value passed ≡ processed (divide_state vector value h) (vector x.mono)
      unfolding processed
      passed_state = λ i. record {
        division = d;
        workers = length h.readers;
        q = sum_of vector value h.found;
        r = sum_of vector value h.rest;
        unread = unread_is i;
        heads = c.heads i;
        taken = taken_notes vector value h.readers;
        last = Some (vector x.mono);
        front = vector_of vector h.front;
        start = (writer_row h.writer).name.start;
        published = row_terms (published_notes vector value h.writer);
      }

      pub passed_run : divide_run vector value passed ≡ run_zero (divide_run vector value h) (vector x.mono)
      unfolding run_zero
      passed_run = ap (λ (s : DivideState). record (divide_run vector value h) { state = s; processed_count = h.processed + 1 }) passed_state

      pub pass_kept : read_coef (divide_state vector value h) (vector x.mono) ≡ pos 0 → IsDivideMerge vector value belongs ord n lim p quotient_room rest_room (record h { heads = hs; seen = k; last = Some x.mono; processed = h.processed + 1 })
      pass_kept gone = record {
        made_for = r.kept.made_for;
        workers = workers_after;
        terms = r.kept.terms;
        publishing = r.kept.publishing;
        row_room = r.kept.row_room;
        whole = subst RunWhole (sym passed_run) (run_zero_law (divide_run vector value h) (vector x.mono) fit.accepted r.kept.whole next_is gone);
        begun = r.kept.begun;
        cause = MatchOption-from_none (answer_of vector value h.over) _ r.going;
        counted = r.kept.counted;
      }

      pub pass_view : PassesOver (divide_view vector value h) (divide_view vector value (record h { heads = hs; seen = k; last = Some x.mono; processed = h.processed + 1 })) (vector x.mono)
      pass_view = record { steady = record { rings = refl; row = refl; tails = refl; looks = refl }; run = passed_run; answer = refl; spare = refl }

      -- ---- where a term goes to the remainder
      module _ (t : TermOf M E) (s : ℕ) where
        abbrev gone : Held X M E
        gone = record h { heads = hs; seen = k; last = Some x.mono; processed = h.processed + 1; rest = h.rest ++ t ∷ []; spare = s }

        gone_state : term_of vector value t ≡ record { monomial = vector x.mono; coefficient = read_coef (divide_state vector value h) (vector x.mono) } → divide_state vector value gone ≡ kept (divide_state vector value h) (vector x.mono)
        unfolding processed kept
        gone_state e = λ i. record {
          division = d;
          workers = length h.readers;
          q = sum_of vector value h.found;
          r = (sum_more vector value h.rest t ∙ ap (λ (u : Term). sum_of vector value h.rest ++ u ∷ []) e) i;
          unread = unread_is i;
          heads = c.heads i;
          taken = taken_notes vector value h.readers;
          last = Some (vector x.mono);
          front = vector_of vector h.front;
          start = (writer_row h.writer).name.start;
          published = row_terms (published_notes vector value h.writer);
        }

        pub gone_run : term_of vector value t ≡ record { monomial = vector x.mono; coefficient = read_coef (divide_state vector value h) (vector x.mono) } → divide_run vector value gone ≡ run_rest (divide_run vector value h) (vector x.mono)
        unfolding run_rest
        gone_run e = ap (λ (u : DivideState). record (divide_run vector value h) { state = u; processed_count = h.processed + 1 }) (gone_state e)

        pub keep_kept : s + 1 ≡ h.spare → belongs p t.coef → term_of vector value t ≡ record { monomial = vector x.mono; coefficient = read_coef (divide_state vector value h) (vector x.mono) } → IsRestAt (divide_state vector value h) (vector x.mono)
            → IsDivideMerge vector value belongs ord n lim p quotient_room rest_room (record h { heads = hs; seen = k; last = Some x.mono; processed = h.processed + 1; rest = h.rest ++ t ∷ []; spare = s })
        keep_kept less mine e at =
            let l = length-append h.rest (t ∷ []) in record {
              made_for = r.kept.made_for;
              workers = workers_after;
              terms = let a = r.kept.terms in record {
                found_belongs = a.found_belongs;
                rest_belongs = All-push (λ u. belongs p u.coef) h.rest t a.rest_belongs mine;
                norm_is = a.norm_is;
                room = let b = a.room in omega arith;
                rest_fits = let b = a.rest_fits in omega arith;
              };
              publishing = r.kept.publishing;
              row_room = r.kept.row_room;
              whole = subst RunWhole (sym (gone_run e)) (run_rest_law (divide_run vector value h) (vector x.mono) fit.accepted r.kept.whole next_is at);
              begun = r.kept.begun;
              cause = MatchOption-from_none (answer_of vector value h.over) _ r.going;
              counted = r.kept.counted;
            }

        pub keep_view : s + 1 ≡ h.spare → term_of vector value t ≡ record { monomial = vector x.mono; coefficient = read_coef (divide_state vector value h) (vector x.mono) }
            → KeepsTerm (divide_view vector value h) (divide_view vector value (record h { heads = hs; seen = k; last = Some x.mono; processed = h.processed + 1; rest = h.rest ++ t ∷ []; spare = s })) (vector x.mono)
        keep_view less e = record { steady = record { rings = refl; row = refl; tails = refl; looks = refl }; run = gone_run e; answer = refl; spare = less }

      -- ---- where a quotient term is found and published
      module _ (t : TermOf M E) (m s : ℕ) (w : RowWriter X M E) where
        pub record Published : Type 0 where
          pub row : writer_row w ≡ writer_row h.writer
          pub notes : published w ≡ published h.writer ++ row_note.Term t ∷ []
          pub publishing : IsPublishing w
          pub place : 0 < free_places (divide_view vector value h)

        notes_are : Published → published_notes vector value w ≡ published_notes vector value h.writer ++ RowTerm (term_of vector value t) ∷ []
        notes_are u = ap (row_notes_of vector value) u.notes ∙ map-append (row_note_of vector value) (published h.writer) (row_note.Term t ∷ [])

        abbrev came : Held X M E
        came = record h { heads = hs; seen = k; last = Some x.mono; processed = h.processed + 1; found = h.found ++ t ∷ []; norm = m; spare = s; writer = w; front = Some x.mono }

        at_front : IsQuotientAt (divide_state vector value h) (vector x.mono) (term_of vector value t) → vector x.mono ≡ vector t.mono ⋅ lm d.g
        at_front q = sym (ap (λ (v : Term). v.monomial ⋅ lm d.g) q.is ∙ over_times (vector x.mono) (lm d.g) q.fits.divides)

        came_state : Published → IsQuotientAt (divide_state vector value h) (vector x.mono) (term_of vector value t) → divide_state vector value came ≡ found (divide_state vector value h) (vector x.mono) (term_of vector value t)
        unfolding processed found row_terms
        came_state u q = λ i. record {
          division = d;
          workers = length h.readers;
          q = sum_more vector value h.found t i;
          r = sum_of vector value h.rest;
          unread = unread_is i;
          heads = c.heads i;
          taken = taken_notes vector value h.readers;
          last = Some (vector x.mono);
          front = Some (at_front q i);
          start = (u.row i).name.start;
          published = (ap row_terms (notes_are u) ∙ row_terms-append (published_notes vector value h.writer) (RowTerm (term_of vector value t) ∷ [])) i;
        }

        pub came_run : Published → IsQuotientAt (divide_state vector value h) (vector x.mono) (term_of vector value t) → divide_run vector value came ≡ run_found (divide_run vector value h) (vector x.mono) (term_of vector value t)
        unfolding run_found
        came_run u q = λ i. record { state = came_state u q i; notes = notes_are u i; fronts_count = h.fronts; processed_count = h.processed + 1; over = is_some (answer_of vector value h.over) }

        pub find_kept : Published → s + 1 ≡ h.spare → belongs p t.coef → (p ≡ 0 → m ≡ norm (sum_of vector value h.found ++ term_of vector value t ∷ [])) → IsQuotientAt (divide_state vector value h) (vector x.mono) (term_of vector value t)
            → IsDivideMerge vector value belongs ord n lim p quotient_room rest_room (record h { heads = hs; seen = k; last = Some x.mono; processed = h.processed + 1; found = h.found ++ t ∷ []; norm = m; spare = s; writer = w; front = Some x.mono })
        find_kept u less mine norms q =
            let l = length-append h.found (t ∷ []) in
            let long = length-map (h.found ++ t ∷ []) (term_of vector value) in
            let places = ap (λ (i : RowIdentity). i.places) u.row in
            let more = ap (λ (L : List RowNote). length L) (notes_are u) ∙ length-append (published_notes vector value h.writer) (RowTerm (term_of vector value t) ∷ []) in record {
              made_for = subst (λ (row : RowIdentity). IsMadeFor vector value belongs ord n lim p h.divisor h.dividend row (map reader_name h.readers)) (sym u.row) r.kept.made_for;
              workers = workers_after;
              terms = let a = r.kept.terms in record {
                found_belongs = All-push (λ v. belongs p v.coef) h.found t a.found_belongs mine;
                rest_belongs = a.rest_belongs;
                norm_is = λ z. norms z ∙ ap norm (sym (sum_more vector value h.found t));
                room = let b = a.room in omega arith;
                rest_fits = let b = a.rest_fits in omega arith;
              };
              publishing = u.publishing;
              row_room = let b = u.place in omega arith;
              whole = subst RunWhole (sym (came_run u q)) (run_found_law (divide_run vector value h) (vector x.mono) (term_of vector value t) fit.accepted r.kept.whole next_is q).1;
              begun = (
                (λ e. absurd (true≢false (ap (λ (o : Option (List ℕ)). is_some o) e))),
                (λ e. absurd (omega arith)),
              );
              cause = MatchOption-from_none (answer_of vector value h.over) _ r.going;
              counted = r.kept.counted;
            }

        pub find_view : Published → s + 1 ≡ h.spare → IsQuotientAt (divide_state vector value h) (vector x.mono) (term_of vector value t)
            → FindsTerm (divide_view vector value h) (divide_view vector value (record h { heads = hs; seen = k; last = Some x.mono; processed = h.processed + 1; found = h.found ++ t ∷ []; norm = m; spare = s; writer = w; front = Some x.mono })) (vector x.mono) (term_of vector value t)
        find_view u less q = record { steady = record { rings = refl; row = u.row; tails = refl; looks = refl }; run = came_run u q; answer = refl; spare = less }

-- ---- each step, as contracts say it
module _ {X M E : Type 0} (vector : M → List ℕ) (value : E → ℤ) (belongs : ℕ → E → Type 0) (ord : Order) (n lim p quotient_room rest_room : ℕ) where
  -- the view is that of the fields, and what is read next is processed
  pub record Given (h : Held X M E) (x : Next M) (v : DivideView) : Type 0 where
    pub view : divide_view vector value h ≡ v
    pub going : v.answer ≡ None
    pub next : IsReadNext vector v.run.state x
    pub heard : NoneStuck v.run.state (Some (vector x.mono))

  pub ready : (h : Held X M E) (x : Next M) (v : DivideView) → IsDivideMerge vector value belongs ord n lim p quotient_room rest_room h → Given h x v → Ready vector value belongs ord n lim p quotient_room rest_room h x
  ready h x v whole g = record {
    kept = whole;
    going = ap (λ (u : DivideView). u.answer) g.view ∙ g.going;
    next = subst (λ (u : DivideView). IsReadNext vector u.run.state x) (sym g.view) g.next;
    heard = subst (λ (u : DivideView). NoneStuck u.run.state (Some (vector x.mono))) (sym g.view) g.heard;
  }

  -- the coefficient is one of the ring's
  its_own : (h : Held X M E) (x : Next M) (v : DivideView) → IsDivideMerge vector value belongs ord n lim p quotient_room rest_room h → Given h x v → (t : TermOf M E) → belongs v.run.state.division.p t.coef → belongs p t.coef
  its_own h x v whole g t = subst (λ (i : ℕ). belongs i t.coef) (ap (λ (u : DivideView). u.run.state.division.p) (sym g.view) ∙ whole.made_for.modulus)

  -- ---- a quotient term may be published
  module _ (h : Held X M E) (x : Next M) (v : DivideView) (whole : IsDivideMerge vector value belongs ord n lim p quotient_room rest_room h) (g : Given h x v) (row : Row X M E) (same : v.row ≡ row_identity row) (t : TermOf M E) where
    pub own_row : writer_row h.writer ≡ row_identity row
    own_row = ap (λ (u : DivideView). u.row) g.view ∙ same

    pub term_fits : belongs v.run.state.division.p t.coef → RowFits belongs (name_of row) (row_note.Term t)
    term_fits mine = subst (λ (i : ℕ). belongs i t.coef) (ap (λ (u : DivideView). u.run.state.division.p) (sym g.view) ∙ ap (λ (d : Division). d.p) (sym whole.made_for.row_division) ∙ ap (λ (i : RowIdentity). i.name.division.p) own_row) mine

    carried : IsQuotientAt (divide_state vector value h) (vector x.mono) (term_of vector value t) → RowCarry (first_division (map reader_name h.readers)) (writer_row h.writer).name.start (published_notes vector value h.writer ++ RowTerm (term_of vector value t) ∷ [])
    unfolding run_found found processed
    carried q =
        let r = ready h x v whole g in
        (run_found_law (divide_run vector value h) (vector x.mono) (term_of vector value t) whole.made_for.fit.accepted whole.whole (next_is vector value belongs ord n lim p quotient_room rest_room h x r) q).1.row.carried

    pub term_legal : IsQuotientAt v.run.state (vector x.mono) (term_of vector value t) → Legal vector value (name_of row) (published h.writer ++ row_note.Term t ∷ [])
    term_legal q = legal_after row vector value h own_row (first_division (map reader_name h.readers)) (row_note.Term t) whole.made_for.row_division (carried (subst (λ (u : DivideView). IsQuotientAt u.run.state (vector x.mono) (term_of vector value t)) (sym g.view) q))

  module _ (h : Held X M E) (x : Next M) (v : DivideView) (whole : IsDivideMerge vector value belongs ord n lim p quotient_room rest_room h) (g : Given h x v) (hs : List (HeadOf M E)) (k : ℕ) (c : Cleared vector value belongs ord n lim p quotient_room rest_room h x hs k) where
    -- where the coefficient is zero
    pub record Passed : Type 0 where
      pub kept : IsDivideMerge vector value belongs ord n lim p quotient_room rest_room (record h { heads = hs; seen = k; last = Some x.mono; processed = h.processed + 1 })
      pub sound : IsSound lim (divide_view vector value (record h { heads = hs; seen = k; last = Some x.mono; processed = h.processed + 1 }))
      pub passes : PassesOver v (divide_view vector value (record h { heads = hs; seen = k; last = Some x.mono; processed = h.processed + 1 })) (vector x.mono)

    pub passed_over : read_coef v.run.state (vector x.mono) ≡ pos 0 → Passed
    passed_over gone =
        let r = ready h x v whole g in
        let kept = pass_kept vector value belongs ord n lim p quotient_room rest_room h x r hs k c (ap (λ (u : DivideView). read_coef u.run.state (vector x.mono)) g.view ∙ gone) in record {
          kept = kept;
          sound = is_sound vector value belongs ord n lim p quotient_room rest_room (record h { heads = hs; seen = k; last = Some x.mono; processed = h.processed + 1 }) kept;
          passes = subst (λ (u : DivideView). PassesOver u (divide_view vector value (record h { heads = hs; seen = k; last = Some x.mono; processed = h.processed + 1 })) (vector x.mono)) g.view (pass_view vector value belongs ord n lim p quotient_room rest_room h x r hs k c);
        }

    -- where the term goes to the remainder, which has as much room as it had
    module _ (t : TermOf M E) (s : ℕ) (rest : List (TermOf M E)) (room : ℕ) where
      pub record Kept : Type 0 where
        pub kept : IsDivideMerge vector value belongs ord n lim p quotient_room room (record h { heads = hs; seen = k; last = Some x.mono; processed = h.processed + 1; rest = rest; spare = s })
        pub sound : IsSound lim (divide_view vector value (record h { heads = hs; seen = k; last = Some x.mono; processed = h.processed + 1; rest = rest; spare = s }))
        pub keeps : KeepsTerm v (divide_view vector value (record h { heads = hs; seen = k; last = Some x.mono; processed = h.processed + 1; rest = rest; spare = s })) (vector x.mono)

      pub kept_there : s + 1 ≡ h.spare → rest ≡ h.rest ++ t ∷ [] → room ≡ rest_room → belongs v.run.state.division.p t.coef → t.mono ≡ x.mono → value t.coef ≡ read_coef v.run.state (vector x.mono) → IsRestAt v.run.state (vector x.mono) → Kept
      kept_there less more same mine mono coef at =
          let r = ready h x v whole g in
          let is : term_of vector value t ≡ record { monomial = vector x.mono; coefficient = read_coef (divide_state vector value h) (vector x.mono) } = λ i. record { monomial = vector (mono i); coefficient = (coef ∙ ap (λ (u : DivideView). read_coef u.run.state (vector x.mono)) (sym g.view)) i } in
          let kept =
          subst (λ (m : ℕ). IsDivideMerge vector value belongs ord n lim p quotient_room m (record h { heads = hs; seen = k; last = Some x.mono; processed = h.processed + 1; rest = rest; spare = s })) (sym same)
          (subst (λ (L : List (TermOf M E)). IsDivideMerge vector value belongs ord n lim p quotient_room rest_room (record h { heads = hs; seen = k; last = Some x.mono; processed = h.processed + 1; rest = L; spare = s })) (sym more)
          (keep_kept vector value belongs ord n lim p quotient_room rest_room h x r hs k c t s less (its_own h x v whole g t mine) is (subst (λ (u : DivideView). IsRestAt u.run.state (vector x.mono)) (sym g.view) at))) in record {
            kept = kept;
            sound = is_sound vector value belongs ord n lim p quotient_room room (record h { heads = hs; seen = k; last = Some x.mono; processed = h.processed + 1; rest = rest; spare = s }) kept;
            keeps =
                subst (λ (L : List (TermOf M E)). KeepsTerm v (divide_view vector value (record h { heads = hs; seen = k; last = Some x.mono; processed = h.processed + 1; rest = L; spare = s })) (vector x.mono)) (sym more)
                (subst (λ (u : DivideView). KeepsTerm u (divide_view vector value (record h { heads = hs; seen = k; last = Some x.mono; processed = h.processed + 1; rest = h.rest ++ t ∷ []; spare = s })) (vector x.mono)) g.view
                (keep_view vector value belongs ord n lim p quotient_room rest_room h x r hs k c t s less is));
          }

    -- where a quotient term was published by the writer w, and the quotient has as much room as it had
    module _ (t : TermOf M E) (m s : ℕ) (w : RowWriter X M E) (row : Row X M E) (terms : List (TermOf M E)) (room : ℕ) where
      pub record Found : Type 0 where
        pub kept : IsDivideMerge vector value belongs ord n lim p room rest_room (record h { heads = hs; seen = k; last = Some x.mono; processed = h.processed + 1; found = terms; norm = m; spare = s; writer = w; front = Some x.mono })
        pub sound : IsSound lim (divide_view vector value (record h { heads = hs; seen = k; last = Some x.mono; processed = h.processed + 1; found = terms; norm = m; spare = s; writer = w; front = Some x.mono }))
        pub finds : FindsTerm v (divide_view vector value (record h { heads = hs; seen = k; last = Some x.mono; processed = h.processed + 1; found = terms; norm = m; spare = s; writer = w; front = Some x.mono })) (vector x.mono) (term_of vector value t)

      -- what was published, and where
      pub record Sent : Type 0 where
        pub same : v.row ≡ row_identity row
        pub of : IsWriterOf row w
        pub notes : published w ≡ published h.writer ++ row_note.Term t ∷ []
        pub place : 0 < free_places v

      pub found_there : Sent → s + 1 ≡ h.spare → terms ≡ h.found ++ t ∷ [] → room ≡ quotient_room → belongs v.run.state.division.p t.coef
          → (v.run.state.division.p ≡ 0 → m ≡ norm (v.run.state.q ++ term_of vector value t ∷ [])) → IsQuotientAt v.run.state (vector x.mono) (term_of vector value t) → Found
      found_there sent less more wide mine norms at =
          let r = ready h x v whole g in
          let u : Published vector value belongs ord n lim p quotient_room rest_room h x r hs k c t m s w = record {
            row = row_of row w sent.of ∙ sym (own_row h x v whole g row sent.same t);
            notes = sent.notes;
            publishing = sent.of.0;
            place = subst (λ (u : DivideView). 0 < free_places u) (sym g.view) sent.place;
          } in
          let q = subst (λ (u : DivideView). IsQuotientAt u.run.state (vector x.mono) (term_of vector value t)) (sym g.view) at in
          let sum = subst (λ (u : DivideView). u.run.state.division.p ≡ 0 → m ≡ norm (u.run.state.q ++ term_of vector value t ∷ [])) (sym g.view) norms in
          let kept =
          subst (λ (i : ℕ). IsDivideMerge vector value belongs ord n lim p i rest_room (record h { heads = hs; seen = k; last = Some x.mono; processed = h.processed + 1; found = terms; norm = m; spare = s; writer = w; front = Some x.mono })) (sym wide)
          (subst (λ (L : List (TermOf M E)). IsDivideMerge vector value belongs ord n lim p quotient_room rest_room (record h { heads = hs; seen = k; last = Some x.mono; processed = h.processed + 1; found = L; norm = m; spare = s; writer = w; front = Some x.mono })) (sym more)
          (find_kept vector value belongs ord n lim p quotient_room rest_room h x r hs k c t m s w u less (its_own h x v whole g t mine) (λ z. sum (whole.made_for.modulus ∙ z)) q)) in record {
            kept = kept;
            sound = is_sound vector value belongs ord n lim p room rest_room (record h { heads = hs; seen = k; last = Some x.mono; processed = h.processed + 1; found = terms; norm = m; spare = s; writer = w; front = Some x.mono }) kept;
            finds =
                subst (λ (L : List (TermOf M E)). FindsTerm v (divide_view vector value (record h { heads = hs; seen = k; last = Some x.mono; processed = h.processed + 1; found = L; norm = m; spare = s; writer = w; front = Some x.mono })) (vector x.mono) (term_of vector value t)) (sym more)
                (subst (λ (u : DivideView). FindsTerm u (divide_view vector value (record h { heads = hs; seen = k; last = Some x.mono; processed = h.processed + 1; found = h.found ++ t ∷ []; norm = m; spare = s; writer = w; front = Some x.mono })) (vector x.mono) (term_of vector value t)) g.view
                (find_view vector value belongs ord n lim p quotient_room rest_room h x r hs k c t m s w u less q));
          }

  -- ---- the merge is over
  module _ (h : Held X M E) (v : DivideView) (a : DivideAdvanceOf M E) where
    pub record Over : Type 0 where
      pub kept : IsDivideMerge vector value belongs ord n lim p quotient_room rest_room (record h { over = Some a })
      pub sound : IsSound lim (divide_view vector value (record h { over = Some a }))
      pub ends : EndsWith v (divide_view vector value (record h { over = Some a })) (verdict_of vector value a)

    over_run : divide_run vector value (record h { over = Some a }) ≡ run_over (divide_run vector value h)
    unfolding run_over
    over_run = refl

    pub over_at : IsDivideMerge vector value belongs ord n lim p quotient_room rest_room h → divide_view vector value h ≡ v → IsFinal (verdict_of vector value a) → IsVerdict v.run.state (free_places v) v.spare (verdict_of vector value a) → Over
    over_at kept view last cause =
        let ends : IsDivideMerge vector value belongs ord n lim p quotient_room rest_room (record h { over = Some a }) = record {
          made_for = kept.made_for;
          workers = kept.workers;
          terms = kept.terms;
          publishing = kept.publishing;
          row_room = kept.row_room;
          whole = subst RunWhole (sym over_run) (run_row_law (divide_run vector value h) kept.whole).1;
          begun = kept.begun;
          cause = (last, subst (λ (u : DivideView). IsVerdict u.run.state (free_places u) u.spare (verdict_of vector value a)) (sym view) cause);
          counted = kept.counted;
        } in record {
          kept = ends;
          sound = is_sound vector value belongs ord n lim p quotient_room rest_room (record h { over = Some a }) ends;
          ends = subst (λ (u : DivideView). EndsWith u (divide_view vector value (record h { over = Some a })) (verdict_of vector value a)) view (record { steady = record { rings = refl; row = refl; tails = refl; looks = refl }; run = over_run; answer = refl; spare = refl });
        }
