-- A merge of a division stays as it is to be when it publishes a front.
use Rattle.std.proofs.Common.{◌≡◌, ℕ, ◌+◌, ◌<◌, ◌^◌, ℤ, true≢false, List, [], ◌∷◌, ◌++◌, length, map, Option, Some, None, is_some, refl, sym, ap, ◌∙◌, subst, arith, length-append}
use Rattle.std.proofs.lemmas.List.{map-append}
use Rattle.std.proofs.lemmas.Option.{MatchOption-from_none}
use Rattle.sdmp_laws.specs.Order.{Order, Divides}
use Rattle.sdmp_laws.specs.Poly.{lm}
use Rattle.sdmp_laws.specs.Division.{Division, AtOrAbove}
use Rattle.divide_wholes.specs.Row.{RowNote, RowFront, RowCarry, row_terms}
use Rattle.divide_wholes.specs.Wholes.{IsFrontAt}
use Rattle.divide_wholes.proofs.RowLemmas.{row_terms-front}
use Rattle.canonical_terms.specs.View.{sum_of}
use Rattle.dividing_rounds.specs.Runs.{RunWhole, IsFrontFor, run_front}
use Rattle.dividing_rounds.specs.Stalls.{IsDue}
use Rattle.ring_heads.specs.Heads.{plain_heads}
use Rattle.quotient_row.specs.Ends.{published, IsWriterOf, name_of}
use Rattle.quotient_row.specs.Legal.{Legal}
use Rattle.quotient_row.specs.Spelling.{notes_of as row_notes_of, note_of as row_note_of}
use Rattle.quotient_row.specs.declared.row.Row.{Row}
use Rattle.quotient_row.specs.declared.row.RowWriter.{RowWriter}
use Rattle.quotient_row.specs.declared.note.RowNoteOf.TheVariants as row_note
use Rattle.term_ring.specs.Names.{reader_name}
use Rattle.divide_merge.specs.Names.{RowIdentity, row_identity, writer_row, IsPublishing, first_division, IsFit}
use Rattle.divide_merge.specs.Merges.{DivideView, IsSound, free_places}
use Rattle.divide_merge.specs.Steps.{PublishesFront}
use Rattle.divide_merge.specs.Inside.{Held, vector_of, answer_of, taken_notes, published_notes, divide_state, divide_run, divide_view, IsMadeFor, IsDivideMerge}
use Rattle.dividing_rounds.proofs.LogLemmas.{counts_fit}
use Rattle.dividing_rounds.proofs.RunLemmas.{run_front_law}
use Rattle.dividing_rounds.proofs.StallLemmas.{due_is_bound}
use Rattle.divide_merge.proofs.Publishing.{row_of, legal_after}
use Rattle.divide_merge.proofs.Sound.{workload_low, is_sound}

module _ {X M E : Type 0} (vector : M → List ℕ) (value : E → ℤ) (belongs : ℕ → E → Type 0) (ord : Order) (n lim p quotient_room rest_room : ℕ) where
  -- a front y may be published for the bound b
  pub record Fronted (h : Held X M E) (b y : M) : Type 0 where
    pub kept : IsDivideMerge vector value belongs ord n lim p quotient_room rest_room h
    pub going : answer_of vector value h.over ≡ None
    pub due : IsDue (divide_state vector value h) (vector b)
    pub long : length (vector y) ≡ n
    pub below : AtOrAbove ord (vector y) (vector b)
    pub multiples : (m : List ℕ) → length m ≡ n → Divides (vector h.divisor.lead.term.mono) m → AtOrAbove ord m (vector b) → AtOrAbove ord m (vector y)

  module _ (h : Held X M E) (b y : M) (f : Fronted h b y) where
    abbrev d : Division
    d = first_division (map reader_name h.readers)

    fit : IsFit lim (first_division (map reader_name h.readers))
    fit = f.kept.made_for.fit

    lead_is : vector h.divisor.lead.term.mono ≡ lm d.g
    lead_is = f.kept.made_for.divisor_is.leading.monomial

    front_at : IsFrontAt d (vector b) (vector y)
    front_at = record {
      vector = f.long ∙ sym f.kept.made_for.variables;
      multiples = λ m l div at.
          let o = f.kept.made_for.ordered in
          subst (λ (i : Order). AtOrAbove i m (vector y)) (sym o)
          (f.multiples m (l ∙ f.kept.made_for.variables) (subst (λ (v : List ℕ). Divides v m) (sym lead_is) div) (subst (λ (i : Order). AtOrAbove i m (vector b)) o at));
    }

    pub no_higher : AtOrAbove d.ord (vector y) (vector b)
    no_higher = subst (λ (i : Order). AtOrAbove i (vector y) (vector b)) (sym f.kept.made_for.ordered) f.below

    front_for : IsFrontFor (divide_state vector value h) (vector b) (vector y)
    front_for =
        let k = due_is_bound (divide_state vector value h) (vector b) fit.accepted f.kept.whole.whole f.due in record {
          bound = k.0;
          known = k.1;
          lower = f.due.lower;
          fits = front_at;
          no_higher = no_higher;
        }

    pub front_carried : RowCarry d (writer_row h.writer).name.start (published_notes vector value h.writer ++ RowFront (vector y) ∷ [])
    unfolding run_front
    front_carried = (run_front_law (divide_run vector value h) (vector b) (vector y) fit.accepted f.kept.whole front_for).1.row.carried

    -- one more may be counted
    pub fronts_low : h.fronts + 1 < 2 ^ 64
    fronts_low =
        let c = (counts_fit (divide_run vector value h) f.kept.whole).1 in
        let w = workload_low lim d (sum_of vector value h.found) fit f.kept.whole.whole.within in
        omega arith

    module _ (w : RowWriter X M E) where
      pub record Published : Type 0 where
        pub row : writer_row w ≡ writer_row h.writer
        pub notes : published w ≡ published h.writer ++ row_note.Front y ∷ []
        pub publishing : IsPublishing w
        pub place : 0 < free_places (divide_view vector value h)

      notes_are : Published → published_notes vector value w ≡ published_notes vector value h.writer ++ RowFront (vector y) ∷ []
      notes_are u = ap (row_notes_of vector value) u.notes ∙ map-append (row_note_of vector value) (published h.writer) (row_note.Front y ∷ [])

      abbrev fronted : Held X M E
      fronted = record h { writer = w; front = Some y; fronts = h.fronts + 1 }

      fronted_state : Published → divide_state vector value fronted ≡ record (divide_state vector value h) { front = Some (vector y) }
      fronted_state u = λ i. record {
        division = d;
        workers = length h.readers;
        q = sum_of vector value h.found;
        r = sum_of vector value h.rest;
        unread = (divide_state vector value h).unread;
        heads = plain_heads vector value h.heads;
        taken = taken_notes vector value h.readers;
        last = vector_of vector h.last;
        front = Some (vector y);
        start = (u.row i).name.start;
        published = (ap row_terms (notes_are u) ∙ row_terms-front (published_notes vector value h.writer) (vector y)) i;
      }

      pub fronted_run : Published → divide_run vector value fronted ≡ run_front (divide_run vector value h) (vector y)
      unfolding run_front
      fronted_run u = λ i. record { state = fronted_state u i; notes = notes_are u i; fronts_count = h.fronts + 1; processed_count = h.processed; over = is_some (answer_of vector value h.over) }

      pub front_kept : Published → IsDivideMerge vector value belongs ord n lim p quotient_room rest_room (record h { writer = w; front = Some y; fronts = h.fronts + 1 })
      front_kept u =
          let places = ap (λ (i : RowIdentity). i.places) u.row in
          let more = ap (λ (L : List RowNote). length L) (notes_are u) ∙ length-append (published_notes vector value h.writer) (RowFront (vector y) ∷ []) in record {
            made_for = subst (λ (row : RowIdentity). IsMadeFor vector value belongs ord n lim p h.divisor h.dividend row (map reader_name h.readers)) (sym u.row) f.kept.made_for;
            workers = f.kept.workers;
            terms = f.kept.terms;
            publishing = u.publishing;
            row_room = let b = u.place in omega arith;
            whole = subst RunWhole (sym (fronted_run u)) (run_front_law (divide_run vector value h) (vector b) (vector y) fit.accepted f.kept.whole front_for).1;
            begun = (
              (λ e. absurd (true≢false (ap (λ (o : Option (List ℕ)). is_some o) e))),
              (λ e. absurd (omega arith)),
            );
            cause = MatchOption-from_none (answer_of vector value h.over) _ f.going;
            counted = f.kept.counted;
          }

      pub front_view : Published → PublishesFront (divide_view vector value h) (divide_view vector value (record h { writer = w; front = Some y; fronts = h.fronts + 1 })) (vector b)
      front_view u = record { steady = record { rings = refl; row = u.row; tails = refl; looks = refl }; front = vector y; no_higher = no_higher; run = fronted_run u; answer = refl; spare = refl }

-- ---- the step, as contracts say it
module _ {X M E : Type 0} (vector : M → List ℕ) (value : E → ℤ) (belongs : ℕ → E → Type 0) (ord : Order) (n lim p quotient_room rest_room : ℕ) where
  -- the view is that of the fields, and the front y is as low as it may be at the bound b
  pub record Given (h : Held X M E) (b y : M) (v : DivideView) : Type 0 where
    pub view : divide_view vector value h ≡ v
    pub going : v.answer ≡ None
    pub due : IsDue v.run.state (vector b)
    pub long : length (vector y) ≡ n
    pub below : AtOrAbove ord (vector y) (vector b)
    pub multiples : (m : List ℕ) → length m ≡ n → Divides (vector h.divisor.lead.term.mono) m → AtOrAbove ord m (vector b) → AtOrAbove ord m (vector y)

  module _ (h : Held X M E) (b y : M) (v : DivideView) (whole : IsDivideMerge vector value belongs ord n lim p quotient_room rest_room h) (g : Given h b y v) where
    pub fronted_at : Fronted vector value belongs ord n lim p quotient_room rest_room h b y
    fronted_at = record {
      kept = whole;
      going = ap (λ (u : DivideView). u.answer) g.view ∙ g.going;
      due = subst (λ (u : DivideView). IsDue u.run.state (vector b)) (sym g.view) g.due;
      long = g.long;
      below = g.below;
      multiples = g.multiples;
    }

    module _ (row : Row X M E) (same : v.row ≡ row_identity row) where
      pub own_row : writer_row h.writer ≡ row_identity row
      own_row = ap (λ (u : DivideView). u.row) g.view ∙ same

      pub front_legal : Legal vector value (name_of row) (published h.writer ++ row_note.Front y ∷ [])
      front_legal = legal_after row vector value h own_row (first_division (map reader_name h.readers)) (row_note.Front y) whole.made_for.row_division (front_carried vector value belongs ord n lim p quotient_room rest_room h b y fronted_at)

      module _ (w : RowWriter X M E) where
        pub record Done : Type 0 where
          pub kept : IsDivideMerge vector value belongs ord n lim p quotient_room rest_room (record h { writer = w; front = Some y; fronts = h.fronts + 1 })
          pub sound : IsSound lim (divide_view vector value (record h { writer = w; front = Some y; fronts = h.fronts + 1 }))
          pub publishes : PublishesFront v (divide_view vector value (record h { writer = w; front = Some y; fronts = h.fronts + 1 })) (vector b)

        pub front_there : IsWriterOf row w → published w ≡ published h.writer ++ row_note.Front y ∷ [] → 0 < free_places v → Done
        front_there of notes place =
            let u : Published vector value belongs ord n lim p quotient_room rest_room h b y fronted_at w = record {
              row = row_of row w of ∙ sym own_row;
              notes = notes;
              publishing = of.0;
              place = subst (λ (u : DivideView). 0 < free_places u) (sym g.view) place;
            } in
            let kept = front_kept vector value belongs ord n lim p quotient_room rest_room h b y fronted_at w u in record {
              kept = kept;
              sound = is_sound vector value belongs ord n lim p quotient_room rest_room (record h { writer = w; front = Some y; fronts = h.fronts + 1 }) kept;
              publishes = subst (λ (u : DivideView). PublishesFront u (divide_view vector value (record h { writer = w; front = Some y; fronts = h.fronts + 1 })) (vector b)) g.view (front_view vector value belongs ord n lim p quotient_room rest_room h b y fronted_at w u);
            }
