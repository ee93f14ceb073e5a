-- How the row of a division's merge says what the merge found.
use Rattle.std.proofs.Common.{◌≡◌, ℕ, List, [], ◌∷◌, ◌++◌, length, take, Option, Some, None, refl, sym, ap, ◌∙◌, subst, arith}
use Rattle.std.proofs.lemmas.List.{take-append-le, take-append-drop, drop_all}
use mathlib.Core.List.{IsPrefix}
use Rattle.sdmp_laws.specs.Order.{◌⋅◌, over, IsUnder}
use Rattle.sdmp_laws.specs.Poly.{Term, lm}
use Rattle.sdmp_laws.specs.Division.{Division}
use Rattle.sdmp_laws.specs.LongDivision.{quotient_list}
use Rattle.sdmp_laws.specs.Limits.{PassesBound}
use Rattle.whole_laws.specs.Notes.{Note, TermNote, MarkNote, EndNote}
use Rattle.divide_wholes.specs.Row.{RowNote, RowTerm, RowFront, RowCarryAfter, RowMayFollow, row_terms, known_after, front_after}
use Rattle.divide_wholes.specs.Wholes.{DivideState, DivideWhole, IsPast, AllUnderFront, all_owed, divide_script, divide_start, divide_take, processed, found, kept}
use Rattle.divide_wholes.specs.MergeRow.{HasRow, RowStart, RowFound, RowFronted, RowKept, RowChanged, with_new_row}
use Rattle.divide_wholes.proofs.Candidate.{candidate_term, bound_is_front}
use Rattle.divide_wholes.proofs.RowLemmas.{row_laws, row_terms-append, row_terms-front}

-- ---- the notes of a longer list
term_more : (a : List RowNote) (t : Term) → row_terms (a ++ RowTerm t ∷ []) ≡ row_terms a ++ t ∷ []
unfolding row_terms
term_more a t = row_terms-append a (RowTerm t ∷ [])

front_of_term : (d : Division) (front : Option (List ℕ)) (a : List RowNote) (t : Term) → front_after d front (a ++ RowTerm t ∷ []) ≡ Some (t.monomial ⋅ lm d.g)
unfolding front_after
front_of_term d front [] t = refl
front_of_term d front (RowTerm u ∷ a) t = front_of_term d (Some (u.monomial ⋅ lm d.g)) a t
front_of_term d front (RowFront m ∷ a) t = front_of_term d (Some m) a t

front_of_front : (d : Division) (front : Option (List ℕ)) (a : List RowNote) (m : List ℕ) → front_after d front (a ++ RowFront m ∷ []) ≡ Some m
unfolding front_after
front_of_front d front [] m = refl
front_of_front d front (RowTerm u ∷ a) m = front_of_front d (Some (u.monomial ⋅ lm d.g)) a m
front_of_front d front (RowFront k ∷ a) m = front_of_front d (Some k) a m

-- what the row makes known is what the merge found
known_is : (s : DivideState) (notes : List RowNote) → DivideWhole s → HasRow s notes → known_after s.division s.start notes ≡ s.q
unfolding known_after
known_is s notes whole h =
    let p = whole.quotient in
    let first : take s.start (quotient_list s.division) ≡ take s.start s.q = ap (take s.start) (sym p.1) ∙ take-append-le s.start s.q p.0 whole.row_start in
    (λ i. first i ++ h.terms i) ∙ ap (λ (L : List Term). take s.start s.q ++ L) (sym whole.row_terms) ∙ take-append-drop s.start s.q

-- ---- the first row
pub row_start : RowStart
unfolding RowCarryAfter row_terms divide_start
row_start d W = record { carried = tt; terms = refl; front = λ some. absurd (some refl); begun = λ e. refl }

-- ---- a term
term_follows : (s : DivideState) (notes : List RowNote) (t : Term) → DivideWhole s → HasRow s notes → IsPrefix (s.q ++ t ∷ []) (quotient_list s.division) → (PassesBound s.division (s.q ++ t ∷ []) → ⊥)
    → RowMayFollow s.division s.start notes (RowTerm t)
unfolding RowMayFollow
term_follows s notes t whole h i b =
    subst (λ (L : List Term). IsPrefix (L ++ t ∷ []) (quotient_list s.division) × (PassesBound s.division (L ++ t ∷ []) → ⊥)) (sym (known_is s notes whole h)) (i, b)

pub row_found : RowFound
unfolding found processed
row_found s x u notes a whole c v r z e within h =
    let t : Term = record { monomial = over x (lm s.division.g); coefficient = u } in
    let may = term_follows s notes t whole h (candidate_term s x u a whole c v r z e) within in (
      may,
      record {
        carried = (row_laws s.division s.start a).0 notes (RowTerm t) h.carried may;
        terms = term_more notes t ∙ ap (λ (L : List Term). L ++ t ∷ []) h.terms;
        front = λ some. front_of_term s.division None notes t;
        begun = λ e. absurd (cc e);
      },
    )

-- ---- a front
under_row : (s : DivideState) (notes : List RowNote) (x : List ℕ) → HasRow s notes → IsUnder s.division.ord s.front x → IsUnder s.division.ord (front_after s.division None notes) x
unfolding front_after IsUnder
under_row s [] x h u = tt
under_row s (n ∷ notes) x h u = subst (λ (o : Option (List ℕ)). IsUnder s.division.ord o x) (sym (h.front (λ e. absurd (cc e)))) u

front_follows : (s : DivideState) (notes : List RowNote) (x : List ℕ) → DivideWhole s → HasRow s notes → length x ≡ s.division.n → IsUnder s.division.ord s.front x
    → ((later : List Term) → s.q ++ later ≡ quotient_list s.division → AllUnderFront s.division (Some x) later) → RowMayFollow s.division s.start notes (RowFront x)
unfolding RowMayFollow
front_follows s notes x whole h l u f =
    (l, under_row s notes x h u, λ later e. f later (ap (λ (L : List Term). L ++ later) (sym (known_is s notes whole h)) ∙ e))

pub row_fronted : RowFronted
row_fronted s x y notes a whole b f u h =
    let may = front_follows s notes y whole h f.vector u (bound_is_front s x y a whole b f) in (
      may,
      record {
        carried = (row_laws s.division s.start a).0 notes (RowFront y) h.carried may;
        terms = row_terms-front notes y ∙ h.terms;
        front = λ some. front_of_front s.division None notes y;
        begun = λ e. absurd (cc e);
      },
    )

-- ---- the steps that leave the row
taken_kept : (s : DivideState) (notes : List RowNote) (w : ℕ) (n : Note) → HasRow s notes → HasRow (divide_take s w n) notes
unfolding divide_take
taken_kept s notes w (TermNote t) h = record { carried = h.carried; terms = h.terms; front = h.front; begun = h.begun }
taken_kept s notes w (MarkNote k top) h = record { carried = h.carried; terms = h.terms; front = h.front; begun = h.begun }
taken_kept s notes w EndNote h = record { carried = h.carried; terms = h.terms; front = h.front; begun = h.begun }

pub row_kept : RowKept
unfolding processed kept
row_kept s notes h = (
  (λ x. record { carried = h.carried; terms = h.terms; front = h.front; begun = h.begun }),
  (λ x. record { carried = h.carried; terms = h.terms; front = h.front; begun = h.begun }),
  (λ w n. taken_kept s notes w n h),
)

-- ---- a new row
past_changed : (s : DivideState) (last : Option (List ℕ)) → IsPast s last → IsPast (with_new_row s) last
unfolding IsPast all_owed divide_script with_new_row
past_changed s None p = p
past_changed s (Some m) p = p

pub row_change : RowChanged
unfolding with_new_row RowCarryAfter row_terms divide_script all_owed
row_change s notes whole h = (
  record {
    heads_count = whole.heads_count;
    taken_count = whole.taken_count;
    carried = whole.carried;
    heads_are = whole.heads_are;
    sum = whole.sum;
    quotient = whole.quotient;
    within = whole.within;
    unread_suffix = whole.unread_suffix;
    remainder = whole.remainder;
    past = past_changed s s.last whole.past;
    row_terms = drop_all (length s.q) s.q (omega arith);
    row_start = omega arith;
    under_front = whole.under_front;
  },
  record { carried = tt; terms = refl; front = λ some. absurd (some refl); begun = h.begun },
)
