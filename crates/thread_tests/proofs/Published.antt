-- The division of the tests, and the notes that they publish.
use Rattle.std.proofs.Common.{◌≡◌, ℕ, zero, suc, ◌+◌, ◌*◌, ◌<◌, ◌≤◌, ℤ, pos, negsuc, List, [], ◌∷◌, ◌++◌, Option, Some, None, inl, inr, length, refl, sym, ap, ◌∙◌, subst, arith}
use Rattle.std.proofs.lemmas.List.{map-append}
use mathlib.Core.List.{IsPrefix}
use Rattle.sdmp_laws.specs.Order.{Grlex, ◌⋅◌, degree, Below, alike, over, divides, is_below, tie_below, lex_below, IsUnder}
use Rattle.sdmp_laws.specs.Poly.{Term as PlainTerm, norm, Over, terms, minus, negated, term_neg, row, term_times, put, keep, is_zero, term_plus, lm, lc}
use Rattle.sdmp_laws.specs.Division.{IsAccepted, AtOrAbove}
use Rattle.sdmp_laws.specs.LongDivision.{quotient_list, turns_at, turns_bound, turn_at, turn_on, first_in_scope, factor, listed}
use Rattle.sdmp_laws.specs.Limits.{PassesBound, greatest_norm}
use Rattle.sdmp_laws.proofs.TermsLemmas.{terms_poly}
use Rattle.canonical_terms.specs.View.{term_of}
use Rattle.canonical_terms.specs.declared.term.TermOf.{TermOf}
use Rattle.divide_wholes.specs.Wholes.{AllUnderFront}
use Rattle.divide_wholes.specs.Row.{RowNote, RowTerm, RowFront, RowCarry, RowCarryAfter, RowMayFollow, front_after, known_after, row_terms}
use Rattle.divide_wholes.proofs.RowLemmas.{row_laws}
use Rattle.quotient_row.specs.declared.note.RowNoteOf.{RowNoteOf}
use Rattle.quotient_row.specs.declared.note.RowNoteOf.TheVariants.{Term, Front}
use Rattle.thread_tests.specs.Examples.{square_less_one}
use Rattle.quotient_row.specs.Names.{RowName}
use Rattle.quotient_row.specs.Spelling.{note_of, notes_of}
use Rattle.quotient_row.specs.Legal.{Legal}
use Rattle.divide_wholes.proofs.RowLemmas.{row_terms-append, row_terms-front}

abbrev x_term : PlainTerm
x_term = record { monomial = 1 ∷ []; coefficient = pos 1 }

abbrev one_term : PlainTerm
one_term = record { monomial = 0 ∷ []; coefficient = pos 1 }

-- its quotient terms are x and 1
the_terms : quotient_list square_less_one ≡ x_term ∷ one_term ∷ []
unfolding quotient_list turns_at turns_bound turn_at turn_on first_in_scope factor listed over divides lm lc minus negated term_neg row term_times terms put keep is_zero term_plus alike is_below tie_below lex_below degree ◌⋅◌
the_terms = refl

-- ---- no beginning of them passes its bound
f_norm : norm square_less_one.f ≡ 2
unfolding norm terms put keep is_zero term_plus alike is_below tie_below lex_below degree
f_norm = refl

g_norm : norm square_less_one.g ≡ 2
unfolding norm terms put keep is_zero term_plus alike is_below tie_below lex_below degree
g_norm = refl

few : (q : List PlainTerm) → norm q ≤ 2 → length q ≤ 2 → PassesBound square_less_one q → ⊥
few q a b (inl p) =
    let o : greatest_norm < norm square_less_one.f + norm q * norm square_less_one.g = p.over in
    let h : greatest_norm < 2 + norm q * 2 = subst (λ (n : ℕ). greatest_norm < 2 + norm q * n) g_norm (subst (λ (n : ℕ). greatest_norm < n + norm q * norm square_less_one.g) f_norm o) in
    omega arith
few q a b (inr l) = omega arith

first_few : PassesBound square_less_one (x_term ∷ []) → ⊥
unfolding norm
first_few = few (x_term ∷ []) (omega arith) (omega arith)

both_few : PassesBound square_less_one (x_term ∷ one_term ∷ []) → ⊥
unfolding norm
both_few = few (x_term ∷ one_term ∷ []) (omega arith) (omega arith)

both_follow : RowCarry square_less_one 0 (RowTerm x_term ∷ RowTerm one_term ∷ [])
unfolding RowCarryAfter RowMayFollow known_after row_terms
both_follow = (((one_term ∷ [], sym the_terms), first_few), ((([], sym the_terms), both_few), tt))

-- ---- fronts that fall, and then the terms
no_norm : (A : List PlainTerm) → A ≡ [] → norm A ≡ 0
unfolding norm
no_norm A e = ap norm e

accepted : IsAccepted square_less_one
unfolding Over
accepted = record {
  dividend = terms_poly Grlex 0 1 (record { monomial = 2 ∷ []; coefficient = pos 1 } ∷ record { monomial = 0 ∷ []; coefficient = negsuc 0 } ∷ []) (refl, (refl, tt));
  divisor = terms_poly Grlex 0 1 (record { monomial = 1 ∷ []; coefficient = pos 1 } ∷ record { monomial = 0 ∷ []; coefficient = negsuc 0 } ∷ []) (refl, (refl, tt));
  nonzero = λ e. let z : norm square_less_one.g ≡ 0 = no_norm square_less_one.g e in let t : norm square_less_one.g ≡ 2 = g_norm in omega arith;
  unit = inl (refl, refl);
}

-- these notes are fronts alone, and each x^j with j below the limit is below the last
pub record Falls (limit : ℕ) (notes : List RowNote) : Type 0 where
  pub carried : RowCarry square_less_one 0 notes
  pub no_terms : row_terms notes ≡ []
  pub under : (j : ℕ) → j < limit → IsUnder Grlex (front_after square_less_one None notes) (j ∷ [])

pub falls_none : (limit : ℕ) → Falls limit []
unfolding RowCarryAfter row_terms IsUnder front_after
falls_none limit = record { carried = tt; no_terms = refl; under = λ j l. tt }

front_last : (front : Option (List ℕ)) (notes : List RowNote) (m : List ℕ) → front_after square_less_one front (notes ++ RowFront m ∷ []) ≡ Some m
unfolding front_after
front_last front [] m = refl
front_last front (RowTerm t ∷ notes) m = front_last (Some (t.monomial ⋅ lm square_less_one.g)) notes m
front_last front (RowFront k ∷ notes) m = front_last (Some k) notes m

at_two : (j : ℕ) → 2 ≤ j → AtOrAbove Grlex (2 ∷ []) (j ∷ [])
unfolding Below degree
at_two zero h = absurd (omega arith)
at_two (suc zero) h = absurd (omega arith)
at_two (suc (suc zero)) h = inl refl
at_two (suc (suc (suc j))) h = inr (inl (omega arith))

at_one : (j : ℕ) → 2 ≤ j → AtOrAbove Grlex (1 ∷ []) (j ∷ [])
unfolding Below degree
at_one j h = inr (inl (omega arith))

both_under : (j : ℕ) → 2 ≤ j → AllUnderFront square_less_one (Some (j ∷ [])) (x_term ∷ one_term ∷ [])
unfolding AllUnderFront lm terms put keep is_zero term_plus alike is_below tie_below lex_below degree ◌⋅◌
both_under j h = (at_two j h, (at_one j h, tt))

under_more : (j : ℕ) (notes : List RowNote) → 2 ≤ j → row_terms notes ≡ [] → (later : List PlainTerm) → known_after square_less_one 0 notes ++ later ≡ quotient_list square_less_one → AllUnderFront square_less_one (Some (j ∷ [])) later
unfolding known_after
under_more j notes h none later e =
    let is : later ≡ x_term ∷ one_term ∷ [] = ap (λ (L : List PlainTerm). L ++ later) (sym none) ∙ e ∙ the_terms in
    subst (AllUnderFront square_less_one (Some (j ∷ []))) (sym is) (both_under j h)

lower : (i j : ℕ) → i < j → IsUnder Grlex (Some (j ∷ [])) (i ∷ [])
unfolding IsUnder Below degree
lower i j h = inl (omega arith)

front_follows : (limit : ℕ) (notes : List RowNote) (j : ℕ) → 2 ≤ j → j < limit → Falls limit notes → RowMayFollow square_less_one 0 notes (RowFront (j ∷ []))
unfolding RowMayFollow
front_follows limit notes j h l f = (refl, f.under j l, under_more j notes h f.no_terms)

pub falls_next : (limit : ℕ) (notes : List RowNote) (j : ℕ) → 2 ≤ j → j < limit → Falls limit notes → Falls j (notes ++ RowFront (j ∷ []) ∷ [])
falls_next limit notes j h l f = record {
  carried = (row_laws square_less_one 0 accepted).0 notes (RowFront (j ∷ [])) f.carried (front_follows limit notes j h l f);
  no_terms = row_terms-front notes (j ∷ []) ∙ f.no_terms;
  under = λ i k. subst (λ (o : Option (List ℕ)). IsUnder Grlex o (i ∷ [])) (sym (front_last None notes (j ∷ []))) (lower i j k);
}

x_follows : (notes : List RowNote) → row_terms notes ≡ [] → RowMayFollow square_less_one 0 notes (RowTerm x_term)
unfolding RowMayFollow known_after
x_follows notes e =
    subst (λ (L : List PlainTerm). IsPrefix (L ++ x_term ∷ []) (quotient_list square_less_one) × (PassesBound square_less_one (L ++ x_term ∷ []) → ⊥)) (sym e) ((one_term ∷ [], sym the_terms), first_few)

one_follows : (notes : List RowNote) → row_terms notes ≡ x_term ∷ [] → RowMayFollow square_less_one 0 notes (RowTerm one_term)
unfolding RowMayFollow known_after
one_follows notes e =
    subst (λ (L : List PlainTerm). IsPrefix (L ++ one_term ∷ []) (quotient_list square_less_one) × (PassesBound square_less_one (L ++ one_term ∷ []) → ⊥)) (sym e) (([], sym the_terms), both_few)

x_alone : (notes : List RowNote) → row_terms notes ≡ [] → row_terms (notes ++ RowTerm x_term ∷ []) ≡ x_term ∷ []
unfolding row_terms
x_alone notes e = row_terms-append notes (RowTerm x_term ∷ []) ∙ ap (λ (L : List PlainTerm). L ++ x_term ∷ []) e

pub falls_done : (limit : ℕ) (notes : List RowNote) → Falls limit notes → RowCarry square_less_one 0 ((notes ++ RowTerm x_term ∷ []) ++ RowTerm one_term ∷ [])
falls_done limit notes f =
    let push = (row_laws square_less_one 0 accepted).0 in
    push (notes ++ RowTerm x_term ∷ []) (RowTerm one_term) (push notes (RowTerm x_term) f.carried (x_follows notes f.no_terms)) (one_follows (notes ++ RowTerm x_term ∷ []) (x_alone notes f.no_terms))

module _ {M E : Type 0} (vector : M → List ℕ) (value : E → ℤ) where
  pub both_legal : (name : RowName) (t u : TermOf M E) → name ≡ record { division = square_less_one; start = 0 } → term_of vector value t ≡ x_term → term_of vector value u ≡ one_term
      → Legal vector value name (Term t ∷ Term u ∷ [])
  both_legal name t u is a b = subst (λ z. Legal vector value z (Term t ∷ Term u ∷ [])) (sym is) (subst (RowCarry square_less_one 0) (λ i. RowTerm (sym a i) ∷ RowTerm (sym b i) ∷ []) both_follow)

  pub front_falls : (limit : ℕ) (notes : List (RowNoteOf M E)) (m : M) (j : ℕ) → vector m ≡ j ∷ [] → 2 ≤ j → j < limit → Falls limit (notes_of vector value notes) → Falls j (notes_of vector value (notes ++ Front m ∷ []))
  front_falls limit notes m j is h l f =
      subst (Falls j) (ap (λ v. notes_of vector value notes ++ RowFront v ∷ []) (sym is) ∙ sym (map-append (note_of vector value) notes (Front m ∷ []))) (falls_next limit (notes_of vector value notes) j h l f)

  pub all_fall : (limit : ℕ) (notes : List (RowNoteOf M E)) (t u : TermOf M E) → term_of vector value t ≡ x_term → term_of vector value u ≡ one_term → Falls limit (notes_of vector value notes)
      → RowCarry square_less_one 0 (notes_of vector value ((notes ++ Term t ∷ []) ++ Term u ∷ []))
  all_fall limit notes t u a b f =
      let one : notes_of vector value (notes ++ Term t ∷ []) ≡ notes_of vector value notes ++ RowTerm x_term ∷ [] = map-append (note_of vector value) notes (Term t ∷ []) ∙ ap (λ s. notes_of vector value notes ++ RowTerm s ∷ []) a in
      let two : notes_of vector value ((notes ++ Term t ∷ []) ++ Term u ∷ []) ≡ (notes_of vector value notes ++ RowTerm x_term ∷ []) ++ RowTerm one_term ∷ [] =
      map-append (note_of vector value) (notes ++ Term t ∷ []) (Term u ∷ []) ∙ (λ i. one i ++ RowTerm (b i) ∷ []) in
      subst (RowCarry square_less_one 0) (sym two) (falls_done limit (notes_of vector value notes) f)
