-- The rule of a row's notes, and bounds.
use Rattle.std.proofs.Common.{◌≡◌, ℕ, inl, List, [], ◌∷◌, ◌++◌, take, Option, Some, None, refl, sym, ap, ◌∙◌, subst, append_assoc, append-nil}
use Rattle.sdmp_laws.specs.Order.{◌⋅◌}
use Rattle.sdmp_laws.specs.Poly.{Term, IsPoly, lm}
use Rattle.sdmp_laws.specs.Division.{Division, IsAccepted}
use Rattle.sdmp_laws.specs.LongDivision.{quotient_list}
use Rattle.divide_wholes.specs.Wholes.{AllUnderFront}
use Rattle.divide_wholes.specs.Row.{RowNote, RowTerm, RowFront, row_terms, front_after, known_after, RowMayFollow, RowCarryAfter}
use Rattle.divide_wholes.specs.DivideLaws.{RowLaws}
use Rattle.sdmp_laws.proofs.NextTerm.{back_poly}
use Rattle.divide_wholes.proofs.Candidate.{quotient_poly, under_rest}

row_push : (d : Division) (start : ℕ) (before notes : List RowNote) (x : RowNote) → RowCarryAfter d start before notes → RowMayFollow d start (before ++ notes) x → RowCarryAfter d start before (notes ++ x ∷ [])
unfolding RowCarryAfter
row_push d start before [] x c m = (subst (λ (b : List RowNote). RowMayFollow d start b x) (append-nil before) m, tt)
row_push d start before (y ∷ notes) x c m =
    (c.0, row_push d start (before ++ y ∷ []) notes x c.1 (subst (λ (b : List RowNote). RowMayFollow d start b x) (sym (append_assoc before (y ∷ []) notes)) m))

pub row_front : (d : Division) (start : ℕ) (before a b : List RowNote) → RowCarryAfter d start before (a ++ b) → RowCarryAfter d start before a
unfolding RowCarryAfter
row_front d start before [] b c = tt
row_front d start before (x ∷ a) b c = (c.0, row_front d start (before ++ x ∷ []) a b c.1)

-- the claim of the fronts, for the notes so far
UnderFront : Division → ℕ → List RowNote → Option (List ℕ) → Type 0
UnderFront d start notes front = (later : List Term) → known_after d start notes ++ later ≡ quotient_list d → AllUnderFront d front later

pub row_terms-append : (a b : List RowNote) → row_terms (a ++ b) ≡ row_terms a ++ row_terms b
unfolding row_terms
row_terms-append [] b = refl
row_terms-append (RowTerm t ∷ a) b = ap (λ (L : List Term). t ∷ L) (row_terms-append a b)
row_terms-append (RowFront m ∷ a) b = row_terms-append a b

pub row_terms-front : (a : List RowNote) (m : List ℕ) → row_terms (a ++ RowFront m ∷ []) ≡ row_terms a
unfolding row_terms
row_terms-front a m = row_terms-append a (RowFront m ∷ []) ∙ append-nil (row_terms a)

known_term : (d : Division) (start : ℕ) (before : List RowNote) (t : Term) → known_after d start (before ++ RowTerm t ∷ []) ≡ known_after d start before ++ t ∷ []
unfolding known_after row_terms
known_term d start before t =
    ap (λ (L : List Term). take start (quotient_list d) ++ L) (row_terms-append before (RowTerm t ∷ []))
    ∙ sym (append_assoc (take start (quotient_list d)) (row_terms before) (t ∷ []))

known_front : (d : Division) (start : ℕ) (before : List RowNote) (m : List ℕ) → known_after d start (before ++ RowFront m ∷ []) ≡ known_after d start before
unfolding known_after row_terms
known_front d start before m = ap (λ (L : List Term). take start (quotient_list d) ++ L) (row_terms-front before m)

under_open : (d : Division) (x : List ℕ) (t : Term) (A : List Term) → AllUnderFront d (Some x) (t ∷ A) → AllUnderFront d (Some x) A
unfolding AllUnderFront
under_open d x t A h = h.1

-- after a term is published the later ones stand below it
term_under : (d : Division) (start : ℕ) (before : List RowNote) (t : Term) → IsAccepted d → UnderFront d start (before ++ RowTerm t ∷ []) (Some (t.monomial ⋅ lm d.g))
unfolding UnderFront
term_under d start before t a later e =
    let k = known_after d start before in
    let whole : k ++ t ∷ later ≡ quotient_list d = sym (append_assoc k (t ∷ []) later) ∙ ap (λ (L : List Term). L ++ later) (sym (known_term d start before t)) ∙ e in
    let i = back_poly d.ord d.p d.n k (t ∷ later) (subst (λ (L : List Term). IsPoly d.ord d.p d.n L) (sym whole) (quotient_poly d a)) in
    under_open d (t.monomial ⋅ lm d.g) t later (under_rest d (t.monomial ⋅ lm d.g) t later a i (inl refl))

front_under : (d : Division) (start : ℕ) (before : List RowNote) (m : List ℕ) → ((later : List Term) → known_after d start before ++ later ≡ quotient_list d → AllUnderFront d (Some m) later) → UnderFront d start (before ++ RowFront m ∷ []) (Some m)
unfolding UnderFront
front_under d start before m h later e = h later (ap (λ (L : List Term). L ++ later) (sym (known_front d start before m)) ∙ e)

fronts_hold : (d : Division) (start : ℕ) (before notes : List RowNote) (front : Option (List ℕ)) → IsAccepted d → RowCarryAfter d start before notes → UnderFront d start before front → UnderFront d start (before ++ notes) (front_after d front notes)
unfolding RowCarryAfter RowMayFollow front_after
fronts_hold d start before [] front a c u = subst (λ (b : List RowNote). UnderFront d start b front) (sym (append-nil before)) u
fronts_hold d start before (RowTerm t ∷ notes) front a c u =
    subst (λ (b : List RowNote). UnderFront d start b (front_after d (Some (t.monomial ⋅ lm d.g)) notes)) (append_assoc before (RowTerm t ∷ []) notes)
    (fronts_hold d start (before ++ RowTerm t ∷ []) notes (Some (t.monomial ⋅ lm d.g)) a c.1 (term_under d start before t a))
fronts_hold d start before (RowFront m ∷ notes) front a c u =
    subst (λ (b : List RowNote). UnderFront d start b (front_after d (Some m) notes)) (append_assoc before (RowFront m ∷ []) notes)
    (fronts_hold d start (before ++ RowFront m ∷ []) notes (Some m) a c.1 (front_under d start before m c.0.2))

no_front : (d : Division) (start : ℕ) → UnderFront d start [] None
unfolding UnderFront AllUnderFront
no_front d start later e = tt

front_at : (d : Division) (start : ℕ) (notes : List RowNote) (front : Option (List ℕ)) (later : List Term) → UnderFront d start notes front → known_after d start notes ++ later ≡ quotient_list d → AllUnderFront d front later
unfolding UnderFront
front_at d start notes front later h e = h later e

pub row_laws : RowLaws
row_laws d start a = (
  (λ notes x c m. row_push d start [] notes x c m),
  (λ b r c. row_front d start [] b r c),
  (λ notes later c e. front_at d start notes (front_after d None notes) later (fronts_hold d start [] notes None a c (no_front d start)) e),
)
