-- What a dividing worker knows of the quotient terms to come.
use Rattle.std.proofs.Common.{◌≡◌, inl, inr, ℕ, ◌+◌, ◌<◌, ◌≤◌, Bool, true, false, List, [], ◌∷◌, ◌++◌, length, take, Option, Some, None, refl, sym, ap, ◌∙◌, subst, arith, All, length-append, append_assoc, append-nil}
use Rattle.std.proofs.lemmas.List.Elements.{All-nil, All-cons}
use Rattle.std.proofs.lemmas.List.{length_push, length-take-le}
use mathlib.Core.List.{IsPrefix}
use Rattle.sdmp_laws.specs.Order.{Order, ◌⋅◌, degree}
use Rattle.sdmp_laws.specs.Ring.{red}
use Rattle.sdmp_laws.specs.Poly.{Term, coef, row, term_times, negated, minus, AllBelow, AllDegrees, lm}
use Rattle.sdmp_laws.specs.Division.{Division, IsAccepted, Turn, Turns}
use Rattle.sdmp_laws.specs.LongDivision.{quotient_list}
use Rattle.sdmp_laws.proofs.Ints.{red_zero}
use Rattle.sdmp_laws.proofs.OrderLemmas.{order_facts, degree_times, numbers, Three, is_less, is_equal, is_greater}
use Rattle.sdmp_laws.proofs.TermsLemmas.{total_above}
use Rattle.sdmp_laws.proofs.DegreeLemmas.{degrees_poly, degrees_append, degrees_negated}
use Rattle.sdmp_laws.proofs.LongLemmas.{quotient_list_is}
use Rattle.sdmp_laws.proofs.NextTerm.{at_then_at}
use Rattle.divide_wholes.specs.Wholes.{AllUnderFront, AllBelowFront, IsBeyond}
use Rattle.divide_wholes.specs.Row.{RowNote, RowTerm, RowFront, row_terms, front_after, known_after, RowMayFollow, RowCarryAfter, RowCarry}
use Rattle.divide_wholes.proofs.WorkerLemmas.{later_below}
use Rattle.dividing_rounds.specs.Stalls.{IsLowered}
use Rattle.divide_workers.specs.Fronts.{PlainFront, front_mono, IsPastBy, UnderBy, IsAhead, IsPast, FrontFalls, may_stay}
use Rattle.divide_workers.proofs.Falling.{weaker_past}

-- ---- degrees of quotient terms
all_lower : (ord : Order) (D : ℕ) (m : List ℕ) (A : List Term) → D < degree m → AllDegrees D A → AllBelow ord m A
unfolding AllBelow AllDegrees
all_lower ord D m [] l h = tt
all_lower ord D m (t ∷ A) l h = ((order_facts ord).degree_first t.monomial m (let k = h.0 in omega (arith, l, k)), all_lower ord D m A l h.1)

degrees_row : (D E : ℕ) (t : Term) (A : List Term) → degree t.monomial + E ≤ D → AllDegrees E A → AllDegrees D (row t A)
unfolding AllDegrees row term_times
degrees_row D E t [] l h = tt
degrees_row D E t (u ∷ A) l h = (let k = h.0 in let e = degree_times t.monomial u.monomial in omega (arith, l, k, e), degrees_row D E t A l h.1)

turn_low : (d : Division) (D : ℕ) (h : List Term) (t : Term) → AllDegrees D h → Turn d h t → degree t.monomial + degree (lm d.g) ≤ D
unfolding coef
turn_low d D h t low turn = pick (numbers D (degree (t.monomial ⋅ lm d.g)))
  where
    e : degree (t.monomial ⋅ lm d.g) ≡ degree t.monomial + degree (lm d.g)
    e = degree_times t.monomial (lm d.g)

    pick : Three (D < degree (t.monomial ⋅ lm d.g)) (D ≡ degree (t.monomial ⋅ lm d.g)) (degree (t.monomial ⋅ lm d.g) < D) → degree t.monomial + degree (lm d.g) ≤ D
    pick (is_less l) = absurd (turn.present (ap (red d.p) (total_above d.ord (t.monomial ⋅ lm d.g) h (all_lower d.ord D (t.monomial ⋅ lm d.g) h l low)) ∙ red_zero d.p))
    pick (is_equal l) = omega (arith, l, e)
    pick (is_greater l) = omega (arith, l, e)

turns_low : (d : Division) (D : ℕ) (h q : List Term) → AllDegrees (degree (lm d.g)) d.g → AllDegrees D h → Turns d h q → All (λ (t : Term). degree t.monomial + degree (lm d.g) ≤ D) q
unfolding Turns minus
turns_low d D h [] g low turns = All-nil _
turns_low d D h (t ∷ q) g low turns =
    let k = turn_low d D h t low turns.0 in
    All-cons (λ (u : Term). degree u.monomial + degree (lm d.g) ≤ D) t q k
    (turns_low d D (minus h (row t d.g)) q g (degrees_append D h (negated (row t d.g)) low (degrees_negated D (row t d.g) (degrees_row D (degree (lm d.g)) t d.g k g))) turns.1)

-- no quotient term times lm(g) has a degree above that of the dividend
pub quotient_low : (d : Division) → IsAccepted d → All (λ (t : Term). degree t.monomial + degree (lm d.g) ≤ degree (lm d.f)) (quotient_list d)
quotient_low d a = turns_low d (degree (lm d.f)) d.f (quotient_list d) (degrees_poly d.ord d.p d.n d.g a.divisor) (degrees_poly d.ord d.p d.n d.f a.dividend) (quotient_list_is d a).turns

-- ---- what later terms keep
under_back : (d : Division) (m : List ℕ) (A B : List Term) → AllUnderFront d (Some m) (A ++ B) → AllUnderFront d (Some m) B
unfolding AllUnderFront
under_back d m [] B h = h
under_back d m (t ∷ A) B h = under_back d m A B h.1

below_back : (d : Division) (m : List ℕ) (A B : List Term) → AllBelowFront d m (A ++ B) → AllBelowFront d m B
unfolding AllBelowFront
below_back d m [] B h = h
below_back d m (t ∷ A) B h = below_back d m A B h.1

ahead_by : (s : Bool) (d : Division) (m : List ℕ) (A B : List Term) → UnderBy s d m (A ++ B) → UnderBy s d m B
unfolding UnderBy
ahead_by false d m A B h = under_back d m A B h
ahead_by true d m A B h = below_back d m A B h

pub ahead_back : (d : Division) (front : Option PlainFront) (A B : List Term) → IsAhead d front (A ++ B) → IsAhead d front B
ahead_back d None A B h = tt
ahead_back d (Some f) A B h = ahead_by f.is_strict d f.mono A B h

-- ---- beginnings of one list
pub begins_longer : {A : Type 0} (xs ys zs : List A) → IsPrefix xs zs → IsPrefix ys zs → length xs ≤ length ys → IsPrefix xs ys
begins_longer [] ys zs p q l = (ys, refl)
begins_longer (x ∷ xs) [] zs p q l = absurd (omega (arith, l))
begins_longer (x ∷ xs) (y ∷ ys) [] p q l = absurd (cc p.1)
begins_longer (x ∷ xs) (y ∷ ys) (z ∷ zs) p q l =
    let e : xs ++ p.0 ≡ zs = cc p.1 in let f : ys ++ q.0 ≡ zs = cc q.1 in let g : x ≡ y = cc (p.1, q.1) in
    let t = begins_longer xs ys zs (p.0, e) (q.0, f) (omega (arith, l)) in (t.0, λ i. g i ∷ t.1 i)

pub same_begin : {A : Type 0} (xs ys zs : List A) → IsPrefix xs zs → IsPrefix ys zs → length xs ≡ length ys → xs ≡ ys
same_begin [] [] zs p q l = refl
same_begin [] (y ∷ ys) zs p q l = absurd (omega (arith, l))
same_begin (x ∷ xs) [] zs p q l = absurd (omega (arith, l))
same_begin (x ∷ xs) (y ∷ ys) [] p q l = absurd (cc p.1)
same_begin (x ∷ xs) (y ∷ ys) (z ∷ zs) p q l =
    let e : xs ++ p.0 ≡ zs = cc p.1 in let f : ys ++ q.0 ≡ zs = cc q.1 in let g : x ≡ y = cc (p.1, q.1) in
    let t = same_begin xs ys zs (p.0, e) (q.0, f) (omega (arith, l)) in (λ i. g i ∷ t i)

-- ---- news of the row
last_note : (d : Division) (start : ℕ) (before notes : List RowNote) (x : RowNote) → RowCarryAfter d start before (notes ++ x ∷ []) → RowMayFollow d start (before ++ notes) x
unfolding RowCarryAfter
last_note d start before [] x c = subst (λ (b : List RowNote). RowMayFollow d start b x) (sym (append-nil before)) c.0
last_note d start before (y ∷ notes) x c = subst (λ (b : List RowNote). RowMayFollow d start b x) (append_assoc before (y ∷ []) notes) (last_note d start (before ++ y ∷ []) notes x c.1)

-- the last of a row's notes followed those before it
pub followed : (d : Division) (start : ℕ) (notes : List RowNote) (x : RowNote) → RowCarry d start (notes ++ x ∷ []) → RowMayFollow d start notes x
followed d start notes x c = last_note d start [] notes x c

-- how many terms are known of the row and before it
pub known_length : (d : Division) (start : ℕ) (notes : List RowNote) → start ≤ length (quotient_list d) → length (known_after d start notes) ≡ start + length (row_terms notes)
unfolding known_after
known_length d start notes l = length-append (take start (quotient_list d)) (row_terms notes) ∙ ap (λ (n : ℕ). n + length (row_terms notes)) (length-take-le start (quotient_list d) l)

-- a term that the row tells, and that the worker knows then: later terms are below it
pub ahead_of_term : (d : Division) (before known later : List Term) (t : Term) → IsAccepted d → IsPrefix (before ++ t ∷ []) (quotient_list d) → known ++ later ≡ quotient_list d → length before < length known
    → IsAhead d (Some record { mono = t.monomial ⋅ lm d.g; is_strict = true }) later
unfolding UnderBy
ahead_of_term d before known later t a i e l =
    let k = length_push before t in
    let p = begins_longer (before ++ t ∷ []) known (quotient_list d) i (later, e) (omega (arith, k, l)) in
    below_back d (t.monomial ⋅ lm d.g) p.0 later (later_below d before (p.0 ++ later) t a (sym (append_assoc (before ++ t ∷ []) p.0 later) ∙ ap (λ (L : List Term). L ++ later) p.1 ∙ e))

-- a front that the row tells holds for the terms that come after those that the worker knows
pub ahead_of_front : (d : Division) (start : ℕ) (notes : List RowNote) (known later : List Term) (m : List ℕ) → RowMayFollow d start notes (RowFront m) → IsPrefix (known_after d start notes) (quotient_list d) → known ++ later ≡ quotient_list d
    → length (known_after d start notes) ≤ length known → IsAhead d (Some record { mono = m; is_strict = false }) later
unfolding UnderBy RowMayFollow
ahead_of_front d start notes known later m may i e l =
    let p = begins_longer (known_after d start notes) known (quotient_list d) i (later, e) l in
    under_back d m p.0 later (may.2 (p.0 ++ later) (sym (append_assoc (known_after d start notes) p.0 later) ∙ ap (λ (L : List Term). L ++ later) p.1 ∙ e))

-- ---- what the worker may hand out
beyond_by : (s : Bool) (d : Division) (rows later : List Term) (m x : List ℕ) → UnderBy s d m later → IsPastBy s d.ord (m ⋅ lm rows) (x ⋅ lm d.g) → IsBeyond d rows m later x
unfolding UnderBy IsPastBy IsBeyond
beyond_by false d rows later m x u h = inl (u, h)
beyond_by true d rows later m x u h = inr (u, h)

pub past_is_beyond : (d : Division) (rows later : List Term) (f : PlainFront) (x : List ℕ) → IsAhead d (Some f) later → IsPast d rows (Some f) x → IsBeyond d rows f.mono later x
unfolding IsPast
past_is_beyond d rows later f x u h = beyond_by f.is_strict d rows later f.mono x u h

-- ---- fronts of the row
front_after-append : (d : Division) (front : Option (List ℕ)) (a b : List RowNote) → front_after d front (a ++ b) ≡ front_after d (front_after d front a) b
unfolding front_after
front_after-append d front [] b = refl
front_after-append d front (RowTerm t ∷ a) b = front_after-append d (Some (t.monomial ⋅ lm d.g)) a b
front_after-append d front (RowFront m ∷ a) b = front_after-append d (Some m) a b

pub front_at_term : (d : Division) (notes : List RowNote) (t : Term) → front_after d None (notes ++ RowTerm t ∷ []) ≡ Some (t.monomial ⋅ lm d.g)
unfolding front_after
front_at_term d notes t = front_after-append d None notes (RowTerm t ∷ [])

pub front_at_front : (d : Division) (notes : List RowNote) (m : List ℕ) → front_after d None (notes ++ RowFront m ∷ []) ≡ Some m
unfolding front_after
front_at_front d notes m = front_after-append d None notes (RowFront m ∷ [])

-- a front that fell is no higher
pub falls_lowered : (ord : Order) (a : PlainFront) (b : Option PlainFront) → FrontFalls ord (Some a) b → IsLowered ord (front_mono b) (Some a.mono)
unfolding FrontFalls IsLowered
falls_lowered ord a None f = absurd f
falls_lowered ord a (Some b) f = weaker_past (may_stay a.is_strict b.is_strict) ord b.mono a.mono f

pub lowered_again : (ord : Order) (a b : Option PlainFront) (m : Option (List ℕ)) → FrontFalls ord a b → IsLowered ord (front_mono a) m → IsLowered ord (front_mono b) m
unfolding FrontFalls IsLowered
lowered_again ord a b None f h = tt
lowered_again ord None b (Some m) f h = absurd h
lowered_again ord (Some a) None (Some m) f h = absurd f
lowered_again ord (Some a) (Some b) (Some m) f h = at_then_at ord b.mono a.mono m (weaker_past (may_stay a.is_strict b.is_strict) ord b.mono a.mono f) h
