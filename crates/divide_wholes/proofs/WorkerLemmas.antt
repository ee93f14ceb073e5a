-- What a dividing worker may send.
use Rattle.std.proofs.Common.{◌≡◌, ℕ, ◌⊎◌, inl, inr, List, [], ◌∷◌, length, Some, ℤ, pos, ◌+ℤ◌, neg_ℤ, refl, sym, ap, ◌∙◌, subst, subst₂, append_assoc}
use Rattle.sdmp_laws.specs.Order.{Order, ◌⋅◌, Below}
use Rattle.sdmp_laws.specs.Ring.{red}
use Rattle.sdmp_laws.specs.Poly.{Term, total, coef, term_times, row, times, minus, Over, AllBelow, Decreasing, IsPoly, lm}
use Rattle.sdmp_laws.specs.Division.{Division, IsAccepted, AtOrAbove, AllAtOrBelow}
use Rattle.sdmp_laws.specs.LongDivision.{quotient_list}
use Rattle.whole_laws.specs.Notes.{after_lead, divisor_rows, script_list}
use Rattle.divide_wholes.specs.Wholes.{AllUnderFront, AllBelowFront, IsBeyond}
use Rattle.divide_wholes.specs.DivideLaws.{WorkerFinal, WorkerNext, LaterBelow}
use Rattle.sdmp_laws.proofs.Ints.{red_add, add_zero}
use Rattle.sdmp_laws.proofs.OrderLemmas.{Three, is_less, is_equal, is_greater, below_total, order_facts, length_times, times_comm, times_assoc}
use Rattle.sdmp_laws.proofs.PolyLemmas.{total_minus}
use Rattle.sdmp_laws.proofs.TermsLemmas.{total_nil, total_above, nothing_below, head_facts, tail_poly}
use Rattle.sdmp_laws.proofs.DivisionLemmas.{AllBelow-append, length_lm}
use Rattle.sdmp_laws.proofs.LongLemmas.{Over-times}
use Rattle.sdmp_laws.proofs.NextTerm.{at_then_below, below_then_at, back_poly, next_term, times_at, below_at}
use Rattle.sdmp_laws.proofs.ListLemmas.{Decreasing-every}
use Rattle.divide_wholes.proofs.Candidate.{quotient_poly, rows_over, times_split, times_nothing}

-- ---- the order
-- the order is read off the products as well
below_back : (ord : Order) (a b c : List ℕ) → length a ≡ length b → Below ord (a ⋅ c) (b ⋅ c) → Below ord a b
below_back ord a b c l h = pick (below_total ord a b l)
  where
    pick : Three (Below ord a b) (a ≡ b) (Below ord b a) → Below ord a b
    pick (is_less k) = k
    pick (is_equal e) = absurd ((order_facts ord).irreflexive (a ⋅ c) (subst (λ (v : List ℕ). Below ord (a ⋅ c) (v ⋅ c)) (sym e) h))
    pick (is_greater k) = absurd ((order_facts ord).irreflexive (a ⋅ c) ((order_facts ord).transitive (a ⋅ c) (b ⋅ c) (a ⋅ c) h ((order_facts ord).compatible b a c (sym l) k)))

times_at_left : (ord : Order) (a b c : List ℕ) → length a ≡ length b → AtOrAbove ord a b → AtOrAbove ord (c ⋅ a) (c ⋅ b)
times_at_left ord a b c l h = subst₂ (λ (v w : List ℕ). AtOrAbove ord v w) (times_comm a c) (times_comm b c) (times_at ord a b c l h)

-- ---- beyond the frontier
-- each term of A times r is below x
TimesBelow : Order → List ℕ → List ℕ → List Term → Type 0
TimesBelow ord r x [] = Unit {0}
TimesBelow ord r x (t ∷ A) = Below ord (t.monomial ⋅ r) x × TimesBelow ord r x A

-- t*r is below x where t*lm(g)*r is below x*lm(g)
first_below : (ord : Order) (t l r x : List ℕ) → length t ≡ length x → length t ≡ length r → Below ord ((t ⋅ l) ⋅ r) (x ⋅ l) → Below ord (t ⋅ r) x
first_below ord t l r x lx lr h = below_back ord (t ⋅ r) x l (length_times t r lr ∙ lx) (subst (λ (v : List ℕ). Below ord v (x ⋅ l)) swap h)
  where
    swap : (t ⋅ l) ⋅ r ≡ (t ⋅ r) ⋅ l
    swap = times_assoc t l r ∙ ap (λ (v : List ℕ). t ⋅ v) (times_comm l r) ∙ sym (times_assoc t r l)

-- the vectors that stand at a frontier have as many exponents as the division has variables
record FrontierVectors (d : Division) (front r x : List ℕ) : Type 0 where
  lead : length (lm d.g) ≡ d.n
  at_front : length front ≡ d.n
  first : length r ≡ d.n
  point : length x ≡ d.n

lead_length : (d : Division) (front r x : List ℕ) → FrontierVectors d front r x → (t : List ℕ) → length t ≡ d.n → length (t ⋅ lm d.g) ≡ length front
lead_length d front r x v t l = length_times t (lm d.g) (l ∙ sym v.lead) ∙ l ∙ sym v.at_front

under_front_below : (d : Division) (front r x : List ℕ) (A : List Term) → FrontierVectors d front r x → Over d.n A → AllUnderFront d (Some front) A → Below d.ord (front ⋅ r) (x ⋅ lm d.g) → TimesBelow d.ord r x A
unfolding Over AllUnderFront TimesBelow
under_front_below d front r x [] v o h b = tt
under_front_below d front r x (t ∷ A) v o h b = (
  first_below d.ord t.monomial (lm d.g) r x (o.0 ∙ sym v.point) (o.0 ∙ sym v.first)
      (at_then_below d.ord ((t.monomial ⋅ lm d.g) ⋅ r) (front ⋅ r) (x ⋅ lm d.g) (times_at d.ord (t.monomial ⋅ lm d.g) front r (lead_length d front r x v t.monomial o.0) h.0) b),
  under_front_below d front r x A v o.1 h.1 b,
)

below_front_below : (d : Division) (front r x : List ℕ) (A : List Term) → FrontierVectors d front r x → Over d.n A → AllBelowFront d front A → AtOrAbove d.ord (front ⋅ r) (x ⋅ lm d.g) → TimesBelow d.ord r x A
unfolding Over AllBelowFront TimesBelow
below_front_below d front r x [] v o h b = tt
below_front_below d front r x (t ∷ A) v o h b = (
  first_below d.ord t.monomial (lm d.g) r x (o.0 ∙ sym v.point) (o.0 ∙ sym v.first)
      (below_then_at d.ord ((t.monomial ⋅ lm d.g) ⋅ r) (front ⋅ r) (x ⋅ lm d.g) ((order_facts d.ord).compatible (t.monomial ⋅ lm d.g) front r (lead_length d front r x v t.monomial o.0) h.0) b),
  below_front_below d front r x A v o.1 h.1 b,
)

-- the rows at r or below
row_below_x : (ord : Order) (n : ℕ) (t : Term) (r x : List ℕ) (B : List Term) → length r ≡ n → Below ord (t.monomial ⋅ r) x → Over n B → AllAtOrBelow ord r B → AllBelow ord x (row t B)
unfolding Over AllAtOrBelow row term_times AllBelow
row_below_x ord n t r x [] lr h o k = tt
row_below_x ord n t r x (u ∷ B) lr h o k =
    (at_then_below ord (t.monomial ⋅ u.monomial) (t.monomial ⋅ r) x (times_at_left ord u.monomial r t.monomial (o.0 ∙ sym lr) k.0) h, row_below_x ord n t r x B lr h o.1 k.1)

times_below_x : (ord : Order) (n : ℕ) (r x : List ℕ) (A B : List Term) → length r ≡ n → TimesBelow ord r x A → Over n B → AllAtOrBelow ord r B → AllBelow ord x (times A B)
unfolding TimesBelow times
times_below_x ord n r x [] B lr h o k = nothing_below ord x
times_below_x ord n r x (t ∷ A) B lr h o k = AllBelow-append ord x (row t B) (times A B) (row_below_x ord n t r x B lr h.0 o k) (times_below_x ord n r x A B lr h.1 o k)

-- ---- the rows of a worker
lower_decreasing : (ord : Order) (g : List Term) → Decreasing ord g → Decreasing ord (after_lead g)
unfolding Decreasing after_lead
lower_decreasing ord [] h = tt
lower_decreasing ord (t ∷ g) h = h.1

pub rows_decreasing : (d : Division) (W w : ℕ) → IsAccepted d → Decreasing d.ord (divisor_rows d.g W w)
unfolding divisor_rows
rows_decreasing d W w a = Decreasing-every d.ord W w 1 (after_lead d.g) (lower_decreasing d.ord d.g a.divisor.decreasing)

over_head : (n : ℕ) (u : Term) (B : List Term) → Over n (u ∷ B) → length u.monomial ≡ n
unfolding Over
over_head n u B o = o.0

at_own : (ord : Order) (u : Term) (B : List Term) → Decreasing ord (u ∷ B) → AllAtOrBelow ord u.monomial (u ∷ B)
unfolding Decreasing AllAtOrBelow
at_own ord u B h = (inl refl, below_at ord u.monomial B h.0)

later_rows : (d : Division) (front x : List ℕ) (A B : List Term) → length (lm d.g) ≡ d.n → length front ≡ d.n → length x ≡ d.n → Over d.n A → IsBeyond d B front A x → Over d.n B → Decreasing d.ord B → total (times A B) x ≡ pos 0
unfolding lm IsBeyond
later_rows d front x A [] ll lf lx oa h o k = ap (λ (L : List Term). total L x) (times_nothing A) ∙ total_nil x
later_rows d front x A (u ∷ B) ll lf lx oa h o k =
    total_above d.ord x (times A (u ∷ B)) (times_below_x d.ord d.n u.monomial x A (u ∷ B) v.first (pick h) o (at_own d.ord u B k))
  where
    v : FrontierVectors d front u.monomial x
    v = record { lead = ll; at_front = lf; first = over_head d.n u B o; point = lx }

    pick : (AllUnderFront d (Some front) A × Below d.ord (front ⋅ u.monomial) (x ⋅ lm d.g)) ⊎ (AllBelowFront d front A × AtOrAbove d.ord (front ⋅ u.monomial) (x ⋅ lm d.g)) → TimesBelow d.ord u.monomial x A
    pick (inl k) = under_front_below d front u.monomial x A v oa k.0 k.1
    pick (inr k) = below_front_below d front u.monomial x A v oa k.0 k.1

pub worker_final : WorkerFinal
unfolding coef
worker_final d W w known later front x a e lf lx h =
    let G = divisor_rows d.g W w in
    let i = back_poly d.ord d.p d.n known later (subst (λ (L : List Term). IsPoly d.ord d.p d.n L) (sym e) (quotient_poly d a)) in
    let z = later_rows d front x later G (length_lm d a) lf lx i.vectors h (rows_over d W w a) (rows_decreasing d W w a) in
    ap (red d.p) (ap (λ (L : List Term). total (times L G) x) (sym e) ∙ times_split known later G x ∙ ap (λ (y : ℤ). total (times known G) x +ℤ y) z ∙ add_zero (total (times known G) x))

-- ---- after a known term
below_lead : (d : Division) (m : List ℕ) (A : List Term) → length m ≡ d.n → Over d.n A → AllBelow d.ord m A → AllBelowFront d (m ⋅ lm d.g) A
unfolding AllBelowFront Over AllBelow
below_lead d m [] l o h = tt
below_lead d m (s ∷ A) l o h = ((order_facts d.ord).compatible s.monomial m (lm d.g) (o.0 ∙ sym l) h.0, below_lead d m A l o.1 h.1)

pub later_below : LaterBelow
later_below d before later t a e =
    let i = back_poly d.ord d.p d.n before (t ∷ later) (subst (λ (L : List Term). IsPoly d.ord d.p d.n L) (sym e ∙ append_assoc before (t ∷ []) later) (quotient_poly d a)) in
    let f = head_facts d.ord d.p d.n t later i in
    below_lead d t.monomial later f.0 (tail_poly d.ord d.p d.n t later i).vectors f.1

-- ---- what is sent next
-- what is above a monomial beyond the frontier is beyond it too
beyond_up : (d : Division) (rows : List Term) (front : List ℕ) (later : List Term) (x m : List ℕ) → length x ≡ length m → Below d.ord x m → IsBeyond d rows front later x → IsBeyond d rows front later m
unfolding IsBeyond
beyond_up d rows front later x m l b (inl h) = inl (h.0, (order_facts d.ord).transitive (front ⋅ lm rows) (x ⋅ lm d.g) (m ⋅ lm d.g) h.1 ((order_facts d.ord).compatible x m (lm d.g) l b))
beyond_up d rows front later x m l b (inr h) = inr (h.0, inr (at_then_below d.ord (front ⋅ lm rows) (x ⋅ lm d.g) (m ⋅ lm d.g) h.1 ((order_facts d.ord).compatible x m (lm d.g) l b)))

less_alike : (p : ℕ) (A B S : List Term) (m : List ℕ) → coef p A m ≡ coef p B m → coef p (minus A S) m ≡ coef p (minus B S) m
unfolding coef
less_alike p A B S m e =
    ap (red p) (total_minus A S m) ∙ red_add p (total A m) (total B m) (neg_ℤ (total S m)) (neg_ℤ (total S m)) e refl ∙ ap (red p) (sym (total_minus B S m))

pub worker_next : WorkerNext
unfolding script_list
worker_next d W w known later sent front x a e lf lx h i z above =
    let G = divisor_rows d.g W w in
    let same : (m : List ℕ) → length m ≡ d.n → IsBeyond d G front later m → coef d.p (minus (times (quotient_list d) G) sent) m ≡ coef d.p (minus (times known G) sent) m =
    λ m l k. less_alike d.p (times (quotient_list d) G) (times known G) sent m (worker_final d W w known later front m a e lf l k) in
    next_term d.ord d.p d.n (times (quotient_list d) G) sent x (coef d.p (minus (times known G) sent) x)
    (Over-times d.n (quotient_list d) G (quotient_poly d a).vectors (rows_over d W w a)) i lx (same x lx h) z
    (λ m l k. same m l (beyond_up d G front later x m (lx ∙ sym l) k h) ∙ above m l k)
