-- Rows and the terms that they learn: degrees, norms, and what is handed out.
use Rattle.std.proofs.Common.{◌≡◌, ◌≢◌, ℕ, zero, suc, ◌+◌, ◌*◌, ◌<◌, ◌≤◌, Bool, true, false, true≢false, cond, eqb, ne_eqb, ◌%◌, List, [], ◌∷◌, ◌++◌, length, take, drop, get_or, Option, None, ℤ, unsigned_abs, refl, sym, ap, ◌∙◌, subst, arith, All, mul-le-mul_left, append-nil}
use Rattle.std.proofs.lemmas.Int.{unsigned_abs-mul}
use Rattle.std.specs.List.Sorted.{IsPermutation}
use Rattle.std.proofs.lemmas.List.{get_or-map, length-map, length-drop, drop-append-le, map-append, take-append-drop, length-take-le, take_more}
use Rattle.std.proofs.lemmas.List.Elements.{All-nil, All-cons, All-push}
use Rattle.sdmp_laws.specs.Order.{Order, degree}
use Rattle.sdmp_laws.specs.Poly.{Term, term_times, row, norm, Over, AllBelow, Decreasing, AllDegrees, IsPoly, lm, every}
use Rattle.sdmp_laws.specs.Limits.{greatest_norm}
use Rattle.sdmp_laws.specs.Canonical.{IsCanonical}
use Rattle.sdmp_laws.proofs.Parts.{norm_append, norm_cons, norm_nil, norm_row}
use Rattle.sdmp_laws.proofs.DegreeLemmas.{degrees_poly}
use Rattle.canonical_terms.specs.declared.term.TermOf.{TermOf}
use Rattle.canonical_terms.specs.View.{term_of, sum_of}
use Rattle.sdmp_laws.proofs.Merging.{Over-push}
use Rattle.chained_heap.specs.declared.node.Place.{Place}
use Rattle.chained_heap.specs.declared.node.Place.TheVariants.{Out}
use Rattle.chained_heap.specs.Shape.{place_at}
use Rattle.row_merge.specs.Learned.{unread, product_at, AreRows, IsMoved, TakesOut, AreLearned}
use Rattle.row_merge.proofs.Products.{learn_one}
use Rattle.row_merge.proofs.Places.{read_low}
use Rattle.row_merge.proofs.RowSteps.{rows_learned}
use Rattle.row_merge.proofs.Popped.{moved_same, waits_out}
use Rattle.sdmp_laws.proofs.ListLemmas.{Over-every, Decreasing-every, AllDegrees-every, norm-every-le}

-- ---- degrees
pub lead_degree : (D : ℕ) (L : List Term) → AllDegrees D L → degree (lm L) ≤ D
unfolding AllDegrees lm degree
lead_degree D [] h = omega arith
lead_degree D (t ∷ L) h = h.0

pub degrees_of : {M E : Type 0} (vector : M → List ℕ) (value : E → ℤ) (D lim : ℕ) (ts : List (TermOf M E)) → D ≤ lim → AllDegrees D (sum_of vector value ts) → All (λ t. degree (vector t.mono) ≤ lim) ts
unfolding AllDegrees
degrees_of vector value D lim [] l h = All-nil _
degrees_of vector value D lim (t ∷ ts) l h = All-cons (λ t. degree (vector t.mono) ≤ lim) t ts (omega (arith, h.0, l)) (degrees_of vector value D lim ts l h.1)

module _ {M E : Type 0} (vector : M → List ℕ) (value : E → ℤ) (ord : Order) (p n lim : ℕ) (divisor : List Term) (rows learned : List (TermOf M E)) where
  pub rows_low : AreLearned ord p n lim divisor (sum_of vector value rows) (sum_of vector value learned) → All (λ t. degree (vector t.mono) ≤ lim) rows
  rows_low k = degrees_of vector value (degree (lm divisor)) lim rows (lead_degree lim divisor k.divisor_is.degrees) k.rows_degrees

  pub learned_low : AreLearned ord p n lim divisor (sum_of vector value rows) (sum_of vector value learned) → All (λ t. degree (vector t.mono) ≤ lim) learned
  learned_low k = λ i d l.
      let h : degree (get_or (sum_of vector value learned) i (term_of vector value d)).monomial + degree (lm divisor) ≤ lim = k.degrees i (term_of vector value d) (omega (arith, l, length-map learned (term_of vector value))) in
      let e : degree (vector (get_or learned i d).mono) ≡ degree (get_or (sum_of vector value learned) i (term_of vector value d)).monomial = ap (λ (t : Term). degree t.monomial) (sym (get_or-map (term_of vector value) learned i d (term_of vector value d) l)) in
      omega (arith, h, e)

-- ---- norms
turn : (a b c : ℕ) → a * (b + c) ≡ b * a + a * c
turn a b c = omega arith

zero_times : (a b : ℕ) → a ≡ 0 → a * b ≡ 0
zero_times zero b e = omega arith
zero_times (suc a) b e = absurd (omega (arith, e))

drop_norm : (r : ℕ) (L : List Term) → norm (drop r L) ≤ norm L
drop_norm r L = omega (arith, norm_append (take r L) (drop r L), ap norm (take-append-drop r L))

pub left_norm : (L : List Term) (reads : List ℕ) (rows : List Term) → norm (unread rows reads L) ≤ norm L * norm rows
unfolding unread
left_norm L [] [] = omega (arith, norm_nil)
left_norm L [] (s ∷ rows) = omega (arith, norm_nil)
left_norm L (r ∷ reads) [] = omega (arith, norm_nil)
left_norm L (r ∷ reads) (s ∷ rows) =
    let a : unsigned_abs s.coefficient * norm (drop r L) ≤ unsigned_abs s.coefficient * norm L = mul-le-mul_left (unsigned_abs s.coefficient) (drop_norm r L) in
    let b : norm L * norm (s ∷ rows) ≡ unsigned_abs s.coefficient * norm L + norm L * norm rows = ap (λ (k : ℕ). norm L * k) (norm_cons s rows) ∙ turn (norm L) (unsigned_abs s.coefficient) (norm rows) in
    omega (arith, norm_append (row s (drop r L)) (unread rows reads L), norm_row s (drop r L), left_norm L reads rows, a, b)

pub left_fits : (ord : Order) (p n lim : ℕ) (divisor rows L : List Term) (reads : List ℕ) → AreLearned ord p n lim divisor rows L → p ≡ 0 → norm (unread rows reads L) ≤ greatest_norm
left_fits ord p n lim divisor rows L reads k z = omega (arith, left_norm L reads rows, mul-le-mul_left (norm L) k.rows_norm, k.fits z)

-- ---- the rows of a worker
every_push : (W w i : ℕ) (A : List Term) (t : Term) → every W w i (A ++ t ∷ []) ≡ every W w i A ++ cond (eqb ((i + length A) % W) w) (t ∷ []) []
unfolding every
every_push W w i [] t = pick (eqb (i % W) w) refl
  where
    pick : (b : Bool) → eqb (i % W) w ≡ b → cond (eqb (i % W) w) (t ∷ []) [] ≡ cond (eqb ((i + 0) % W) w) (t ∷ []) []
    pick b e = ap (λ (k : ℕ). cond (eqb (k % W) w) (t ∷ []) []) (let z : i ≡ i + 0 = omega arith in z)
every_push W w i (s ∷ A) t = pick (eqb (i % W) w) refl (every_push W w (suc i) A t)
  where
    same : cond (eqb ((suc i + length A) % W) w) (t ∷ []) [] ≡ cond (eqb ((i + suc (length A)) % W) w) (t ∷ []) []
    same = ap (λ (k : ℕ). cond (eqb (k % W) w) (t ∷ []) []) (let z : suc i + length A ≡ i + suc (length A) = omega arith in z)

    pick : (b : Bool) → eqb (i % W) w ≡ b → every W w (suc i) (A ++ t ∷ []) ≡ every W w (suc i) A ++ cond (eqb ((suc i + length A) % W) w) (t ∷ []) [] → cond b (s ∷ every W w (suc i) (A ++ t ∷ [])) (every W w (suc i) (A ++ t ∷ [])) ≡ cond b (s ∷ every W w (suc i) A) (every W w (suc i) A) ++ cond (eqb ((i + suc (length A)) % W) w) (t ∷ []) []
    pick true e ih = ap (λ (l : List Term). s ∷ l) (ih ∙ ap (λ (l : List Term). every W w (suc i) A ++ l) same)
    pick false e ih = ih ∙ ap (λ (l : List Term). every W w (suc i) A ++ l) same

-- the part of a canonical list keeps what the rows keep
drop_degrees : (D : ℕ) (g : List Term) → AllDegrees D g → AllDegrees D (drop 1 g)
unfolding AllDegrees
drop_degrees D [] h = h
drop_degrees D (t ∷ g) h = h.1

pub start_kept : (ord : Order) (p n lim W w : ℕ) (g : List Term) → IsCanonical ord p n lim g → AreLearned ord p n lim g (every W w 1 (drop 1 g)) []
unfolding Over Decreasing AllDegrees
start_kept ord p n lim W w g c = record {
  divisor_is = c;
  rows_vectors = Over-every n W w 1 (drop 1 g) (tail_over g c.poly.vectors);
  rows_fall = Decreasing-every ord W w 1 (drop 1 g) (tail_falls g c.poly.decreasing);
  rows_degrees = AllDegrees-every (degree (lm g)) W w 1 (drop 1 g) (tail_degrees g c.poly);
  rows_norm = omega (arith, norm-every-le W w 1 (drop 1 g), tail_norm g);
  vectors = tt;
  fall = tt;
  degrees = All-nil _;
  fits = λ z. omega (arith, norm_nil, zero_times (norm []) (norm g) norm_nil);
}
  where
    tail_over : (g : List Term) → Over n g → Over n (drop 1 g)
    tail_over [] h = h
    tail_over (t ∷ g) h = h.1

    tail_falls : (g : List Term) → Decreasing ord g → Decreasing ord (drop 1 g)
    tail_falls [] h = h
    tail_falls (t ∷ g) h = h.1

    tail_norm : (g : List Term) → norm (drop 1 g) ≤ norm g
    tail_norm [] = omega arith
    tail_norm (t ∷ g) = omega (arith, norm_cons t g)

    tail_degrees : (g : List Term) → IsPoly ord p n g → AllDegrees (degree (lm g)) (drop 1 g)
    tail_degrees g i = drop_degrees (degree (lm g)) g (degrees_poly ord p n g i)

-- ---- one more row
pub rows_more : (W w place : ℕ) (A rest rows rows' : List Term) (t : Term) → 1 ≤ place → length A ≡ place → rows ≡ every W w 1 (drop 1 A) → rows' ≡ rows ++ cond (eqb (place % W) w) (t ∷ []) [] → rows' ≡ every W w 1 (drop 1 (A ++ t ∷ []))
rows_more W w place A rest rows rows' t h l e f =
    f ∙ ap (λ (x : List Term). x ++ cond (eqb (place % W) w) (t ∷ []) []) e
    ∙ ap (λ (k : ℕ). every W w 1 (drop 1 A) ++ cond (eqb (k % W) w) (t ∷ []) []) (let z : place ≡ 1 + length (drop 1 A) = omega (arith, length-drop 1 A, l, h) in z)
    ∙ sym (every_push W w 1 (drop 1 A) t)
    ∙ ap (every W w 1) (sym (drop-append-le 1 A (t ∷ []) (omega (arith, l, h))))

-- ---- the first row
pub first_row : {M E : Type 0} (vector : M → List ℕ) (value : E → ℤ) (rows : List (TermOf M E)) (d : TermOf M E) → 0 < length rows → (sum_of vector value rows ≢ []) × (vector (get_or rows 0 d).mono ≡ lm (sum_of vector value rows))
unfolding lm
first_row vector value [] d h = absurd (omega arith)
first_row vector value (t ∷ rows) d h = ((λ e. cc), refl)

pub no_row : {M E : Type 0} (vector : M → List ℕ) (value : E → ℤ) (rows : List (TermOf M E)) → length rows ≡ 0 → sum_of vector value rows ≡ []
no_row vector value [] h = refl
no_row vector value (t ∷ rows) h = absurd (omega (arith, h))

-- ---- what is learned
pub push_sum : {M E : Type 0} (vector : M → List ℕ) (value : E → ℤ) (ts new : List (TermOf M E)) (t : TermOf M E) → new ≡ ts ++ t ∷ [] → sum_of vector value new ≡ sum_of vector value ts ++ term_of vector value t ∷ []
push_sum vector value ts new t e = ap (sum_of vector value) e ∙ map-append (term_of vector value) ts (t ∷ [])

pub learn_kept : (ord : Order) (p n lim : ℕ) (divisor rows L : List Term) (t : Term) → AreLearned ord p n lim divisor rows L → length t.monomial ≡ n → Decreasing ord (L ++ t ∷ []) → degree t.monomial + degree (lm divisor) ≤ lim → (p ≡ 0 → norm (L ++ t ∷ []) * norm divisor ≤ greatest_norm) → AreLearned ord p n lim divisor rows (L ++ t ∷ [])
learn_kept ord p n lim divisor rows L t k l d g f = record {
  divisor_is = k.divisor_is;
  rows_vectors = k.rows_vectors;
  rows_fall = k.rows_fall;
  rows_degrees = k.rows_degrees;
  rows_norm = k.rows_norm;
  vectors = Over-push n L t k.vectors l;
  fall = d;
  degrees = All-push (λ (u : Term). degree u.monomial + degree (lm divisor) ≤ lim) L t k.degrees g;
  fits = f;
}

module _ {M : Type 0} (vector : M → List ℕ) (ord : Order) (L rows : List Term) (reads : List ℕ) (places : List (Place M)) where
  -- the first row, where it waits for a term
  pub first_out : AreRows vector ord None L rows reads places → 0 < length rows → get_or reads 0 0 ≡ length L → place_at places 0 ≡ Out
  first_out a h e = waits_out vector ord None (place_at places 0) (get_or reads 0 0) (length L) (product_at rows L 0 (get_or reads 0 0)) e (a.placed 0 h)

  pub learn_rows : (t : Term) (new : List (Place M)) (known : ℕ) (opens : Type 0) → AreRows vector ord None L rows reads places → known ≡ length L → (opens → (0 < length reads) × (get_or reads 0 0 ≡ known)) → ((0 < length reads) × (get_or reads 0 0 ≡ known) → opens)
      → IsMoved vector 0 (product_at rows (L ++ t ∷ []) 0 known) opens places new → AreRows vector ord None (L ++ t ∷ []) rows reads new
  learn_rows t new known opens a k f f' mo =
      rows_learned vector ord L rows t reads places new a
      (moved_same vector 0 (product_at rows (L ++ t ∷ []) 0 (length L)) opens ((0 < length rows) × (get_or reads 0 0 ≡ length L)) places new
      (λ o. let q = f o in (omega (arith, q.0, a.reads_count), q.1 ∙ k)) (λ q. f' (omega (arith, q.0, a.reads_count), q.1 ∙ sym k))
      (subst (λ (j : ℕ). IsMoved vector 0 (product_at rows (L ++ t ∷ []) 0 j) opens places new) k mo))

  pub learn_left : (t : Term) → AreRows vector ord None L rows reads places → IsPermutation (unread rows reads L ++ row t rows) (unread rows reads (L ++ t ∷ []))
  learn_left t a = learn_one L t reads rows a.reads_count (λ k h. read_low vector ord None L rows reads places a k (omega (arith, h, a.reads_count)))

-- ---- the same of equal lists
pub move_rows : {M : Type 0} (vector : M → List ℕ) (ord : Order) (x : Option (List ℕ)) (L L' rows rows' : List Term) (reads reads' : List ℕ) (places places' : List (Place M)) → L ≡ L' → rows ≡ rows' → reads ≡ reads' → places ≡ places' → AreRows vector ord x L rows reads places → AreRows vector ord x L' rows' reads' places'
move_rows {M} vector ord x L L' rows rows' reads reads' places places' e f g h a =
    subst (λ (A : List Term). AreRows vector ord x A rows' reads' places') e
    (subst (λ (A : List Term). AreRows vector ord x L A reads' places') f
    (subst (λ (A : List ℕ). AreRows vector ord x L rows A places') g
    (subst (λ (A : List (Place M)). AreRows vector ord x L rows reads A) h a)))

pub move_out : (ord : Order) (p : ℕ) (L L' rows rows' : List Term) (reads reads' after after' : List ℕ) (t : Term) → L ≡ L' → rows ≡ rows' → reads ≡ reads' → after ≡ after' → TakesOut ord p (unread rows reads L) (unread rows after L) t → TakesOut ord p (unread rows' reads' L') (unread rows' after' L') t
move_out ord p L L' rows rows' reads reads' after after' t e f g h o =
    subst (λ (A : List Term). TakesOut ord p (unread rows' reads' A) (unread rows' after' A) t) e
    (subst (λ (A : List Term). TakesOut ord p (unread A reads' L) (unread A after' L) t) f
    (subst (λ (A : List ℕ). TakesOut ord p (unread rows A L) (unread rows after' L) t) g
    (subst (λ (A : List ℕ). TakesOut ord p (unread rows reads L) (unread rows A L) t) h o)))

-- ---- the rows of a worker, term by term
pub none_first : {M E : Type 0} (vector : M → List ℕ) (value : E → ℤ) (W w : ℕ) (ts rows : List (TermOf M E)) → rows ≡ [] → sum_of vector value rows ≡ every W w 1 (drop 1 (sum_of vector value (take 1 ts)))
unfolding every
none_first vector value W w [] rows e = ap (sum_of vector value) e
none_first vector value W w (t ∷ ts) rows e = ap (sum_of vector value) e

pub later_more : {M E : Type 0} (vector : M → List ℕ) (value : E → ℤ) (W w place : ℕ) (ts rows new : List (TermOf M E)) (d : TermOf M E) → 1 ≤ place → place < length ts
    → sum_of vector value rows ≡ every W w 1 (drop 1 (sum_of vector value (take place ts))) → new ≡ rows ++ cond (eqb (place % W) w) (get_or ts place d ∷ []) [] → sum_of vector value new ≡ every W w 1 (drop 1 (sum_of vector value (take (place + 1) ts)))
later_more vector value W w place ts rows new d h l e f =
    rows_more W w place (sum_of vector value (take place ts)) [] (sum_of vector value rows) (sum_of vector value new) (term_of vector value (get_or ts place d)) h
    (length-map (take place ts) (term_of vector value) ∙ length-take-le place ts (omega (arith, l))) e
    (ap (sum_of vector value) f ∙ map-append (term_of vector value) rows (cond (eqb (place % W) w) (get_or ts place d ∷ []) []) ∙ ap (λ (x : List Term). sum_of vector value rows ++ x) (choose (eqb (place % W) w)))
    ∙ ap (λ (x : List Term). every W w 1 (drop 1 x)) (sym (ap (sum_of vector value) (take_more ts place d l) ∙ map-append (term_of vector value) (take place ts) (get_or ts place d ∷ [])))
  where
    choose : (b : Bool) → sum_of vector value (cond b (get_or ts place d ∷ []) []) ≡ cond b (term_of vector value (get_or ts place d) ∷ []) []
    choose true = refl
    choose false = refl

pub positive_from : (n : ℕ) (b : Bool) → b ≡ eqb n 0 → b ≡ false → 0 < n
positive_from zero b e f = absurd (true≢false (sym e ∙ f))
positive_from (suc n) b e f = omega arith

pub later_skip : {M E : Type 0} (vector : M → List ℕ) (value : E → ℤ) (W w place : ℕ) (ts rows : List (TermOf M E)) → 1 ≤ place → place < length ts
    → sum_of vector value rows ≡ every W w 1 (drop 1 (sum_of vector value (take place ts))) → (place % W ≢ w) → sum_of vector value rows ≡ every W w 1 (drop 1 (sum_of vector value (take (place + 1) ts)))
later_skip vector value W w place [] rows h l e n = absurd (omega arith)
later_skip vector value W w place (t ∷ ts) rows h l e n =
    later_more vector value W w place (t ∷ ts) rows rows t h l e
    (sym (ap (λ b. rows ++ cond b (get_or (t ∷ ts) place t ∷ []) []) (ne_eqb (place % W) w n) ∙ append-nil rows))
