-- How much a run of a division does at most.
use Rattle.std.proofs.Common.{◌≡◌, ℕ, zero, suc, ◌+◌, ◌-◌, ◌*◌, ◌%◌, ◌^◌, ◌<◌, ◌≤◌, inr, Bool, true, false, cond, eqb, ltb, sum_by, List, [], ◌∷◌, ◌++◌, length, get_or, set, refl, ap, ◌∙◌, subst, arith, length-append, le-ltb, lt-ltb, eq-eqb, ne_eqb, lt_irrefl, mod-lt}
use Rattle.std.proofs.Math.Nat.{mul-le-mul}
use Rattle.std.proofs.lemmas.List.Sums.{sum_by-set, sum_by-cons}
use Rattle.sdmp_laws.specs.Poly.{Term, every}
use Rattle.sdmp_laws.specs.Division.{Division}
use Rattle.sdmp_laws.specs.Limits.{quotient_terms_limit}
use Rattle.whole_laws.specs.Notes.{Note, TermNote, MarkNote, EndNote, after_lead, divisor_rows}
use Rattle.whole_laws.specs.Wholes.{notes_of}
use Rattle.divide_wholes.specs.Wholes.{divide_take, processed, found, kept}
use Rattle.divide_wholes.specs.MergeRow.{with_new_row}
use Rattle.dividing_rounds.specs.Runs.{DivideRun, RunWhole, workload_count, run_take, run_zero, run_rest, run_found, run_front, run_row}
use Rattle.dividing_rounds.specs.Counting.{NotesFit}
use Rattle.dividing_rounds.specs.Rounds.{progress, ProgressRises, most_rounds, ProgressFits, ProgressSmall, RoundsFit}
use Rattle.sdmp_laws.proofs.OrderLemmas.{Three, is_less, is_equal, is_greater, numbers}
use Rattle.dividing_rounds.proofs.LogLemmas.{after_one, counts_fit}

-- ---- each step raises progress
one_note_more : (taken : List (List Note)) (w : ℕ) (n : Note) → w < length taken → sum_by (λ notes. length notes) (set taken w (notes_of taken w ++ n ∷ [])) ≡ sum_by (λ notes. length notes) taken + 1
unfolding notes_of
one_note_more taken w n l =
    let e = sum_by-set (λ (notes : List Note). length notes) taken w (get_or taken w [] ++ n ∷ []) [] l in
    let k = length-append (get_or taken w []) (n ∷ []) in
    omega (arith, e, k)

taken_more : (r : DivideRun) (w : ℕ) (n : Note) → w < length r.state.taken → progress (run_take r w n) ≡ progress r + 1
unfolding progress run_take divide_take
taken_more r w (TermNote t) l = let e = one_note_more r.state.taken w (TermNote t) l in omega (arith, e)
taken_more r w (MarkNote k top) l = let e = one_note_more r.state.taken w (MarkNote k top) l in omega (arith, e)
taken_more r w EndNote l = let e = one_note_more r.state.taken w EndNote l in omega (arith, e)

pub progress_rises : ProgressRises
unfolding progress run_zero run_rest run_found run_front run_row processed kept found with_new_row
progress_rises r = (
  taken_more r,
  (λ x. omega arith),
  (λ x. omega arith),
  (λ x t. let e = length-append r.state.q (t ∷ []) in omega (arith, e)),
  (λ y. omega arith),
  refl,
)

-- ---- the rows of all workers are those of the divisor after its first term
-- the sum of b at the first k numbers
unfoldable sum_first : (ℕ → ℕ) → ℕ → ℕ
sum_first b zero = 0
sum_first b (suc k) = sum_first b k + b k

rows_none : (W i k : ℕ) → sum_first (λ w. length (every W w i [])) k ≡ 0
unfolding sum_first every
rows_none W i zero = refl
rows_none W i (suc k) = let e = rows_none W i k in omega (arith, e)

row_more : (W w i : ℕ) (t : Term) (A : List Term) → length (every W w i (t ∷ A)) ≡ cond (eqb (i % W) w) 1 0 + length (every W w (suc i) A)
unfolding every
row_more W w i t A = pick (eqb (i % W) w)
  where
    pick : (b : Bool) → length (cond b (t ∷ every W w (suc i) A) (every W w (suc i) A)) ≡ cond b 1 0 + length (every W w (suc i) A)
    pick true = omega arith
    pick false = omega arith

-- the first of A is counted once, by the worker of its place
counted_first : (W i k : ℕ) (t : Term) (A : List Term) → sum_first (λ w. length (every W w i (t ∷ A))) k ≡ cond (ltb (i % W) k) 1 0 + sum_first (λ w. length (every W w (suc i) A)) k
unfolding sum_first
counted_first W i zero t A = none (i % W)
  where
    none : (r : ℕ) → 0 ≡ cond (ltb r 0) 1 0 + 0
    none r = rw (le-ltb r 0 (omega arith)) refl
counted_first W i (suc k) t A =
    let before = counted_first W i k t A in
    let one = row_more W k i t A in
    let both = split (i % W) (numbers (i % W) k) in
    omega (arith, before, one, both)
  where
    split : (r : ℕ) → Three (r < k) (r ≡ k) (k < r) → cond (ltb r (suc k)) 1 0 ≡ cond (ltb r k) 1 0 + cond (eqb r k) 1 0
    split r (is_less h) = rw (lt-ltb r (suc k) (omega arith), lt-ltb r k h, ne_eqb r k (λ e. lt_irrefl k (subst (λ (y : ℕ). y < k) e h))) refl
    split r (is_equal h) = rw (lt-ltb r (suc k) (omega arith), le-ltb r k (omega arith), eq-eqb r k h) refl
    split r (is_greater h) = rw (le-ltb r (suc k) (omega arith), le-ltb r k (omega arith), ne_eqb r k (λ e. lt_irrefl k (subst (λ (y : ℕ). k < y) e h))) refl

rows_are_all : (W i : ℕ) (A : List Term) → 0 < W → sum_first (λ w. length (every W w i A)) W ≡ length A
rows_are_all W i [] h = rows_none W i W
rows_are_all W i (t ∷ A) h =
    let one = counted_first W i W t A in
    let here = ap {B = ℕ} (λ (b : Bool). cond b 1 0) (lt-ltb (i % W) W (mod-lt i h)) in
    let rest = rows_are_all W (suc i) A h in
    omega (arith, one, here, rest)

all_rows : (d : Division) (W : ℕ) → 0 < W → sum_first (λ w. length (divisor_rows d.g W w)) W ≡ length d.g - 1
unfolding divisor_rows
all_rows d W h = rows_are_all W 1 (after_lead d.g) h ∙ after_one d.g

-- ---- the notes of all workers
sum_front : (b : ℕ → ℕ) (k : ℕ) → sum_first b (suc k) ≡ b 0 + sum_first (λ w. b (suc w)) k
unfolding sum_first
sum_front b zero = omega arith
sum_front b (suc k) = let e = sum_front b k in omega (arith, e)

-- lists of at most b w notes at each place w
lengths_fit : (taken : List (List Note)) (b : ℕ → ℕ) → ((w : ℕ) → w < length taken → length (get_or taken w []) ≤ b w) → sum_by (λ notes. length notes) taken ≤ sum_first b (length taken)
lengths_fit [] b h = omega arith
lengths_fit (notes ∷ taken) b h =
    let one = h 0 (omega arith) in
    let rest = lengths_fit taken (λ w. b (suc w)) (λ w l. h (suc w) (omega (arith, l))) in
    let sum = sum_by-cons (λ (l : List Note). length l) notes taken in
    let front = sum_front b (length taken) in
    omega (arith, one, rest, sum, front)

-- k times a, and twice a for each of b
scaled : (a : ℕ) (b : ℕ → ℕ) (k : ℕ) → sum_first (λ w. a + 2 * (a * b w)) k ≡ k * a + 2 * (a * sum_first b k)
unfolding sum_first
scaled a b zero = omega arith
scaled a b (suc k) =
    let e = scaled a b k in
    let m : suc k * a ≡ k * a + a = omega arith in
    let p : a * (sum_first b k + b k) ≡ a * sum_first b k + a * b k = omega arith in
    omega (arith, e, m, p)

notes_at_most : (r : DivideRun) → 0 < r.state.workers → RunWhole r → ((w : ℕ) → w < r.state.workers → NotesFit r.state w)
    → sum_by (λ notes. length notes) r.state.taken ≤ r.state.workers * length r.state.q + 2 * (length r.state.q * (length r.state.division.g - 1))
unfolding notes_of
notes_at_most r some h fits =
    let s = r.state in
    let a = length s.q in
    let b : ℕ → ℕ = λ w. length (divisor_rows s.division.g s.workers w) in
    let count = h.whole.taken_count in
    let fit = lengths_fit s.taken (λ w. a + 2 * (a * b w)) (λ w l. fits w (omega (arith, l, count))) in
    let places = ap (sum_first (λ w. a + 2 * (a * b w))) count in
    let scale = scaled a b s.workers in
    let rows = ap (λ (k : ℕ). a * k) (all_rows s.division s.workers some) in
    omega (arith, fit, places, scale, rows)

-- ---- the bound
within_bound : (W q tail f notes a b : ℕ) → notes ≤ W * q + 2 * (q * tail) → a ≤ f + q * tail → b ≤ f + q * tail → notes + q + b + a < 1 + 4 * (f + q * tail) + q + W * (q + 1)
within_bound W q tail f notes a b n i j = let m : W * (q + 1) ≡ W * q + W = omega arith in omega (arith, n, i, j, m)

pub progress_fits : ProgressFits
unfolding progress most_rounds workload_count
progress_fits r some h fits =
    let s = r.state in
    let c = counts_fit r h in
    within_bound s.workers (length s.q) (length s.division.g - 1) (length s.division.f) (sum_by (λ notes. length notes) s.taken) r.processed_count r.fronts_count (notes_at_most r some h fits) c.0 c.1

within_word : (W q tail f notes a b : ℕ) → W < 2 ^ 32 → q < 2 ^ 30 → tail < 2 ^ 30 → f < 2 ^ 30 → notes ≤ W * q + 2 * (q * tail) → a ≤ f + q * tail → b ≤ f + q * tail → notes + q + b + a < 2 ^ 64
within_word W q tail f notes a b w lq lt lf n i j =
    let team : W ≤ 2 ^ 32 = omega arith in
    let few : q ≤ 2 ^ 30 = omega arith in
    let short : tail ≤ 2 ^ 30 = omega arith in
    let p : q * tail ≤ 2 ^ 30 * 2 ^ 30 = mul-le-mul few short in
    let m : W * q ≤ 2 ^ 32 * 2 ^ 30 = mul-le-mul team few in
    omega arith

pub progress_small : ProgressSmall
unfolding progress workload_count
progress_small r some few h fits lf lg =
    let s = r.state in
    let c = counts_fit r h in
    within_word s.workers (length s.q) (length s.division.g - 1) (length s.division.f) (sum_by (λ notes. length notes) s.taken) r.processed_count r.fronts_count few
    (short (numbers (length s.q) quotient_terms_limit)) (omega (arith, lg)) lf (notes_at_most r some h fits) c.0 c.1
  where
    short : Three (length r.state.q < quotient_terms_limit) (length r.state.q ≡ quotient_terms_limit) (quotient_terms_limit < length r.state.q) → length r.state.q < 2 ^ 30
    short (is_less l) = l
    short (is_equal e) = absurd (h.whole.within (inr (omega (arith, e))))
    short (is_greater l) = absurd (h.whole.within (inr (omega (arith, l))))

pub rounds_fit : RoundsFit
rounds_fit r rounds some h fits all l =
    let p = progress_fits r some h fits in
    subst (λ (Q : List Term). rounds ≤ most_rounds r.state.division r.state.workers (length Q)) all (omega (arith, p, l))
