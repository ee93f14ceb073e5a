-- How many products were read, and how many rows are in the heap and taken.
use Rattle.std.proofs.Common.{◌≡◌, ℕ, zero, suc, ◌+◌, ◌*◌, ◌<◌, ◌≤◌, Bool, true, false, cond, List, [], ◌∷◌, length, map, set, get_or, refl, sym, ap, arith}
use Rattle.std.specs.List.{sum_by}
use Rattle.std.specs.declared.cmp.Ordering.{Ordering}
use Rattle.std.specs.Ordering.{is_eq}
use Rattle.std.proofs.lemmas.Bool.{false≢true}
use Rattle.std.proofs.lemmas.List.Sums.{sum_by-cons, sum_by-set}
use Rattle.chained_heap.specs.declared.node.Place.{Place}
use Rattle.chained_heap.specs.declared.node.Place.TheVariants.{Out, In, Taken}
use Rattle.chained_heap.specs.Shape.{place_at, is_taken, is_at, present, bit, taken_at, count_at, IsTop}
use Rattle.row_merge.specs.Rows.{made, taken_rows}

pub made_read : (reads : List ℕ) (k : ℕ) → k < length reads → made (set reads k (get_or reads k 0 + 1)) ≡ made reads + 1
made_read reads k l = omega (arith, sum_by-set (λ (y : ℕ). y) reads k (get_or reads k 0 + 1) 0 l)

module _ {M : Type 0} where
  pub taken_out : (places : List (Place M)) (k : ℕ) → k < length places → place_at places k ≡ Taken → taken_rows (set places k Out) + 1 ≡ taken_rows places
  taken_out places k l t = omega (arith, sum_by-set (λ q. bit (is_taken q)) places k Out Out l, ap (λ q. bit (is_taken q)) t)

  pub taken_in : (places : List (Place M)) (k : ℕ) (m : M) → k < length places → place_at places k ≡ Out → taken_rows (set places k (In m)) ≡ taken_rows places
  taken_in places k m l t = omega (arith, sum_by-set (λ q. bit (is_taken q)) places k (In m) Out l, ap (λ q. bit (is_taken q)) t)

  pub present_out : (places : List (Place M)) (k : ℕ) → k < length places → place_at places k ≡ Taken → sum_by present (set places k Out) + 1 ≡ sum_by present places
  present_out places k l t = omega (arith, sum_by-set present places k Out Out l, ap present t)

  pub present_in : (places : List (Place M)) (k : ℕ) (m : M) → k < length places → place_at places k ≡ Out → sum_by present (set places k (In m)) ≡ sum_by present places + 1
  present_in places k m l t = omega (arith, sum_by-set present places k (In m) Out l, ap present t)

  pub none_count : (ps : List (Place M)) → ((r : ℕ) → is_taken (place_at ps r) ≡ false) → taken_rows ps ≡ 0
  none_count [] q = refl
  none_count (p ∷ ps) q = omega (arith, sum_by-cons (λ p. bit (is_taken p)) p ps, ap bit (q 0), none_count ps (λ r. q (suc r)))

  pub none_present : (ps : List (Place M)) → ((k : ℕ) → k < length ps → place_at ps k ≡ Out) → sum_by present ps ≡ 0
  none_present [] h = refl
  none_present (p ∷ ps) h = omega (arith, sum_by-cons present p ps, ap present (h 0 (omega arith)), none_present ps (λ k l. h (suc k) (omega arith)))

  -- the rows at x are taken
  module _ (cmp : M → M → Ordering) (x : M) where
    bit_taken : (p : Place M) → is_taken p ≡ false → bit (is_taken (taken_at cmp x p)) ≡ bit (is_at cmp x p)
    bit_taken Out e = refl
    bit_taken (In m) e = by (is_eq (cmp m x))
      where
        by : (b : Bool) → bit (is_taken (cond b Taken (let i : Place M = In m in i))) ≡ bit b
        by true = refl
        by false = refl
    bit_taken Taken e = absurd (false≢true (sym e))

    present_same : (p : Place M) → present (taken_at cmp x p) ≡ present p
    present_same Out = refl
    present_same (In m) = by (is_eq (cmp m x))
      where
        by : (b : Bool) → present (cond b Taken (let i : Place M = In m in i)) ≡ 1
        by true = refl
        by false = refl
    present_same Taken = refl

    pub taken_count : (ps : List (Place M)) → ((r : ℕ) → is_taken (place_at ps r) ≡ false) → taken_rows (map (taken_at cmp x) ps) ≡ count_at (is_at cmp x) ps
    taken_count [] q = refl
    taken_count (p ∷ ps) q =
        omega (arith, sum_by-cons (λ p. bit (is_taken p)) (taken_at cmp x p) (map (taken_at cmp x) ps), sum_by-cons (λ p. bit (is_at cmp x p)) p ps, bit_taken p (q 0), taken_count ps (λ r. q (suc r)))

    pub present_count : (ps : List (Place M)) → sum_by present (map (taken_at cmp x) ps) ≡ sum_by present ps
    present_count [] = refl
    present_count (p ∷ ps) = omega (arith, sum_by-cons present (taken_at cmp x p) (map (taken_at cmp x) ps), sum_by-cons present p ps, present_same p, present_count ps)

    some_count : (ps : List (Place M)) (k : ℕ) → is_at cmp x (place_at ps k) ≡ true → 0 < count_at (is_at cmp x) ps
    some_count [] k e = absurd (false≢true e)
    some_count (p ∷ ps) zero e = omega (arith, sum_by-cons (λ p. bit (is_at cmp x p)) p ps, ap bit e)
    some_count (p ∷ ps) (suc k) e = omega (arith, sum_by-cons (λ p. bit (is_at cmp x p)) p ps, some_count ps k e)

    pub top_counts : (ps : List (Place M)) → IsTop cmp ps x → 0 < count_at (is_at cmp x) ps
    top_counts ps t = some_count ps t.row t.here

-- ---- sums of such counts
-- the comparisons of two insertions one after the other
pub two_insertions : (l c0 c1 c2 p0 p1 p2 : ℕ) → c1 + l * p0 ≤ c0 + l * p1 → c2 + l * p1 ≤ c1 + l * p2 → c2 + l * p0 ≤ c0 + l * p2
two_insertions l c0 c1 c2 p0 p1 p2 a b = omega (arith, a, b)

-- the comparisons of a step that reads one product of a row, which was put out
pub step_compares : (l c0 c1 c2 s0 s1 s2 p0 p1 q1 p2 : ℕ) → c1 + l * (s0 + p0) ≤ c0 + l * (s1 + p1) → q1 + 1 ≡ p1 → s2 ≡ s1 + 1 → c2 + l * q1 ≤ c1 + l * p2 → c2 + l * (s0 + p0) ≤ c0 + l * (s2 + p2)
step_compares l c0 c1 c2 s0 s1 s2 p0 p1 q1 p2 a e f b = omega (arith, a, b, ap (λ (x : ℕ). l * x) e, ap (λ (x : ℕ). l * x) f)
