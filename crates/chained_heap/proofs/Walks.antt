-- Walks from a place of the heap towards the root.
use Rattle.std.proofs.Common.{ℕ, zero, suc, ◌+◌, ◌-◌, ◌*◌, ◌/◌, ◌^◌, ◌<◌, ◌≤◌, ◌≡◌, ◌⊎◌, List, refl, sym, ap, subst, arith, inl, inr}
use Rattle.std.specs.declared.cmp.Ordering.{Ordering}
use Rattle.std.proofs.Math.Nat.{pow-le-pow_right, mul-le-mul_left}
use Rattle.std.proofs.lemmas.Bool.{cases_lt}
use Rattle.chained_heap.specs.declared.node.Node.{Node}
use Rattle.chained_heap.specs.Order.{ups, Over}

pub record Walk {M : Type 0} (cmp : M → M → Ordering) (xs : List (Node M)) (x : M) (n k from count : ℕ) : Type 0 where
  pub steps : ℕ
  pub at : k ≡ ups steps n
  pub over : (s : ℕ) → s < steps → Over cmp xs x (ups s n)
  pub counted : count ≤ from + steps
  pub within : k ≤ n

pub half_step : (k a p n : ℕ) → 0 < k → a ≡ (k - 1) / 2 → (k + 1) * p ≤ n → (a + 1) * (2 * p) ≤ n
half_step k a p n z e h =
    let two : (a + 1) * 2 ≤ k + 1 = omega arith in
    let m : p * ((a + 1) * 2) ≤ p * (k + 1) = mul-le-mul_left p two in
    omega (arith, m)

double : (t : ℕ) → 2 ^ suc t ≡ 2 * 2 ^ t
double t = omega arith

pub half_pow : (k t n : ℕ) → 0 < k → (k + 1) * 2 ^ t ≤ n → ((k - 1) / 2 + 1) * 2 ^ suc t ≤ n
half_pow k t n z h = subst (λ p. ((k - 1) / 2 + 1) * p ≤ n) (sym (double t)) (half_step k ((k - 1) / 2) (2 ^ t) n z refl h)

pub ups_bound : (t n : ℕ) → ((s : ℕ) → s < t → 0 < ups s n) → (ups t n + 1) * 2 ^ t ≤ n + 1
ups_bound zero n h = omega arith
ups_bound (suc t) n h =
    subst (λ p. (ups (suc t) n + 1) * p ≤ n + 1) (sym (double t))
    (half_step (ups t n) (ups (suc t) n) (2 ^ t) (n + 1) (h t (omega arith)) refl (ups_bound t n (λ s k. h s (omega arith))))

pow_by : (t l : ℕ) → 2 ^ t < 2 ^ l → (t < l) ⊎ (l ≤ t) → t < l
pow_by t l h (inl u) = u
pow_by t l h (inr u) = let m : 2 ^ l ≤ 2 ^ t = pow-le-pow_right (omega arith) u in absurd (omega arith)

pub pow_below_back : (t l : ℕ) → 2 ^ t < 2 ^ l → t < l
pow_below_back t l h = pow_by t l h (cases_lt t l)

pub fits_steps : (k t n l : ℕ) → 0 < k → (k + 1) * 2 ^ t ≤ n + 1 → n + 1 < 2 ^ (l + 1) → t + 1 ≤ l
fits_steps k t n l z h b =
    let m : 2 ^ t * 2 ≤ 2 ^ t * (k + 1) = mul-le-mul_left (2 ^ t) (omega arith) in
    let d = double t in
    let p = pow_below_back (suc t) (l + 1) (omega (arith, m)) in
    omega arith

module _ {M : Type 0} (cmp : M → M → Ordering) (xs : List (Node M)) (x : M) (n : ℕ) where
  pub walk_bound : (k from count new l : ℕ) → Walk cmp xs x n k from count → 0 < k → new ≤ count + 1 → n + 1 < 2 ^ (l + 1) → new ≤ from + l
  walk_bound k from count new l w z h b =
      let u = ups_bound w.steps n (λ s p. (w.over s p).0) in
      let v : (k + 1) * 2 ^ w.steps ≤ n + 1 = subst (λ j. (j + 1) * 2 ^ w.steps ≤ n + 1) (sym w.at) u in
      let f = fits_steps k w.steps n l z v b in
      omega (arith, w.counted, f)

  pub walk_rests : (k from count l : ℕ) → Walk cmp xs x n k from count → n + 1 < 2 ^ (l + 1) → count ≤ from + l
  walk_rests k from count l w b = rests w.steps refl
    where
      rests : (t : ℕ) → w.steps ≡ t → count ≤ from + l
      rests zero e = omega (arith, w.counted)
      rests (suc t) e =
          let p : 0 < ups t n = (w.over t (omega arith)).0 in
          let u = ups_bound t n (λ s q. (w.over s (omega arith)).0) in
          let f = fits_steps (ups t n) t n l p u b in
          omega (arith, w.counted, f)

  pub walk_more : (k from count new : ℕ) → Walk cmp xs x n k from count → Over cmp xs x k → new ≤ count + 1 → Walk cmp xs x n ((k - 1) / 2) from new
  walk_more k from count new w o h = record {
    steps = suc w.steps;
    at = ap (λ j. (j - 1) / 2) w.at;
    over = λ s p. by s p (cases_lt s w.steps);
    counted = omega (arith, w.counted);
    within = omega (arith, w.within);
  }
    where
      by : (s : ℕ) → s < suc w.steps → (s < w.steps) ⊎ (w.steps ≤ s) → Over cmp xs x (ups s n)
      by s p (inl q) = w.over s q
      by s p (inr q) = let e : w.steps ≡ s = omega arith in subst (λ j. Over cmp xs x (ups j n)) e (subst (Over cmp xs x) w.at o)
