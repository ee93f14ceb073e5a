-- Sums of products, kept below p * 2^64.
use Rattle.std.proofs.Common.{◌≡◌, ◌+◌, ◌*◌, ◌/◌, ◌%◌, ◌^◌, ◌<◌, ◌≤◌, ℕ, pos, ◌+ℤ◌, ◌*ℤ◌, sym, ap, ◌∙◌, arith}
use Rattle.std.proofs.Math.Nat.{mod-eq_of_lt, add-mul-mod_self_right, mul-le-mul_right, mul-div_cancel, mod-add-div', mod-lt}
use Rattle.std.proofs.lemmas.Nat.{pow_pos}
use Rattle.sdmp_laws.specs.Ring.{red}
use Rattle.sdmp_laws.proofs.ReducedLemmas.{red_pos}
use Rattle.coeff_residue.proofs.Estimates.{leaves, scaled_remainder}

-- h and l are the words of a sum, r and m those of a product raised by l
pub next_sum : (p h l r m product : ℕ) → 0 < p → m < 2 ^ 64 → r * 2 ^ 64 + m ≡ product + l → (h + r) % p * 2 ^ 64 + m ≡ (h * 2 ^ 64 + l + product) % (p * 2 ^ 64)
next_sum p h l r m product some low is =
    let high : ℕ = (h + r) % p in
    let times : ℕ = (h + r) / p in
    let less : high < p = mod-lt (h + r) some in
    let parts : high + times * p ≡ h + r = omega (arith, mod-add-div' (h + r) p) in
    leaves (h * 2 ^ 64 + l + product) (p * 2 ^ 64) (high * 2 ^ 64 + m) times (omega (arith, less, low)) (omega (arith, parts, is))

-- a multiple of p is taken away, so the residue is kept
same_residue : (p s product : ℕ) → (s + product) % (p * 2 ^ 64) % p ≡ (s % p + product) % p
same_residue p s product =
    let n : ℕ = s + product in
    let times : ℕ = n / (p * 2 ^ 64) in
    let whole : n % (p * 2 ^ 64) + times * 2 ^ 64 * p ≡ n = omega (arith, mod-add-div' n (p * 2 ^ 64)) in
    let sum : s % p + product + s / p * p ≡ n = omega (arith, mod-add-div' s p) in
    sym (add-mul-mod_self_right (n % (p * 2 ^ 64)) (times * 2 ^ 64) p) ∙ ap (λ z. z % p) (whole ∙ sym sum) ∙ add-mul-mod_self_right (s % p + product) (s / p) p

pub sum_with : (p s a b : ℕ) → 0 < p → pos ((s + a * b) % (p * 2 ^ 64) % p) ≡ red p (pos (s % p) +ℤ pos a *ℤ pos b)
sum_with p s a b some = ap pos (same_residue p s (a * b)) ∙ sym (red_pos p (s % p + a * b) some)

-- a sum is scaled with p, and what it leaves is scaled back
module _ (n p s : ℕ) (some : 0 < p) (below : n < p * 2 ^ 64) (word : p * 2 ^ s < 2 ^ 64) where
  scaled_low : n * 2 ^ s < p * 2 ^ s * 2 ^ 64
  scaled_low =
      let room : (n + 1) * 2 ^ s ≤ p * 2 ^ 64 * 2 ^ s = mul-le-mul_right (2 ^ s) (omega (arith, below)) in
      omega (arith, room, pow_pos s)

  scaled_whole : n * 2 ^ s % 2 ^ 128 ≡ n * 2 ^ s
  scaled_whole = mod-eq_of_lt (omega (arith, scaled_low, word))

  pub scaled_sum_low : n * 2 ^ s % 2 ^ 128 < p * 2 ^ s * 2 ^ 64
  scaled_sum_low = omega (arith, scaled_whole, scaled_low)

  pub scaled_sum_back : n * 2 ^ s % 2 ^ 128 % (p * 2 ^ s) / 2 ^ s ≡ n % p
  scaled_sum_back = ap (λ z. z % (p * 2 ^ s) / 2 ^ s) scaled_whole ∙ ap (λ z. z / 2 ^ s) (scaled_remainder n p (2 ^ s) some (pow_pos s)) ∙ mul-div_cancel (n % p) (pow_pos s)
