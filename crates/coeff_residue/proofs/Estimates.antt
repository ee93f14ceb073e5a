-- How near the estimate of a quotient is.
use Rattle.std.proofs.Common.{◌≡◌, ◌+◌, ◌*◌, ◌/◌, ◌%◌, ◌^◌, ◌<◌, ◌≤◌, ℕ, suc, sym, ap, ◌∙◌, arith}
use Rattle.std.proofs.Math.Nat.{mod-eq_of_lt, add-mul-mod_self_right, mul-le-mul_right, mul-le-mul_left, mul-div_cancel, mod-add-div', mod-lt}
use Rattle.std.proofs.lemmas.Nat.{pow-add, pow_pos, leading_top}
use Rattle.std.specs.Int.Count.{count_leading_zeros}

-- d is a divisor of full length, v its inverse, n = h * 2^64 + l a number below d * 2^64, and q the estimate
module _ (d v h l q : ℕ) (full : 2 ^ 63 ≤ d) (word : d < 2 ^ 64) (above : (2 ^ 64 + v) * d < 2 ^ 128) (below : 2 ^ 128 ≤ (2 ^ 64 + v + 1) * d) (high : h < 2 ^ 64) (low : l < 2 ^ 64)
    (least : q * 2 ^ 64 ≤ (2 ^ 64 + v) * h + l) (next : (2 ^ 64 + v) * h + l < (q + 1) * 2 ^ 64) where
  pub not_too_great : q * d ≤ h * 2 ^ 64 + l
  not_too_great =
      let a : (q * 2 ^ 64) * d ≤ ((2 ^ 64 + v) * h + l) * d = mul-le-mul_right d least in
      let b : h * ((2 ^ 64 + v) * d) ≤ h * 2 ^ 128 = mul-le-mul_left h (omega (arith, above)) in
      let c : l * d ≤ l * 2 ^ 64 = mul-le-mul_left l (omega (arith, word)) in
      omega (arith, a, b, c)

  pub not_too_small : h * 2 ^ 64 + l < (q + 3) * d
  not_too_small =
      let a : ((2 ^ 64 + v) * h + l + 1) * d ≤ ((q + 1) * 2 ^ 64) * d = mul-le-mul_right d (omega (arith, next)) in
      let b : h * 2 ^ 128 ≤ h * ((2 ^ 64 + v + 1) * d) = mul-le-mul_left h below in
      let c : h * d ≤ 2 ^ 64 * d = mul-le-mul_right d (omega (arith, high)) in
      let e : l * d ≤ 2 ^ 64 * d = mul-le-mul_right d (omega (arith, low)) in
      let f : l * 2 ^ 64 ≤ l * (2 * d) = mul-le-mul_left l (omega (arith, full)) in
      omega (arith, a, b, c, e, f, full)

-- a number below d that lies k divisors below n is what n leaves
pub leaves : (n d r k : ℕ) → r < d → r + k * d ≡ n → r ≡ n % d
leaves n d r k small is = sym (ap (λ z. z % d) (sym is) ∙ add-mul-mod_self_right r k d ∙ mod-eq_of_lt small)

-- a remainder is scaled with its divisor
pub scaled_remainder : (m p s : ℕ) → 0 < p → 0 < s → (m * s) % (p * s) ≡ (m % p) * s
scaled_remainder m p s pos some =
    let room : (m % p + 1) * s ≤ p * s = mul-le-mul_right s (omega (arith, mod-lt m pos)) in
    let parts : m ≡ m % p + (m / p) * p = omega (arith, mod-add-div' m p) in
    let is : (m % p) * s + (m / p) * (p * s) ≡ m * s = omega (arith, ap (λ z. z * s) parts) in
    sym (leaves (m * s) (p * s) ((m % p) * s) (m / p) (omega (arith, room, some)) is)

-- what is left of a scaled product on division by the scaled divisor, scaled back
pub scaled_back : (a b p s : ℕ) → 0 < p → a * 2 ^ s < 2 ^ 64 → ((a * 2 ^ s % 2 ^ 64) * b) % (p * 2 ^ s) / 2 ^ s ≡ a * b % p
scaled_back a b p s pos small =
    let k : ℕ = 2 ^ s in
    let some : 0 < k = pow_pos s in
    let whole : a * k % 2 ^ 64 ≡ a * k = mod-eq_of_lt small in
    let moved : (a * k) * b ≡ (a * b) * k = omega arith in
    ap (λ z. (z * b) % (p * k) / k) whole ∙ ap (λ z. z % (p * k) / k) moved ∙ ap (λ z. z / k) (scaled_remainder (a * b) p k pos some) ∙ mul-div_cancel (a * b % p) some

-- a word shifted up by its leading zeros has its top bit set, and is a word
pub normal : (p : ℕ) → 0 < p → p < 2 ^ 64 → (count_leading_zeros 64 p < 64) × (2 ^ 63 ≤ p * 2 ^ count_leading_zeros 64 p) × (p * 2 ^ count_leading_zeros 64 p < 2 ^ 64)
normal p pos small =
    let top = leading_top 64 p pos small in
    let j : ℕ = top.0 in
    let s : ℕ = count_leading_zeros 64 p in
    let sum : s + suc j ≡ 64 = top.1 in
    let least : 2 ^ j * 2 ^ s ≤ p * 2 ^ s = mul-le-mul_right (2 ^ s) top.2 in
    let most : (p + 1) * 2 ^ s ≤ 2 ^ suc j * 2 ^ s = mul-le-mul_right (2 ^ s) (omega (arith, top.3)) in
    let half : j + s ≡ 63 = omega arith in
    let full : suc j + s ≡ 64 = omega arith in
    let low : 2 ^ j * 2 ^ s ≡ 2 ^ 63 = sym (pow-add 2 j s) ∙ ap (λ k. 2 ^ k) half in
    let high : 2 ^ suc j * 2 ^ s ≡ 2 ^ 64 = sym (pow-add 2 (suc j) s) ∙ ap (λ k. 2 ^ k) full in
    let some : 0 < 2 ^ s = pow_pos s in
    (omega (arith, sum), omega (arith, least, low), omega (arith, most, high, some))
