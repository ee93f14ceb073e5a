use Rattle.std.proofs.Common.{◌≡◌, ◌≤◌, ◌<◌, ◌⊎◌, ◌+◌, ◌-◌, ◌*◌, ◌/◌, ◌%◌, ◌^◌, ℕ, ⊎_elim, arith}
use Rattle.std.proofs.Math.Facts.{Fits-of_lt}
use Rattle.std.proofs.Math.Nat.{mod-add-div', mod-lt}
use Rattle.coeff_residue.proofs.Estimates.{not_too_great, not_too_small, leaves}
use Rattle.coeff_residue.proofs.reciprocal.Reciprocal.remainder.Goals as goal

-- the estimate of the quotient of n by d, whose inverse is v
abbrev estimate : ℕ → ℕ → ℕ
estimate v n = (v * (n / 2 ^ 64) + n) / 2 ^ 64

-- the estimate lies at most two below the quotient
near : (d v n : ℕ) → 2 ^ 63 ≤ d → d < 2 ^ 64 → (2 ^ 64 + v) * d < 2 ^ 128 → 2 ^ 128 ≤ (2 ^ 64 + v + 1) * d → n < d * 2 ^ 64
    → (estimate v n * d ≤ n) × (n < (estimate v n + 3) * d)
near d v n full word above below small =
    let h : ℕ = n / 2 ^ 64 in let l : ℕ = n % 2 ^ 64 in let q : ℕ = estimate v n in
    let parts : n ≡ h * 2 ^ 64 + l = omega (arith, mod-add-div' n (2 ^ 64)) in
    let low : l < 2 ^ 64 = mod-lt n (omega arith) in
    let high : h < 2 ^ 64 = omega (arith, parts, small, word) in
    let sum : v * h + n ≡ (2 ^ 64 + v) * h + l = omega (arith, parts) in
    let some : v * h + n ≡ (v * h + n) % 2 ^ 64 + q * 2 ^ 64 = omega (arith, mod-add-div' (v * h + n) (2 ^ 64)) in
    let less : (v * h + n) % 2 ^ 64 < 2 ^ 64 = mod-lt (v * h + n) (omega arith) in
    let least : q * 2 ^ 64 ≤ (2 ^ 64 + v) * h + l = omega (arith, sum, some) in
    let next : (2 ^ 64 + v) * h + l < (q + 1) * 2 ^ 64 = omega (arith, sum, some, less) in
    let a = not_too_great d v h l q full word above below high low least next in
    let b = not_too_small d v h l q full word above below high low least next in
    (omega (arith, a, parts), omega (arith, b, parts))

pub overflow_sub-rest : goal.overflow_sub-rest
overflow_sub-rest c = let s = c.args.self in (near s.divisor s.inverse c.args.n s.full s.word s.not_above s.not_below c.requires).0

-- what is left after the two steps, and how many divisors below n it lies
left : (d n q r s : ℕ) → q * d ≤ n → n < (q + 3) * d
    → ((n - q * d < d) × (r ≡ n - q * d)) ⊎ ((d ≤ n - q * d) × (r + d ≡ n - q * d))
    → ((r < d) × (s ≡ r)) ⊎ ((d ≤ r) × (s + d ≡ r))
    → (s < d) × ((k : ℕ) × (s + k * d ≡ n))
left d n q r s low high one two = ⊎_elim
    (λ a. ⊎_elim
    (λ b. (omega (arith, a.0, a.1, b.0, b.1), (q, omega (arith, low, a.1, b.1))))
    (λ b. absurd (omega (arith, a.0, a.1, b.0)))
    two)
    (λ a. ⊎_elim
    (λ b. (omega (arith, b.0, b.1), (q + 1, omega (arith, low, a.1, b.1))))
    (λ b. (omega (arith, low, high, a.1, b.1), (q + 2, omega (arith, low, a.1, b.1))))
    two)
    one

pub overflow_cast-result : goal.overflow_cast-result
overflow_cast-result c =
    let s = c.args.self in let n = near s.divisor s.inverse c.args.n s.full s.word s.not_above s.not_below c.requires in
    let r = left s.divisor c.args.n (estimate s.inverse c.args.n) c.less_one.result c.less_one-2.result n.0 n.1 c.less_one.ensures c.less_one-2.ensures in
    Fits-of_lt (omega (arith, r.0, s.word))

pub returns : goal.returns
returns c =
    let s = c.args.self in let n = near s.divisor s.inverse c.args.n s.full s.word s.not_above s.not_below c.requires in
    let r = left s.divisor c.args.n (estimate s.inverse c.args.n) c.less_one.result c.less_one-2.result n.0 n.1 c.less_one.ensures c.less_one-2.ensures in
    leaves c.args.n s.divisor c.less_one-2.result r.1.0 r.0 r.1.1
