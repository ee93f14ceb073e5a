use Rattle.std.specs.Prelude.{bit_and}
use Rattle.std.proofs.Common.{◌≡◌, ◌<◌, ◌+◌, ◌-◌, ◌*◌, ◌/◌, ◌%◌, ◌^◌, ◌∙◌, ℕ, ap, arith}
use Rattle.std.proofs.lemmas.Nat.{and_mask}
use Rattle.coeff_residue.proofs.ProductSums.{next_sum}
use Rattle.coeff_residue.proofs.sums.add_product.Goals as goal

pub returns : goal.returns
returns c =
    let sum : ℕ = c.args.sum in
    let product : ℕ = c.args.a * c.args.b in
    let low : ℕ = bit_and sum (2 ^ 64 - 1) in
    let raised : ℕ = product + low in
    let whole : sum / 2 ^ 64 * 2 ^ 64 + low ≡ sum = omega (arith, and_mask sum 64) in
    let small : bit_and raised (2 ^ 64 - 1) < 2 ^ 64 = omega (arith, and_mask raised 64) in
    let parts : raised / 2 ^ 64 * 2 ^ 64 + bit_and raised (2 ^ 64 - 1) ≡ product + low = omega (arith, and_mask raised 64) in
    let high : c.add_mod-high.result * 2 ^ 64 % 2 ^ 128 ≡ c.add_mod-high.result * 2 ^ 64 = omega (arith, c.add_mod-high.ensures.below, c.ranges.p.fits) in
    ap (λ z. z + bit_and raised (2 ^ 64 - 1)) (high ∙ ap (λ z. z * 2 ^ 64) c.add_mod-high.ensures.value)
    ∙ next_sum c.args.p (sum / 2 ^ 64) low (raised / 2 ^ 64) (bit_and raised (2 ^ 64 - 1)) product (omega (arith, c.requires.left)) small parts
    ∙ ap (λ z. (z + product) % (c.args.p * 2 ^ 64)) whole
