use Rattle.std.proofs.Common.{◌≤◌, ◌<◌, ◌*◌, ◌+◌, ◌%◌, ◌/◌, ◌^◌, ◌∙◌, ap, arith}
use Rattle.std.proofs.Math.Nat.{mul-le-mul_right}
use Rattle.std.proofs.lemmas.Nat.{pow_pos}
use Rattle.coeff_residue.proofs.Estimates.{scaled_back}
use Rattle.coeff_residue.proofs.Residues.product.Goals as goal

pub overflow_shl-product : goal.overflow_shl-product
overflow_shl-product c = c.args.self.now.narrow

pub overflow_shr-result : goal.overflow_shr-result
overflow_shr-result c = c.args.self.now.narrow

pub returns-clause-value : goal.returns-clause-value
returns-clause-value c =
    let r = c.args.self.now in
    let room : (c.args.a + 1) * 2 ^ r.shift ≤ r.p * 2 ^ r.shift = mul-le-mul_right (2 ^ r.shift) (omega (arith, c.requires.left)) in
    let some : 0 < 2 ^ r.shift = pow_pos r.shift in
    let small : c.args.a * 2 ^ r.shift < 2 ^ 64 = omega (arith, room, some, r.scaled, r.reciprocal.word) in
    ap (λ z. z / 2 ^ r.shift) (c.remainder.ensures ∙ ap (λ d. ((c.args.a * 2 ^ r.shift % 2 ^ 64) * c.args.b) % d) r.scaled) ∙ scaled_back c.args.a c.args.b r.p r.shift (omega (arith, r.large)) small
