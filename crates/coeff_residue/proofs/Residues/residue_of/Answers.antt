use Rattle.std.proofs.Common.{◌<◌, ◌*◌, ◌%◌, ◌/◌, ◌^◌, ◌∙◌, ap, arith}
use Rattle.coeff_residue.proofs.ProductSums.{scaled_sum_low, scaled_sum_back}
use Rattle.coeff_residue.proofs.Residues.residue_of.Goals as goal

pub remainder-requires : goal.remainder-requires
remainder-requires c =
    let r = c.args.self.now in
    let word : r.p * 2 ^ r.shift < 2 ^ 64 = omega (arith, r.scaled, r.reciprocal.word) in
    omega (arith, r.scaled, scaled_sum_low c.args.sum r.p r.shift (omega (arith, r.large)) c.requires word)

pub returns-clause-value : goal.returns-clause-value
returns-clause-value c =
    let r = c.args.self.now in
    let word : r.p * 2 ^ r.shift < 2 ^ 64 = omega (arith, r.scaled, r.reciprocal.word) in
    ap (λ z. z / 2 ^ r.shift) (c.remainder.ensures ∙ ap (λ d. c.args.sum * 2 ^ r.shift % 2 ^ 128 % d) r.scaled) ∙ scaled_sum_back c.args.sum r.p r.shift (omega (arith, r.large)) c.requires word
