use Rattle.std.proofs.Common.{◌%◌, pos, ◌∙◌, ap, arith}
use Rattle.coeff_residue.proofs.ProductSums.{sum_with}
use Rattle.coeff_residue.proofs.ResiduesCoeffRing.add_product.Goals as goal

pub returns-clause-value : goal.returns-clause-value
returns-clause-value c =
    let r = c.args.self.now in
    ap (λ n. pos (n % r.p)) c.add_product.ensures ∙ sum_with r.p c.args.sum c.args.a c.args.b (omega (arith, r.large))
