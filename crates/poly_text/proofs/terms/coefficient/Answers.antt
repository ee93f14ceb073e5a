use Rattle.std.proofs.Common.{◌≡◌, ◌∙◌, ap, arith}
use Rattle.poly_text.specs.ReadsTerms.{weight}
use Rattle.poly_text.proofs.Weights.{negative_is}
use Rattle.poly_text.proofs.terms.coefficient.Goals as goal

pub returns-then-negative-clause-value : goal.returns-then-negative-clause-value
returns-then-negative-clause-value g c =
    let w : c.weight_of.result ≡ weight (g.R.CoeffRing.characteristic c.args.ring) c.args.sum c.args.size = c.weight_of.ensures ∙ ap (λ p. weight p c.args.sum c.args.size) c.modulus.ensures in
    (omega (arith, w, c.if-weight_of.false), negative_is (g.R.CoeffRing.characteristic c.args.ring) c.args.size _ _ c.args.negative c.if-negative.true c.in_ok-coef.ensures.2 c.neg.ensures.value)
