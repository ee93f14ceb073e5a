use Rattle.std.proofs.Common.{refl, sym, ap, ◌∙◌}
use Rattle.sdmp_laws.specs.Poly.{lm}
use Rattle.divide_workers.proofs.Fields.{begins, lead_first, divisor_some}
use Rattle.divide_workers.proofs.sender.Sender.new.Goals as goal

pub invariant_of-result : goal.invariant_of-result
invariant_of-result g c =
    let e = c.terms.ensures.view ∙ c.divisor-divisor.ensures.terms ∙ c.requires.divisor in
    begins g.M.Monomial.vector g.R.CoeffRing.value g.R.CoeffRing.belongs g.M.Monomial.order g.M.Monomial.VARS g.M.Monomial.LIM (g.R.CoeffRing.characteristic c.ring.result) c.args.worker c.args.rows c.args.writer c.args.reader _ _ c.requires.writing c.requires.looking c.requires.script c.requires.fit c.requires.order c.requires.variables c.requires.modulus c.requires.divisor c.requires.rows c.requires.start c.requires.learned c.requires.sent c.requires.known (c.ring.ensures ∙ c.divisor-divisor.ensures.modulus)
    (lead_first g.M.Monomial.vector g.R.CoeffRing.value c.terms.result.now c.index-terms-0.result (λ z. divisor_some g.M.Monomial.LIM _ c.requires.fit (sym e ∙ z)) ∙ ap lm e) refl
