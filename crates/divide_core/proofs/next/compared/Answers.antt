use Rattle.std.proofs.Common.{ap, sym, ◌∙◌}
use Rattle.sdmp_laws.specs.Order.{compare}
use Rattle.divide_core.proofs.TakenOut.{only_unread, only_owed, both_there}
use Rattle.divide_core.proofs.next.compared.Goals as goal

pub returns-then-read-terms-2 : goal.returns-then-read-terms-2
returns-then-read-terms-2 g c = only_owed g.M.Monomial.vector g.R.CoeffRing.value g.M.Monomial.order c.args.terms.now c.args.read c.args.rows.now.unread (g.M.Monomial.vector c.in-Some.m) c.if-read-terms-2.true c.in-Some.ensures

pub returns-else-read-terms : goal.returns-else-read-terms
returns-else-read-terms g c = only_unread g.M.Monomial.vector g.R.CoeffRing.value g.M.Monomial.order c.args.terms.now c.args.read c.args.rows.now.unread c.if-read-terms.false c.in-None.ensures

pub returns-else-read-terms-2 : goal.returns-else-read-terms-2
returns-else-read-terms-2 g c =
    let monos = g.met.M.Monomial g.world.𝓛 g.world.𝓜 g.world.𝓡 ((λ s x. x), (λ x. x), (λ x. x), λ x. x) in
    both_there g.M.Monomial.vector g.R.CoeffRing.value g.M.Monomial.order g.M.Monomial.VARS c.args.terms.now c.args.read c.args.rows.now.unread c.index-terms-read.result (g.M.Monomial.vector c.in-Some.m) c.higher.result monos.vars (monos.vars c.in-Some.m) c.requires c.if-read-terms-2.false c.index-terms-read.is c.in-Some.ensures
    (c.higher.ensures.value ∙ ap (λ x. compare g.M.Monomial.order (g.M.Monomial.vector x.mono) (g.M.Monomial.vector c.in-Some.m)) (sym c.index-terms-read.is))
