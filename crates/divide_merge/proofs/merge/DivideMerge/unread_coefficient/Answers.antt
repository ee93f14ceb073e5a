use Rattle.std.proofs.Common.{◌≡◌, subst}
use Rattle.sdmp_laws.specs.Poly.{coef}
use Rattle.divide_merge.proofs.Hearing.{unread_there, unread_value, no_unread}
use Rattle.divide_merge.proofs.merge.DivideMerge.unread_coefficient.Goals as goal

pub returns-then-next-clause-value : goal.returns-then-next-clause-value
returns-then-next-clause-value g c =
    let s = c.args.self.now.run.state in
    let ts = c.terms.result.now in
    let t = c.index-terms-self.result in
    subst (λ u. g.R.CoeffRing.value u.coef ≡ coef s.division.p s.unread (g.M.Monomial.vector c.args.next.mono)) c.index-terms-self.is
    (unread_value c.self.invariant c.self.view_is c.args.next c.requires.next c.if-next.true ts t c.terms.ensures.view
    (unread_there c.self.invariant c.self.view_is c.args.next c.requires.next c.if-next.true ts c.terms.ensures.view) c.index-terms-self.is)

pub returns-else-next-clause-value : goal.returns-else-next-clause-value
returns-else-next-clause-value g c = no_unread g.M.Monomial.vector c.args.self.now.run.state c.args.next c.requires.next c.if-next.false (g.R.CoeffRing.value c.zero.result) c.zero.ensures.value
