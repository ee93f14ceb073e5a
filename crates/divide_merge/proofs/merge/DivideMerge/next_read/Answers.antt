use Rattle.std.proofs.Common.{true, false, subst, sym}
use Rattle.divide_merge.specs.Reading.{IsReadNext, IsGreater}
use Rattle.divide_merge.proofs.Hearing.{nothing_next, unread_next, head_next, greater_next}
use Rattle.divide_merge.proofs.merge.DivideMerge.next_read.Goals as goal

pub returns-then-self-terms : goal.returns-then-self-terms
returns-then-self-terms g c = nothing_next c.self.invariant c.self.view_is c.terms-terms.result.now c.terms-terms.ensures.view c.if-self-terms.true c.in_default.ensures

pub returns-in_default : goal.returns-in_default
returns-in_default g c =
    subst (λ t. IsReadNext g.M.Monomial.vector c.args.self.now.run.state (record { mono = t.mono; unread = true; headed = false })) c.index-terms-self.is
    (unread_next c.self.invariant c.self.view_is c.terms-terms.result.now c.index-terms-self.result c.terms-terms.ensures.view c.if-self-terms.false c.index-terms-self.is c.in_default.ensures)

pub returns-then-self-terms-2 : goal.returns-then-self-terms-2
returns-then-self-terms-2 g c = head_next c.self.invariant c.self.view_is c.terms-terms.result.now c.in-Some.top c.terms-terms.ensures.view c.if-self-terms-2.true c.in-Some.ensures

pub returns : goal.returns
returns g c =
    greater_next c.self.invariant c.self.view_is c.terms-terms.result.now c.index-terms-self-2.result c.in-Some.top c.greater.result c.terms-terms.ensures.view c.if-self-terms-2.false c.index-terms-self-2.is c.in-Some.ensures
    (subst (λ t. IsGreater g.M.Monomial.vector g.M.Monomial.order t.mono c.in-Some.top c.greater.result) (sym c.index-terms-self-2.is) c.greater.ensures)
