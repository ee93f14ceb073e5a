use Rattle.std.proofs.Common.{None, Some, refl, sym, ap, subst, ◌∙◌, arith}
use Rattle.sdmp_laws.specs.Order.{◌⋅◌, degree}
use Rattle.sdmp_laws.specs.Poly.{lm}
use Rattle.divide_workers.specs.Fronts.{plain_front, front_of}
use Rattle.divide_workers.specs.Inside.{view_of}
use Rattle.divide_workers.specs.Steps.{IsFrontier}
use Rattle.divide_workers.proofs.Holding.{held_without_front, held_without_rows, held_above, first_low, frontier_none, frontier_some}
use Rattle.divide_workers.proofs.sender.Sender.frontier.Goals as goal

pub returns-in_err-front : goal.returns-in_err-front
returns-in_err-front g c =
    subst (λ v. IsFrontier v (plain_front g.M.Monomial.vector c.from_residual.result)) c.self.view_is
    (subst (λ o. IsFrontier (view_of g.M.Monomial.vector g.R.CoeffRing.value c.self.inside.worker c.self.inside.rows c.self.inside.writer c.self.inside.reader c.self.inside.front c.self.inside.kept) (plain_front g.M.Monomial.vector o)) (sym c.from_residual.ensures) (frontier_none (view_of g.M.Monomial.vector g.R.CoeffRing.value c.self.inside.worker c.self.inside.rows c.self.inside.writer c.self.inside.reader c.self.inside.front c.self.inside.kept) (held_without_front (view_of g.M.Monomial.vector g.R.CoeffRing.value c.self.inside.worker c.self.inside.rows c.self.inside.writer c.self.inside.reader c.self.inside.front c.self.inside.kept) (ap (plain_front g.M.Monomial.vector) (c.in_err-front.was)))))

pub returns-in_err-first : goal.returns-in_err-first
returns-in_err-first g c =
    subst (λ v. IsFrontier v (plain_front g.M.Monomial.vector c.from_residual-in_err-first.result)) c.self.view_is
    (subst (λ o. IsFrontier (view_of g.M.Monomial.vector g.R.CoeffRing.value c.self.inside.worker c.self.inside.rows c.self.inside.writer c.self.inside.reader c.self.inside.front c.self.inside.kept) (plain_front g.M.Monomial.vector o)) (sym c.from_residual-in_err-first.ensures) (frontier_none (view_of g.M.Monomial.vector g.R.CoeffRing.value c.self.inside.worker c.self.inside.rows c.self.inside.writer c.self.inside.reader c.self.inside.front c.self.inside.kept) (held_without_rows g.M.Monomial.LIM (view_of g.M.Monomial.vector g.R.CoeffRing.value c.self.inside.worker c.self.inside.rows c.self.inside.writer c.self.inside.reader c.self.inside.front c.self.inside.kept) c.self.invariant.working (sym c.self.invariant.rows_are ∙ c.in_err-first.ensures))))

pub returns-then-degree-limit : goal.returns-then-degree-limit
returns-then-degree-limit g c =
    let a = c.if-degree-limit.true in let b = c.limit.ensures in let d = c.degree.ensures in
    subst (λ v. IsFrontier v None) c.self.view_is (frontier_none (view_of g.M.Monomial.vector g.R.CoeffRing.value c.self.inside.worker c.self.inside.rows c.self.inside.writer c.self.inside.reader c.self.inside.front c.self.inside.kept) (held_above g.M.Monomial.LIM (view_of g.M.Monomial.vector g.R.CoeffRing.value c.self.inside.worker c.self.inside.rows c.self.inside.writer c.self.inside.reader c.self.inside.front c.self.inside.kept) (front_of g.M.Monomial.vector c.in_ok-front.front) c.self.invariant.working (ap (plain_front g.M.Monomial.vector) (c.in_ok-front.was)) (omega (arith, a, b, d))))

pub times-requires-clause-right : goal.times-requires-clause-right
times-requires-clause-right g c =
    let a = first_low g.M.Monomial.LIM (view_of g.M.Monomial.vector g.R.CoeffRing.value c.self.inside.worker c.self.inside.rows c.self.inside.writer c.self.inside.reader c.self.inside.front c.self.inside.kept) c.self.invariant.working in
    let e = ap degree (c.in_ok-first.ensures.1 ∙ ap lm c.self.invariant.rows_are) in omega (arith, a, e)

pub returns : goal.returns
returns g c =
    subst (λ v. IsFrontier v (Some (front_of g.M.Monomial.vector record { mono = c.times.result; is_strict = c.in_ok-front.front.is_strict }))) c.self.view_is
    (frontier_some (view_of g.M.Monomial.vector g.R.CoeffRing.value c.self.inside.worker c.self.inside.rows c.self.inside.writer c.self.inside.reader c.self.inside.front c.self.inside.kept) (front_of g.M.Monomial.vector c.in_ok-front.front) (front_of g.M.Monomial.vector record { mono = c.times.result; is_strict = c.in_ok-front.front.is_strict }) (ap (plain_front g.M.Monomial.vector) (c.in_ok-front.was))
    (c.times.ensures ∙ ap (λ m. g.M.Monomial.vector c.in_ok-front.front.mono ⋅ m) (c.in_ok-first.ensures.1 ∙ ap lm c.self.invariant.rows_are)) refl)
