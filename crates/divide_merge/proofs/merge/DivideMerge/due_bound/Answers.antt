use Rattle.std.proofs.Common.{MatchOption, List, Some, None, ◌∙◌, ℕ, subst, sym, ap, true≢false, arith}
use Rattle.std.specs.ControlFlow.{continue_value}
use Rattle.dividing_rounds.specs.Stalls.{IsDue}
use Rattle.divide_merge.specs.Inside.{vector_of}
use Rattle.divide_merge.proofs.Bounds.{far_begins, far_skips, far_ends, due_here, none_due, not_due_late, not_due_above}
use Rattle.divide_merge.proofs.Hearing.{count, under_is, due_goes}
use Rattle.divide_merge.proofs.merge.DivideMerge.due_bound.Goals as goal

pub loop-worker-init : goal.loop-worker-init
loop-worker-init g c = far_begins c.args.self.now.run.state (vector_of g.M.Monomial.vector c.args.next) c.requires

pub is_asked-requires-after_bounds : goal.is_asked-requires-after_bounds
is_asked-requires-after_bounds g c κs within = let e = count c.self.invariant c.self.view_is in omega (arith, e, c.loop-worker-test.true, c.loop-worker.auto.worker-end, c.len-worker-end.ensures, c.self.inside.readers.ok)

pub is_current-requires-after_bounds : goal.is_current-requires-after_bounds
is_current-requires-after_bounds g c κs within = let e = count c.self.invariant c.self.view_is in omega (arith, e, c.loop-worker-test.true, c.loop-worker.auto.worker-end, c.len-worker-end.ensures, c.self.inside.readers.ok)

pub loop-worker-preserved-then-not-is_asked : goal.loop-worker-preserved-then-not-is_asked
loop-worker-preserved-then-not-is_asked g c =
    far_skips c.args.self.now.run.state c.loop-worker.worker (vector_of g.M.Monomial.vector c.loop-worker.bound) c.loop-worker.invariant (λ k. true≢false (sym (c.is_asked.ensures.1 k) ∙ c.if-not-is_asked.true))

pub returns-then-not-is_current : goal.returns-then-not-is_current
returns-then-not-is_current g c = λ x.
    not_due_late c.args.self.now.run.state x c.loop-worker.worker (c.is_asked.ensures.0 c.if-not-is_asked.false) (λ k. true≢false (sym (c.is_current.ensures.1 k) ∙ c.if-not-is_current.true))

pub loop-worker-preserved : goal.loop-worker-preserved
loop-worker-preserved g c =
    let e = count c.self.invariant c.self.view_is in
    due_goes c.self.invariant c.self.view_is c.loop-worker.worker (omega (arith, e, c.loop-worker-test.true, c.loop-worker.auto.worker-end, c.len-worker-end.ensures, c.self.inside.readers.ok))
    c.loop-worker.bound c.greatest-bound.result c.index.result.now c.index.result.now c.index.ensures c.loop-worker.invariant
    (c.is_asked.ensures.0 c.if-not-is_asked.false) (c.is_current.ensures.0 c.if-not-is_current.false) c.greatest-bound.ensures

pub returns-in_err-bound : goal.returns-in_err-bound
returns-in_err-bound g c =
    let s = c.args.self.now.run.state in
    let e = count c.self.invariant c.self.view_is in
    subst (λ r. MatchOption r ((x : List ℕ) → IsDue s x → ⊥) (λ b. IsDue s (g.M.Monomial.vector b))) (sym c.from_residual.ensures) (λ x.
    none_due s x
    (far_ends s c.loop-worker.worker (vector_of g.M.Monomial.vector c.loop-worker.bound) None c.loop-worker.invariant
    (omega (arith, e, c.loop-worker-test.false, c.loop-worker.auto.worker-end, c.len-worker-end.ensures, c.self.inside.readers.ok)) (ap (vector_of g.M.Monomial.vector) (c.branch-bound.ensures ∙ ap (λ r. continue_value r) c.in_err-bound.is))))

pub returns-then-is_under_front : goal.returns-then-is_under_front
returns-then-is_under_front g c =
    let e = count c.self.invariant c.self.view_is in
    due_here c.args.self.now.run.state (g.M.Monomial.vector c.in_ok-bound.bound)
    (far_ends c.args.self.now.run.state c.loop-worker.worker (vector_of g.M.Monomial.vector c.loop-worker.bound) (Some (g.M.Monomial.vector c.in_ok-bound.bound)) c.loop-worker.invariant
    (omega (arith, e, c.loop-worker-test.false, c.loop-worker.auto.worker-end, c.len-worker-end.ensures, c.self.inside.readers.ok)) (ap (vector_of g.M.Monomial.vector) (c.branch-bound.ensures ∙ ap (λ r. continue_value r) c.in_ok-bound.is)))
    ((under_is c.self.invariant c.self.view_is (g.M.Monomial.vector c.in_ok-bound.bound)).0 (c.is_under_front.ensures.0 c.if-is_under_front.true))

pub returns-else-is_under_front : goal.returns-else-is_under_front
returns-else-is_under_front g c = λ y.
    let e = count c.self.invariant c.self.view_is in
    not_due_above c.args.self.now.run.state (g.M.Monomial.vector c.in_ok-bound.bound) y
    (far_ends c.args.self.now.run.state c.loop-worker.worker (vector_of g.M.Monomial.vector c.loop-worker.bound) (Some (g.M.Monomial.vector c.in_ok-bound.bound)) c.loop-worker.invariant
    (omega (arith, e, c.loop-worker-test.false, c.loop-worker.auto.worker-end, c.len-worker-end.ensures, c.self.inside.readers.ok)) (ap (vector_of g.M.Monomial.vector) (c.branch-bound.ensures ∙ ap (λ r. continue_value r) c.in_ok-bound.is)))
    (λ u. true≢false (sym (c.is_under_front.ensures.1 ((under_is c.self.invariant c.self.view_is (g.M.Monomial.vector c.in_ok-bound.bound)).1 u)) ∙ c.if-is_under_front.false))
