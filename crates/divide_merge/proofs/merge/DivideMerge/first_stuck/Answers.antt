use Rattle.std.proofs.Common.{arith}
use Rattle.dividing_rounds.specs.Stalls.{IsStuck}
use Rattle.divide_merge.specs.Inside.{vector_of}
use Rattle.divide_merge.proofs.Bounds.{below_next}
use Rattle.divide_merge.proofs.Hearing.{count}
use Rattle.divide_merge.proofs.merge.DivideMerge.first_stuck.Goals as goal

pub loop-worker-init : goal.loop-worker-init
loop-worker-init g c = λ v l. absurd (omega arith)

pub is_ready-requires-after_bounds : goal.is_ready-requires-after_bounds
is_ready-requires-after_bounds g c κs within = let e = count c.self.invariant c.self.view_is in omega (arith, e, c.loop-worker-test.true, c.loop-worker.auto.worker-end, c.len-worker-end.ensures, c.self.inside.readers.ok)

pub loop-worker-preserved : goal.loop-worker-preserved
loop-worker-preserved g c =
    below_next (λ v. IsStuck c.args.self.now.run.state (vector_of g.M.Monomial.vector c.args.next) v → ⊥) c.loop-worker.worker c.loop-worker.invariant (c.is_ready.ensures.yes c.if-not-is_ready.false)

pub returns-then-not-is_ready : goal.returns-then-not-is_ready
returns-then-not-is_ready g c = record { stuck = c.is_ready.ensures.no c.if-not-is_ready.true; first = c.loop-worker.invariant }

pub returns : goal.returns
returns g c = λ v k.
    let e = count c.self.invariant c.self.view_is in
    c.loop-worker.invariant v (omega (arith, e, k.asked.worker, c.loop-worker-test.false, c.loop-worker.auto.worker-end, c.len-worker-end.ensures, c.self.inside.readers.ok)) k
