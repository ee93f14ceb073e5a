use Rattle.std.proofs.Common.{◌∙◌, sym}
use Rattle.global_heap.proofs.Running.{runs_begin, runs_on, shorter, all_served, done_cause, full_cause, full_moved}
use Rattle.global_heap.proofs.Steps.{Grows-trans}
use Rattle.global_heap.proofs.merge.Merge.run.Goals as goal

pub loop-worker-init : goal.loop-worker-init
loop-worker-init g c = runs_begin g.M.Monomial.LIM c.args.self.now c.requires.sound

pub returns-in-Some-clause-grows : goal.returns-in-Some-clause-grows
returns-in-Some-clause-grows g c =
    Grows-trans c.args.self.now c.loop-worker.self c.fill.new.self c.loop-worker.invariant.grows c.fill.ensures.fills.grows

pub returns-then-not-has_head-clause-grows : goal.returns-then-not-has_head-clause-grows
returns-then-not-has_head-clause-grows g c =
    Grows-trans c.args.self.now c.loop-worker.self c.fill.new.self c.loop-worker.invariant.grows c.fill.ensures.fills.grows

pub returns-then-spare-eq0-clause-grows : goal.returns-then-spare-eq0-clause-grows
returns-then-spare-eq0-clause-grows g c =
    Grows-trans c.args.self.now c.loop-worker.self c.fill.new.self c.loop-worker.invariant.grows c.fill.ensures.fills.grows

pub returns-then-not-has_head-clause-cause : goal.returns-then-not-has_head-clause-cause
returns-then-not-has_head-clause-cause g c =
    done_cause g.M.Monomial.LIM c.args.self.now c.loop-worker.self c.fill.new.self c.loop-worker.invariant c.in_default.ensures.fills (c.has_head.ensures.no c.if-not-has_head.true)

pub returns-then-spare-eq0-clause-cause : goal.returns-then-spare-eq0-clause-cause
returns-then-spare-eq0-clause-cause g c =
    full_cause g.M.Monomial.LIM c.args.self.now c.loop-worker.self c.fill.new.self c.loop-worker.invariant c.in_default.ensures.fills (c.has_head.ensures.yes c.if-not-has_head.false) (sym c.spare.ensures ∙ c.if-spare-eq0.true)

pub returns-then-spare-eq0-clause-moved : goal.returns-then-spare-eq0-clause-moved
returns-then-spare-eq0-clause-moved g c =
    λ _ room. full_moved g.M.Monomial.LIM c.args.self.now c.loop-worker.self c.fill.new.self c.loop-worker.invariant c.in_default.ensures.fills (sym c.spare.ensures ∙ c.if-spare-eq0.true) room

pub emit-requires-clause-served : goal.emit-requires-clause-served
emit-requires-clause-served g c κs within =
    all_served c.loop-worker.self c.fill.new.self c.in_default.ensures.fills

pub loop-worker-smaller : goal.loop-worker-smaller
loop-worker-smaller g c =
    shorter g.M.Monomial.LIM c.loop-worker.self c.fill.new.self c.emit.new.self c.in_default.ensures.fills c.loop-worker.invariant.sound c.fill.ensures.sound c.emit.ensures.emits

pub loop-worker-preserved : goal.loop-worker-preserved
loop-worker-preserved g c =
    runs_on g.M.Monomial.LIM c.args.self.now c.loop-worker.self c.fill.new.self c.emit.new.self c.loop-worker.invariant c.in_default.ensures.fills c.fill.ensures.sound c.emit.ensures.emits c.emit.ensures.sound
