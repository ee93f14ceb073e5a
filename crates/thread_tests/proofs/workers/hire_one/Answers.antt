use Rattle.std.proofs.Common.{sym, ap, ◌∙◌}
use Rattle.term_ring.specs.Names.{ring_name}
use Rattle.term_ring.proofs.Naming.{name_of_writer}
use Rattle.mul_workers.proofs.Hiring.{rows_script, rows_rest}
use Rattle.thread_tests.proofs.Alone.{one_among}
use Rattle.thread_tests.proofs.workers.hire_one.Goals as goal

pub new-worker-requires-clause-script : goal.new-worker-requires-clause-script
new-worker-requires-clause-script g c κs within =
    let r = c.in_ok-ring.ensures in
    let e = c.in_ok-rows.ensures in
    r.writer.2 ∙ r.script ∙ sym (rows_script g.M.Monomial.order g.M.Monomial.VARS c.in_ok-rows.rows c.args.f.now c.args.g.now 1 0 e.factors e.workers)

pub new-worker-requires-clause-rest : goal.new-worker-requires-clause-rest
new-worker-requires-clause-rest g c κs within =
    let e = c.in_ok-rows.ensures in
    rows_rest g.M.Monomial.order g.M.Monomial.VARS c.in_ok-rows.rows c.args.f.now c.args.g.now 1 0 e.factors e.workers e.rest

pub returns-clause-among : goal.returns-clause-among
returns-clause-among g c =
    let r = c.in_ok-ring.ensures in
    let s = c.new-worker.ensures.sender in
    one_among (ring_name c.in_ok-ring.ring) c.new-worker.result.part.sender (ap (λ v. v.worker) s) (ap (λ v. v.ring) s ∙ name_of_writer c.in_ok-ring.ring c.in_ok-ring.writer r.writer)
