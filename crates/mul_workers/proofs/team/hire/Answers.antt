use Rattle.std.proofs.Common.{sym, ◌∙◌}
use Rattle.mul_workers.proofs.Hiring.{rows_script, rows_rest, hired_sender}
use Rattle.mul_workers.proofs.team.hire.Goals as goal

pub new-part-requires-clause-script : goal.new-part-requires-clause-script
new-part-requires-clause-script g c κs within =
    let r = c.in_ok-ring.ensures in
    let e = c.in_ok-rows.ensures in
    r.writer.2 ∙ r.script ∙ sym (rows_script g.M.Monomial.order g.M.Monomial.VARS c.in_ok-rows.rows c.args.set.f.now c.args.set.g.now c.args.set.workers c.args.set.worker e.factors e.workers)

pub new-part-requires-clause-rest : goal.new-part-requires-clause-rest
new-part-requires-clause-rest g c κs within =
    let e = c.in_ok-rows.ensures in
    rows_rest g.M.Monomial.order g.M.Monomial.VARS c.in_ok-rows.rows c.args.set.f.now c.args.set.g.now c.args.set.workers c.args.set.worker e.factors e.workers e.rest

pub returns-clause-worker : goal.returns-clause-worker
returns-clause-worker g c =
    let r = c.in_ok-ring.ensures in
    hired_sender c.in_ok-ring.ring c.in_ok-ring.writer c.args.set.worker c.new-part.result.sender r.writer r.head c.new-part.ensures.sender
