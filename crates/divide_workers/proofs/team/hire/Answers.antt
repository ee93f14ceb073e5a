use Rattle.std.proofs.Common.{rules, ◌≡◌, ◌≤◌, sym, subst, ap, ◌∙◌}
use Rattle.whole_laws.specs.Notes.{Script}
use Rattle.row_merge.specs.Learned.{QuotientState}
use Rattle.divide_merge.specs.Names.{script_division}
use Rattle.divide_workers.specs.Views.{script_workers}
use Rattle.divide_workers.proofs.Hiring.{its_part, none_first, begins_fresh}
use Rattle.divide_workers.proofs.team.hire.Goals as goal
use Rattle.divide_workers.proofs.team.hire.Goals.{then-has_rows-2+in_ok-reserve, else-has_rows-2}

pub new-requires-3-clause-rows : goal.new-requires-3-clause-rows
new-requires-3-clause-rows g c κs within =
    let same : c.if-has_rows-2.rows ≡ record c.in_ok-rows.rows { spare = c.if-has_rows-2.rows.spare } = elim c.if-has_rows-2.branch [ then-has_rows-2+in_ok-reserve w ↦ (search rules) | else-has_rows-2 w ↦ (search rules) ] in
    let script = c.in_ok-ring.ensures.writer.2 ∙ c.in_ok-ring.ensures.script in
    its_part c.if-has_rows-2.rows c.in_ok-rows.rows _ c.args.workers _ c.args.worker _ _ c.in_ok-rows.ensures (ap (λ (q : QuotientState). q.rows) same) (ap (λ (q : QuotientState). q.divisor) same ∙ ap (λ (q : QuotientState). q.divisor) c.in_ok-rows.ensures) (ap script_workers script)

pub returns-clause-fresh : goal.returns-clause-fresh
returns-clause-fresh g c =
    let same : c.if-has_rows-2.rows ≡ record c.in_ok-rows.rows { spare = c.if-has_rows-2.rows.spare } = elim c.if-has_rows-2.branch [ then-has_rows-2+in_ok-reserve w ↦ (search rules) | else-has_rows-2 w ↦ (search rules) ] in
    let script = c.in_ok-ring.ensures.writer.2 ∙ c.in_ok-ring.ensures.script in
    let rows = its_part c.if-has_rows-2.rows c.in_ok-rows.rows _ c.args.workers _ c.args.worker _ _ c.in_ok-rows.ensures (ap (λ (q : QuotientState). q.rows) same) (ap (λ (x : Script). (script_division x).g) script) (ap script_workers script) in
    begins_fresh g.M.Monomial.vector g.R.CoeffRing.value c.args.worker c.if-has_rows-2.rows c.in_ok-ring.writer c.args.reader c.new-3.result.sender c.new-3.ensures (ap (λ (q : QuotientState). q.learned) same ∙ ap (λ (q : QuotientState). q.learned) c.in_ok-rows.ensures) c.in_ok-ring.ensures.sent c.requires.nothing.0 rows
    (elim c.if-has_rows-2.branch [
      | then-has_rows-2+in_ok-reserve w ↦ (λ r. subst (λ n. n ≤ c.if-has_rows-2.rows.spare) (sym c.requires.row_places) (subst (λ (q : QuotientState). c.args.places ≤ q.spare) (sym w.rows-is) w.in_ok-reserve.ensures.room))
      | else-has_rows-2 w ↦ (λ r. absurd (r (ap (λ (q : QuotientState). q.rows) same ∙ none_first c.first.result c.is_some-has_rows.result c.in_ok-rows.rows.rows _ c.first.ensures c.is_some-has_rows.ensures w.if-has_rows-2.false)))
    ])
