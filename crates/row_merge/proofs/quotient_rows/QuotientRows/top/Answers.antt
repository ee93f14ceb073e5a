use Rattle.std.proofs.Common.{◌≡◌, [], MatchOption, subst}
use Rattle.row_merge.specs.Learned.{QuotientState, IsGreatest}
use Rattle.row_merge.proofs.RowLists.{top_says}
use Rattle.row_merge.proofs.quotient_rows.QuotientRows.top.Goals as goal

pub returns : goal.returns
returns g c =
    let monos = g.met.M.Monomial g.world.𝓛 g.world.𝓜 g.world.𝓡 ((λ s x. x), (λ x. x), (λ x. x), λ x. x) in
    let q = c.self.invariant.1 in
    subst (λ (s : QuotientState). MatchOption c.top.result (s.unread ≡ []) (λ m. IsGreatest g.M.Monomial.order s.unread (g.M.Monomial.vector m))) c.self.view_is
    (top_says g.M.Monomial.vector g.M.Monomial.order g.M.Monomial.VARS g.M.Ord.cmp (record { vars = monos.vars; ordered = monos.ordered }) _ _ c.self.inside.reads.items c.self.inside.heap q.placed q.kept.rows_fall q.kept.rows_vectors q.kept.fall q.kept.vectors c.top.result c.top.ensures)
