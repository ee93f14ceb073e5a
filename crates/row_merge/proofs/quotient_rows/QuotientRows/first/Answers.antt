use Rattle.std.proofs.Common.{◌≡◌, ◌≢◌, ◌<◌, length, [], ap, ◌∙◌, subst, arith}
use Rattle.sdmp_laws.specs.Poly.{lm}
use Rattle.row_merge.specs.Learned.{QuotientState}
use Rattle.row_merge.proofs.LearnedRows.{first_row, positive_from}
use Rattle.row_merge.proofs.quotient_rows.QuotientRows.first.Goals as goal

pub returns : goal.returns
returns g c =
    let some : 0 < length c.self.inside.rows.items = omega (arith, positive_from _ _ c.is_empty.ensures c.if-is_empty.false, c.self.inside.rows.ok) in
    let f = first_row g.M.Monomial.vector g.R.CoeffRing.value c.self.inside.rows.items c.index.result.now some in
    subst (λ (s : QuotientState). (s.rows ≢ []) × (g.M.Monomial.vector c.index.result.now.mono ≡ lm s.rows)) c.self.view_is (f.0, ap (λ t. g.M.Monomial.vector t.mono) c.index.ensures ∙ f.1)
