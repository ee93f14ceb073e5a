use Rattle.std.proofs.Common.{◌∙◌, length, sym, ap}
use Rattle.dividing_rounds.specs.Runs.{run_row}
use Rattle.divide_merge.specs.Merges.{DivideView}
use Rattle.divide_merge.proofs.Beginning.{renews, renewed_run}
use Rattle.divide_merge.proofs.merge.DivideMerge.change_row.Goals as goal

pub invariant_of-self : goal.invariant_of-self
invariant_of-self g c =
    let v = c.self.view_is in
    renews g.M.Monomial.vector g.R.CoeffRing.value g.R.CoeffRing.belongs _ _ g.M.Monomial.LIM _ _ _ _ c.self.invariant c.args.writer (record {
      publishing = c.requires.writer;
      division = c.requires.division ∙ ap (λ (u : DivideView). u.run.state.division) (sym v);
      start = c.requires.start ∙ ap (λ (u : DivideView). length u.run.state.q) (sym v);
      unpublished = c.requires.nothing;
    })

pub returns-clause-run : goal.returns-clause-run
returns-clause-run g c =
    let v = c.self.view_is in
    renewed_run g.M.Monomial.vector g.R.CoeffRing.value g.R.CoeffRing.belongs _ _ g.M.Monomial.LIM _ _ _ _ c.self.invariant c.args.writer (record {
      publishing = c.requires.writer;
      division = c.requires.division ∙ ap (λ (u : DivideView). u.run.state.division) (sym v);
      start = c.requires.start ∙ ap (λ (u : DivideView). length u.run.state.q) (sym v);
      unpublished = c.requires.nothing;
    }) ∙ ap (λ (u : DivideView). run_row u.run) v
