use Rattle.std.proofs.Common.{subst, sym, ap, ◌∙◌}
use Rattle.divide_merge.specs.Merges.{DivideView, IsSound}
use Rattle.divide_merge.proofs.Sound.{is_sound}
use Rattle.divide_merge.proofs.merge.DivideMerge.whole.Goals as goal

pub returns-clause-sound : goal.returns-clause-sound
returns-clause-sound g c =
    subst (IsSound g.M.Monomial.LIM) c.self.view_is (is_sound g.M.Monomial.vector g.R.CoeffRing.value g.R.CoeffRing.belongs _ _ g.M.Monomial.LIM _ _ _ _ c.self.invariant)

pub returns-clause-order : goal.returns-clause-order
returns-clause-order g c = ap (λ (v : DivideView). v.run.state.division.ord) (sym c.self.view_is) ∙ c.self.invariant.made_for.ordered

pub returns-clause-variables : goal.returns-clause-variables
returns-clause-variables g c = ap (λ (v : DivideView). v.run.state.division.n) (sym c.self.view_is) ∙ c.self.invariant.made_for.variables
