use Rattle.std.proofs.Common.{◌∙◌, ◌<◌, subst, sym}
use Rattle.global_heap.specs.Merges.{IsWanting, IsServed}
use Rattle.global_heap.proofs.Sound.{wanting_is, served_is}
use Rattle.global_heap.proofs.merge.Merge.wants.Goals as goal

pub returns-clause-yes : goal.returns-clause-yes
returns-clause-yes g c = λ t.
    let below = subst (λ v. c.args.worker < v.state.workers) (sym c.self.view_is) c.requires in
    subst (λ v. IsWanting v.state c.args.worker) c.self.view_is
    (wanting_is g.M.Monomial.vector g.R.CoeffRing.value g.R.CoeffRing.belongs _ _ g.M.Monomial.LIM _ _ _ _ _ c.args.worker c.self.invariant below (sym c.is_missing.ensures ∙ t))

pub returns-clause-no : goal.returns-clause-no
returns-clause-no g c = λ f.
    let below = subst (λ v. c.args.worker < v.state.workers) (sym c.self.view_is) c.requires in
    subst (λ v. IsServed v.state c.args.worker) c.self.view_is
    (served_is g.M.Monomial.vector g.R.CoeffRing.value g.R.CoeffRing.belongs _ _ g.M.Monomial.LIM _ _ _ _ _ c.args.worker c.self.invariant below (sym c.is_missing.ensures ∙ f))
