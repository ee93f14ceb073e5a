use Rattle.std.proofs.Common.{subst, sym}
use Rattle.whole_laws.specs.Wholes.{IsMergeDone}
use Rattle.global_heap.proofs.Begun.{done_from, done_to}
use Rattle.global_heap.proofs.merge.Merge.is_done.Goals as goal

pub returns : goal.returns
returns g c =
    let v = g.M.Monomial.vector in
    let k = c.self.invariant in (
      (λ t. subst (λ u. IsMergeDone u.state) c.self.view_is (done_from v g.R.CoeffRing.value g.R.CoeffRing.belongs _ _ g.M.Monomial.LIM _ _ _ _ _ k (c.all_ended.ensures.0 t))),
      (λ d. c.all_ended.ensures.1 (done_to v g.R.CoeffRing.value g.R.CoeffRing.belongs _ _ g.M.Monomial.LIM _ _ _ _ _ k (subst (λ u. IsMergeDone u.state) (sym c.self.view_is) d))),
    )
