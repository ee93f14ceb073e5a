use Rattle.std.proofs.Common.{subst}
use Rattle.global_heap.specs.Merges.{IsSound}
use Rattle.global_heap.proofs.Sound.{is_sound}
use Rattle.global_heap.proofs.merge.Merge.whole.Goals as goal

pub returns-clause-sound : goal.returns-clause-sound
returns-clause-sound g c =
    subst (IsSound g.M.Monomial.LIM) c.self.view_is (is_sound g.M.Monomial.vector g.R.CoeffRing.value g.R.CoeffRing.belongs _ _ g.M.Monomial.LIM _ _ _ _ _ _ c.self.invariant)
