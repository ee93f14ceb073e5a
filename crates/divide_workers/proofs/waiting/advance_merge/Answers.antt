use Rattle.std.proofs.Common.{◌∙◌}
use Rattle.divide_merge.proofs.Following.{Follows-trans}
use Rattle.divide_workers.proofs.Waits.{name_stays}
use Rattle.divide_workers.proofs.waiting.advance_merge.Goals as goal

pub leave-requires-clause-value : goal.leave-requires-clause-value
leave-requires-clause-value g c =
    let v = c.in-Ok.ensures.value in
    let e = c.advance-last.ensures in
    (name_stays _ _ e.grows ∙ v.0, Follows-trans _ _ _ v.1 e.reached, c.whole.ensures.sound)
