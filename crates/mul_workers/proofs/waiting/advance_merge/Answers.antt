use Rattle.std.proofs.Common.{◌∙◌}
use Rattle.global_heap.proofs.Steps.{NoneBelow-trans}
use Rattle.mul_workers.proofs.waiting.advance_merge.Goals as goal

pub leave-requires-clause-value : goal.leave-requires-clause-value
leave-requires-clause-value g c =
    let v = c.in-Ok.ensures.value in
    let e = c.advance-last.ensures in
    (e.rings ∙ v.0, NoneBelow-trans _ _ _ v.1 e.reached, c.whole.ensures.sound)
