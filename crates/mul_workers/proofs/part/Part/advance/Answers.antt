use Rattle.std.proofs.Common.{get_or, map, sym, ap, ◌∙◌}
use Rattle.std.proofs.Math.ListN.{get_or-map}
use Rattle.term_ring.specs.Names.{ring_name}
use Rattle.mul_workers.proofs.part.Part.advance.Goals as goal

pub work-requires-clause-ring : goal.work-requires-clause-ring
work-requires-clause-ring g c κs within =
    let r = c.index-rings-worker.result in
    let rings = c.args.rings.now in
    ap ring_name c.index-rings-worker.is ∙ sym (get_or-map ring_name rings c.worker-worker.result r) ∙ ap (λ k. get_or (map ring_name rings) k (ring_name r)) c.worker-worker.ensures ∙ c.requires.ring.ring (ring_name r)
