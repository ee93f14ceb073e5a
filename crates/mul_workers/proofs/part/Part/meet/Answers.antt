use Rattle.std.proofs.Common.{List, length, get_or, map, sym, ap, ◌∙◌, arith}
use Rattle.std.proofs.Math.ListN.{get_or-map}
use Rattle.term_ring.specs.Names.{RingName, ring_name}
use Rattle.mul_workers.proofs.part.Part.meet.Goals as goal

pub meet-requires-clause-worker : goal.meet-requires-clause-worker
meet-requires-clause-worker g c κs within =
    let b = c.requires.ring.number in
    let e = ap (λ (n : List RingName). length n) c.requires.rings in
    let w = c.whole.ensures.sound.rings_count in
    omega arith

pub meet-requires-clause-ring : goal.meet-requires-clause-ring
meet-requires-clause-ring g c κs within =
    let r = c.index-rings-worker.result in
    let rings = c.args.rings.now in
    ap ring_name c.index-rings-worker.is ∙ sym (get_or-map ring_name rings c.worker-worker.result r) ∙ ap (λ k. get_or (map ring_name rings) k (ring_name r)) c.worker-worker.ensures ∙ c.requires.ring.ring (ring_name r)

pub meet-requires-clause-name : goal.meet-requires-clause-name
meet-requires-clause-name g c κs within = λ d.
    ap (λ (n : List RingName). get_or n c.args.self.now.sender.worker d) c.requires.rings ∙ c.requires.ring.ring d
