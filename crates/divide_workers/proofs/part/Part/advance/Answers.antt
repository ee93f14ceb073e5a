use Rattle.std.proofs.Common.{◌<◌, length, get_or, map, inl, refl, sym, ap, ◌∙◌, arith}
use Rattle.std.proofs.lemmas.List.{length-map}
use Rattle.std.proofs.Math.ListN.{get_or-map}
use Rattle.term_ring.specs.Names.{ring_name}
use Rattle.divide_workers.proofs.Working.{works_itself}
use Rattle.divide_workers.proofs.Advancing.{place_fits}
use Rattle.divide_workers.proofs.part.Part.advance.Goals as goal

pub returns-then-not-has_rows-clause-works : goal.returns-then-not-has_rows-clause-works
returns-then-not-has_rows-clause-works g c = works_itself g.M.Monomial.LIM c.args.self.now.sender c.whole.ensures.working

pub returns-then-not-has_rows-clause-stop : goal.returns-then-not-has_rows-clause-stop
returns-then-not-has_rows-clause-stop g c = inl record {
  idle = λ r. let e = c.has_rows.ensures.1 r in cc (e, c.if-not-has_rows.true);
  same = refl;
  known_terms = c.known.ensures;
  none = refl;
}

pub offset_bounds-shared-worker : goal.offset_bounds-shared-worker
offset_bounds-shared-worker g c =
    let rings = c.args.shared.now.rings.now in
    let n = length-map rings ring_name in
    let k : c.worker-worker.result < length rings = let a = c.requires.ring.number in let e = c.worker-worker.ensures in omega (arith, n, a, e) in
    place_fits c.worker-worker.result (length rings) _ k c.type_inv.shared.0.0.1.1

pub work-stop-requires-clause-ring : goal.work-stop-requires-clause-ring
work-stop-requires-clause-ring g c κs within =
    let r = c.index-shared-worker.result in
    let rings = c.args.shared.now.rings.now in
    sym (get_or-map ring_name rings c.worker-worker.result r) ∙ ap (λ k. get_or (map ring_name rings) k (ring_name r)) c.worker-worker.ensures ∙ c.requires.ring.ring (ring_name r)
