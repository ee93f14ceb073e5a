use Rattle.std.proofs.Common.{◌∙◌, length, ap, arith}
use Rattle.std.proofs.lemmas.List.{length-map}
use Rattle.term_ring.specs.Names.{ring_name}
use Rattle.divide_merge.proofs.Filling.{filled_begins, filled_next, filled_below, all_filled, same_ring, own_ring}
use Rattle.divide_merge.proofs.merge.DivideMerge.fill.Goals as goal

pub loop-worker-init : goal.loop-worker-init
loop-worker-init g c = filled_begins g.M.Monomial.LIM c.args.self.now c.requires.sound

pub fill_one-requires-clause-going : goal.fill_one-requires-clause-going
fill_one-requires-clause-going g c κs within = c.loop-worker.invariant.fills.answer ∙ c.requires.going

pub fill_one-requires-clause-worker : goal.fill_one-requires-clause-worker
fill_one-requires-clause-worker g c κs within =
    let long = ap (λ rs. length rs) c.requires.rings ∙ length-map c.args.rings.now ring_name in
    let count = c.requires.sound.rings_count in
    filled_below g.M.Monomial.LIM c.args.self.now c.loop-worker.self c.loop-worker.worker c.loop-worker.worker c.loop-worker.invariant (omega (arith, long, count, c.loop-worker-test.true))

pub fill_one-requires-clause-ring : goal.fill_one-requires-clause-ring
fill_one-requires-clause-ring g c κs within =
    same_ring c.args.self.now c.loop-worker.self c.loop-worker.worker _ c.loop-worker.invariant.fills
    (own_ring c.args.self.now.rings c.args.rings.now c.loop-worker.worker c.index-rings-worker.result c.requires.rings c.loop-worker-test.true c.index-rings-worker.is)

pub loop-worker-preserved : goal.loop-worker-preserved
loop-worker-preserved g c =
    let e = c.fill_one.ensures in
    filled_next g.M.Monomial.LIM c.args.self.now c.loop-worker.self c.fill_one.new.self c.loop-worker.worker c.loop-worker.invariant e.sound e.fills e.others e.asked

pub returns-clause-asked : goal.returns-clause-asked
returns-clause-asked g c =
    let long = ap (λ rs. length rs) c.requires.rings ∙ length-map c.args.rings.now ring_name in
    let count = c.requires.sound.rings_count in
    all_filled g.M.Monomial.LIM c.args.self.now c.loop-worker.self c.loop-worker.worker c.loop-worker.invariant (omega (arith, long, count, c.loop-worker-test.false, c.loop-worker.auto.worker-end))
