use Rattle.std.proofs.Common.{◌-◌, length, refl, arith, inl, inr}
use Rattle.chained_heap.proofs.Heaps.{risen_begins, risen_steps, risen_rests, risen_tops}
use Rattle.chained_heap.proofs.Lowering.{lowers_begins, lowers_over, lowers_steps, lowers_ends}
use Rattle.chained_heap.proofs.sift.lower.Goals as goal

pub loop-at-init : goal.loop-at-init
loop-at-init g c =
    let xs = c.args.nodes.now in
    (risen_begins g.M.Ord.cmp (length xs - 1) c.args.x xs, lowers_begins g.M.Ord.cmp xs c.args.x.mono (length xs - 1) c.args.to (length xs - 1) refl c.requires.climbs)

pub loop-at-preserved : goal.loop-at-preserved
loop-at-preserved g c =
    let xs = c.args.nodes.now in
    let n = length c.args.nodes.now - 1 in
    let ns = c.loop-at.nodes in
    let at = c.loop-at.at in
    let y = c.index-nodes-parent.result in
    let v = c.loop-at.invariant.1 in
    let up = lowers_over g.M.Ord.cmp xs c.args.x.mono (length xs - 1) c.args.to ns at v c.loop-at-test.true in (
      risen_steps g.M.Ord.cmp (length xs - 1) c.args.x y xs ns at (omega (arith, c.requires.nonempty)) up.0 c.index-nodes-parent.is (up.1 y) c.loop-at.invariant.0,
      lowers_steps g.M.Ord.cmp xs c.args.x.mono (length xs - 1) c.args.to ns at v y c.loop-at-test.true,
    )

pub returns-clause-sifts : goal.returns-clause-sifts
returns-clause-sifts g c =
    let o = (g.met.M.Ord g.world.𝓛 g.world.𝓜 g.world.𝓡 ((λ s x. x), (λ x. x), (λ x. x), λ x. x)).total in
    let xs = c.args.nodes.now in
    let ns = c.loop-at.nodes in
    let at = c.loop-at.at in
    let ends = lowers_ends g.M.Ord.cmp xs c.args.x.mono (length xs - 1) c.args.to ns at c.loop-at.invariant.1 c.loop-at-test.false c.requires.rests in
    elim ends [
      | inl z ↦ risen_tops g.M.Ord.cmp o (length xs - 1) c.args.x xs ns at z c.loop-at.invariant.0
      | inr h ↦ risen_rests g.M.Ord.cmp o (length xs - 1) c.args.x c.args.x xs ns at (omega (arith, c.requires.nonempty)) h.0 (h.1 c.args.x) c.loop-at.invariant.0
    ]
