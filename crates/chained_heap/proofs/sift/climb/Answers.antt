use Rattle.std.proofs.Common.{◌≡◌, ◌-◌, ◌/◌, length, sym, ap, ◌∙◌, refl, arith, inl, inr}
use Rattle.std.specs.Ordering.{is_lt, is_eq}
use Rattle.chained_heap.proofs.Walks.{walk_bound, walk_rests, walk_more}
use Rattle.chained_heap.proofs.Heaps.{read_test}
use Rattle.chained_heap.proofs.sift.climb.Goals as goal

pub offset_bounds-nodes-parent : goal.offset_bounds-nodes-parent
offset_bounds-nodes-parent g c = omega (arith, c.loop-at.invariant.0.within)

pub bounds-nodes-parent : goal.bounds-nodes-parent
bounds-nodes-parent g c = omega (arith, c.loop-at.invariant.0.within)

pub bounds-nodes-parent-in-loop-at : goal.bounds-nodes-parent-in-loop-at
bounds-nodes-parent-in-loop-at g c = omega (arith, c.loop-at.invariant.0.within)

pub loop-at-init : goal.loop-at-init
loop-at-init g c = (record { steps = 0; at = refl; over = λ s p. absurd (omega arith); counted = omega arith; within = omega arith }, refl)

pub loop-at-preserved : goal.loop-at-preserved
loop-at-preserved g c =
    let monos = g.met.M.Monomial g.world.𝓛 g.world.𝓜 g.world.𝓡 ((λ s x. x), (λ x. x), (λ x. x), λ x. x) in
    let xs = c.args.nodes.now in
    let y = c.index-nodes-parent.result in
    let w = c.loop-at.invariant.0 in (
      walk_more g.M.Ord.cmp xs c.args.mono (length xs) c.loop-at.at _ c.loop-at.steps.compares c.higher.new.steps.compares w
          (c.loop-at-test.true, read_test g.M.Ord.cmp xs ((c.loop-at.at - 1) / 2) y c.args.mono is_lt _ (omega (arith, w.within)) (ap is_lt (monos.ordered _ c.args.mono ∙ sym c.in-Less.ensures.value)))
          (omega (arith, c.higher.ensures.compares)),
      c.higher.ensures.products ∙ c.loop-at.invariant.1,
    )

pub returns-in-Equal-clause-spot : goal.returns-in-Equal-clause-spot
returns-in-Equal-clause-spot g c =
    let monos = g.met.M.Monomial g.world.𝓛 g.world.𝓜 g.world.𝓡 ((λ s x. x), (λ x. x), (λ x. x), λ x. x) in
    let xs = c.args.nodes.now in
    let y = c.index-nodes-parent.result in
    let w = c.loop-at.invariant.0 in
    (omega (arith, w.within), read_test g.M.Ord.cmp xs ((c.loop-at.at - 1) / 2) y c.args.mono is_eq _ (omega (arith, w.within)) (ap is_eq (monos.ordered _ c.args.mono ∙ sym c.in-Equal.ensures.value)))

pub returns-in-Equal-clause-compares : goal.returns-in-Equal-clause-compares
returns-in-Equal-clause-compares g c = λ l b. walk_bound g.M.Ord.cmp c.args.nodes.now c.args.mono (length c.args.nodes.now) c.loop-at.at _ c.loop-at.steps.compares _ l c.loop-at.invariant.0 c.loop-at-test.true (omega (arith, c.higher.ensures.compares)) b

pub returns-in-Greater-clause-spot : goal.returns-in-Greater-clause-spot
returns-in-Greater-clause-spot g c =
    let monos = g.met.M.Monomial g.world.𝓛 g.world.𝓜 g.world.𝓡 ((λ s x. x), (λ x. x), (λ x. x), λ x. x) in
    let xs = c.args.nodes.now in
    let y = c.index-nodes-parent.result in
    let w = c.loop-at.invariant.0 in
    ((w.steps, w.at, w.over), inr (read_test g.M.Ord.cmp xs ((c.loop-at.at - 1) / 2) y c.args.mono is_lt _ (omega (arith, w.within)) (ap is_lt (monos.ordered _ c.args.mono ∙ sym c.in-Greater.ensures.value))))

pub returns-in-Greater-clause-compares : goal.returns-in-Greater-clause-compares
returns-in-Greater-clause-compares g c = λ l b. walk_bound g.M.Ord.cmp c.args.nodes.now c.args.mono (length c.args.nodes.now) c.loop-at.at _ c.loop-at.steps.compares _ l c.loop-at.invariant.0 c.loop-at-test.true (omega (arith, c.higher.ensures.compares)) b

pub returns-clause-spot : goal.returns-clause-spot
returns-clause-spot g c =
    let w = c.loop-at.invariant.0 in
    let z : c.loop-at.at ≡ 0 = omega (arith, c.loop-at-test.false) in
    ((w.steps, sym z ∙ w.at, w.over), inl refl)

pub returns-clause-compares : goal.returns-clause-compares
returns-clause-compares g c = λ l b. walk_rests g.M.Ord.cmp c.args.nodes.now c.args.mono (length c.args.nodes.now) c.loop-at.at _ c.loop-at.steps.compares l c.loop-at.invariant.0 b
