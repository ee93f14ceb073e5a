use Rattle.std.proofs.Common.{◌≡◌, ◌+◌, ◌*◌, ◌^◌, ◌≤◌, ℕ, suc, length, set, [], sym, subst, ◌∙◌, refl, arith}
use Rattle.std.proofs.lemmas.List.Sorted.{IsPermutation-trans, length_permutation}
use Rattle.std.proofs.lemmas.List.{length-set}
use Rattle.std_alloc.proofs.HeapSift as sifts
use Rattle.std.proofs.lemmas.List.Sorted.{IsPermutation-refl}
use Rattle.std.proofs.lemmas.List.{nil_from_length}
use Rattle.chained_heap.proofs.Heaps.{node_total, fallen_begins, fallen_steps, fallen_ends}
use Rattle.std.specs.List.Sorted.{IsPermutation}
use Rattle.chained_heap.specs.Order.{node_cmp}
use Rattle.chained_heap.proofs.Walks.{pow_below_back}
use Rattle.chained_heap.proofs.sift.replace_root.Goals as goal

pub loop-at-init : goal.loop-at-init
loop-at-init g c = (fallen_begins g.M.Ord.cmp c.args.x c.args.nodes.now (omega (arith, c.if-len-eq0.false)), refl, (0, omega arith, omega arith), refl)

deeper : (at c t : ℕ) → at * 2 + 1 ≤ c → 2 ^ t ≤ at + 1 → 2 ^ suc t ≤ c + 1
deeper at c t h e = let d : 2 ^ suc t ≡ 2 * 2 ^ t = omega arith in omega arith

pub loop-at-preserved : goal.loop-at-preserved
loop-at-preserved g c =
    let i = c.loop-at.invariant in
    let best = c.greater_child-child.ensures in (
      fallen_steps g.M.Ord.cmp c.args.x c.index-nodes-child.result c.args.nodes.now c.loop-at.nodes c.loop-at.at c.greater_child-child.result best.bound.1 best.bound.2 best.bound.0 c.index-nodes-child.is best.best i.0,
      refl,
      (suc i.2.0, deeper c.loop-at.at c.greater_child-child.result i.2.0 best.bound.1 i.2.1, omega (arith, i.2.2, best.compares)),
      best.products ∙ i.3,
    )

pub returns-clause-permutation : goal.returns-clause-permutation
returns-clause-permutation g c = IsPermutation-trans _ _ _ c.loop-at.invariant.0.permutation c.rise.ensures.permutation

pub returns-clause-mends : goal.returns-clause-mends
returns-clause-mends g c =
    let o = (g.met.M.Ord g.world.𝓛 g.world.𝓜 g.world.𝓡 ((λ s x. x), (λ x. x), (λ x. x), λ x. x)).total in
    let f = c.loop-at.invariant.0 in
    fallen_ends g.M.Ord.cmp o c.args.x c.args.nodes.now c.loop-at.nodes c.rise.new.nodes c.loop-at.at (omega (arith, c.loop-at-test.false))
    (length_permutation _ _ c.rise.ensures.permutation ∙ length-set c.loop-at.nodes c.loop-at.at c.args.x ∙ f.long) f c.rise.ensures.sifts

pub returns-clause-compares : goal.returns-clause-compares
returns-clause-compares g c = λ l b.
    let i = c.loop-at.invariant in
    let t = pow_below_back i.2.0 (l + 1) (omega (arith, i.2.1, i.0.within)) in
    let r = c.rise.ensures.compares l (omega (arith, i.0.within)) in
    omega (arith, i.2.2)

pub returns-then-len-eq0-clause-permutation : goal.returns-then-len-eq0-clause-permutation
returns-then-len-eq0-clause-permutation g c = subst (λ xs. IsPermutation (set xs 0 c.args.x) xs) (sym (nil_from_length c.args.nodes.now c.if-len-eq0.true)) (IsPermutation-refl [])

pub returns-then-len-eq0-clause-mends : goal.returns-then-len-eq0-clause-mends
returns-then-len-eq0-clause-mends g c =
    let o = (g.met.M.Ord g.world.𝓛 g.world.𝓜 g.world.𝓡 ((λ s x. x), (λ x. x), (λ x. x), λ x. x)).total in
    sifts.nothing_falls (node_cmp g.M.Ord.cmp) (node_total o) (set c.args.nodes.now 0 c.args.x) c.args.nodes.now 1 (length c.args.nodes.now) c.if-len-eq0.true
