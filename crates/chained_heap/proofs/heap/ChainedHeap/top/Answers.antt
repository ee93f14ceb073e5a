use Rattle.std.proofs.Common.{◌≡◌, ◌<◌, get_or, take, sym, subst, ◌∙◌, arith}
use Rattle.std.specs.List.{remove}
use Rattle.std.proofs.lemmas.List.Sorted.{IsPermutation-remove}
use Rattle.chained_heap.specs.Shape.{IsTop, never}
use Rattle.chained_heap.proofs.Slices.{long_take, get_take}
use Rattle.chained_heap.proofs.Tops.{top_is, root_most}
use Rattle.chained_heap.proofs.heap.ChainedHeap.top.Goals as goal

pub returns : goal.returns
returns g c =
    let o = (g.met.M.Ord g.world.𝓛 g.world.𝓜 g.world.𝓡 ((λ s x. x), (λ x. x), (λ x. x), λ x. x)).total in
    let h = c.self.inside in
    let root = c.index.result.now in
    let z : 0 < c.self.inside.len = omega (arith, c.if-self-eq0.false) in
    let l = long_take c.self.inside.len c.self.inside.nodes.items c.self.invariant.within in
    let is : c.index.result.now ≡ get_or (take c.self.inside.len c.self.inside.nodes.items) 0 c.index.result.now = c.index.ensures ∙ sym (get_take c.self.inside.len 0 c.self.inside.nodes.items c.index.result.now z) in
    let perm = IsPermutation-remove (take c.self.inside.len c.self.inside.nodes.items) 0 c.index.result.now (omega arith) is in
    subst (λ ps. IsTop g.M.Ord.cmp ps c.index.result.now.mono) c.self.view_is
    (top_is o never (take c.self.inside.len c.self.inside.nodes.items) (remove (take c.self.inside.len c.self.inside.nodes.items) 0) c.index.result.now h.next.items h.places.items h.taken c.self.invariant.shape perm
    (root_most o (take c.self.inside.len c.self.inside.nodes.items) c.index.result.now c.self.inside.len l is c.self.invariant.ordered))
