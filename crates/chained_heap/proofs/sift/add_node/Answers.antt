use Rattle.std.proofs.Common.{◌≡◌, ◌+◌, ◌-◌, length, set, take, ◌∷◌, [], ◌++◌, sym, subst, ◌∙◌, arith}
use Rattle.std.specs.List.Sorted.{IsPermutation}
use Rattle.std.specs.Slice.Heapsort.{IsHeapWithin}
use Rattle.std.proofs.lemmas.List.Sorted.{length_permutation}
use Rattle.std.proofs.lemmas.List.{length-set}
use Rattle.chained_heap.specs.Order.{node_lt}
use Rattle.chained_heap.proofs.Slices.{climbs_longer, rests_longer, add_ordered, long_take, front, set_last}
use Rattle.chained_heap.proofs.sift.add_node.Goals as goal

pub lower-requires-clause-climbs : goal.lower-requires-clause-climbs
lower-requires-clause-climbs g c = λ κs m.
    let l = long_take (c.args.len + 1) c.args.nodes.now (omega (arith, c.requires.within)) in
    climbs_longer g.M.Ord.cmp c.args.nodes.now c.args.x.mono c.args.len _ c.args.to (omega arith) c.requires.climbs

pub lower-requires-clause-rests : goal.lower-requires-clause-rests
lower-requires-clause-rests g c = λ κs m. rests_longer g.M.Ord.cmp c.args.nodes.now c.args.x c.args.len c.args.to c.requires.climbs c.requires.rests

pub returns-clause-permutation : goal.returns-clause-permutation
returns-clause-permutation g c =
    let xs = c.args.nodes.now in
    let n = c.args.len in
    let l = long_take (c.args.len + 1) xs (omega (arith, c.requires.within)) in
    let k : length (take (c.args.len + 1) xs) - 1 ≡ c.args.len = omega arith in
    let p = c.lower.ensures.permutation in
    let ln = length_permutation _ _ p ∙ length-set (take (c.args.len + 1) xs) (length (take (c.args.len + 1) xs) - 1) c.args.x ∙ l in
    subst (IsPermutation (take c.args.len xs ++ c.args.x ∷ [])) (sym (front (c.args.len + 1) c.lower.new.nodes _ (sym ln)))
    (subst (λ ys. IsPermutation ys c.lower.new.nodes) ((λ i. set (take (c.args.len + 1) xs) (k i) c.args.x) ∙ set_last c.args.len xs c.args.x c.requires.within) p)

pub returns-clause-ordered : goal.returns-clause-ordered
returns-clause-ordered g c = λ h.
    let xs = c.args.nodes.now in
    let l = long_take (c.args.len + 1) xs (omega (arith, c.requires.within)) in
    let p = c.lower.ensures.permutation in
    let ln = length_permutation _ _ p ∙ length-set (take (c.args.len + 1) xs) (length (take (c.args.len + 1) xs) - 1) c.args.x ∙ l in
    subst (λ ys. IsHeapWithin (node_lt g.M.Ord.cmp) ys 0 (c.args.len + 1)) (sym (front (c.args.len + 1) c.lower.new.nodes _ (sym ln)))
    (add_ordered g.M.Ord.cmp xs c.lower.new.nodes c.args.len (length (take (c.args.len + 1) xs) - 1) c.args.x (omega arith) c.lower.ensures.sifts h)
