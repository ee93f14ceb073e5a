use Rattle.std.proofs.Common.{◌+◌, take, ◌∷◌, sym, subst, ◌∙◌, arith}
use Rattle.std.specs.List.Sorted.{IsPermutation}
use Rattle.std.specs.Slice.Heapsort.{IsHeapWithin}
use Rattle.std.proofs.lemmas.List.Sorted.{length_permutation}
use Rattle.std.proofs.lemmas.List.{length-set}
use Rattle.chained_heap.specs.Order.{node_lt}
use Rattle.chained_heap.proofs.Slices.{remove_ordered, root_leaves, long_take, front}
use Rattle.chained_heap.proofs.sift.remove_root.Goals as goal

pub returns-clause-permutation : goal.returns-clause-permutation
returns-clause-permutation g c = λ root first.
    let xs = c.args.nodes.now in
    let l = long_take c.args.len xs (omega (arith, c.requires.within)) in
    let p = c.replace_root.ensures.permutation in
    let ln = length_permutation _ _ p ∙ length-set (take c.args.len xs) 0 c.args.x ∙ l in
    subst (λ ys. IsPermutation (take (c.args.len + 1) xs) (root ∷ ys)) (sym (front c.args.len c.replace_root.new.nodes _ (sym ln)))
    (root_leaves c.args.len xs c.replace_root.new.nodes root c.args.x c.requires.within c.requires.last first p)

pub returns-clause-ordered : goal.returns-clause-ordered
returns-clause-ordered g c = λ h.
    let xs = c.args.nodes.now in
    let l = long_take c.args.len xs (omega (arith, c.requires.within)) in
    let p = c.replace_root.ensures.permutation in
    let ln = length_permutation _ _ p ∙ length-set (take c.args.len xs) 0 c.args.x ∙ l in
    subst (λ ys. IsHeapWithin (node_lt g.M.Ord.cmp) ys 0 c.args.len) (sym (front c.args.len c.replace_root.new.nodes _ (sym ln)))
    (remove_ordered g.M.Ord.cmp xs c.replace_root.new.nodes c.args.len _ c.args.x (omega (arith, c.requires.within)) l ln c.replace_root.ensures.mends h)
