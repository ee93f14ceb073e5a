use Rattle.std.proofs.Common.{◌≡◌, ◌+◌, ◌-◌, ◌/◌, ◌^◌, ◌<◌, ◌⊎◌, length, get_or, set, take, drop, ◌∷◌, [], ◌++◌, sym, subst, ap, ◌∙◌, arith, true, false}
use Rattle.std.specs.Ordering.{is_eq}
use Rattle.std.specs.List.Sorted.{IsPermutation}
use Rattle.std.specs.Slice.Heapsort.{IsHeapWithin}
use Rattle.std.proofs.lemmas.List.{length-set, get_or_default}
use Rattle.std.proofs.Math.Seq.{take-set-lt}
use Rattle.chained_heap.specs.Order.{node_lt, Climbs}
use Rattle.chained_heap.specs.declared.node.Node.{Node}
use Rattle.chained_heap.specs.declared.node.Place.TheVariants.{In}
use Rattle.chained_heap.specs.Shape.{Shape, IsChainedHeap, never, no_row, place_at}
use Rattle.chained_heap.proofs.Insertions.{insert_room, insert_chain, has_room}
use Rattle.chained_heap.proofs.Slices.{same_mono, long_take, front, get_take}
use Rattle.chained_heap.proofs.Orders.{eq_back, eq_self}
use Rattle.chained_heap.proofs.heap.ChainedHeap.insert.Goals as goal

pub invariant_of-self : goal.invariant_of-self
invariant_of-self g c =
    let o = (g.met.M.Ord g.world.𝓛 g.world.𝓜 g.world.𝓡 ((λ s x. x), (λ x. x), (λ x. x), λ x. x)).total in
    let h = c.self.inside in
    let i = c.self.invariant in
    let spot = subst (λ ys. (c.in-Chain.at < length (take c.self.inside.len ys)) × ((d : Node _) → is_eq (g.M.Ord.cmp (get_or (take c.self.inside.len ys) c.in-Chain.at d).mono c.args.mono) ≡ true)) c.deref.ensures.value c.in-Chain.ensures.spot in
    let a = c.index.result.now in
    let l = long_take c.self.inside.len c.self.inside.nodes.items i.within in
    let kh : c.in-Chain.at < length (take c.self.inside.len c.self.inside.nodes.items) = spot.0 in
    let kl : c.in-Chain.at < c.self.inside.len = omega arith in
    let is : c.index.result.now ≡ get_or (take c.self.inside.len c.self.inside.nodes.items) c.in-Chain.at c.index.result.now = c.index.ensures ∙ sym (get_take c.self.inside.len c.in-Chain.at c.self.inside.nodes.items c.index.result.now kl) in
    let nh : c.in-Chain.at < length c.self.inside.nodes.items = omega (arith, i.within) in
    let same : c.index_mut-in-Chain.result.now.mono ≡ c.index.result.now.mono = ap (λ b. b.mono) (c.index_mut-in-Chain.ensures.value ∙ get_or_default c.self.inside.nodes.items c.in-Chain.at _ c.index.result.now nh ∙ sym c.index.ensures) in
    let eq = eq_back o a.mono c.args.mono ((λ k. is_eq (g.M.Ord.cmp (is k).mono c.args.mono)) ∙ spot.1 c.index.result.now) in
    let cut = take-set-lt c.self.inside.len c.self.inside.nodes.items c.in-Chain.at (record { mono = c.index.result.now.mono; row = c.args.row }) kl in
    let lp = length-set h.places.items c.args.row (In c.args.mono) in
    let ln = length-set h.nodes.items c.in-Chain.at (record { mono = c.index.result.now.mono; row = c.args.row }) in
    let view = c.self.view_is in
    subst (λ ps. IsChainedHeap g.M.Ord.cmp (set c.self.inside.nodes.items c.in-Chain.at (record { mono = c.index_mut-in-Chain.result.now.mono; row = c.args.row })) c.self.inside.len (set c.self.inside.next.items c.args.row c.index.result.now.row) ps c.self.inside.taken) (sym c.with-self-inside.ensures)
    (subst (λ m. IsChainedHeap g.M.Ord.cmp (set c.self.inside.nodes.items c.in-Chain.at (record { mono = m; row = c.args.row })) c.self.inside.len (set c.self.inside.next.items c.args.row c.index.result.now.row) (set c.self.inside.places.items c.args.row (In c.args.mono)) c.self.inside.taken) (sym same) record {
      within = omega (arith, i.within, ln);
      long = ln ∙ i.long ∙ sym lp;
      ordered = subst (λ ys. IsHeapWithin (node_lt g.M.Ord.cmp) ys 0 c.self.inside.len) (sym cut)
          (same_mono g.M.Ord.cmp (take c.self.inside.len c.self.inside.nodes.items) c.in-Chain.at c.args.row c.self.inside.len c.index.result.now kh is i.ordered);
      shape = subst (λ ys. Shape g.M.Ord.cmp never ys (set c.self.inside.next.items c.args.row c.index.result.now.row) (set c.self.inside.places.items c.args.row (In c.args.mono)) no_row c.self.inside.taken) (sym cut)
          (insert_chain g.M.Ord.cmp never (take c.self.inside.len c.self.inside.nodes.items) h.next.items h.places.items no_row h.taken i.shape c.args.row c.args.mono
          (subst (λ ps. c.args.row < length ps) (sym view) c.requires.below) ((λ k. place_at (view k) c.args.row) ∙ c.requires.out) c.in-Chain.at c.index.result.now kh is eq);
    })

pub add_node-requires-clause-within : goal.add_node-requires-clause-within
add_node-requires-clause-within g c = λ κs m.
    let h = c.self.inside in
    let i = c.self.invariant in
    let view = c.self.view_is in
    let r = has_room g.M.Ord.cmp never (take c.self.inside.len c.self.inside.nodes.items) h.next.items h.places.items no_row h.taken i.shape c.args.row c.args.mono
    (subst (λ ps. c.args.row < length ps) (sym view) c.requires.below) ((λ k. place_at (view k) c.args.row) ∙ c.requires.out) in
    let l = long_take c.self.inside.len c.self.inside.nodes.items i.within in
    subst (λ ys. c.self.inside.len < length ys) (sym c.deref_mut.ensures.value) (omega (arith, i.long))

pub add_node-requires-clause-climbs : goal.add_node-requires-clause-climbs
add_node-requires-clause-climbs g c = λ κs m.
    let l = long_take c.self.inside.len c.self.inside.nodes.items c.self.invariant.within in
    let e = c.deref_mut.ensures.value in
    subst (λ ys. Climbs g.M.Ord.cmp (take c.self.inside.len ys) c.args.mono c.self.inside.len c.in-Room.at) (sym e)
    (subst (λ n. Climbs g.M.Ord.cmp (take c.self.inside.len c.self.inside.nodes.items) c.args.mono n c.in-Room.at) l (subst (λ ys. Climbs g.M.Ord.cmp (take c.self.inside.len ys) c.args.mono (length (take c.self.inside.len ys)) c.in-Room.at) c.deref.ensures.value c.in-Room.ensures.spot.0))

pub add_node-requires-clause-rests : goal.add_node-requires-clause-rests
add_node-requires-clause-rests g c = λ κs m.
    let e = c.deref_mut.ensures.value in
    subst (λ ys. (c.in-Room.at ≡ 0) ⊎ ((d : Node _) → node_lt g.M.Ord.cmp (get_or (take c.self.inside.len ys) ((c.in-Room.at - 1) / 2) d) (record { mono = c.args.mono; row = c.args.row }) ≡ false)) (c.deref.ensures.value ∙ sym e) c.in-Room.ensures.spot.1

pub invariant_of-self-in-Room : goal.invariant_of-self-in-Room
invariant_of-self-in-Room g c =
    let o = (g.met.M.Ord g.world.𝓛 g.world.𝓜 g.world.𝓡 ((λ s x. x), (λ x. x), (λ x. x), λ x. x)).total in
    let h = c.self.inside in
    let i = c.self.invariant in
    let view = c.self.view_is in
    let e = c.deref_mut.ensures.value in
    let xs = c.self.inside.nodes.items in
    let ys = c.add_node.new.nodes in
    let ly : length c.add_node.new.nodes ≡ length c.self.inside.nodes.items = c.add_node.auto.nodes ∙ ap length e in
    let whole = front c.self.inside.nodes.len c.add_node.new.nodes (drop (length c.add_node.new.nodes) c.self.inside.nodes.items) (omega (arith, h.nodes.ok.0)) in
    let below = subst (λ ps. c.args.row < length ps) (sym view) c.requires.below in
    let r = has_room g.M.Ord.cmp never (take c.self.inside.len c.self.inside.nodes.items) h.next.items h.places.items no_row h.taken i.shape c.args.row c.args.mono
    below ((λ k. place_at (view k) c.args.row) ∙ c.requires.out) in
    let l = long_take c.self.inside.len c.self.inside.nodes.items i.within in
    let lp = length-set h.places.items c.args.row (In c.args.mono) in
    let perm = subst (λ zs. IsPermutation (take c.self.inside.len zs ++ record { mono = c.args.mono; row = c.args.row } ∷ []) (take (c.self.inside.len + 1) c.add_node.new.nodes)) e c.add_node.ensures.permutation in
    subst (λ ps. IsChainedHeap g.M.Ord.cmp (take c.self.inside.nodes.len (c.add_node.new.nodes ++ drop (length c.add_node.new.nodes) c.self.inside.nodes.items)) (c.self.inside.len + 1) (set c.self.inside.next.items c.args.row 4294967295) ps c.self.inside.taken) (sym c.with-self-inside-in-Room.ensures)
    (subst (λ zs. IsChainedHeap g.M.Ord.cmp zs (c.self.inside.len + 1) (set c.self.inside.next.items c.args.row 4294967295) (set c.self.inside.places.items c.args.row (In c.args.mono)) c.self.inside.taken) (sym whole) record {
      within = omega (arith, i.long);
      long = ly ∙ i.long ∙ sym lp;
      ordered = c.add_node.ensures.ordered (subst (λ zs. IsHeapWithin (node_lt g.M.Ord.cmp) (take c.self.inside.len zs) 0 c.self.inside.len) (sym e) i.ordered);
      shape = insert_room g.M.Ord.cmp never (take c.self.inside.len c.self.inside.nodes.items) h.next.items h.places.items no_row h.taken i.shape c.args.row c.args.mono
          below ((λ k. place_at (view k) c.args.row) ∙ c.requires.out) (take (c.self.inside.len + 1) c.add_node.new.nodes) perm (eq_self o c.args.mono);
    })

pub returns-in-Chain-clause-compares : goal.returns-in-Chain-clause-compares
returns-in-Chain-clause-compares g c = λ l b.
    let h = c.self.inside in
    let i = c.self.invariant in
    let view = c.self.view_is in
    let r = has_room g.M.Ord.cmp never (take c.self.inside.len c.self.inside.nodes.items) h.next.items h.places.items no_row h.taken i.shape c.args.row c.args.mono
    (subst (λ ps. c.args.row < length ps) (sym view) c.requires.below) ((λ k. place_at (view k) c.args.row) ∙ c.requires.out) in
    let v = subst (λ ps. length ps < 2 ^ l) (sym view) b in
    c.find.ensures.compares l (subst (λ ys. length (take c.self.inside.len ys) + 1 < 2 ^ l) (sym c.deref.ensures.value) (omega arith))

pub returns-in-Room-clause-compares : goal.returns-in-Room-clause-compares
returns-in-Room-clause-compares g c = λ l b.
    let h = c.self.inside in
    let i = c.self.invariant in
    let view = c.self.view_is in
    let r = has_room g.M.Ord.cmp never (take c.self.inside.len c.self.inside.nodes.items) h.next.items h.places.items no_row h.taken i.shape c.args.row c.args.mono
    (subst (λ ps. c.args.row < length ps) (sym view) c.requires.below) ((λ k. place_at (view k) c.args.row) ∙ c.requires.out) in
    let v = subst (λ ps. length ps < 2 ^ l) (sym view) b in
    c.find.ensures.compares l (subst (λ ys. length (take c.self.inside.len ys) + 1 < 2 ^ l) (sym c.deref.ensures.value) (omega arith))
