use Rattle.std.proofs.Common.{◌≡◌, ◌<◌, length, get_or, set, take, sym, subst, ◌∙◌, refl, arith}
use Rattle.std.proofs.lemmas.List.{length-set, get_or_default}
use Rattle.chained_heap.specs.declared.node.Place.TheVariants.{Out, Taken}
use Rattle.chained_heap.specs.Shape.{never, place_at, is_taken, no_row, Shape, IsChainedHeap}
use Rattle.chained_heap.proofs.Takes.{pop_one, none_taken, taken_place}
use Rattle.chained_heap.proofs.heap.ChainedHeap.pop_taken.Goals as goal

pub returns-then-row : goal.returns-then-row
returns-then-row g c =
    let h = c.self.inside in
    (λ r. (λ i. is_taken (place_at (sym c.self.view_is i) r)) ∙ none_taken g.M.Ord.cmp never (take h.len h.nodes.items) h.next.items h.places.items no_row h.taken c.self.invariant.shape c.if-row.true r _ refl, refl)

pub index-requires : goal.index-requires
index-requires g c =
    let h = c.self.inside in
    let p = pop_one g.M.Ord.cmp never (take h.len h.nodes.items) h.next.items h.places.items no_row h.taken c.self.invariant.shape c.if-row.false in
    omega (arith, p.0, h.next.ok.0)

pub invariant_of-self : goal.invariant_of-self
invariant_of-self g c =
    let h = c.self.inside in
    let p = pop_one g.M.Ord.cmp never (take h.len h.nodes.items) h.next.items h.places.items no_row h.taken c.self.invariant.shape c.if-row.false in
    let read : c.index.result.now ≡ get_or h.next.items h.taken 0 = c.index.ensures ∙ get_or_default h.next.items h.taken c.index.result.now 0 p.0 in
    subst (λ ps. IsChainedHeap g.M.Ord.cmp h.nodes.items h.len h.next.items ps c.index.result.now) (sym c.with-self-inside.ensures) record {
      within = c.self.invariant.within;
      long = c.self.invariant.long ∙ sym (length-set h.places.items h.taken Out);
      ordered = c.self.invariant.ordered;
      shape = subst (Shape g.M.Ord.cmp never (take h.len h.nodes.items) h.next.items (set h.places.items h.taken Out) no_row) (sym read) p.2;
    }

pub returns : goal.returns
returns g c =
    let h = c.self.inside in
    let p = pop_one g.M.Ord.cmp never (take h.len h.nodes.items) h.next.items h.places.items no_row h.taken c.self.invariant.shape c.if-row.false in
    let e = c.self.view_is in
    subst (λ ps. (h.taken < length ps) × (place_at ps h.taken ≡ Taken) × (c.with-self-inside.result.items ≡ set ps h.taken Out)) e (omega (arith, p.0, c.self.invariant.shape.long), taken_place _ p.1, c.with-self-inside.ensures)
