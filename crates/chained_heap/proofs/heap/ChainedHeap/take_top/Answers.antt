use Rattle.std.proofs.Common.{◌≡◌, ◌≢◌, ◌+◌, ◌-◌, ◌*◌, ◌^◌, ◌<◌, ◌≤◌, ℕ, Bool, length, get_or, take, drop, map, ◌∷◌, ◌++◌, sym, subst, ap, ◌∙◌, refl, arith, true, false, inl, All}
use Rattle.std.specs.Prelude.{not}
use Rattle.std.specs.List.{remove}
use Rattle.std.specs.Ordering.{is_eq, is_lt}
use Rattle.std.specs.List.Sorted.{IsPermutation}
use Rattle.std.proofs.lemmas.Cmp.{is_eq_index}
use Rattle.std.proofs.lemmas.List.{get_or_default, nil_from_length}
use Rattle.std.proofs.lemmas.List.Elements.{All-get_or}
use Rattle.std.proofs.lemmas.List.Sorted.{IsPermutation-remove}
use Rattle.chained_heap.specs.declared.node.Node.{Node}
use Rattle.chained_heap.specs.Shape.{Shape, IsOrdered, TakesChain, IsChainedHeap, IsTop, never, no_row, is_at, count_at, taken_at}
use Rattle.chained_heap.proofs.Slices.{long_take, get_take, front}
use Rattle.chained_heap.proofs.Orders.{eq_self}
use Rattle.chained_heap.proofs.Takes.{retest, free_at, root_real}
use Rattle.chained_heap.proofs.Tops.{top_is, root_most, none_at, none_left, all_done}
use Rattle.chained_heap.proofs.TakeTopLoop.{BeforeTake, AfterTake, let_loose, turned, closes, turn_cost}
use Rattle.chained_heap.proofs.heap.ChainedHeap.take_top.Given as given
use Rattle.chained_heap.proofs.heap.ChainedHeap.take_top.Goals as goal
use Rattle.chained_heap.proofs.heap.ChainedHeap.take_top.Goals.{After-index, After-deref_mut-in-loop-self, After-take_chain-self-inside}

flip : (b : Bool) → true ≡ not b → b ≡ false
flip true e = e
flip false e = refl

flop : (b : Bool) → false ≡ not b → b ≡ true
flop true e = refl
flop false e = e

-- ---- before the loop
-- the root, and that no node stands above it
first_is : (g : given.Over) (c : After-index g) → 0 < c.self.inside.len → c.index.result.now ≡ get_or (take c.self.inside.len c.self.inside.nodes.items) 0 c.index.result.now
first_is g c z = c.index.ensures ∙ sym (get_take c.self.inside.len 0 c.self.inside.nodes.items c.index.result.now z)

first_most : (g : given.Over) (c : After-index g) → 0 < c.self.inside.len → All (λ a. is_lt (g.M.Ord.cmp c.index.result.now.mono a.mono) ≡ false) (take c.self.inside.len c.self.inside.nodes.items)
first_most g c z =
    let i = c.self.invariant in
    root_most (g.met.M.Ord g.world.𝓛 g.world.𝓜 g.world.𝓡 ((λ s x. x), (λ x. x), (λ x. x), λ x. x)).total (take c.self.inside.len c.self.inside.nodes.items) c.index.result.now c.self.inside.len (long_take c.self.inside.len c.self.inside.nodes.items i.within) (first_is g c z) i.ordered

first_top : (g : given.Over) (c : After-index g) → 0 < c.self.inside.len → IsTop g.M.Ord.cmp c.self.inside.places.items c.index.result.now.mono
first_top g c z =
    let i = c.self.invariant in
    let perm = IsPermutation-remove (take c.self.inside.len c.self.inside.nodes.items) 0 c.index.result.now (omega (arith, z, long_take c.self.inside.len c.self.inside.nodes.items i.within)) (first_is g c z) in
    top_is (g.met.M.Ord g.world.𝓛 g.world.𝓜 g.world.𝓡 ((λ s x. x), (λ x. x), (λ x. x), λ x. x)).total never (take c.self.inside.len c.self.inside.nodes.items) (remove (take c.self.inside.len c.self.inside.nodes.items) 0) c.index.result.now c.self.inside.next.items c.self.inside.places.items c.self.inside.taken i.shape perm (first_most g c z)

-- ---- one turn of the loop
-- the root is out of the nodes, and its chain is loose
record Emptied (g : given.Over) (c : After-deref_mut-in-loop-self g) : Type 0 where
  turn : BeforeTake g.M.Ord.cmp c.index.result.now.mono c.loop-self.self-inside.nodes.items (c.loop-self.self-inside.len - 1 + 1) c.loop-self.self-inside.next.items c.loop-self.self-inside.places.items c.loop-self.self-inside.taken c.self.inside.places.items
  perm : IsPermutation (take (c.loop-self.self-inside.len - 1 + 1) c.loop-self.self-inside.nodes.items) (c.index-in-loop-self.result.now ∷ take (c.loop-self.self-inside.len - 1) c.remove_root.new.nodes)
  ordered : IsOrdered g.M.Ord.cmp c.remove_root.new.nodes (c.loop-self.self-inside.len - 1)
  long : length c.remove_root.new.nodes ≡ length c.loop-self.self-inside.nodes.items
  shape : Shape g.M.Ord.cmp (is_at g.M.Ord.cmp c.index.result.now.mono) (take (c.loop-self.self-inside.len - 1) c.remove_root.new.nodes) c.deref_mut-in-loop-self.result.now c.loop-self.self-inside.places.items c.index-in-loop-self.result.now.row c.loop-self.self-inside.taken

emptied : (g : given.Over) (c : After-deref_mut-in-loop-self g) → Emptied g c
emptied g c =
    let h = c.loop-self.self-inside in
    let i = c.loop-self.invariant in
    let n = h.len - 1 in
    let root = c.index-in-loop-self.result.now in
    let up : h.len ≡ n + 1 = omega (arith, i.nonempty) in
    let t = subst (λ k. BeforeTake g.M.Ord.cmp c.index.result.now.mono h.nodes.items k h.next.items h.places.items h.taken c.self.inside.places.items) up i.turn in
    let e = c.deref_mut.ensures.value in
    let first : (d : Node _) → get_or c.deref_mut.result.now 0 d ≡ c.index-in-loop-self.result.now = λ d. (λ k. get_or (e k) 0 d) ∙ get_or_default h.nodes.items 0 d c.index-in-loop-self.result.now (omega (arith, i.nonempty, t.turned.within)) ∙ sym c.index-in-loop-self.ensures in
    let perm = subst (λ ys. IsPermutation (take (h.len - 1 + 1) ys) (c.index-in-loop-self.result.now ∷ take (h.len - 1) c.remove_root.new.nodes)) e (c.remove_root.ensures.permutation c.index-in-loop-self.result.now first) in
    let same : is_eq (g.M.Ord.cmp c.index-in-loop-self.result.now.mono c.index.result.now.mono) ≡ true = (λ k. is_eq (g.M.Ord.cmp (c.index-in-loop-self.ensures k).mono c.index.result.now.mono)) ∙ t.root c.index-in-loop-self.result.now in
    let loose = let_loose (g.met.M.Ord g.world.𝓛 g.world.𝓜 g.world.𝓡 ((λ s x. x), (λ x. x), (λ x. x), λ x. x)).total c.index.result.now.mono h.nodes.items c.remove_root.new.nodes (h.len - 1) h.next.items h.places.items h.taken c.self.inside.places.items c.index-in-loop-self.result.now same perm t in
    record {
      turn = t;
      perm = perm;
      ordered = c.remove_root.ensures.ordered (subst (λ ys. IsOrdered g.M.Ord.cmp ys (h.len - 1 + 1)) (sym e) t.turned.ordered);
      long = c.remove_root.auto.nodes ∙ ap length e;
      shape = subst (λ nx. Shape g.M.Ord.cmp (is_at g.M.Ord.cmp c.index.result.now.mono) (take (h.len - 1) c.remove_root.new.nodes) nx h.places.items c.index-in-loop-self.result.now.row h.taken) (sym c.deref_mut-in-loop-self.ensures.value) loose;
    }

-- the rows of its chain are taken, at a cost
record Took (g : given.Over) (c : After-take_chain-self-inside g) : Type 0 where
  done : AfterTake g.M.Ord.cmp c.index.result.now.mono c.remove_root.new.nodes (c.loop-self.self-inside.len - 1) c.take_chain-self-inside.new.next c.take_chain-self-inside.new.places.items c.take_chain-self-inside.result c.self.inside.places.items
  nodes : take c.loop-self.self-inside.nodes.len (c.remove_root.new.nodes ++ drop (length c.remove_root.new.nodes) c.loop-self.self-inside.nodes.items) ≡ c.remove_root.new.nodes
  next : take c.loop-self.self-inside.next.len (c.take_chain-self-inside.new.next ++ drop (length c.take_chain-self-inside.new.next) c.loop-self.self-inside.next.items) ≡ c.take_chain-self-inside.new.next
  left : length (take (c.loop-self.self-inside.len - 1) c.remove_root.new.nodes) ≡ c.loop-self.self-inside.len - 1
  cost : (l : ℕ) → length c.self.inside.places.items < 2 ^ l →
      c.remove_root.new.steps.compares + 1 + 2 * l * count_at (is_at g.M.Ord.cmp c.index.result.now.mono) c.take_chain-self-inside.new.places.items ≤ c.args.steps.now.compares + 2 * l * count_at (is_at g.M.Ord.cmp c.index.result.now.mono) c.self.inside.places.items

took : (g : given.Over) (c : After-take_chain-self-inside g) → Took g c
took g c =
    let h = c.loop-self.self-inside in
    let i = c.loop-self.invariant in
    let f = emptied g c.before.before in
    let t = f.turn in
    let chain = c.take_chain-self-inside.ensures (is_at g.M.Ord.cmp c.index.result.now.mono) (take (h.len - 1) c.remove_root.new.nodes) refl f.shape in
    let done = turned (g.met.M.Ord g.world.𝓛 g.world.𝓜 g.world.𝓡 ((λ s x. x), (λ x. x), (λ x. x), λ x. x)).total c.index.result.now.mono h.nodes.items c.remove_root.new.nodes (h.len - 1) h.next.items c.take_chain-self-inside.new.next h.places.items c.take_chain-self-inside.new.places.items h.taken c.take_chain-self-inside.result c.self.inside.places.items c.index-in-loop-self.result.now f.perm f.long f.ordered t chain in
    let long : length c.take_chain-self-inside.new.next ≡ length h.next.items = c.take_chain-self-inside.auto.next ∙ ap length c.deref_mut-in-loop-self.ensures.value in
    let real : c.index-in-loop-self.result.now.row ≢ no_row = root_real g.M.Ord.cmp (is_at g.M.Ord.cmp c.index.result.now.mono) (take (h.len - 1 + 1) h.nodes.items) (take (h.len - 1) c.remove_root.new.nodes) c.index-in-loop-self.result.now h.next.items h.places.items h.taken t.turned.shape f.perm in
    record {
      done = done;
      nodes = front h.nodes.len c.remove_root.new.nodes (drop (length c.remove_root.new.nodes) h.nodes.items) (omega (arith, h.nodes.ok.0, f.long));
      next = front h.next.len c.take_chain-self-inside.new.next (drop (length c.take_chain-self-inside.new.next) h.next.items) (omega (arith, h.next.ok.0, long));
      left = long_take (h.len - 1) c.remove_root.new.nodes done.within;
      cost = λ l b. turn_cost l (h.len - 1) (length c.self.inside.places.items) (count_at (is_at g.M.Ord.cmp c.index.result.now.mono) h.places.items) (count_at (is_at g.M.Ord.cmp c.index.result.now.mono) c.take_chain-self-inside.new.places.items) (count_at (is_at g.M.Ord.cmp c.index.result.now.mono) c.self.inside.places.items) c.args.steps.now.compares c.loop-self.steps.compares c.remove_root.new.steps.compares
          (omega (arith, t.turned.within, t.turned.long, t.turned.kept)) b c.remove_root.ensures.compares (i.counted l b) (chain.some (λ q. real (sym q)));
    }

-- so the heap is whole again
whole : (g : given.Over) (c : After-take_chain-self-inside g) → IsChainedHeap g.M.Ord.cmp (take c.loop-self.self-inside.nodes.len (c.remove_root.new.nodes ++ drop (length c.remove_root.new.nodes) c.loop-self.self-inside.nodes.items)) (c.loop-self.self-inside.len - 1) (take c.loop-self.self-inside.next.len (c.take_chain-self-inside.new.next ++ drop (length c.take_chain-self-inside.new.next) c.loop-self.self-inside.next.items)) c.take_chain-self-inside.new.places.items c.take_chain-self-inside.result
whole g c =
    let f = took g c in
    subst (λ ns. IsChainedHeap g.M.Ord.cmp ns (c.loop-self.self-inside.len - 1) (take c.loop-self.self-inside.next.len (c.take_chain-self-inside.new.next ++ drop (length c.take_chain-self-inside.new.next) c.loop-self.self-inside.next.items)) c.take_chain-self-inside.new.places.items c.take_chain-self-inside.result) (sym f.nodes)
    (subst (λ ns. IsChainedHeap g.M.Ord.cmp c.remove_root.new.nodes (c.loop-self.self-inside.len - 1) ns c.take_chain-self-inside.new.places.items c.take_chain-self-inside.result) (sym f.next)
    (closes (g.met.M.Ord g.world.𝓛 g.world.𝓜 g.world.𝓡 ((λ s x. x), (λ x. x), (λ x. x), λ x. x)).total c.index.result.now.mono c.remove_root.new.nodes (c.loop-self.self-inside.len - 1) c.take_chain-self-inside.new.next c.take_chain-self-inside.new.places.items c.take_chain-self-inside.result c.self.inside.places.items f.done))

-- ---- the goals
pub loop-self-init : goal.loop-self-init
loop-self-init g c =
    let i = c.self.invariant in
    let z : 0 < c.self.inside.len = omega (arith, c.if-self-eq0.false) in
    record {
      turn = record {
        turned = record {
          within = i.within;
          long = i.long;
          kept = refl;
          ordered = i.ordered;
          shape = retest g.M.Ord.cmp never (take c.self.inside.len c.self.inside.nodes.items) c.self.inside.next.items c.self.inside.places.items c.self.inside.taken i.shape (is_at g.M.Ord.cmp c.index.result.now.mono) (free_at g.M.Ord.cmp c.index.result.now.mono);
          below = first_most g (goal.at.loop-self-init g c).After-index z;
          may = λ r. inl refl;
        };
        root = λ d. (λ k. is_eq (g.M.Ord.cmp ((get_or_default c.self.inside.nodes.items 0 d c.index.result.now (omega (arith, i.within)) ∙ sym c.index.ensures) k).mono c.index.result.now.mono)) ∙ eq_self (g.met.M.Ord g.world.𝓛 g.world.𝓜 g.world.𝓡 ((λ s x. x), (λ x. x), (λ x. x), λ x. x)).total c.index.result.now.mono;
      };
      nonempty = z;
      counted = λ b q. omega arith;
      products = refl;
    }

pub take_chain-self-inside-requires-after_bounds : goal.take_chain-self-inside-requires-after_bounds
take_chain-self-inside-requires-after_bounds g c = λ κs m. record {
  want = is_at g.M.Ord.cmp c.index.result.now.mono;
  nodes = take (c.loop-self.self-inside.len - 1) c.remove_root.new.nodes;
  shape = (emptied g (goal.at.take_chain-self-inside-requires-after_bounds g c).After-deref_mut-in-loop-self).shape;
}

pub invariant_of-self : goal.invariant_of-self
invariant_of-self g c = whole g (goal.at.invariant_of-self g c).After-take_chain-self-inside

pub invariant_of-self-then-ne : goal.invariant_of-self-then-ne
invariant_of-self-then-ne g c = whole g (goal.at.invariant_of-self-then-ne g c).After-take_chain-self-inside

pub returns-then-self-eq0-2-clause-places : goal.returns-then-self-eq0-2-clause-places
returns-then-self-eq0-2-clause-places g c =
    let f = took g (goal.at.returns-then-self-eq0-2-clause-places g c).After-take_chain-self-inside in
    let top = first_top g (goal.at.returns-then-self-eq0-2-clause-places g c).After-index (omega (arith, c.if-self-eq0.false)) in
    let none = none_left (g.met.M.Ord g.world.𝓛 g.world.𝓜 g.world.𝓡 ((λ s x. x), (λ x. x), (λ x. x), λ x. x)).total (is_at g.M.Ord.cmp c.index.result.now.mono) (take (c.loop-self.self-inside.len - 1) c.remove_root.new.nodes) c.index.result.now.mono c.take_chain-self-inside.new.next c.take_chain-self-inside.new.places.items c.take_chain-self-inside.result f.done.shape (nil_from_length _ (f.left ∙ c.if-self-eq0-2.true)) in
    subst (λ ys. IsTop g.M.Ord.cmp ys c.index.result.now.mono × (c.take_chain-self-inside.new.places.items ≡ map (taken_at g.M.Ord.cmp c.index.result.now.mono) ys)) c.self.view_is
    (top, all_done g.M.Ord.cmp c.index.result.now.mono c.self.inside.places.items c.take_chain-self-inside.new.places.items f.done.kept f.done.may none)

pub returns-then-self-eq0-2-clause-compares : goal.returns-then-self-eq0-2-clause-compares
returns-then-self-eq0-2-clause-compares g c = λ l b.
    let s = c.self.view_is in
    let f = took g (goal.at.returns-then-self-eq0-2-clause-compares g c).After-take_chain-self-inside in
    subst (λ ys. c.remove_root.new.steps.compares ≤ c.args.steps.now.compares + 2 * l * count_at (is_at g.M.Ord.cmp c.index.result.now.mono) ys) s
    (let k = f.cost l (subst (λ ys. length ys < 2 ^ l) (sym s) b) in omega (arith, k))

pub returns-then-ne-clause-places : goal.returns-then-ne-clause-places
returns-then-ne-clause-places g c =
    let f = took g (goal.at.returns-then-ne-clause-places g c).After-take_chain-self-inside in
    let top = first_top g (goal.at.returns-then-ne-clause-places g c).After-index (omega (arith, c.if-self-eq0.false)) in
    let monos = g.met.M.Monomial g.world.𝓛 g.world.𝓜 g.world.𝓡 ((λ s x. x), (λ x. x), (λ x. x), λ x. x) in
    let pos : 0 < c.loop-self.self-inside.len - 1 = omega (arith, c.if-self-eq0-2.false) in
    let is1 : c.index-in-loop-self-2.result.now ≡ get_or c.remove_root.new.nodes 0 c.index-in-loop-self-2.result.now = subst (λ ns. c.index-in-loop-self-2.result.now ≡ get_or ns 0 c.index-in-loop-self-2.result.now) f.nodes c.index-in-loop-self-2.ensures in
    let is2 : c.index-in-loop-self-2.result.now ≡ get_or (take (c.loop-self.self-inside.len - 1) c.remove_root.new.nodes) 0 c.index-in-loop-self-2.result.now = is1 ∙ sym (get_take (c.loop-self.self-inside.len - 1) 0 c.remove_root.new.nodes c.index-in-loop-self-2.result.now pos) in
    let most = root_most (g.met.M.Ord g.world.𝓛 g.world.𝓜 g.world.𝓡 ((λ s x. x), (λ x. x), (λ x. x), λ x. x)).total (take (c.loop-self.self-inside.len - 1) c.remove_root.new.nodes) c.index-in-loop-self-2.result.now (c.loop-self.self-inside.len - 1) f.left is2 f.done.ordered in
    let below = (λ k. is_lt (g.M.Ord.cmp c.index.result.now.mono (is2 k).mono)) ∙ All-get_or (λ a. is_lt (g.M.Ord.cmp c.index.result.now.mono a.mono) ≡ false) (take (c.loop-self.self-inside.len - 1) c.remove_root.new.nodes) 0 c.index-in-loop-self-2.result.now (omega (arith, pos, f.left)) f.done.below in
    let ne : is_eq (g.M.Ord.cmp c.index-in-loop-self-2.result.now.mono c.index.result.now.mono) ≡ false = ap is_eq (monos.ordered _ c.index.result.now.mono ∙ sym c.higher.ensures.value) ∙ is_eq_index c.higher.result ∙ flip _ c.if-ne.ensures in
    let none = none_at (g.met.M.Ord g.world.𝓛 g.world.𝓜 g.world.𝓡 ((λ s x. x), (λ x. x), (λ x. x), λ x. x)).total (is_at g.M.Ord.cmp c.index.result.now.mono) (take (c.loop-self.self-inside.len - 1) c.remove_root.new.nodes) c.index-in-loop-self-2.result.now c.index.result.now.mono c.take_chain-self-inside.new.next c.take_chain-self-inside.new.places.items c.take_chain-self-inside.result f.done.shape most below ne in
    subst (λ ys. IsTop g.M.Ord.cmp ys c.index.result.now.mono × (c.take_chain-self-inside.new.places.items ≡ map (taken_at g.M.Ord.cmp c.index.result.now.mono) ys)) c.self.view_is
    (top, all_done g.M.Ord.cmp c.index.result.now.mono c.self.inside.places.items c.take_chain-self-inside.new.places.items f.done.kept f.done.may none)

pub returns-then-ne-clause-compares : goal.returns-then-ne-clause-compares
returns-then-ne-clause-compares g c = λ l b.
    let s = c.self.view_is in
    let f = took g (goal.at.returns-then-ne-clause-compares g c).After-take_chain-self-inside in
    subst (λ ys. c.higher.new.steps.compares ≤ c.args.steps.now.compares + 2 * l * count_at (is_at g.M.Ord.cmp c.index.result.now.mono) ys) s
    (let k = f.cost l (subst (λ ys. length ys < 2 ^ l) (sym s) b) in omega (arith, k, c.higher.ensures.compares))

pub loop-self-preserved : goal.loop-self-preserved
loop-self-preserved g c =
    let f = took g (goal.at.loop-self-preserved g c).After-take_chain-self-inside in
    let h = c.loop-self.self-inside in
    let monos = g.met.M.Monomial g.world.𝓛 g.world.𝓜 g.world.𝓡 ((λ s x. x), (λ x. x), (λ x. x), λ x. x) in
    let is1 : c.index-in-loop-self-2.result.now ≡ get_or c.remove_root.new.nodes 0 c.index-in-loop-self-2.result.now = subst (λ ns. c.index-in-loop-self-2.result.now ≡ get_or ns 0 c.index-in-loop-self-2.result.now) f.nodes c.index-in-loop-self-2.ensures in
    let eq : is_eq (g.M.Ord.cmp c.index-in-loop-self-2.result.now.mono c.index.result.now.mono) ≡ true = ap is_eq (monos.ordered _ c.index.result.now.mono ∙ sym c.higher.ensures.value) ∙ is_eq_index c.higher.result ∙ flop _ c.if-ne.ensures in
    let roots : (d : Node _) → is_eq (g.M.Ord.cmp (get_or c.remove_root.new.nodes 0 d).mono c.index.result.now.mono) ≡ true = λ d. (λ k. is_eq (g.M.Ord.cmp ((get_or_default c.remove_root.new.nodes 0 d c.index-in-loop-self-2.result.now (omega (arith, c.if-self-eq0-2.false, f.done.within)) ∙ sym is1) k).mono c.index.result.now.mono)) ∙ eq in
    let turn : BeforeTake g.M.Ord.cmp c.index.result.now.mono c.remove_root.new.nodes (c.loop-self.self-inside.len - 1) c.take_chain-self-inside.new.next c.take_chain-self-inside.new.places.items c.take_chain-self-inside.result c.self.inside.places.items = record { turned = f.done; root = roots } in
    record {
      turn = subst (λ ns. BeforeTake g.M.Ord.cmp c.index.result.now.mono ns (c.loop-self.self-inside.len - 1) (take h.next.len (c.take_chain-self-inside.new.next ++ drop (length c.take_chain-self-inside.new.next) h.next.items)) c.take_chain-self-inside.new.places.items c.take_chain-self-inside.result c.self.inside.places.items) (sym f.nodes)
          (subst (λ ns. BeforeTake g.M.Ord.cmp c.index.result.now.mono c.remove_root.new.nodes (c.loop-self.self-inside.len - 1) ns c.take_chain-self-inside.new.places.items c.take_chain-self-inside.result c.self.inside.places.items) (sym f.next) turn);
      nonempty = omega (arith, c.if-self-eq0-2.false);
      counted = λ b q. let k = f.cost b q in omega (arith, k, c.higher.ensures.compares);
      products = c.higher.ensures.products ∙ c.remove_root.ensures.products ∙ c.loop-self.invariant.products;
    }
