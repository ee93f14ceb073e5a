-- The root is the greatest.
use Rattle.std.proofs.Common.{ℕ, ◌≡◌, Bool, false, cond, List, [], ◌∷◌, length, get_or, map, refl, sym, ap, subst, ◌∙◌, arith, inl, inr}
use Rattle.std.specs.declared.cmp.Ordering.{Ordering}
use Rattle.std.specs.Ordering.{is_eq, is_lt}
use Rattle.std.specs.Cmp.{IsTotalOrder}
use Rattle.std.specs.List.{All}
use Rattle.std.specs.List.Sorted.{IsPermutation}
use Rattle.std.specs.BinaryHeap.{IsHeap}
use Rattle.std.specs.Slice.Heapsort.{IsHeapWithin}
use Rattle.std_alloc.proofs.HeapSift as sifts
use Rattle.std.proofs.lemmas.List.{get_or_default, get_or-map, same_lists, length-map}
use Rattle.std.proofs.lemmas.List.Elements.{All-from_recursion, All-nil}
use Rattle.chained_heap.specs.declared.node.Node.{Node}
use Rattle.chained_heap.specs.declared.node.Place.{Place}
use Rattle.chained_heap.specs.declared.node.Place.TheVariants.{Out, In, Taken}
use Rattle.chained_heap.specs.Order.{node_lt}
use Rattle.chained_heap.specs.Shape.{no_row, place_at, is_at, Shape, IsTop, IsEmpty, MayTake, taken_at}
use Rattle.chained_heap.proofs.Heaps.{node_total}
use Rattle.chained_heap.proofs.Orders.{not_above, not_equal}
use Rattle.chained_heap.proofs.Takes.{in_node, root_row}

module _ {M : Type 0} {cmp : M → M → Ordering} (o : IsTotalOrder cmp) where
  -- no node is above the root
  pub root_most : (H : List (Node M)) (root : Node M) (n : ℕ) → length H ≡ n → root ≡ get_or H 0 root → IsHeapWithin (node_lt cmp) H 0 n → All (λ a. is_lt (cmp root.mono a.mono) ≡ false) H
  unfolding IsHeap
  root_most H root n l e h = All-from_recursion (λ a. is_lt (cmp root.mono a.mono) ≡ false) H (sifts.greatest (node_total o) H root e (subst (IsHeapWithin (node_lt cmp) H 0) (sym l) h))

  pub top_is : (want : Place M → Bool) (H H' : List (Node M)) (root : Node M) (next : List ℕ) (ps : List (Place M)) (taken : ℕ) → Shape cmp want H next ps no_row taken → IsPermutation H (root ∷ H') → All (λ a. is_lt (cmp root.mono a.mono) ≡ false) H → IsTop cmp ps root.mono
  top_is want H H' root next ps taken s perm most = record {
    row = root.row;
    here = root_row cmp want H H' root next ps taken s perm;
    above = λ r m h. let a = in_node cmp want H next ps no_row taken s (λ a. is_lt (cmp root.mono a.mono) ≡ false) most refl r m h in not_above o m a.0.mono root.mono a.2 a.1;
  }

  pub top_none : (want : Place M → Bool) (H : List (Node M)) (next : List ℕ) (ps : List (Place M)) (taken : ℕ) → Shape cmp want H next ps no_row taken → H ≡ [] → IsEmpty ps
  top_none want H next ps taken s e r m h = (in_node cmp want H next ps no_row taken s (λ a. ⊥) (subst (All (λ (a : Node M). ⊥)) (sym e) (All-nil (λ (a : Node M). ⊥))) refl r m h).1

  -- once the root isn't equal to x, no row is at x
  pub none_at : (want : Place M → Bool) (H : List (Node M)) (root : Node M) (x : M) (next : List ℕ) (ps : List (Place M)) (taken : ℕ) → Shape cmp want H next ps no_row taken → All (λ a. is_lt (cmp root.mono a.mono) ≡ false) H → is_lt (cmp x root.mono) ≡ false → is_eq (cmp root.mono x) ≡ false → (r : ℕ) → is_at cmp x (place_at ps r) ≡ false
  none_at want H root x next ps taken s most below ne r = by (place_at ps r) refl
    where
      by : (p : Place M) → place_at ps r ≡ p → is_at cmp x p ≡ false
      by Out e = refl
      by (In m) e = let a = in_node cmp want H next ps no_row taken s (λ a. is_lt (cmp root.mono a.mono) ≡ false) most refl r m e in not_equal o m a.0.mono root.mono x a.2 a.1 below ne
      by Taken e = refl

  pub none_left : (want : Place M → Bool) (H : List (Node M)) (x : M) (next : List ℕ) (ps : List (Place M)) (taken : ℕ) → Shape cmp want H next ps no_row taken → H ≡ [] → (r : ℕ) → is_at cmp x (place_at ps r) ≡ false
  none_left want H x next ps taken s e r = by (place_at ps r) refl
    where
      by : (p : Place M) → place_at ps r ≡ p → is_at cmp x p ≡ false
      by Out q = refl
      by (In m) q = absurd (top_none want H next ps taken s e r m q)
      by Taken q = refl

done_at : {M : Type 0} (cmp : M → M → Ordering) (x : M) (p q : Place M) → MayTake (is_at cmp x) p q → is_at cmp x q ≡ false → q ≡ taken_at cmp x p
done_at cmp x p q (inl e) h = e ∙ (λ i. cond (sym (sym (ap (is_at cmp x) e) ∙ h) i) Taken p)
done_at cmp x p q (inr k) h = k.1 ∙ (λ i. cond (sym k.0 i) Taken p)

pub all_done : {M : Type 0} (cmp : M → M → Ordering) (x : M) (ps qs : List (Place M)) → length qs ≡ length ps → ((r : ℕ) → MayTake (is_at cmp x) (place_at ps r) (place_at qs r)) → ((r : ℕ) → is_at cmp x (place_at qs r) ≡ false) → qs ≡ map (taken_at cmp x) ps
all_done cmp x ps qs l may none = let length-map_here : length (map (taken_at cmp x) ps) ≡ length ps = simp length-map in same_lists qs (map (taken_at cmp x) ps) (omega (arith, l, length-map_here)) (λ k d h.
    get_or_default qs k d Out h ∙ done_at cmp x (place_at ps k) (place_at qs k) (may k) (none k) ∙ sym (get_or-map (taken_at cmp x) ps k Out d (omega arith)))
