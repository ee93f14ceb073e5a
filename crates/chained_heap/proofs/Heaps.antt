-- Heaps of nodes.
use Rattle.std.proofs.Common.{ℕ, ◌+◌, ◌-◌, ◌*◌, ◌/◌, ◌<◌, ◌≤◌, ◌≡◌, ◌≢◌, Bool, true, false, List, [], ◌∷◌, length, get_or, set, refl, sym, ap, subst, ◌∙◌, arith}
use Rattle.std.specs.declared.cmp.Ordering.{Ordering}
use Rattle.std.specs.Cmp.{IsTotalOrder}
use Rattle.std.specs.Ordering.{is_lt}
use Rattle.std.specs.List.{swap}
use Rattle.std.specs.List.Sorted.{IsPermutation}
use Rattle.std.specs.BinaryHeap.Sift.{SiftsUp, ComparesAt, IsGreaterChild, RestoresHeap}
use Rattle.std.specs.Slice.Heapsort.{IsNotBelowChildren}
use Rattle.std.proofs.lemmas.Cmp.{on_total}
use Rattle.std.proofs.lemmas.List.{get_or-set_same, get_or-set_other, get_or_default, set_comm, set-set, length-set}
use Rattle.std.proofs.lemmas.List.Edits.{swap_is}
use Rattle.std.proofs.lemmas.List.Sorted.{IsPermutation-trans, IsPermutation-swap, IsPermutation-refl}
use Rattle.std_alloc.proofs.HeapSift as sifts
use Rattle.chained_heap.specs.declared.node.Node.{Node}
use Rattle.chained_heap.specs.Order.{node_cmp, node_lt}

pub node_total : {M : Type 0} {cmp : M → M → Ordering} → IsTotalOrder cmp → IsTotalOrder (node_cmp cmp)
node_total o = on_total (λ a. a.mono) o

-- what a test said of the node that an index read
pub read_test : {M : Type 0} (cmp : M → M → Ordering) (xs : List (Node M)) (i : ℕ) (y : Node M) (x : M) (test : Ordering → Bool) (b : Bool) → i < length xs → test (cmp (get_or xs i y).mono x) ≡ b → (d : Node M) → test (cmp (get_or xs i d).mono x) ≡ b
read_test cmp xs i y x test b h e d = (λ k. test (cmp (get_or_default xs i d y h k).mono x)) ∙ e

module _ {X : Type 0} (xs : List X) (j k : ℕ) (x y : X) (a : j < length xs) (b : k < length xs) (ne : k ≢ j) (e : y ≡ get_or xs k y) where
  long : length (set xs j x) ≡ length xs
  long = length-set xs j x

  here : get_or (set xs j x) j x ≡ x
  here = get_or-set_same xs j x x a

  there : get_or (set xs j x) k x ≡ y
  there = get_or-set_other xs j k x x ne ∙ get_or_default xs k x y b ∙ sym e

  -- a hole at j, seen as x, moves to k
  pub hole_falls : set (set xs j y) k x ≡ swap (set xs j x) j k
  hole_falls =
      sym (ap (λ l. set l k x) (set-set xs j x y))
      ∙ (λ i. set (set (set xs j x) j (sym there i)) k (sym here i))
      ∙ swap_is (set xs j x) j k x (omega (arith, long)) (omega (arith, long))

  pub hole_rises : set (set xs j y) k x ≡ swap (set xs j x) k j
  hole_rises =
      sym (ap (λ l. set l k x) (set-set xs j x y))
      ∙ sym (set_comm (set xs j x) k j x y ne)
      ∙ (λ i. set (set (set xs j x) k (sym here i)) j (sym there i))
      ∙ swap_is (set xs j x) k j x (omega (arith, long)) (omega (arith, long))

module _ {M : Type 0} (cmp : M → M → Ordering) where
  -- xs with a hole at from, filled by x, and the same once the hole has risen to at
  pub record Risen (from : ℕ) (x : Node M) (xs ns : List (Node M)) (at : ℕ) : Type 0 where
    pub within : at ≤ from
    pub long : length ns ≡ length xs
    pub permutation : IsPermutation (set xs from x) (set ns at x)
    pub rising : (o : IsTotalOrder cmp) → sifts.Rising (node_cmp cmp) (node_total o) (set xs from x) from (set ns at x) at

  pub risen_begins : (from : ℕ) (x : Node M) (xs : List (Node M)) → Risen from x xs xs from
  risen_begins from x xs = record {
    within = omega arith;
    long = refl;
    permutation = IsPermutation-refl (set xs from x);
    rising = λ o. sifts.rise_begins (node_cmp cmp) (node_total o) (set xs from x) from;
  }

  compares_at : (ns : List (Node M)) (j k : ℕ) (x y : Node M) (b : Bool) → j < length ns → k < length ns → k ≢ j → is_lt (cmp (get_or ns k y).mono x.mono) ≡ b → ComparesAt (node_cmp cmp) (set ns j x) k j b
  compares_at ns j k x y b p q ne h d =
      (λ i. is_lt (cmp ((get_or-set_other ns j k x d ne ∙ get_or_default ns k d y q) i).mono (get_or-set_same ns j x d p i).mono)) ∙ h

  pub risen_steps : (from : ℕ) (x y : Node M) (xs ns : List (Node M)) (at : ℕ) → from < length xs → 0 < at → y ≡ get_or ns ((at - 1) / 2) y → is_lt (cmp (get_or ns ((at - 1) / 2) y).mono x.mono) ≡ true → Risen from x xs ns at → Risen from x xs (set ns at y) ((at - 1) / 2)
  risen_steps from x y xs ns at f z e h r =
      let p : ℕ = (at - 1) / 2 in
      let lo : at < length ns = omega (arith, r.within, r.long) in
      let lp : (at - 1) / 2 < length ns = omega arith in
      let ne : (at - 1) / 2 ≢ at = omega arith in
      let lx = length-set ns at x in
      let is = hole_rises ns at ((at - 1) / 2) x y lo lp ne e in
      record {
        within = omega (arith, r.within);
        long = length-set ns at y ∙ r.long;
        permutation = IsPermutation-trans _ _ _ r.permutation (IsPermutation-swap _ _ ((at - 1) / 2) at (omega arith) (omega arith) is);
        rising = λ o. sifts.rise_steps (node_cmp cmp) (node_total o) (set xs from x) (set ns at x) (set (set ns at y) ((at - 1) / 2) x) from at z r.within (omega arith) is
            (compares_at ns at ((at - 1) / 2) x y true lo lp ne h) (r.rising o);
      }

  pub risen_rests : IsTotalOrder cmp → (from : ℕ) (x y : Node M) (xs ns : List (Node M)) (at : ℕ) → from < length xs → 0 < at → is_lt (cmp (get_or ns ((at - 1) / 2) y).mono x.mono) ≡ false → Risen from x xs ns at → SiftsUp (node_cmp cmp) (set xs from x) from (set ns at x)
  risen_rests o from x y xs ns at f z h r =
      let lo : at < length ns = omega (arith, r.within, r.long) in
      let lp : (at - 1) / 2 < length ns = omega arith in
      let ne : (at - 1) / 2 ≢ at = omega arith in
      sifts.rise_rests (node_cmp cmp) (node_total o) (set xs from x) (set ns at x) from at (compares_at ns at ((at - 1) / 2) x y false lo lp ne h) (r.rising o)

  pub risen_tops : IsTotalOrder cmp → (from : ℕ) (x : Node M) (xs ns : List (Node M)) (at : ℕ) → at ≡ 0 → Risen from x xs ns at → SiftsUp (node_cmp cmp) (set xs from x) from (set ns at x)
  risen_tops o from x xs ns at z r = sifts.rise_tops (node_cmp cmp) (node_total o) (set xs from x) (set ns at x) from at z (r.rising o)

  -- the same of a hole that falls from the root
  pub record Fallen (x : Node M) (xs ns : List (Node M)) (at : ℕ) : Type 0 where
    pub within : at < length xs
    pub long : length ns ≡ length xs
    pub permutation : IsPermutation (set xs 0 x) (set ns at x)
    pub falling : (o : IsTotalOrder cmp) → sifts.Falling (node_cmp cmp) (node_total o) (set xs 0 x) (length xs) (set ns at x) at

  pub fallen_begins : (x : Node M) (xs : List (Node M)) → 0 < length xs → Fallen x xs xs 0
  fallen_begins x xs z = record {
    within = z;
    long = refl;
    permutation = IsPermutation-refl (set xs 0 x);
    falling = λ o. sifts.fall_begins (node_cmp cmp) (node_total o) (set xs 0 x) (length xs);
  }

  best_seen : (ns : List (Node M)) (at c n : ℕ) (x : Node M) → at * 2 + 1 ≤ c → IsNotBelowChildren (node_lt cmp) ns at c n → IsGreaterChild (node_cmp cmp) (set ns at x) at c n
  unfolding IsGreaterChild
  best_seen ns at c n x lo best k d a b f =
      (λ i. is_lt (cmp (get_or-set_other ns at c x d (omega arith) i).mono (get_or-set_other ns at k x d (omega arith) i).mono)) ∙ best k d a b f

  pub fallen_steps : (x y : Node M) (xs ns : List (Node M)) (at c : ℕ) → at * 2 + 1 ≤ c → c ≤ at * 2 + 2 → c < length ns → y ≡ get_or ns c y → IsNotBelowChildren (node_lt cmp) ns at c (length ns) → Fallen x xs ns at → Fallen x xs (set ns at y) c
  fallen_steps x y xs ns at c lo hi f e best r =
      let la : at < length ns = omega (arith, r.within, r.long) in
      let ne : c ≢ at = omega arith in
      let lx = length-set ns at x in
      let is = hole_falls ns at c x y la f ne e in
      record {
        within = omega (arith, r.long);
        long = length-set ns at y ∙ r.long;
        permutation = IsPermutation-trans _ _ _ r.permutation (IsPermutation-swap _ _ at c (omega arith) (omega arith) is);
        falling = λ o. sifts.fall_steps (node_cmp cmp) (node_total o) (set xs 0 x) (set ns at x) (set (set ns at y) c x) (length xs) at c lo hi (omega (arith, r.long)) (omega arith) is
            (subst (IsGreaterChild (node_cmp cmp) (set ns at x) at c) r.long (best_seen ns at c (length ns) x lo best)) (r.falling o);
      }

  pub fallen_ends : IsTotalOrder cmp → (x : Node M) (xs ns zs : List (Node M)) (at : ℕ) → length xs / 2 ≤ at → length zs ≡ length xs → Fallen x xs ns at → SiftsUp (node_cmp cmp) (set ns at x) at zs → RestoresHeap (node_cmp cmp) (set xs 0 x) 1 (length xs) zs
  fallen_ends o x xs ns zs at leaf e r up = sifts.fall_ends (node_cmp cmp) (node_total o) (set xs 0 x) (set ns at x) zs (length xs) at leaf r.within e (r.falling o) up
