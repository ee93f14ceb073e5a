-- The loop of `take_top`: what holds before the root's rows are taken, and after.
use Rattle.std.proofs.Common.{ℕ, zero, suc, ◌+◌, ◌*◌, ◌^◌, ◌<◌, ◌≤◌, ◌≡◌, Bool, true, false, List, ◌∷◌, length, get_or, take, sym, ap, subst, ◌∙◌, arith, inl, inr}
use Rattle.std.specs.declared.cmp.Ordering.{Ordering}
use Rattle.std.specs.Ordering.{is_eq, is_lt}
use Rattle.std.specs.Cmp.{IsTotalOrder}
use Rattle.std.specs.List.{All}
use Rattle.std.specs.List.Sorted.{IsPermutation}
use Rattle.std.proofs.lemmas.Bool.{false≢true}
use Rattle.std.proofs.Math.Nat.{mul-le-mul_left}
use Rattle.std.proofs.lemmas.List.Elements.{All-tail}
use Rattle.std.proofs.lemmas.List.Sorted.{All-permutation}
use Rattle.chained_heap.specs.declared.node.Node.{Node}
use Rattle.chained_heap.specs.declared.node.Place.{Place}
use Rattle.chained_heap.specs.declared.node.Place.TheVariants.{Out, In, Taken}
use Rattle.chained_heap.specs.Shape.{no_row, place_at, is_at, never, Shape, IsOrdered, IsChainedHeap, MayTake, TakesChain}
use Rattle.chained_heap.proofs.Orders.{eq_trans}
use Rattle.chained_heap.proofs.Takes.{detach, retest}

-- the rows at x that were the root's so far are taken
pub record AfterTake {M : Type 0} (cmp : M → M → Ordering) (x : M) (nodes : List (Node M)) (len : ℕ) (next : List ℕ) (places : List (Place M)) (taken : ℕ) (old : List (Place M)) : Type 0 where
  pub within : len ≤ length nodes
  pub long : length nodes ≡ length places
  pub kept : length places ≡ length old
  pub ordered : IsOrdered cmp nodes len
  pub shape : Shape cmp (is_at cmp x) (take len nodes) next places no_row taken
  pub below : All (λ a. is_lt (cmp x a.mono) ≡ false) (take len nodes)
  pub may : (r : ℕ) → MayTake (is_at cmp x) (place_at old r) (place_at places r)

-- and the root is at x, so that its rows are taken next
pub record BeforeTake {M : Type 0} (cmp : M → M → Ordering) (x : M) (nodes : List (Node M)) (len : ℕ) (next : List ℕ) (places : List (Place M)) (taken : ℕ) (old : List (Place M)) : Type 0 where
  pub turned : AfterTake cmp x nodes len next places taken old
  pub root : (d : Node M) → is_eq (cmp (get_or nodes 0 d).mono x) ≡ true

may_trans : {M : Type 0} (want : Place M → Bool) (a b c : Place M) → MayTake want a b → MayTake want b c → MayTake want a c
may_trans want a b c (inl e) (inl f) = inl (f ∙ e)
may_trans want a b c (inl e) (inr h) = inr (ap want (sym e) ∙ h.0, h.1)
may_trans want a b c (inr h) (inl f) = inr (h.0, f ∙ h.1)
may_trans want a b c (inr h) (inr k) = inr (h.0, k.1)

module _ {M : Type 0} {cmp : M → M → Ordering} (o : IsTotalOrder cmp) (x : M) where
  same_test : (y : M) → is_eq (cmp y x) ≡ true → (p : Place M) → is_at cmp y p ≡ true → is_at cmp x p ≡ true
  same_test y e Out h = h
  same_test y e (In m) h = eq_trans o m y x h e
  same_test y e Taken h = h

  pub let_loose : (nodes new : List (Node M)) (len : ℕ) (next : List ℕ) (places : List (Place M)) (taken : ℕ) (old : List (Place M)) (root : Node M) → is_eq (cmp root.mono x) ≡ true → IsPermutation (take (len + 1) nodes) (root ∷ take len new) → BeforeTake cmp x nodes (len + 1) next places taken old → Shape cmp (is_at cmp x) (take len new) next places root.row taken
  let_loose nodes new len next places taken old root e perm t = detach cmp (is_at cmp x) (take (len + 1) nodes) (take len new) root next places taken t.turned.shape perm (same_test root.mono e)

  pub turned : (nodes new : List (Node M)) (len : ℕ) (next next' : List ℕ) (places places' : List (Place M)) (taken taken' : ℕ) (old : List (Place M)) (root : Node M) → IsPermutation (take (len + 1) nodes) (root ∷ take len new) → length new ≡ length nodes → IsOrdered cmp new len → BeforeTake cmp x nodes (len + 1) next places taken old → TakesChain cmp (is_at cmp x) (take len new) places root.row next' places' no_row taken' → AfterTake cmp x new len next' places' taken' old
  turned nodes new len next next' places places' taken taken' old root perm ln ord t c = record {
    within = omega (arith, t.turned.within);
    long = ln ∙ t.turned.long ∙ sym c.long;
    kept = c.long ∙ t.turned.kept;
    ordered = ord;
    shape = c.shape;
    below = All-tail (λ a. is_lt (cmp x a.mono) ≡ false) root (take len new) (All-permutation (λ a. is_lt (cmp x a.mono) ≡ false) (take (len + 1) nodes) (root ∷ take len new) perm t.turned.below);
    may = λ r. may_trans (is_at cmp x) (place_at old r) (place_at places r) (place_at places' r) (t.turned.may r) (c.may r);
  }

  pub closes : (nodes : List (Node M)) (len : ℕ) (next : List ℕ) (places : List (Place M)) (taken : ℕ) (old : List (Place M)) → AfterTake cmp x nodes len next places taken old → IsChainedHeap cmp nodes len next places taken
  closes nodes len next places taken old t = record {
    within = t.within;
    long = t.long;
    ordered = t.ordered;
    shape = retest cmp (is_at cmp x) (take len nodes) next places taken t.shape never (λ p h. absurd (false≢true h));
  }

-- the compares of one turn
pub turn_cost : (l n rows a a' a0 c0 c c' : ℕ) → n < rows → rows < 2 ^ l → ((b : ℕ) → n < 2 ^ (b + 1) → c' ≤ c + 2 * b) → c + 2 * l * a ≤ c0 + 2 * l * a0 → a' + 1 ≤ a → c' + 1 + 2 * l * a' ≤ c0 + 2 * l * a0
turn_cost zero n rows a a' a0 c0 c c' z h k u m = absurd (omega arith)
turn_cost (suc l) n rows a a' a0 c0 c c' z h k u m =
    let e : suc l ≡ l + 1 = omega arith in
    let b : n < 2 ^ (l + 1) = subst (λ j. n < 2 ^ j) e (omega arith) in
    let v = k l b in
    let w : 2 * suc l * (a' + 1) ≤ 2 * suc l * a = mul-le-mul_left (2 * suc l) m in
    omega (arith, w)
