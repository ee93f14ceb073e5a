-- The first nodes of an array.
use Rattle.std.proofs.Common.{ℕ, zero, suc, ◌+◌, ◌-◌, ◌/◌, ◌<◌, ◌≤◌, ◌≡◌, ◌≢◌, ◌⊎◌, false, List, [], ◌∷◌, ◌++◌, length, get_or, set, take, refl, sym, ap, subst, ◌∙◌, arith, inl, inr}
use Rattle.std.specs.declared.cmp.Ordering.{Ordering}
use Rattle.std.specs.Ordering.{is_lt}
use Rattle.std.specs.List.{swap_remove}
use Rattle.std.specs.List.Sorted.{IsPermutation}
use Rattle.std.specs.BinaryHeap.{IsHeap}
use Rattle.std.specs.BinaryHeap.Sift.{SiftsUp, RestoresHeap}
use Rattle.std.specs.Slice.Heapsort.{IsHeapWithin}
use Rattle.std.proofs.lemmas.Bool.{cases_lt}
use Rattle.std.proofs.lemmas.List.{get_or-set_same, get_or-set_other, get_or_default, get_or-take, length-take, take_more_set, take-append-le, take_all}
use Rattle.std.proofs.Math.Seq.{take-set-lt}
use Rattle.std.proofs.lemmas.List.Sorted.{IsPermutation-trans, IsPermutation-cons, IsPermutation-swap_remove}
use Rattle.chained_heap.specs.declared.node.Node.{Node}
use Rattle.chained_heap.specs.Order.{node_cmp, node_lt, ups, Climbs}
use Rattle.chained_heap.proofs.Chains.{same_or_not}

pub ups_most : (t n : ℕ) → ups t n ≤ n
ups_most zero n = omega arith
ups_most (suc t) n = let h = ups_most t n in omega arith

module _ {X : Type 0} where
  pub long_take : (n : ℕ) (xs : List X) → n ≤ length xs → length (take n xs) ≡ n
  long_take n xs h = omega (arith, length-take n xs)

  -- a slice written back to the front of an array
  pub front : (n : ℕ) (new rest : List X) → n ≡ length new → take n (new ++ rest) ≡ new
  front n new rest e = take-append-le n new rest (omega arith) ∙ take_all n new (omega arith)

  pub get_take : (n i : ℕ) (xs : List X) (d : X) → i < n → get_or (take n xs) i d ≡ get_or xs i d
  get_take n i xs d h = get_or-take n xs i d h

  -- one more at the end
  pub set_last : (n : ℕ) (xs : List X) (x : X) → n < length xs → set (take (n + 1) xs) n x ≡ take n xs ++ x ∷ []
  set_last n xs x h = sym (take-set-lt (n + 1) xs n x (omega arith)) ∙ take_more_set xs n x h

  take_set_first : (n : ℕ) (xs : List X) (x : X) → take n (set xs 0 x) ≡ set (take n xs) 0 x
  take_set_first zero [] x = refl
  take_set_first zero (y ∷ xs) x = refl
  take_set_first (suc n) xs x = take-set-lt (suc n) xs 0 x (omega arith)

  take_twice : (n m : ℕ) (xs : List X) → n ≤ m → take n (take m xs) ≡ take n xs
  take_twice zero m [] h = refl
  take_twice (suc n) zero [] h = refl
  take_twice (suc n) (suc m) [] h = refl
  take_twice zero m (x ∷ xs) h = refl
  take_twice (suc n) zero (x ∷ xs) h = absurd (omega arith)
  take_twice (suc n) (suc m) (x ∷ xs) h = ap (λ l. x ∷ l) (take_twice n m xs (omega arith))

  pub root_leaves : (n : ℕ) (xs new : List X) (root x : X) → n < length xs → ((d : X) → get_or xs n d ≡ x) → ((d : X) → get_or xs 0 d ≡ root) → IsPermutation (set (take n xs) 0 x) new → IsPermutation (take (n + 1) xs) (root ∷ new)
  root_leaves n xs new root x h last first p =
      let l : length (take (n + 1) xs) ≡ n + 1 = long_take (n + 1) xs (omega arith) in
      let e : length (take (n + 1) xs) - 1 ≡ n = omega arith in
      let r : get_or (take (n + 1) xs) n root ≡ x = get_take (n + 1) n xs root (omega arith) ∙ last root in
      let is : swap_remove (take (n + 1) xs) 0 root ≡ set (take n xs) 0 x =
      (λ i. take (e i) (set (take (n + 1) xs) 0 (get_or (take (n + 1) xs) (e i) root)))
      ∙ (λ i. take n (set (take (n + 1) xs) 0 (r i)))
      ∙ take_set_first n (take (n + 1) xs) x
      ∙ ap (λ l. set l 0 x) (take_twice n (n + 1) xs (omega arith)) in
      let s = IsPermutation-swap_remove (take (n + 1) xs) 0 root (omega arith) (sym (get_take (n + 1) 0 xs root (omega arith) ∙ first root)) in
      IsPermutation-trans (take (n + 1) xs) (root ∷ set (take n xs) 0 x) (root ∷ new) (subst (λ l. IsPermutation (take (n + 1) xs) (root ∷ l)) is s) (IsPermutation-cons root (set (take n xs) 0 x) new p)

module _ {M : Type 0} (cmp : M → M → Ordering) where
  two : (a b x y : Node M) → a ≡ x → b ≡ y → node_lt cmp x y ≡ false → node_lt cmp a b ≡ false
  two a b x y p q h = (λ i. node_lt cmp (p i) (q i)) ∙ h

  pub climbs_longer : (xs : List (Node M)) (x : M) (n m to : ℕ) → m ≡ n → Climbs cmp (take n xs) x n to → Climbs cmp (take (n + 1) xs) x m to
  climbs_longer xs x n m to e c = subst (λ k. Climbs cmp (take (n + 1) xs) x k to) (sym e) (
    c.0,
    c.1,
    λ s p.
        let o = c.2 s p in
        let u = ups_most s n in
        let z = o.0 in
        (o.0, λ d. (λ i. is_lt (cmp ((get_take (n + 1) ((ups s n - 1) / 2) xs d (omega arith) ∙ sym (get_take n ((ups s n - 1) / 2) xs d (omega arith))) i).mono x)) ∙ o.1 d),
  )

  pub rests_longer : (xs : List (Node M)) (x : Node M) (n to : ℕ) → Climbs cmp (take n xs) x.mono n to → (to ≡ 0) ⊎ ((d : Node M) → node_lt cmp (get_or (take n xs) ((to - 1) / 2) d) x ≡ false) → (to ≡ 0) ⊎ ((d : Node M) → node_lt cmp (get_or (take (n + 1) xs) ((to - 1) / 2) d) x ≡ false)
  rests_longer xs x n to c (inl z) = inl z
  rests_longer xs x n to c (inr h) = by (cases_lt 0 to)
    where
      by : (0 < to) ⊎ (to ≤ 0) → (to ≡ 0) ⊎ ((d : Node M) → node_lt cmp (get_or (take (n + 1) xs) ((to - 1) / 2) d) x ≡ false)
      by (inr z) = inl (omega arith)
      by (inl z) =
          let m : to ≤ n = subst (λ k. k ≤ n) (sym c.1) (ups_most c.0 n) in
          inr (λ d. two _ _ (get_or (take n xs) ((to - 1) / 2) d) x (get_take (n + 1) ((to - 1) / 2) xs d (omega arith) ∙ sym (get_take n ((to - 1) / 2) xs d (omega arith))) refl (h d))

  pub add_ordered : (xs new : List (Node M)) (n m : ℕ) (x : Node M) → m ≡ n → SiftsUp (node_cmp cmp) (set (take (n + 1) xs) m x) m new → IsHeapWithin (node_lt cmp) (take n xs) 0 n → IsHeapWithin (node_lt cmp) new 0 (n + 1)
  unfolding SiftsUp
  add_ordered xs new n m x e up h = up (n + 1) (omega arith) (
    (
      λ p k d a b f u v. two _ _ (get_or (take n xs) p d) (get_or (take n xs) k d) (seen p d (omega arith)) (seen k d (omega arith)) (h p k d (omega arith) a b (omega arith)),
      λ p k d a b f g i. absurd (omega arith),
    ),
    λ k d a b f. absurd (omega arith),
  )
    where
      seen : (i : ℕ) (d : Node M) → i < n → get_or (set (take (n + 1) xs) m x) i d ≡ get_or (take n xs) i d
      seen i d q = get_or-set_other (take (n + 1) xs) m i x d (omega arith) ∙ get_take (n + 1) i xs d (omega arith) ∙ sym (get_take n i xs d q)

  pub remove_ordered : (xs new : List (Node M)) (n m : ℕ) (x : Node M) → n ≤ length xs → m ≡ n → length new ≡ n → RestoresHeap (node_cmp cmp) (set (take n xs) 0 x) 1 m new → IsHeapWithin (node_lt cmp) (take (n + 1) xs) 0 (n + 1) → IsHeapWithin (node_lt cmp) new 0 n
  unfolding RestoresHeap IsHeap
  remove_ordered xs new n m x l e long up h = subst (IsHeapWithin (node_lt cmp) new 0) long (up (λ p k d lo a b f.
      two _ _ (get_or (take (n + 1) xs) p d) (get_or (take (n + 1) xs) k d) (seen p d lo (omega arith)) (seen k d (omega arith) (omega arith)) (h p k d (omega arith) a b (omega arith))))
    where
      seen : (i : ℕ) (d : Node M) → 1 ≤ i → i < n → get_or (set (take n xs) 0 x) i d ≡ get_or (take (n + 1) xs) i d
      seen i d z q = get_or-set_other (take n xs) 0 i x d (omega arith) ∙ get_take n i xs d q ∙ sym (get_take (n + 1) i xs d (omega arith))

  -- a node that gets another row
  pub same_mono : (H : List (Node M)) (k row n : ℕ) (a : Node M) → k < length H → a ≡ get_or H k a → IsHeapWithin (node_lt cmp) H 0 n → IsHeapWithin (node_lt cmp) (set H k (record { mono = a.mono; row = row })) 0 n
  same_mono H k row n a kh e h p q d z lo hi f = (λ i. is_lt (cmp (mono p d (same_or_not p k) i) (mono q d (same_or_not q k) i))) ∙ h p q d z lo hi f
    where
      mono : (i : ℕ) (d : Node M) → (i ≡ k) ⊎ (i ≢ k) → (get_or (set H k (record { mono = a.mono; row = row })) i d).mono ≡ (get_or H i d).mono
      mono i d (inl q) =
          (λ j. (get_or (set H k (record { mono = a.mono; row = row })) (q j) d).mono)
          ∙ ap (λ b. b.mono) (get_or-set_same H k (record { mono = a.mono; row = row }) d kh)
          ∙ ap (λ b. b.mono) (e ∙ get_or_default H k a d kh)
          ∙ (λ j. (get_or H (sym q j) d).mono)
      mono i d (inr q) = ap (λ b. b.mono) (get_or-set_other H k i (record { mono = a.mono; row = row }) d q)
