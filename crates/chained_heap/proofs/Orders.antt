-- What follows from the laws of an order.
use Rattle.std.proofs.Common.{◌≡◌, Bool, true, false, refl, sym, ap, ◌∙◌}
use Rattle.std.specs.declared.cmp.Ordering.{Ordering}
use Rattle.std.specs.declared.cmp.Ordering.TheVariants.{Less, Equal, Greater}
use Rattle.std.specs.Ordering.{is_eq, is_lt, is_gt, ordering_reverse}
use Rattle.std.specs.Cmp.{IsTotalOrder}
use Rattle.std.proofs.lemmas.Bool.{false≢true}
use Rattle.std.proofs.lemmas.Cmp.{tied_itself, tied_back, alike_right}

pub is_equal : (r : Ordering) → is_eq r ≡ true → r ≡ Equal
is_equal Less e = absurd (false≢true e)
is_equal Equal e = refl
is_equal Greater e = absurd (false≢true e)

flips : (r : Ordering) → is_lt r ≡ false → is_gt (ordering_reverse r) ≡ false
flips Less e = absurd (false≢true (sym e))
flips Equal e = refl
flips Greater e = refl

neither : (r : Ordering) → is_lt r ≡ false → is_gt r ≡ false → is_eq r ≡ true
neither Less a b = absurd (false≢true (sym a))
neither Equal a b = refl
neither Greater a b = absurd (false≢true (sym b))

not_true : (b : Bool) → (b ≡ true → ⊥) → b ≡ false
not_true true h = absurd (h refl)
not_true false h = refl

module _ {M : Type 0} {cmp : M → M → Ordering} (o : IsTotalOrder cmp) where
  pub eq_self : (x : M) → is_eq (cmp x x) ≡ true
  eq_self x = ap is_eq (tied_itself o x)

  pub eq_back : (x y : M) → is_eq (cmp x y) ≡ true → is_eq (cmp y x) ≡ true
  eq_back x y h = ap is_eq (tied_back o x y (is_equal (cmp x y) h))

  -- m stands at a, which isn't above x
  pub not_above : (m a x : M) → is_eq (cmp m a) ≡ true → is_lt (cmp x a) ≡ false → is_gt (cmp m x) ≡ false
  not_above m a x e h = ap is_gt (o.congr m a x (is_equal (cmp m a) e) ∙ o.antisymm a x) ∙ flips (cmp x a) h

  -- equal to x is equal to y
  pub eq_trans : (m x y : M) → is_eq (cmp m x) ≡ true → is_eq (cmp x y) ≡ true → is_eq (cmp m y) ≡ true
  eq_trans m x y a b = ap is_eq (sym (alike_right o x y m (is_equal (cmp x y) b))) ∙ a

  -- m stands at a, which isn't above root, and root isn't above x nor equal to it
  pub not_equal : (m a root x : M) → is_eq (cmp m a) ≡ true → is_lt (cmp root a) ≡ false → is_lt (cmp x root) ≡ false → is_eq (cmp root x) ≡ false → is_eq (cmp m x) ≡ false
  not_equal m a root x e h k n = not_true (is_eq (cmp m x)) (λ q.
      let ax : cmp a x ≡ Equal = sym (o.congr m a x (is_equal (cmp m a) e)) ∙ is_equal (cmp m x) q in
      let lt : is_lt (cmp root x) ≡ false = ap is_lt (sym (alike_right o a x root ax)) ∙ h in
      let gt : is_gt (cmp root x) ≡ false = ap is_gt (o.antisymm root x) ∙ flips (cmp x root) k in
      false≢true (sym n ∙ neither (cmp root x) lt gt))
