-- Monomials compared with fronts.
use Rattle.std.proofs.Common.{◌≡◌, ◌⊎◌, inl, inr, ℕ, ◌↔◌, Bool, true, false, true≢false, IsTrue, List, length, Some, refl, sym, ap, ◌∙◌, subst}
use Rattle.std.specs.declared.cmp.Ordering.{Ordering}
use Rattle.std.specs.declared.cmp.Ordering.TheVariants.{Less, Equal, Greater}
use Rattle.sdmp_laws.specs.Order.{Order, Below, compare}
use Rattle.sdmp_laws.proofs.OrderLemmas.{order_facts}
use Rattle.sdmp_laws.proofs.CompareLemmas.{compare_less, compare_greater, compare_same, not_both}
use Rattle.divide_workers.specs.Fronts.{PlainFront, IsPastBy, FrontFalls, may_stay}

-- what a comparison of a with b tells
abbrev pub Tells : Order → List ℕ → List ℕ → Ordering → Type 0
Tells ord a b Less = Below ord a b
Tells ord a b Equal = a ≡ b
Tells ord a b Greater = Below ord b a

pub compared : (ord : Order) (a b : List ℕ) (o : Ordering) → length a ≡ length b → o ≡ compare ord a b → Tells ord a b o
compared ord a b o l e = pick ((order_facts ord).total a b l)
  where
    pick : Below ord a b ⊎ (a ≡ b) ⊎ Below ord b a → Tells ord a b o
    pick (inl h) = subst (Tells ord a b) (sym (e ∙ compare_less ord a b h)) h
    pick (inr (inl h)) = subst (Tells ord a b) (sym (e ∙ ap (λ (m : List ℕ). compare ord m b) h ∙ compare_same ord b)) h
    pick (inr (inr h)) = subst (Tells ord a b) (sym (e ∙ compare_greater ord a b h)) h

-- ---- whether a monomial is past a front
pub past_less : (s : Bool) (ord : Order) (f x : List ℕ) → Below ord x f → IsPastBy s ord f x → ⊥
unfolding IsPastBy
past_less false ord f x h k = not_both ord x f h k
past_less true ord f x h (inl e) = (order_facts ord).irreflexive x (subst (Below ord x) e h)
past_less true ord f x h (inr k) = not_both ord x f h k

pub past_greater : (s : Bool) (ord : Order) (f x : List ℕ) → Below ord f x → IsPastBy s ord f x
unfolding IsPastBy
past_greater false ord f x h = h
past_greater true ord f x h = inr h

past_equal : (s : Bool) (ord : Order) (f x : List ℕ) → x ≡ f → IsTrue s ↔ IsPastBy s ord f x
unfolding IsPastBy
past_equal false ord f x e = ((λ t. absurd (true≢false (sym t))), (λ h. absurd ((order_facts ord).irreflexive f (subst (Below ord f) e h))))
past_equal true ord f x e = ((λ t. inl (sym e)), (λ h. refl))

-- the test: the order of x and the front f decides, and where they are equal whether the front is strict
abbrev pub is_past_by : Ordering → Bool → Bool
is_past_by Less s = false
is_past_by Equal s = s
is_past_by Greater s = true

pub past_is : (s : Bool) (ord : Order) (f x : List ℕ) (o : Ordering) → Tells ord x f o → IsTrue (is_past_by o s) ↔ IsPastBy s ord f x
past_is s ord f x Less t = ((λ k. absurd (true≢false (sym k))), (λ h. absurd (past_less s ord f x t h)))
past_is s ord f x Equal t = past_equal s ord f x t
past_is s ord f x Greater t = ((λ k. past_greater s ord f x t), (λ h. refl))

-- ---- the lower of two fronts
stays_below : (s : Bool) (ord : Order) (b a : List ℕ) → Below ord b a → IsPastBy s ord b a
stays_below s ord b a h = past_greater s ord b a h

-- a front that is lower has fallen
pub falls_below : (ord : Order) (a b : PlainFront) → Below ord b.mono a.mono → FrontFalls ord (Some a) (Some b)
unfolding FrontFalls
falls_below ord a b h = stays_below (may_stay a.is_strict b.is_strict) ord b.mono a.mono h

-- and so has one at the same monomial that is strict where the other is
falls_at : (r s : Bool) (ord : Order) (m n : List ℕ) → n ≡ m → (IsTrue r → IsTrue s) → IsPastBy (may_stay r s) ord n m
unfolding IsPastBy
falls_at false s ord m n e h = inl e
falls_at true true ord m n e h = inl e
falls_at true false ord m n e h = absurd (true≢false (sym (h refl)))

pub falls_equal : (ord : Order) (a b : PlainFront) → b.mono ≡ a.mono → (IsTrue a.is_strict → IsTrue b.is_strict) → FrontFalls ord (Some a) (Some b)
unfolding FrontFalls
falls_equal ord a b e h = falls_at a.is_strict b.is_strict ord a.mono b.mono e h
