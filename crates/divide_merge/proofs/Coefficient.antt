-- The coefficient of what was read at a candidate, made of that of the unread terms and the sum of the heads.
use Rattle.std.proofs.Common.{◌≡◌, ℕ, ◌+◌, ◌≤◌, ℤ, ◌+ℤ◌, neg_ℤ, unsigned_abs, true, false, Bool, cond, List, [], ◌∷◌, sym, ap, ◌∙◌, arith}
use Rattle.std.proofs.lemmas.Int.{ints}
use Rattle.sdmp_laws.specs.Order.{alike}
use Rattle.sdmp_laws.specs.Ring.{red}
use Rattle.sdmp_laws.specs.Poly.{Term, total, coef, minus}
use Rattle.sdmp_laws.specs.Limits.{greatest_norm}
use Rattle.sdmp_laws.proofs.PolyLemmas.{total_minus}
use Rattle.sdmp_laws.proofs.Parts.{abs_add}
use Rattle.sdmp_laws.proofs.Ints.{red_add, red_neg, red_red}
use Rattle.ring_heads.specs.Heads.{size_at}

-- the size of a sum at x is at most the sizes there
total_size : (A : List Term) (x : List ℕ) → unsigned_abs (total A x) ≤ size_at x A
unfolding total size_at
total_size [] x = omega arith
total_size (t ∷ A) x = pick (total_size A x) (alike t.monomial x)
  where
    pick : unsigned_abs (total A x) ≤ size_at x A → (b : Bool) → unsigned_abs (cond b (t.coefficient +ℤ total A x) (total A x)) ≤ cond b (unsigned_abs t.coefficient) 0 + size_at x A
    pick i true = let s = abs_add t.coefficient (total A x) in omega arith
    pick i false = omega arith

-- what is added
pub sum_is : (p : ℕ) (A B : List Term) (x : List ℕ) (u h c : ℤ) → u ≡ coef p A x → h ≡ coef p B x → c ≡ red p (neg_ℤ h) → red p (u +ℤ c) ≡ coef p (minus A B) x
unfolding coef
sum_is p A B x u h c eu eh ec =
    red_add p u (total A x) c (neg_ℤ (total B x)) (ap (red p) eu ∙ red_red p (total A x)) (ap (red p) ec ∙ red_red p (neg_ℤ h) ∙ red_neg p h (total B x) (ap (red p) eh ∙ red_red p (total B x)))
    ∙ sym (ap (red p) (total_minus A B x))

-- and that it has room over the integers
pub sum_fits : (p : ℕ) (A B : List Term) (x : List ℕ) (u h c : ℤ) → p ≡ 0 → u ≡ coef p A x → h ≡ coef p B x → c ≡ red p (neg_ℤ h) → unsigned_abs (total A x) + size_at x B ≤ greatest_norm → unsigned_abs (u +ℤ c) ≤ greatest_norm
unfolding coef
sum_fits p A B x u h c z eu eh ec l =
    let du : u ≡ total A x = eu ∙ ap (λ (q : ℕ). red q (total A x)) z in
    let dh : h ≡ total B x = eh ∙ ap (λ (q : ℕ). red q (total B x)) z in
    let dc : c ≡ neg_ℤ h = ec ∙ ap (λ (q : ℕ). red q (neg_ℤ h)) z in
    let s = total_size B x in
    omega (arith, ints)
