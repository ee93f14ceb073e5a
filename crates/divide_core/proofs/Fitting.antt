-- The coefficient that fits, by an inverse or by a quotient.
use Rattle.std.proofs.Common.{◌≡◌, ℕ, ◌*◌, Option, Some, None, ℤ, pos, ◌*ℤ◌, unsigned_abs, MatchOption, refl, sym, ap, ◌∙◌, subst, arith, List}
use Rattle.std.proofs.lemmas.Int.{unsigned_abs-mul}
use Rattle.sdmp_laws.specs.Ring.{red, IsReduced, IsInverse, IsQuotient, IsLeastQuotient}
use Rattle.sdmp_laws.specs.Poly.{Term}
use Rattle.sdmp_laws.proofs.Ints.{red_mul, red_red, mul_assoc, mul_comm, mul_one}
use Rattle.divide_core.specs.Dividing.{IsTermQuotient}
use Rattle.division_laws.proofs.OutcomeLemmas.{factor_of_one}

pub inverse_size : (l v : ℤ) → IsInverse 0 l v → unsigned_abs v ≡ 1
inverse_size l v i = factor_of_one (unsigned_abs v) (unsigned_abs l) (sym (unsigned_abs-mul v l) ∙ ap unsigned_abs (mul_comm v l ∙ i.product))

pub inverse_room : (p : ℕ) (l v c : ℤ) → p ≡ 0 → IsInverse p l v → unsigned_abs (c *ℤ v) ≡ unsigned_abs c
inverse_room p l v c z i =
    let one = inverse_size l v (subst (λ (q : ℕ). IsInverse q l v) z i) in
    unsigned_abs-mul c v ∙ ap (λ (k : ℕ). unsigned_abs c * k) one ∙ times_one (unsigned_abs c)
  where
    times_one : (a : ℕ) → a * 1 ≡ a
    times_one a = omega arith

pub by_inverse : (p : ℕ) (c l v u : ℤ) → IsReduced p c → IsInverse p l v → u ≡ red p (c *ℤ v) → red p (u *ℤ l) ≡ c
by_inverse p c l v u r i e =
    ap (λ (x : ℤ). red p (x *ℤ l)) e ∙ red_mul p (red p (c *ℤ v)) (c *ℤ v) l l (red_red p (c *ℤ v)) refl
    ∙ ap (red p) (mul_assoc c v l ∙ ap (λ (x : ℤ). c *ℤ x) (mul_comm v l))
    ∙ red_mul p c c (l *ℤ v) (pos 1) refl i.product ∙ ap (red p) (mul_one c) ∙ r

pub by_quotient : {E : Type 0} (value : E → ℤ) (belongs : E → Type 0) (p : ℕ) (c l : ℤ) (o : Option E)
    → MatchOption o ((v : ℤ) → IsQuotient p c l v → ⊥) (λ q. belongs q × IsLeastQuotient p c l (value q))
    → MatchOption o ((u : ℤ) → IsReduced p u → red p (u *ℤ l) ≡ c → ⊥) (λ u. belongs u × red p (value u *ℤ l) ≡ c)
by_quotient value belongs p c l None h = λ u r e. h u (record { reduced = r; product = ap (red p) (mul_comm l u) ∙ e })
by_quotient value belongs p c l (Some q) h = (h.0, ap (red p) (mul_comm (value q) l) ∙ h.1.quotient.product)

pub no_fit : (p : ℕ) (l : List ℕ) (b : ℤ) (t x : Term) → ((u : ℤ) → IsReduced p u → red p (u *ℤ b) ≡ t.coefficient → ⊥) → IsTermQuotient p l b t x → ⊥
no_fit p l b t x h f = h x.coefficient f.reduced f.product
