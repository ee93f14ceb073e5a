use Rattle.std.proofs.Common.{◌≡◌, ℕ, ◌+◌, ◌*◌, ◌≤◌, ◌++◌, List, [], ◌∷◌, Option, Some, unsigned_abs, refl, sym, ap, subst, ◌∙◌, arith}
use Rattle.std.specs.Prelude.{IfSome}
use Rattle.sdmp_laws.specs.Order.{Order, Grlex, degree}
use Rattle.sdmp_laws.specs.Poly.{Term, norm, lm, AllBelow, Decreasing}
use Rattle.sdmp_laws.specs.Limits.{greatest_norm}
use Rattle.sdmp_laws.specs.Canonical.{degree_of}
use Rattle.sdmp_laws.proofs.Parts.{norm_cons, norm_nil}
use Rattle.row_merge.specs.Learned.{QuotientState}
use Rattle.merge_tests.proofs.quotients.hands_out_products_of_a_learned_term.Goals as goal

falls_alone : (ord : Order) (L : List Term) (t : Term) → L ≡ [] → Decreasing ord (L ++ t ∷ [])
unfolding Decreasing AllBelow
falls_alone ord L t e = subst (λ (A : List Term). Decreasing ord (A ++ t ∷ [])) (sym e) (tt, tt)

lead_is : (L : List Term) → IfSome (degree_of L) (λ d. degree (lm L) ≡ d)
unfolding lm degree
lead_is [] = tt
lead_is (t ∷ L) = refl

degree_fits : (v : List ℕ) (D L : List Term) (o : Option ℕ) → v ≡ 2 ∷ [] → D ≡ L → o ≡ degree_of L → o ≡ Some 1 → degree v + degree (lm D) ≤ 2147483647
unfolding degree
degree_fits v D L o a b e h =
    let one : degree (lm L) ≡ 1 = subst (λ (q : Option ℕ). IfSome q (λ d. degree (lm L) ≡ d)) (sym e ∙ h) (lead_is L) in
    omega (arith, ap degree a, ap (λ (A : List Term). degree (lm A)) b)

norm_fits : (L D E : List Term) (t : Term) (n : ℕ) → L ≡ [] → unsigned_abs t.coefficient ≡ 1 → D ≡ E → n ≡ norm E → n ≤ greatest_norm → norm (L ++ t ∷ []) * norm D ≤ greatest_norm
norm_fits L D E t n a u b e h =
    let one : norm (L ++ t ∷ []) ≡ 1 = omega (arith, ap (λ (A : List Term). norm (A ++ t ∷ [])) a, norm_cons t [], norm_nil, u) in
    omega (arith, ap (λ (k : ℕ). k * norm D) one, ap norm b, e, h)

pub learn-requires-clause-falls : goal.learn-requires-clause-falls
learn-requires-clause-falls g c κs =
    falls_alone Grlex c.reserve.new.self.learned _ (ap (λ (s : QuotientState). s.learned) c.reserve.ensures.same ∙ ap (λ (s : QuotientState). s.learned) c.in_ok-rows.ensures)

pub learn-requires-clause-degree : goal.learn-requires-clause-degree
learn-requires-clause-degree g c κs =
    degree_fits _ c.reserve.new.self.divisor c.in_ok-divisor.divisor.list (Some c.in-Some-eq1.field-0) c.in_ok-square.ensures.1
    (ap (λ (s : QuotientState). s.divisor) c.reserve.ensures.same ∙ ap (λ (s : QuotientState). s.divisor) c.in_ok-rows.ensures) c.in-Some-eq1.ensures.value (ap Some c.in-Some-eq1.field-0-test)

pub learn-requires-clause-fits : goal.learn-requires-clause-fits
learn-requires-clause-fits g c κs = λ z.
    norm_fits c.reserve.new.self.learned c.reserve.new.self.divisor c.in_ok-divisor.divisor.list _ c.norm.result
    (ap (λ (s : QuotientState). s.learned) c.reserve.ensures.same ∙ ap (λ (s : QuotientState). s.learned) c.in_ok-rows.ensures) refl
    (ap (λ (s : QuotientState). s.divisor) c.reserve.ensures.same ∙ ap (λ (s : QuotientState). s.divisor) c.in_ok-rows.ensures)
    c.norm.ensures.value (c.norm.ensures.fits c.in_ok-divisor.ensures)
