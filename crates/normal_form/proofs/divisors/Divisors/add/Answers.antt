use Rattle.std.proofs.Common.{◌≡◌, ◌<◌, ◌++◌, ◌∷◌, ℕ, ℤ, [], length, map, All, refl, sym, ap, ◌∙◌, subst, arith}
use Rattle.std.proofs.lemmas.List.{length_push, length-map, map-append}
use Rattle.std.proofs.lemmas.List.Elements.{All-push, All-get_or}
use Rattle.sdmp_laws.specs.Order.{degree}
use Rattle.sdmp_laws.specs.Ring.{IsUnit}
use Rattle.sdmp_laws.specs.Poly.{lc}
use Rattle.row_merge.proofs.LearnedRows.{positive_from}
use Rattle.divide_core.proofs.Ends.{lead_facts}
use Rattle.normal_form.specs.NormalForm.{IsDivisor}
use Rattle.normal_form.specs.Divisors.{DivisorList, IsKept}
use Rattle.normal_form.proofs.Kept.{kept}
use Rattle.normal_form.proofs.divisors.Divisors.add.Given as given
use Rattle.normal_form.proofs.divisors.Divisors.add.Goals as goal
use Rattle.normal_form.proofs.divisors.Divisors.add.Goals.{In_default, In-Some}

-- the new divisor is one to be kept
new_kept : (g : given.Over) (c : In-Some g) (deg : ℕ) → deg ≡ degree (g.M.Monomial.vector c.index-terms-0.result.mono) → IsKept g.M.Monomial.vector g.R.CoeffRing.value (g.R.CoeffRing.belongs (g.R.CoeffRing.characteristic c.self.inside.ring)) g.M.Monomial.order (g.R.CoeffRing.characteristic c.self.inside.ring) g.M.Monomial.VARS g.M.Monomial.LIM c.args.g.now c.index-terms-0.result.mono deg c.in-Some.inverse
new_kept g c deg e =
    let rings = g.met.R.CoeffRing g.world.𝓛 g.world.𝓜 g.world.𝓡 ((λ s x. x), (λ x. x), (λ x. x), λ x. x) in
    let some : 0 < length c.terms-terms.result.now = positive_from _ _ c.is_empty.ensures c.if-is_empty.false in
    let lead = lead_facts g.M.Monomial.vector g.R.CoeffRing.value c.terms-terms.result.now c.index-terms-0.result c.args.g.now.list some c.index-terms-0.is c.terms-terms.ensures.view in
    let modulus : c.args.g.now.modulus ≡ g.R.CoeffRing.characteristic c.self.inside.ring = c.requires.modulus ∙ sym (ap (λ (x : DivisorList). x.modulus) c.self.view_is) in
    let inside : g.R.CoeffRing.belongs c.args.g.now.modulus c.index-terms-0.result.coef = subst (λ t. g.R.CoeffRing.belongs c.args.g.now.modulus t.coef) (sym c.index-terms-0.is) (All-get_or (λ t. g.R.CoeffRing.belongs c.args.g.now.modulus t.coef) c.terms-terms.result.now 0 c.index-terms-0.result some c.terms-terms.ensures.belongs) in
    let reduced = rings.reduced c.self.inside.ring c.index-terms-0.result.coef (subst (λ (p : ℕ). g.R.CoeffRing.belongs p c.index-terms-0.result.coef) modulus inside) in
    kept g.M.Monomial.vector g.R.CoeffRing.value (g.R.CoeffRing.belongs (g.R.CoeffRing.characteristic c.self.inside.ring)) g.M.Monomial.order (g.R.CoeffRing.characteristic c.self.inside.ring) g.M.Monomial.VARS g.M.Monomial.LIM c.args.g.now c.index-terms-0.result.mono deg (g.R.CoeffRing.value c.index-terms-0.result.coef) c.in-Some.inverse
    modulus c.terms-terms.ensures.canonical lead.0 lead.1 lead.2 e reduced c.in-Some.ensures.0 c.in-Some.ensures.1

pub returns-in_default : goal.returns-in_default
returns-in_default g c =
    let some : 0 < length c.terms-terms.result.now = positive_from _ _ c.is_empty.ensures c.if-is_empty.false in
    let lead = lead_facts g.M.Monomial.vector g.R.CoeffRing.value c.terms-terms.result.now c.index-terms-0.result c.args.g.now.list some c.index-terms-0.is c.terms-terms.ensures.view in
    let modulus : c.args.g.now.modulus ≡ g.R.CoeffRing.characteristic c.self.inside.ring = c.requires.modulus ∙ sym (ap (λ (x : DivisorList). x.modulus) c.self.view_is) in
    ((lead.0, λ i. c.in_default.ensures (subst (λ (b : ℤ). IsUnit (g.R.CoeffRing.characteristic c.self.inside.ring) b) (sym lead.2) (subst (λ (p : ℕ). IsUnit p (lc c.args.g.now.list)) modulus i))), refl)

pub returns-in_default-reserve : goal.returns-in_default-reserve
returns-in_default-reserve g c =
    let modulus : c.args.g.now.modulus ≡ g.R.CoeffRing.characteristic c.self.inside.ring = c.requires.modulus ∙ sym (ap (λ (x : DivisorList). x.modulus) c.self.view_is) in (
      subst (λ (p : ℕ). IsDivisor g.M.Monomial.order p g.M.Monomial.VARS c.args.g.now.list) (sym modulus) (new_kept g (goal.at.returns-in_default-reserve g c).In-Some (degree (g.M.Monomial.vector c.index-terms-0.result.mono)) refl).divisor,
      (λ i. record { modulus = g.R.CoeffRing.characteristic c.self.inside.ring; list = map (λ x. x.poly.now.list) (c.reserve.ensures.items i) }) ∙ c.self.view_is,
    )

pub invariant_of-self-2 : goal.invariant_of-self-2
invariant_of-self-2 g c =
    let items = c.push_reserved.ensures.items ∙ ap (λ xs. xs ++ record { poly = c.args.g; lead = c.index-terms-0.result.mono; degree = c.degree.result; inverse = c.in-Some.inverse } ∷ []) c.reserve.ensures.items in
    let count : length c.self.inside.list.items ≡ length c.args.self.now.list = sym (length-map c.self.inside.list.items (λ x. x.poly.now.list)) ∙ ap (λ (x : DivisorList). length x.list) c.self.view_is in
    let longer = length_push c.self.inside.list.items (record { poly = c.args.g; lead = c.index-terms-0.result.mono; degree = c.degree.result; inverse = c.in-Some.inverse }) in (
      omega (arith, ap length items, longer, count, c.requires.few),
      subst (λ xs. All (λ x. IsKept g.M.Monomial.vector g.R.CoeffRing.value (g.R.CoeffRing.belongs (g.R.CoeffRing.characteristic c.self.inside.ring)) g.M.Monomial.order (g.R.CoeffRing.characteristic c.self.inside.ring) g.M.Monomial.VARS g.M.Monomial.LIM x.poly.now x.lead x.degree x.inverse) xs) (sym items)
          (All-push (λ x. IsKept g.M.Monomial.vector g.R.CoeffRing.value (g.R.CoeffRing.belongs (g.R.CoeffRing.characteristic c.self.inside.ring)) g.M.Monomial.order (g.R.CoeffRing.characteristic c.self.inside.ring) g.M.Monomial.VARS g.M.Monomial.LIM x.poly.now x.lead x.degree x.inverse) c.self.inside.list.items (record { poly = c.args.g; lead = c.index-terms-0.result.mono; degree = c.degree.result; inverse = c.in-Some.inverse }) c.self.invariant.1 (new_kept g (goal.at.invariant_of-self-2 g c).In-Some c.degree.result c.degree.ensures)),
    )

pub returns : goal.returns
returns g c =
    let modulus : c.args.g.now.modulus ≡ g.R.CoeffRing.characteristic c.self.inside.ring = c.requires.modulus ∙ sym (ap (λ (x : DivisorList). x.modulus) c.self.view_is) in
    let items = c.push_reserved.ensures.items ∙ ap (λ xs. xs ++ record { poly = c.args.g; lead = c.index-terms-0.result.mono; degree = c.degree.result; inverse = c.in-Some.inverse } ∷ []) c.reserve.ensures.items in
    let list = ap (λ xs. map (λ x. x.poly.now.list) xs) items ∙ map-append (λ x. x.poly.now.list) c.self.inside.list.items (record { poly = c.args.g; lead = c.index-terms-0.result.mono; degree = c.degree.result; inverse = c.in-Some.inverse } ∷ []) ∙ ap (λ (x : DivisorList). x.list ++ c.args.g.now.list ∷ []) c.self.view_is in (
      subst (λ (p : ℕ). IsDivisor g.M.Monomial.order p g.M.Monomial.VARS c.args.g.now.list) (sym modulus) (new_kept g (goal.at.returns g c).In-Some c.degree.result c.degree.ensures).divisor,
      λ i. record { modulus = ap (λ (x : DivisorList). x.modulus) c.self.view_is i; list = list i },
    )
