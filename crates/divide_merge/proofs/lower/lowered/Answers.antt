use Rattle.std.proofs.Common.{◌≡◌, ◌-◌, sym, refl, subst, arith, List, ℕ, length, suc, inl}
use Rattle.sdmp_laws.specs.Order.{◌⋅◌}
use Rattle.sdmp_laws.specs.Division.{AtOrAbove}
use Rattle.divide_merge.specs.Lower.{power, IsLeastAbove}
use Rattle.divide_merge.proofs.LowerLemmas.{one_below, none_small, none_least, next_below, next_multiples, either, when_some}
use Rattle.divide_merge.proofs.lower.lowered.Given.{Over}
use Rattle.divide_merge.proofs.lower.lowered.Goals as goal

vars : (g : Over) → (m : g.row.M.Denot) → length (g.M.Monomial.vector m) ≡ g.M.Monomial.VARS
vars g = (g.met.M.Monomial g.world.𝓛 g.world.𝓜 g.world.𝓡 ((λ s x. x), (λ x. x), (λ x. x), λ x. x)).vars

pub returns-then-degree-least-clause-below : goal.returns-then-degree-least-clause-below
returns-then-degree-least-clause-below g c =
    subst (λ (v : List ℕ). AtOrAbove g.M.Monomial.order v (g.M.Monomial.vector c.args.bound)) (sym c.one.ensures) (one_below g.M.Monomial.order g.M.Monomial.VARS (g.M.Monomial.vector c.args.bound) (vars g c.args.bound))

pub returns-then-degree-least-clause-multiples : goal.returns-then-degree-least-clause-multiples
returns-then-degree-least-clause-multiples g c = λ m l d at.
    absurd (none_small g.M.Monomial.order (g.M.Monomial.vector c.args.lead) (g.M.Monomial.vector c.args.bound) m (omega (arith, c.degree-degree.ensures, c.degree-least.ensures, c.if-degree-least.true)) d at)

pub returns-then-more-eq0-clause-below : goal.returns-then-more-eq0-clause-below
returns-then-more-eq0-clause-below g c =
    subst (λ (v : List ℕ). AtOrAbove g.M.Monomial.order v (g.M.Monomial.vector c.args.bound)) (sym c.one-then-more-eq0.ensures) (one_below g.M.Monomial.order g.M.Monomial.VARS (g.M.Monomial.vector c.args.bound) (vars g c.args.bound))

pub returns-then-more-eq0-clause-multiples : goal.returns-then-more-eq0-clause-multiples
returns-then-more-eq0-clause-multiples g c = λ m l d at.
    absurd (none_least g.M.Monomial.order g.M.Monomial.VARS (g.M.Monomial.vector c.args.lead) (g.M.Monomial.vector c.args.bound) m l (omega (arith, c.degree-degree.ensures, c.degree-least.ensures, c.if-degree-least.false, c.if-more-eq0.true))
    (subst (IsLeastAbove g.M.Monomial.order g.M.Monomial.VARS (g.M.Monomial.vector c.args.lead) (g.M.Monomial.vector c.args.bound)) c.if-more-eq0.true (c.if-is_multiple_below.ensures refl)) d at)

pub returns-clause-below : goal.returns-clause-below
returns-clause-below g c =
    either (λ x. AtOrAbove g.M.Monomial.order (g.M.Monomial.vector x) (g.M.Monomial.vector c.args.bound)) c.multiple.result c.args.bound c.unwrap_or.result c.unwrap_or.ensures
    (when_some (λ x. g.M.Monomial.vector x ≡ g.M.Monomial.vector c.args.lead ⋅ power g.M.Monomial.VARS 0 (c.degree-degree.result - c.degree-least.result - 1)) (λ x. AtOrAbove g.M.Monomial.order (g.M.Monomial.vector x) (g.M.Monomial.vector c.args.bound)) c.multiple.result
    (λ x e. subst (λ (v : List ℕ). AtOrAbove g.M.Monomial.order v (g.M.Monomial.vector c.args.bound)) (sym e)
    (next_below g.M.Monomial.order g.M.Monomial.VARS (c.degree-degree.result - c.degree-least.result - 1) (g.M.Monomial.vector c.args.lead) (g.M.Monomial.vector c.args.bound) (c.if-is_multiple_below.ensures refl).some (vars g c.args.lead) (omega (arith, c.degree-degree.ensures, c.degree-least.ensures, c.if-degree-least.false, c.if-more-eq0.false))))
    c.multiple.ensures)
    (inl refl)

pub returns-clause-multiples : goal.returns-clause-multiples
returns-clause-multiples g c = λ m l d at.
    either (λ x. AtOrAbove g.M.Monomial.order m (g.M.Monomial.vector x)) c.multiple.result c.args.bound c.unwrap_or.result c.unwrap_or.ensures
    (when_some (λ x. g.M.Monomial.vector x ≡ g.M.Monomial.vector c.args.lead ⋅ power g.M.Monomial.VARS 0 (c.degree-degree.result - c.degree-least.result - 1)) (λ x. AtOrAbove g.M.Monomial.order m (g.M.Monomial.vector x)) c.multiple.result
    (λ x e. subst (AtOrAbove g.M.Monomial.order m) (sym e)
    (next_multiples g.M.Monomial.order g.M.Monomial.VARS (c.degree-degree.result - c.degree-least.result - 1) (g.M.Monomial.vector c.args.lead) (g.M.Monomial.vector c.args.bound) m (vars g c.args.lead) l (omega (arith, c.degree-degree.ensures, c.degree-least.ensures, c.if-degree-least.false, c.if-more-eq0.false))
    (subst (IsLeastAbove g.M.Monomial.order g.M.Monomial.VARS (g.M.Monomial.vector c.args.lead) (g.M.Monomial.vector c.args.bound)) (let e : c.degree-degree.result - c.degree-least.result ≡ suc (c.degree-degree.result - c.degree-least.result - 1) = omega (arith, c.if-degree-least.false, c.if-more-eq0.false) in e) (c.if-is_multiple_below.ensures refl)) d at))
    c.multiple.ensures)
    at
