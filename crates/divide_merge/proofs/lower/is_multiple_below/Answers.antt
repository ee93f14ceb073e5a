use Rattle.std.proofs.Common.{◌-◌, ◌∙◌, sym, ap, subst, arith, ℕ, true≢false, not}
use Rattle.sdmp_laws.specs.Order.{◌⋅◌, Below}
use Rattle.sdmp_laws.proofs.CompareLemmas.{compare_below}
use Rattle.divide_merge.specs.Lower.{power}
use Rattle.divide_merge.proofs.lower.is_multiple_below.Goals.{in-Less, in_default}
use Rattle.divide_merge.proofs.lower.is_multiple_below.Goals as goal

pub returns-after-matches : goal.returns-after-matches
returns-after-matches g c =
    let monos = g.met.M.Monomial g.world.𝓛 g.world.𝓜 g.world.𝓡 ((λ s x. x), (λ x. x), (λ x. x), λ x. x) in
    elim c.match-matches.branch [
      | in-Less w ↦ λ _. record {
        some = omega (arith, c.VARS.ensures, c.if-VARS-eq0.false);
        above = subst (Below g.M.Monomial.order (g.M.Monomial.vector c.args.bound)) (c.in-Some.ensures ∙ ap (λ (n : ℕ). g.M.Monomial.vector c.args.lead ⋅ power g.M.Monomial.VARS (n - 1) c.args.more) c.VARS-2.ensures) (compare_below g.M.Monomial.order (g.M.Monomial.vector c.args.bound) (g.M.Monomial.vector c.in-Some.last) (monos.vars c.args.bound ∙ sym (monos.vars c.in-Some.last)) (sym c.higher.ensures.value ∙ w.in-Less.is));
      }
      | in_default w ↦ λ e. absurd (true≢false (sym (ap not w.matches-is) ∙ e))
    ]
