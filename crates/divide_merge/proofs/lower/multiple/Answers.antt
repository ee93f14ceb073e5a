use Rattle.std.proofs.Common.{◌∙◌, ap, List, [], ◌∷◌, set, take, ℕ, arith}
use Rattle.sdmp_laws.specs.Order.{◌⋅◌}
use Rattle.divide_merge.proofs.LowerLemmas.{spelled_power}
use Rattle.divide_merge.proofs.lower.multiple.Goals as goal

pub returns-in-Ok : goal.returns-in-Ok
returns-in-Ok g c = c.times.ensures ∙ ap (λ (v : List ℕ). g.M.Monomial.vector c.args.lead ⋅ v) (c.in-Ok.ensures.1 ∙ ap (λ (n : ℕ). take n (set (0 ∷ 0 ∷ 0 ∷ 0 ∷ 0 ∷ 0 ∷ 0 ∷ 0 ∷ 0 ∷ 0 ∷ 0 ∷ 0 ∷ 0 ∷ 0 ∷ 0 ∷ []) c.args.variable c.args.times)) c.VARS-2.ensures ∙ spelled_power g.M.Monomial.VARS c.args.variable c.args.times c.requires.variable (omega (arith, c.VARS.ensures, c.if-VARS-gt-MOST_VARIABLES.false)))
