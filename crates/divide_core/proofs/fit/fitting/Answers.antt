use Rattle.std.proofs.Common.{MatchOption, subst}
use Rattle.sdmp_laws.specs.Ring.{IsUnit, IsInverse}
use Rattle.divide_core.proofs.Fitting.{by_inverse}
use Rattle.divide_core.proofs.fit.fitting.Goals as goal

pub returns-in-Some : goal.returns-in-Some
returns-in-Some g c =
    let rings = g.met.R.CoeffRing g.world.𝓛 g.world.𝓜 g.world.𝓡 ((λ s x. x), (λ x. x), (λ x. x), λ x. x) in
    let i = subst (λ o. MatchOption o (IsUnit (g.R.CoeffRing.characteristic c.args.ring) (g.R.CoeffRing.value c.args.lead) → ⊥) (λ v. g.R.CoeffRing.belongs (g.R.CoeffRing.characteristic c.args.ring) v × IsInverse (g.R.CoeffRing.characteristic c.args.ring) (g.R.CoeffRing.value c.args.lead) (g.R.CoeffRing.value v))) c.in-Some.is c.requires.inverse in
    (c.mul.ensures.belongs, by_inverse (g.R.CoeffRing.characteristic c.args.ring) (g.R.CoeffRing.value c.args.coef) (g.R.CoeffRing.value c.args.lead) (g.R.CoeffRing.value c.in-Some.v) (g.R.CoeffRing.value c.mul.result) (rings.reduced c.args.ring c.args.coef c.requires.coef) i.1 c.mul.ensures.value)
