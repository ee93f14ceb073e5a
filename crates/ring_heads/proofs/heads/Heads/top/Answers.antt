use Rattle.std.proofs.Common.{map, refl, ◌∙◌}
use Rattle.ring_heads.specs.Places.{place_of}
use Rattle.ring_heads.proofs.HeadLemmas.{top_known}
use Rattle.ring_heads.proofs.heads.Heads.top.Goals as goal

pub returns-in-Some : goal.returns-in-Some
returns-in-Some g c =
    let monos = g.met.M.Monomial g.world.𝓛 g.world.𝓜 g.world.𝓡 ((λ s x. x), (λ x. x), (λ x. x), λ x. x) in
    top_known g.M.Ord.cmp g.M.Monomial.vector g.R.CoeffRing.value g.M.Monomial.order g.M.Monomial.VARS monos.ordered monos.vars c.top.result c.in-Some.heap c.self.inside.list.items c.args.self.now (c.self.invariant.0 c.in-Some.heap c.in-Some.is) c.self.view_is c.top.ensures

pub returns-in-None : goal.returns-in-None
returns-in-None g c =
    let monos = g.met.M.Monomial g.world.𝓛 g.world.𝓜 g.world.𝓡 ((λ s x. x), (λ x. x), (λ x. x), λ x. x) in
    top_known g.M.Ord.cmp g.M.Monomial.vector g.R.CoeffRing.value g.M.Monomial.order g.M.Monomial.VARS monos.ordered monos.vars c.greatest.result (map place_of c.deref.result.now) c.deref.result.now c.args.self.now refl (c.deref.ensures.value ∙ c.self.view_is) c.greatest.ensures
