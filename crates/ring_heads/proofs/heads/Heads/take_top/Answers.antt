use Rattle.std.proofs.Common.{map, ap, ◌∙◌, sym, subst, refl}
use Rattle.chained_heap.specs.Shape.{IsEmpty, IsTop, taken_at}
use Rattle.ring_heads.specs.Heads.{live}
use Rattle.ring_heads.specs.Places.{place_of}
use Rattle.ring_heads.proofs.HeadLemmas.{in_places, none_live, top_size, top_sum, if_none}
use Rattle.ring_heads.proofs.heads.Heads.take_top.Goals as goal

pub returns-in_err-mono-clause-none : goal.returns-in_err-mono-clause-none
returns-in_err-mono-clause-none g c =
    if_none c.from_residual.result (ap (live g.M.Monomial.vector g.R.CoeffRing.value) (sym (c.deref.ensures.value ∙ c.self.view_is)) ∙ none_live g.M.Monomial.vector g.R.CoeffRing.value c.deref.result.now c.in_err-mono.ensures)

pub take_at-coef-requires-clause-bound : goal.take_at-coef-requires-clause-bound
take_at-coef-requires-clause-bound g c κs within i =
    let monos = g.met.M.Monomial g.world.𝓛 g.world.𝓜 g.world.𝓡 ((λ s x. x), (λ x. x), (λ x. x), λ x. x) in
    let top = subst (λ hs. IsTop g.M.Ord.cmp (map place_of hs) c.in_ok-mono.mono) (c.deref.ensures.value ∙ sym c.deref_mut.ensures.value) c.in_ok-mono.ensures in
    top_size g.M.Ord.cmp g.M.Monomial.vector g.R.CoeffRing.value g.M.Monomial.order g.M.Monomial.VARS monos.ordered monos.vars (map place_of c.deref_mut.result.now) c.deref_mut.result.now c.args.self.now c.in_ok-mono.mono refl (c.deref_mut.ensures.value ∙ c.self.view_is) top (c.requires.bound i)

pub returns-in_default-clause-sum : goal.returns-in_default-clause-sum
returns-in_default-clause-sum g c =
    let monos = g.met.M.Monomial g.world.𝓛 g.world.𝓜 g.world.𝓡 ((λ s x. x), (λ x. x), (λ x. x), λ x. x) in
    let top = subst (λ hs. IsTop g.M.Ord.cmp (map place_of hs) c.in_ok-mono.mono) (c.deref.ensures.value ∙ sym c.deref_mut.ensures.value) c.in_ok-mono.ensures in
    top_sum g.M.Ord.cmp g.M.Monomial.vector g.R.CoeffRing.value g.M.Monomial.order g.M.Monomial.VARS monos.ordered monos.vars (g.R.CoeffRing.characteristic c.args.coefficients) (map place_of c.deref_mut.result.now) c.deref_mut.result.now c.args.self.now c.in_ok-mono.mono c.take_at-coef.result refl (c.deref_mut.ensures.value ∙ c.self.view_is) top c.take_at-coef.ensures.sum

pub returns-in_err-mono-2-clause-none : goal.returns-in_err-mono-2-clause-none
returns-in_err-mono-2-clause-none g c =
    if_none c.from_residual-in_err-mono-2.result (ap (live g.M.Monomial.vector g.R.CoeffRing.value) (sym c.self.view_is) ∙ none_live g.M.Monomial.vector g.R.CoeffRing.value c.self.inside.list.items (subst (λ ps. IsEmpty ps) (c.self.invariant.0 c.in-Some.heap c.in-Some.is) c.in_err-mono-2.ensures.places.0))

pub sum_taken-coef-requires-clause-taken : goal.sum_taken-coef-requires-clause-taken
sum_taken-coef-requires-clause-taken g c κs within =
    c.in_ok-mono-2.ensures.places.1 ∙ ap (λ ps. map (taken_at g.M.Ord.cmp c.in_ok-mono-2.mono) ps) (c.self.invariant.0 c.in-Some.heap c.in-Some.is) ∙ in_places g.M.Ord.cmp c.in_ok-mono-2.mono c.self.inside.list.items

pub sum_taken-coef-requires-clause-bound : goal.sum_taken-coef-requires-clause-bound
sum_taken-coef-requires-clause-bound g c κs within i =
    let monos = g.met.M.Monomial g.world.𝓛 g.world.𝓜 g.world.𝓡 ((λ s x. x), (λ x. x), (λ x. x), λ x. x) in
    top_size g.M.Ord.cmp g.M.Monomial.vector g.R.CoeffRing.value g.M.Monomial.order g.M.Monomial.VARS monos.ordered monos.vars c.in-Some.heap c.self.inside.list.items c.args.self.now c.in_ok-mono-2.mono (c.self.invariant.0 c.in-Some.heap c.in-Some.is) c.self.view_is c.in_ok-mono-2.ensures.places.0 (c.requires.bound i)

pub returns-clause-sum : goal.returns-clause-sum
returns-clause-sum g c =
    let monos = g.met.M.Monomial g.world.𝓛 g.world.𝓜 g.world.𝓡 ((λ s x. x), (λ x. x), (λ x. x), λ x. x) in
    top_sum g.M.Ord.cmp g.M.Monomial.vector g.R.CoeffRing.value g.M.Monomial.order g.M.Monomial.VARS monos.ordered monos.vars (g.R.CoeffRing.characteristic c.args.coefficients) c.in-Some.heap c.self.inside.list.items c.args.self.now c.in_ok-mono-2.mono c.sum_taken-coef.result (c.self.invariant.0 c.in-Some.heap c.in-Some.is) c.self.view_is c.in_ok-mono-2.ensures.places.0 c.sum_taken-coef.ensures.sum
