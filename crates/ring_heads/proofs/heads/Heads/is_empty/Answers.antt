use Rattle.std.proofs.Common.{subst, sym, ap, ◌∙◌}
use Rattle.chained_heap.specs.Shape.{IsEmpty, IsTop}
use Rattle.ring_heads.specs.Heads.{live}
use Rattle.ring_heads.proofs.HeadLemmas.{none_live, top_heads, has_some, no_top, some_top, some_head}
use Rattle.ring_heads.proofs.heads.Heads.is_empty.Goals as goal

pub returns-in-Some-clause-yes : goal.returns-in-Some-clause-yes
returns-in-Some-clause-yes g c =
    λ yes.
    let none = no_top g.M.Ord.cmp c.top.result c.is_none.result c.in-Some.heap c.is_none.ensures c.top.ensures yes in
    ap (live g.M.Monomial.vector g.R.CoeffRing.value) (sym c.self.view_is) ∙ none_live g.M.Monomial.vector g.R.CoeffRing.value c.self.inside.list.items (subst (λ ps. IsEmpty ps) (c.self.invariant.0 c.in-Some.heap c.in-Some.is) none)

pub returns-in-Some-clause-no : goal.returns-in-Some-clause-no
returns-in-Some-clause-no g c =
    λ no empty.
    let monos = g.met.M.Monomial g.world.𝓛 g.world.𝓜 g.world.𝓡 ((λ s x. x), (λ x. x), (λ x. x), λ x. x) in
    let top = some_top g.M.Ord.cmp c.top.result c.is_none.result c.in-Some.heap c.is_none.ensures c.top.ensures no in
    let there = top_heads g.M.Ord.cmp g.M.Monomial.vector g.R.CoeffRing.value g.M.Monomial.order g.M.Monomial.VARS monos.ordered monos.vars c.self.inside.list.items top.0 (subst (λ ps. IsTop g.M.Ord.cmp ps top.0) (c.self.invariant.0 c.in-Some.heap c.in-Some.is) top.1) in
    has_some _ _ there.there (ap (live g.M.Monomial.vector g.R.CoeffRing.value) c.self.view_is ∙ empty)

pub returns-in-None-clause-yes : goal.returns-in-None-clause-yes
returns-in-None-clause-yes g c =
    λ yes. ap (live g.M.Monomial.vector g.R.CoeffRing.value) (sym (c.deref.ensures.value ∙ c.self.view_is)) ∙ none_live g.M.Monomial.vector g.R.CoeffRing.value c.deref.result.now (c.no_head.ensures.yes yes)

pub returns-in-None-clause-no : goal.returns-in-None-clause-no
returns-in-None-clause-no g c =
    λ no empty.
    let monos = g.met.M.Monomial g.world.𝓛 g.world.𝓜 g.world.𝓡 ((λ s x. x), (λ x. x), (λ x. x), λ x. x) in
    some_head g.M.Ord.cmp g.M.Monomial.vector g.R.CoeffRing.value g.M.Monomial.order g.M.Monomial.VARS monos.ordered monos.vars c.deref.result.now (c.no_head.ensures.no no) (ap (live g.M.Monomial.vector g.R.CoeffRing.value) (c.deref.ensures.value ∙ c.self.view_is) ∙ empty)
