use Rattle.std.proofs.Common.{true, false, sym, ap, ◌∙◌}
use Rattle.sdmp_laws.proofs.CompareLemmas.{compare_less, compare_below}
use Rattle.divide_merge.specs.Inside.{vector_of}
use Rattle.divide_merge.proofs.Bounds.{under_none, under_yes, under_no}
use Rattle.divide_merge.proofs.Hearing.{front_is}
use Rattle.divide_merge.proofs.merge.DivideMerge.is_under_front.Goals as goal

pub returns-in-None : goal.returns-in-None
returns-in-None g c =
    let o = vector_of g.M.Monomial.vector in
    front_is c.self.invariant c.self.view_is true (g.M.Monomial.vector c.args.mono) (under_none g.M.Monomial.order (o c.self.inside.front) (g.M.Monomial.vector c.args.mono) (ap o c.in-None.is))

pub returns-in-Less : goal.returns-in-Less
returns-in-Less g c =
    let monos = g.met.M.Monomial g.world.𝓛 g.world.𝓜 g.world.𝓡 ((λ s x. x), (λ x. x), (λ x. x), λ x. x) in
    let v = g.M.Monomial.vector in
    let o = vector_of g.M.Monomial.vector in
    front_is c.self.invariant c.self.view_is true (v c.args.mono)
    (under_yes g.M.Monomial.order (o c.self.inside.front) (v c.in-Some.front) (v c.args.mono) (ap o c.in-Some.is)
    (compare_below g.M.Monomial.order (v c.args.mono) (v c.in-Some.front) (monos.vars c.args.mono ∙ sym (monos.vars c.in-Some.front)) (sym c.higher.ensures.value ∙ c.in-Less.is)))

pub returns-in_default : goal.returns-in_default
returns-in_default g c =
    let v = g.M.Monomial.vector in
    let o = vector_of g.M.Monomial.vector in
    front_is c.self.invariant c.self.view_is false (v c.args.mono)
    (under_no g.M.Monomial.order (o c.self.inside.front) (v c.in-Some.front) (v c.args.mono) (ap o c.in-Some.is)
    (λ b. c.in_default.not-Less (c.higher.ensures.value ∙ compare_less g.M.Monomial.order (v c.args.mono) (v c.in-Some.front) b)))
