use Rattle.std.proofs.Common.{sym, ap, ◌∙◌, inr}
use Rattle.divide_merge.specs.Inside.{vector_of}
use Rattle.divide_merge.proofs.NextRead.{not_less}
use Rattle.divide_merge.proofs.Bounds.{greatest_none, greatest_alone, greatest_left, greatest_right}
use Rattle.divide_merge.proofs.reading.greatest.Goals as goal
use Rattle.sdmp_laws.proofs.CompareLemmas.{compare_below}

pub returns-in-None : goal.returns-in-None
returns-in-None g c =
    let o = vector_of g.M.Monomial.vector in
    greatest_none g.M.Monomial.order (o c.args.a) (o c.args.b) (ap o c.in-None.is)

pub returns-in-None-b : goal.returns-in-None-b
returns-in-None-b g c =
    let o = vector_of g.M.Monomial.vector in
    greatest_alone g.M.Monomial.order (o c.args.a) (o c.args.b) (g.M.Monomial.vector c.in-Some.left) (ap o c.in-Some.is) (ap o c.in-None-b.is)

pub returns-in-Less : goal.returns-in-Less
returns-in-Less g c =
    let monos = g.met.M.Monomial g.world.𝓛 g.world.𝓜 g.world.𝓡 ((λ s x. x), (λ x. x), (λ x. x), λ x. x) in
    let v = g.M.Monomial.vector in
    let o = vector_of g.M.Monomial.vector in
    greatest_right g.M.Monomial.order (o c.args.a) (o c.args.b) (v c.in-Some.left) (v c.in-Some-b.right) (ap o c.in-Some.is) (ap o c.in-Some-b.is)
    (inr (compare_below g.M.Monomial.order (v c.in-Some.left) (v c.in-Some-b.right) (monos.vars c.in-Some.left ∙ sym (monos.vars c.in-Some-b.right)) (sym c.higher.ensures.value ∙ c.in-Less.is)))

pub returns-in_default : goal.returns-in_default
returns-in_default g c =
    let monos = g.met.M.Monomial g.world.𝓛 g.world.𝓜 g.world.𝓡 ((λ s x. x), (λ x. x), (λ x. x), λ x. x) in
    let v = g.M.Monomial.vector in
    let o = vector_of g.M.Monomial.vector in
    greatest_left g.M.Monomial.order (o c.args.a) (o c.args.b) (v c.in-Some.left) (v c.in-Some-b.right) (ap o c.in-Some.is) (ap o c.in-Some-b.is)
    (not_less g.M.Monomial.order (v c.in-Some.left) (v c.in-Some-b.right) (monos.vars c.in-Some.left ∙ sym (monos.vars c.in-Some-b.right)) (λ e. c.in_default.not-Less (c.higher.ensures.value ∙ e)))
