use Rattle.std.proofs.Common.{sym, ap, ◌∙◌}
use Rattle.sdmp_laws.proofs.CompareLemmas.{compare_less, compare_below}
use Rattle.divide_merge.specs.Inside.{vector_of}
use Rattle.divide_merge.proofs.Bounds.{low_without, low_nowhere, low_yes, low_no}
use Rattle.divide_merge.proofs.reading.is_top_low.Goals as goal

pub returns-in_default : goal.returns-in_default
returns-in_default g c =
    let o = vector_of g.M.Monomial.vector in
    low_without g.M.Monomial.order (o c.args.next) (o c.args.top) (ap o c.in_default.is)

pub returns-in_default-next : goal.returns-in_default-next
returns-in_default-next g c =
    let o = vector_of g.M.Monomial.vector in
    low_nowhere g.M.Monomial.order (o c.args.next) (o c.args.top) (g.M.Monomial.vector c.in-Some.top) (ap o c.in_default-next.is) (ap o c.in-Some.is)

pub returns-in-Less : goal.returns-in-Less
returns-in-Less g c =
    let monos = g.met.M.Monomial g.world.𝓛 g.world.𝓜 g.world.𝓡 ((λ s x. x), (λ x. x), (λ x. x), λ x. x) in
    let v = g.M.Monomial.vector in
    let o = vector_of g.M.Monomial.vector in
    low_yes g.M.Monomial.order (o c.args.next) (o c.args.top) (v c.in-Some-next.next) (v c.in-Some.top) (ap o c.in-Some-next.is) (ap o c.in-Some.is)
    (compare_below g.M.Monomial.order (v c.in-Some.top) (v c.in-Some-next.next) (monos.vars c.in-Some.top ∙ sym (monos.vars c.in-Some-next.next)) (sym c.higher.ensures.value ∙ c.in-Less.is))

pub returns-in_default-matches : goal.returns-in_default-matches
returns-in_default-matches g c =
    let v = g.M.Monomial.vector in
    let o = vector_of g.M.Monomial.vector in
    low_no g.M.Monomial.order (o c.args.next) (o c.args.top) (v c.in-Some-next.next) (v c.in-Some.top) (ap o c.in-Some-next.is) (ap o c.in-Some.is)
    (λ b. c.in_default-matches.not-Less (c.higher.ensures.value ∙ compare_less g.M.Monomial.order (v c.in-Some.top) (v c.in-Some-next.next) b))
