use Rattle.std.proofs.Common.{sym, ap, ◌∙◌}
use Rattle.std.specs.Ordering.{is_lt, is_gt}
use Rattle.sdmp_laws.proofs.CompareLemmas.{compare_above, compare_equal, compare_below}
use Rattle.divide_merge.proofs.NextRead.{head_greater, both_equal, unread_greater}
use Rattle.divide_merge.proofs.reading.greater.Goals as goal

pub returns-in-Less : goal.returns-in-Less
returns-in-Less g c =
    let monos = g.met.M.Monomial g.world.𝓛 g.world.𝓜 g.world.𝓡 ((λ s x. x), (λ x. x), (λ x. x), λ x. x) in
    let v = g.M.Monomial.vector in
    head_greater v g.M.Monomial.order c.args.unread c.args.top (compare_below g.M.Monomial.order (v c.args.unread) (v c.args.top) (monos.vars c.args.unread ∙ sym (monos.vars c.args.top)) (sym c.higher.ensures.value ∙ c.in-Less.is))

pub returns-in-Equal : goal.returns-in-Equal
returns-in-Equal g c =
    let monos = g.met.M.Monomial g.world.𝓛 g.world.𝓜 g.world.𝓡 ((λ s x. x), (λ x. x), (λ x. x), λ x. x) in
    let v = g.M.Monomial.vector in
    let e = sym c.higher.ensures.value ∙ c.in-Equal.is in
    both_equal v g.M.Monomial.order c.args.unread c.args.top (compare_equal g.M.Monomial.order (v c.args.unread) (v c.args.top) (monos.vars c.args.unread ∙ sym (monos.vars c.args.top)) (ap is_lt e) (ap is_gt e))

pub returns-in-Greater : goal.returns-in-Greater
returns-in-Greater g c =
    let v = g.M.Monomial.vector in
    unread_greater v g.M.Monomial.order c.args.unread c.args.top (compare_above g.M.Monomial.order (v c.args.unread) (v c.args.top) (ap is_gt (sym c.higher.ensures.value ∙ c.in-Greater.is)))
