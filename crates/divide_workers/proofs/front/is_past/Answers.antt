use Rattle.std.proofs.Common.{length, sym, ap, ◌∙◌}
use Rattle.std.specs.declared.cmp.Ordering.TheVariants.{Less, Equal, Greater}
use Rattle.sdmp_laws.specs.Order.{◌⋅◌, compare}
use Rattle.divide_workers.proofs.Comparing.{compared, past_is}
use Rattle.divide_workers.proofs.front.is_past.Goals as goal

pub returns-in-Less : goal.returns-in-Less
returns-in-Less g c =
    let monos = g.met.M.Monomial g.world.𝓛 g.world.𝓜 g.world.𝓡 ((λ s x. x), (λ x. x), (λ x. x), λ x. x) in
    let x = g.M.Monomial.vector c.args.top ⋅ g.M.Monomial.vector c.args.lead in
    past_is c.args.frontier.is_strict g.M.Monomial.order (g.M.Monomial.vector c.args.frontier.mono) x Less
    (compared g.M.Monomial.order x (g.M.Monomial.vector c.args.frontier.mono) Less (ap length (sym c.times.ensures) ∙ monos.vars c.times.result ∙ sym (monos.vars c.args.frontier.mono))
    (sym c.in-Less.is ∙ c.higher.ensures.value ∙ ap (λ m. compare g.M.Monomial.order m (g.M.Monomial.vector c.args.frontier.mono)) c.times.ensures))

pub returns-in-Greater : goal.returns-in-Greater
returns-in-Greater g c =
    let monos = g.met.M.Monomial g.world.𝓛 g.world.𝓜 g.world.𝓡 ((λ s x. x), (λ x. x), (λ x. x), λ x. x) in
    let x = g.M.Monomial.vector c.args.top ⋅ g.M.Monomial.vector c.args.lead in
    past_is c.args.frontier.is_strict g.M.Monomial.order (g.M.Monomial.vector c.args.frontier.mono) x Greater
    (compared g.M.Monomial.order x (g.M.Monomial.vector c.args.frontier.mono) Greater (ap length (sym c.times.ensures) ∙ monos.vars c.times.result ∙ sym (monos.vars c.args.frontier.mono))
    (sym c.in-Greater.is ∙ c.higher.ensures.value ∙ ap (λ m. compare g.M.Monomial.order m (g.M.Monomial.vector c.args.frontier.mono)) c.times.ensures))

pub returns-in-Equal : goal.returns-in-Equal
returns-in-Equal g c =
    let monos = g.met.M.Monomial g.world.𝓛 g.world.𝓜 g.world.𝓡 ((λ s x. x), (λ x. x), (λ x. x), λ x. x) in
    let x = g.M.Monomial.vector c.args.top ⋅ g.M.Monomial.vector c.args.lead in
    past_is c.args.frontier.is_strict g.M.Monomial.order (g.M.Monomial.vector c.args.frontier.mono) x Equal
    (compared g.M.Monomial.order x (g.M.Monomial.vector c.args.frontier.mono) Equal (ap length (sym c.times.ensures) ∙ monos.vars c.times.result ∙ sym (monos.vars c.args.frontier.mono))
    (sym c.in-Equal.is ∙ c.higher.ensures.value ∙ ap (λ m. compare g.M.Monomial.order m (g.M.Monomial.vector c.args.frontier.mono)) c.times.ensures))
