use Rattle.std.proofs.Common.{Some, true≢false, sym, subst, ◌∙◌}
use Rattle.std.specs.declared.cmp.Ordering.TheVariants.{Less, Equal, Greater}
use Rattle.divide_workers.specs.Fronts.{plain_front, front_of, FrontFalls}
use Rattle.divide_workers.proofs.Comparing.{compared, falls_below, falls_equal}
use Rattle.divide_workers.proofs.Falling.{falls_itself, falls_from_none}
use Rattle.divide_workers.proofs.front.lower.Goals as goal

pub returns-in_default-clause-known : goal.returns-in_default-clause-known
returns-in_default-clause-known g c =
    let news = front_of g.M.Monomial.vector c.args.news in
    subst (λ o. FrontFalls g.M.Monomial.order (plain_front g.M.Monomial.vector o) (Some news)) (sym c.in_default.is) (falls_from_none g.M.Monomial.order (Some news))

pub returns-in_default-clause-news : goal.returns-in_default-clause-news
returns-in_default-clause-news g c = falls_itself g.M.Monomial.order (Some (front_of g.M.Monomial.vector c.args.news))

pub returns-in-Less-clause-known : goal.returns-in-Less-clause-known
returns-in-Less-clause-known g c =
    let monos = g.met.M.Monomial g.world.𝓛 g.world.𝓜 g.world.𝓡 ((λ s x. x), (λ x. x), (λ x. x), λ x. x) in
    let news = front_of g.M.Monomial.vector c.args.news in let front = front_of g.M.Monomial.vector c.in-Some.front in
    subst (λ o. FrontFalls g.M.Monomial.order (plain_front g.M.Monomial.vector o) (Some news)) (sym c.in-Some.is)
    (falls_below g.M.Monomial.order front news (compared g.M.Monomial.order news.mono front.mono Less (monos.vars c.args.news.mono ∙ sym (monos.vars c.in-Some.front.mono)) (sym c.in-Less.is ∙ c.higher.ensures.value)))

pub returns-in-Less-clause-news : goal.returns-in-Less-clause-news
returns-in-Less-clause-news g c = falls_itself g.M.Monomial.order (Some (front_of g.M.Monomial.vector c.args.news))

pub returns-in-Greater-clause-known : goal.returns-in-Greater-clause-known
returns-in-Greater-clause-known g c =
    let front = front_of g.M.Monomial.vector c.in-Some.front in
    subst (λ o. FrontFalls g.M.Monomial.order (plain_front g.M.Monomial.vector o) (Some front)) (sym c.in-Some.is) (falls_itself g.M.Monomial.order (Some front))

pub returns-in-Greater-clause-news : goal.returns-in-Greater-clause-news
returns-in-Greater-clause-news g c =
    let monos = g.met.M.Monomial g.world.𝓛 g.world.𝓜 g.world.𝓡 ((λ s x. x), (λ x. x), (λ x. x), λ x. x) in
    let news = front_of g.M.Monomial.vector c.args.news in let front = front_of g.M.Monomial.vector c.in-Some.front in
    falls_below g.M.Monomial.order news front (compared g.M.Monomial.order news.mono front.mono Greater (monos.vars c.args.news.mono ∙ sym (monos.vars c.in-Some.front.mono)) (sym c.in-Greater.is ∙ c.higher.ensures.value))

pub returns-then-front-clause-known : goal.returns-then-front-clause-known
returns-then-front-clause-known g c =
    let front = front_of g.M.Monomial.vector c.in-Some.front in
    subst (λ o. FrontFalls g.M.Monomial.order (plain_front g.M.Monomial.vector o) (Some front)) (sym c.in-Some.is) (falls_itself g.M.Monomial.order (Some front))

pub returns-then-front-clause-news : goal.returns-then-front-clause-news
returns-then-front-clause-news g c =
    let monos = g.met.M.Monomial g.world.𝓛 g.world.𝓜 g.world.𝓡 ((λ s x. x), (λ x. x), (λ x. x), λ x. x) in
    let news = front_of g.M.Monomial.vector c.args.news in let front = front_of g.M.Monomial.vector c.in-Some.front in
    let e = compared g.M.Monomial.order news.mono front.mono Equal (monos.vars c.args.news.mono ∙ sym (monos.vars c.in-Some.front.mono)) (sym c.in-Equal.is ∙ c.higher.ensures.value) in
    falls_equal g.M.Monomial.order news front (sym e) (λ t. c.if-front.true)

pub returns-else-front-clause-known : goal.returns-else-front-clause-known
returns-else-front-clause-known g c =
    let monos = g.met.M.Monomial g.world.𝓛 g.world.𝓜 g.world.𝓡 ((λ s x. x), (λ x. x), (λ x. x), λ x. x) in
    let news = front_of g.M.Monomial.vector c.args.news in let front = front_of g.M.Monomial.vector c.in-Some.front in
    let e = compared g.M.Monomial.order news.mono front.mono Equal (monos.vars c.args.news.mono ∙ sym (monos.vars c.in-Some.front.mono)) (sym c.in-Equal.is ∙ c.higher.ensures.value) in
    subst (λ o. FrontFalls g.M.Monomial.order (plain_front g.M.Monomial.vector o) (Some news)) (sym c.in-Some.is)
    (falls_equal g.M.Monomial.order front news e (λ t. absurd (true≢false (sym t ∙ c.if-front.false))))

pub returns-else-front-clause-news : goal.returns-else-front-clause-news
returns-else-front-clause-news g c = falls_itself g.M.Monomial.order (Some (front_of g.M.Monomial.vector c.args.news))
