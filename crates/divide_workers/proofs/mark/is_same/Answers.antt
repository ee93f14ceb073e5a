use Rattle.std.proofs.Common.{◌≡◌, Some, arith, refl, sym, ap, ◌∙◌}
use Rattle.std.specs.declared.cmp.Ordering.TheVariants.{Equal}
use Rattle.divide_workers.proofs.Comparing.{compared}
use Rattle.divide_workers.proofs.mark.is_same.Goals as goal
use Rattle.divide_merge.specs.Inside.{vector_of}

pub returns-in-Equal : goal.returns-in-Equal
returns-in-Equal g c =
    let monos = g.met.M.Monomial g.world.𝓛 g.world.𝓜 g.world.𝓡 ((λ s x. x), (λ x. x), (λ x. x), λ x. x) in
    let v = g.M.Monomial.vector in
    let e = compared g.M.Monomial.order (v c.in-Some.top) (v c.in-Some-top.other) Equal (monos.vars c.in-Some.top ∙ sym (monos.vars c.in-Some-top.other)) (sym c.in-Equal.is ∙ c.higher.ensures.value) in
    let same_known : c.args.left.known ≡ c.args.right.known = let f = c.if-left-right.false in grind (arith) in
    ((λ t. (λ i. (same_known i, (ap (vector_of v) c.in-Some.is ∙ ap (λ m. Some m) e ∙ sym (ap (vector_of v) c.in-Some-top.is)) i))), (λ h. refl))
