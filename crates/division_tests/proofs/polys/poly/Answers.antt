use Rattle.std.proofs.Common.{rules, ◌≡◌, ◌≤◌, ◌∷◌, ◌++◌, [], All, sym, subst}
use Rattle.std.proofs.lemmas.List.Elements.{All-push}
use Rattle.sdmp_laws.specs.Order.{degree}
use Rattle.packed_monomial.specs.Packing.{vector_of, limit_of}
use Rattle.division_tests.proofs.polys.poly.Goals as goal

pub loop-i-preserved : goal.loop-i-preserved
loop-i-preserved g c =
    let inv = c.loop-i.invariant in let t = c.in_ok-term.term in
    let is : c.push.new.self.items ≡ c.loop-i.list.items ++ t ∷ [] = search rules in (
      subst (All (λ u. g.R.CoeffRing.belongs (g.R.CoeffRing.characteristic c.args.ring) u.coef)) (sym is) (All-push (λ u. g.R.CoeffRing.belongs (g.R.CoeffRing.characteristic c.args.ring) u.coef) c.loop-i.list.items t inv.0 (search rules)),
      subst (All (λ u. degree (vector_of 2 u.mono.word) ≤ limit_of 2)) (sym is) (All-push (λ u. degree (vector_of 2 u.mono.word) ≤ limit_of 2) c.loop-i.list.items t inv.1 (search rules)),
    )
