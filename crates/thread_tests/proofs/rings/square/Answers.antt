use Rattle.std.proofs.Common.{rules, ◌≡◌, ◌≤◌, ◌∷◌, ◌++◌, [], All, sym, subst}
use Rattle.std.specs.Prelude.{unsigned_abs}
use Rattle.std.proofs.lemmas.List.Elements.{All-push}
use Rattle.sdmp_laws.specs.Order.{degree}
use Rattle.sdmp_laws.specs.Limits.{greatest_norm}
use Rattle.packed_monomial.specs.Packing.{vector_of, limit_of}
use Rattle.thread_tests.proofs.rings.square.Goals as goal

pub loop-i-preserved : goal.loop-i-preserved
loop-i-preserved c =
    let inv = c.loop-i.invariant in let t = c.in_ok-term.term in
    let is : c.push.new.self.items ≡ c.loop-i.out.items ++ t ∷ [] = search rules in (
      subst (All (λ u. unsigned_abs u.coef ≤ greatest_norm)) (sym is) (All-push (λ u. unsigned_abs u.coef ≤ greatest_norm) c.loop-i.out.items t inv.0 (search rules)),
      subst (All (λ u. degree (vector_of 1 u.mono.word) ≤ limit_of 1)) (sym is) (All-push (λ u. degree (vector_of 1 u.mono.word) ≤ limit_of 1) c.loop-i.out.items t inv.1 (search rules)),
    )
