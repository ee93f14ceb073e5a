use Rattle.std.proofs.Common.{rules, ◌≡◌, ◌≤◌, ℤ, pos, ◌∷◌, ◌++◌, [], All, sym, subst}
use Rattle.std.specs.Prelude.{unsigned_abs}
use Rattle.std.proofs.lemmas.List.Elements.{All-push}
use Rattle.sdmp_laws.specs.Order.{degree}
use Rattle.sdmp_laws.specs.Limits.{greatest_norm}
use Rattle.packed_monomial.specs.Packing.{vector_of, limit_of}
use Rattle.packed_monomial.specs.declared.packed.Packed.{Packed}
use Rattle.canonical_terms.specs.declared.term.TermOf.{TermOf}
use Rattle.division_tests.proofs.sums.sum_of_variables.Goals as goal

pub loop-i-preserved : goal.loop-i-preserved
loop-i-preserved c =
    let inv = c.loop-i.invariant in let t : TermOf (Packed 4) ℤ = record { mono = c.in_ok-mono.mono; coef = pos 1 } in
    let is : c.push.new.self.items ≡ c.loop-i.list.items ++ t ∷ [] = search rules in (
      subst (All (λ u. unsigned_abs u.coef ≤ greatest_norm)) (sym is) (All-push (λ u. unsigned_abs u.coef ≤ greatest_norm) c.loop-i.list.items t inv.0 (search rules)),
      subst (All (λ u. degree (vector_of 4 u.mono.word) ≤ limit_of 4)) (sym is) (All-push (λ u. degree (vector_of 4 u.mono.word) ≤ limit_of 4) c.loop-i.list.items t inv.1 (search rules)),
    )
