use Rattle.std.proofs.Common.{rules, ◌≡◌, ◌≤◌, ℤ, pos, ◌∷◌, ◌++◌, [], All, sym, ap, ◌∙◌, subst, arith}
use Rattle.std.proofs.lemmas.List.Elements.{All-push}
use Rattle.sdmp_laws.specs.Order.{Grlex, degree}
use Rattle.sdmp_laws.proofs.OrderLemmas.{degree_zeros}
use Rattle.packed_monomial.specs.Packing.{vector_of, limit_of}
use Rattle.packed_monomial.specs.declared.packed.Packed.{Packed}
use Rattle.canonical_terms.specs.declared.term.TermOf.{TermOf}
use Rattle.division_tests.proofs.Degrees.{term_degrees}
use Rattle.division_tests.proofs.sums.power_and_next.Goals as goal

pub from_terms-requires-clause-degrees : goal.from_terms-requires-clause-degrees
from_terms-requires-clause-degrees c κs =
    let ts = c.terms.result.now in let t : TermOf (Packed 4) ℤ = record { mono = c.one.result; coef = pos 1 } in
    let is : c.push.new.self.items ≡ ts ++ t ∷ [] = search rules in
    let unit : degree (vector_of 4 c.one.result.word) ≡ 0 = ap degree c.one.ensures ∙ degree_zeros 4 in
    let old = term_degrees (λ (m : Packed 4). vector_of 4 m.word) (λ (a : ℤ). a) Grlex c.loop.power.modulus 4 (limit_of 4) c.loop.power.list ts c.terms.ensures.view c.terms.ensures.canonical in
    subst (All (λ u. degree (vector_of 4 u.mono.word) ≤ limit_of 4)) (sym is) (All-push (λ u. degree (vector_of 4 u.mono.word) ≤ limit_of 4) ts t old (omega (arith, unit)))
