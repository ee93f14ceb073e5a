use Rattle.std.proofs.Common.{rules, ◌≡◌, ℤ, [], ◌∷◌, ap, ◌∙◌}
use Rattle.sdmp_laws.specs.Order.{Grlex}
use Rattle.sdmp_laws.specs.Poly.{terms}
use Rattle.packed_monomial.specs.Packing.{vector_of}
use Rattle.packed_monomial.specs.declared.packed.Packed.{Packed}
use Rattle.canonical_terms.specs.View.{sum_of}
use Rattle.division_tests.proofs.lines.binomial.Goals as goal

pub returns-clause-list : goal.returns-clause-list
returns-clause-list c =
    let power : vector_of 1 c.in_ok-power.power.word ≡ c.args.exponent ∷ [] = search rules in
    let unit : vector_of 1 c.in_ok-unit.unit.word ≡ 0 ∷ [] = search rules in
    let list : c.in_ok-to_vec.field-0.items ≡ record { mono = c.in_ok-power.power; coef = c.args.a } ∷ record { mono = c.in_ok-unit.unit; coef = c.args.b } ∷ [] = search rules in
    c.in_ok-from_terms.ensures.terms ∙ ap (λ ts. terms Grlex 0 (sum_of (λ (m : Packed 1). vector_of 1 m.word) (λ (a : ℤ). a) ts)) list
    ∙ (λ i. terms Grlex 0 (record { monomial = power i; coefficient = c.args.a } ∷ record { monomial = unit i; coefficient = c.args.b } ∷ []))
