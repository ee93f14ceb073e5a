use Rattle.std.proofs.Common.{rules, ◌≡◌, ℤ, pos, ◌∷◌, [], ◌∙◌}
use Rattle.sdmp_laws.specs.Order.{Grlex}
use Rattle.sdmp_laws.specs.declared.Mode.TheVariants.{Exact}
use Rattle.packed_monomial.specs.Packing.{vector_of}
use Rattle.packed_monomial.specs.declared.packed.Packed.{Packed}
use Rattle.thread_tests.specs.Examples.{square_less_one}
use Rattle.quotient_row.specs.Ends.{name_of}
use Rattle.quotient_row.specs.Names.{RowName}
use Rattle.thread_tests.proofs.Published.{both_legal}
use Rattle.thread_tests.proofs.rows.full_at_the_second_term.Goals as goal

pub publish_from-published-requires-clause-legal : goal.publish_from-published-requires-clause-legal
publish_from-published-requires-clause-legal g c κs =
    let f = c.in_ok-f.ensures in let h = c.in_ok-g.ensures in
    let one : vector_of 1 c.in_ok-one.one.word ≡ 1 ∷ [] = search rules in let zero : vector_of 1 c.in_ok-zero.zero.word ≡ 0 ∷ [] = search rules in
    let name : RowName = name_of c.in_ok-made.made.0 in
    let is : name ≡ record { division = square_less_one; start = 0 } = c.in_ok-made.ensures.name ∙ (λ i. record { division = record { mode = Exact; ord = Grlex; p = f.modulus i; n = 1; f = f.list i; g = h.list i }; start = 0 }) in
    both_legal (λ (m : Packed 1). vector_of 1 m.word) (λ (a : ℤ). a) name record { mono = c.in_ok-one.one; coef = pos 1 } record { mono = c.in_ok-zero.zero; coef = pos 1 } is
    (λ i. record { monomial = one i; coefficient = pos 1 }) (λ i. record { monomial = zero i; coefficient = pos 1 })
