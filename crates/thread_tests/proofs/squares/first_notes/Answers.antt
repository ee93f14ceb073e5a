use Rattle.std.proofs.Common.{rules, ◌≡◌, ℤ, pos, negsuc, [], ◌∷◌}
use Rattle.packed_monomial.specs.Packing.{vector_of}
use Rattle.packed_monomial.specs.declared.packed.Packed.{Packed}
use Rattle.term_ring.specs.Ends.{script_in}
use Rattle.term_ring.proofs.Examples.{all_three}
use Rattle.thread_tests.proofs.squares.first_notes.Goals as goal

pub returns-clause-carries : goal.returns-clause-carries
returns-clause-carries c =
    let two : vector_of 1 c.in_ok-two.two.word ≡ 2 ∷ [] = search rules in
    let one : vector_of 1 c.in_ok-one.one.word ≡ 1 ∷ [] = search rules in
    all_three (λ (m : Packed 1). vector_of 1 m.word) (λ (a : ℤ). a) (script_in c.args.ring.now) record { mono = c.in_ok-two.two; coef = pos 1 } record { mono = c.in_ok-one.one; coef = negsuc 0 } c.requires
    (λ i. record { monomial = two i; coefficient = pos 1 }) (λ i. record { monomial = one i; coefficient = negsuc 0 })
