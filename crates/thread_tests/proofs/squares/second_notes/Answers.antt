use Rattle.std.proofs.Common.{rules, ◌≡◌, ℤ, pos, negsuc, [], ◌∷◌, sym, ◌∙◌, subst}
use Rattle.packed_monomial.specs.Packing.{vector_of}
use Rattle.packed_monomial.specs.declared.packed.Packed.{Packed}
use Rattle.canonical_terms.specs.declared.term.TermOf.{TermOf}
use Rattle.term_ring.specs.declared.note.NoteOf.TheVariants.{Term, End}
use Rattle.term_ring.specs.Carried.{Carries}
use Rattle.term_ring.proofs.Carrying.{carries_whole}
use Rattle.global_heap.specs.Examples.{squares}
use Rattle.thread_tests.proofs.Sent.{second_rows}
use Rattle.thread_tests.proofs.squares.second_notes.Goals as goal

pub returns-clause-carries : goal.returns-clause-carries
returns-clause-carries c =
    let one : vector_of 1 c.in_ok-one.one.word ≡ 1 ∷ [] = search rules in
    let zero : vector_of 1 c.in_ok-zero.zero.word ≡ 0 ∷ [] = search rules in
    let t : TermOf (Packed 1) ℤ = record { mono = c.in_ok-one.one; coef = pos 1 } in
    let u : TermOf (Packed 1) ℤ = record { mono = c.in_ok-zero.zero; coef = negsuc 0 } in
    subst (λ s. Carries (λ (m : Packed 1). vector_of 1 m.word) (λ (a : ℤ). a) s (Term t ∷ Term u ∷ End ∷ [])) (sym c.requires)
    (carries_whole (λ (m : Packed 1). vector_of 1 m.word) (λ (a : ℤ). a) squares 2 1 (t ∷ u ∷ [])
    ((λ i. record { monomial = one i; coefficient = pos 1 } ∷ record { monomial = zero i; coefficient = negsuc 0 } ∷ []) ∙ sym second_rows))
