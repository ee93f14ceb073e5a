use Rattle.std.proofs.Common.{rules, ◌≡◌, ℤ, negsuc, [], ◌∷◌, ◌++◌, sym, ap, ◌∙◌, subst}
use Rattle.std.proofs.lemmas.List.{map-append}
use Rattle.packed_monomial.specs.Packing.{vector_of}
use Rattle.packed_monomial.specs.declared.packed.Packed.{Packed}
use Rattle.whole_laws.specs.Notes.{QuotientScript, TermNote, Carry}
use Rattle.term_ring.specs.declared.note.NoteOf.{NoteOf}
use Rattle.term_ring.specs.declared.note.NoteOf.TheVariants.{Term}
use Rattle.term_ring.specs.Ends.{sent}
use Rattle.term_ring.specs.Carried.{Carries}
use Rattle.term_ring.specs.Spelling.{note_of, notes_of}
use Rattle.division_tests.specs.Examples.{square_and_one, x_term}
use Rattle.division_tests.proofs.Squares.{both_follow}
use Rattle.division_tests.proofs.merges.send_minus_one.Goals as goal

pub push-requires-clause-carries : goal.push-requires-clause-carries
push-requires-clause-carries c κs =
    let one : vector_of 1 c.in_ok-one.one.word ≡ 0 ∷ [] = search rules in
    let n : NoteOf (Packed 1) ℤ = Term record { mono = c.in_ok-one.one; coef = negsuc 0 } in
    let all : notes_of (λ (m : Packed 1). vector_of 1 m.word) (λ (a : ℤ). a) (sent c.args.writer.now ++ n ∷ []) ≡ TermNote x_term ∷ TermNote record { monomial = vector_of 1 c.in_ok-one.one.word; coefficient = negsuc 0 } ∷ [] =
    map-append (note_of (λ (m : Packed 1). vector_of 1 m.word) (λ (a : ℤ). a)) (sent c.args.writer.now) (n ∷ [])
    ∙ ap (λ l. l ++ TermNote record { monomial = vector_of 1 c.in_ok-one.one.word; coefficient = negsuc 0 } ∷ []) c.requires.sent in
    subst (λ s. Carries (λ (m : Packed 1). vector_of 1 m.word) (λ (a : ℤ). a) s (sent c.args.writer.now ++ n ∷ [])) (sym c.requires.script)
    (subst (Carry (QuotientScript square_and_one 1 0)) (sym all)
    (subst (λ v. Carry (QuotientScript square_and_one 1 0) (TermNote x_term ∷ TermNote record { monomial = v; coefficient = negsuc 0 } ∷ [])) (sym one) both_follow))
