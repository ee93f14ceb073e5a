use Rattle.std.proofs.Common.{rules, ◌≡◌, ℤ, pos, [], ◌∷◌, ◌++◌, sym, ap, ◌∙◌, subst}
use Rattle.packed_monomial.specs.Packing.{vector_of}
use Rattle.packed_monomial.specs.declared.packed.Packed.{Packed}
use Rattle.whole_laws.specs.Notes.{QuotientScript, TermNote, Carry}
use Rattle.term_ring.specs.declared.note.NoteOf.{NoteOf}
use Rattle.term_ring.specs.declared.note.NoteOf.TheVariants.{Term}
use Rattle.term_ring.specs.Ends.{sent}
use Rattle.term_ring.specs.Carried.{Carries}
use Rattle.term_ring.specs.Spelling.{notes_of}
use Rattle.division_tests.specs.Examples.{square_and_one}
use Rattle.division_tests.proofs.Squares.{one_follows}
use Rattle.division_tests.proofs.merges.send_x.Goals as goal

pub push-requires-clause-carries : goal.push-requires-clause-carries
push-requires-clause-carries c κs =
    let x : vector_of 1 c.in_ok-x.x.word ≡ 1 ∷ [] = search rules in
    let n : NoteOf (Packed 1) ℤ = Term record { mono = c.in_ok-x.x; coef = pos 1 } in
    subst (λ s. Carries (λ (m : Packed 1). vector_of 1 m.word) (λ (a : ℤ). a) s (sent c.args.writer.now ++ n ∷ [])) (sym c.requires.script)
    (subst (λ l. Carries (λ (m : Packed 1). vector_of 1 m.word) (λ (a : ℤ). a) (QuotientScript square_and_one 1 0) (l ++ n ∷ [])) (sym c.requires.none)
    (subst (λ v. Carry (QuotientScript square_and_one 1 0) (TermNote record { monomial = v; coefficient = pos 1 } ∷ [])) (sym x) one_follows))

pub returns-clause-sent : goal.returns-clause-sent
returns-clause-sent c =
    let x : vector_of 1 c.in_ok-x.x.word ≡ 1 ∷ [] = search rules in
    let n : NoteOf (Packed 1) ℤ = Term record { mono = c.in_ok-x.x; coef = pos 1 } in
    ap (notes_of (λ (m : Packed 1). vector_of 1 m.word) (λ (a : ℤ). a)) (c.in_ok-push.ensures.sent ∙ ap (λ l. l ++ n ∷ []) c.requires.none)
    ∙ (λ i. TermNote record { monomial = x i; coefficient = pos 1 } ∷ [])
