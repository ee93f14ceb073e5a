use Rattle.std.proofs.Common.{rules, arith, ◌≡◌, ◌+◌, ℕ, [], ◌∷◌, ◌++◌, Some, length, sym, ap, ◌∙◌, subst}
use Rattle.term_ring.specs.Carried.{Fits, Carries}
use Rattle.term_ring.specs.Plain.{modulus_of}
use Rattle.term_ring.specs.Spelling.{words_of}
use Rattle.term_ring.proofs.RuleStays.{posts}
use Rattle.term_ring.proofs.Spelled.{one_note}
use Rattle.term_ring.proofs.ring.Writer.push.Goals as goal

pub store-requires : goal.store-requires
store-requires g c =
    let w = c.has_room.new.self.end in let ring = c.args.ring.now in let s = ring.table.shared.key.script.value in
    let m = w.seat.me in let written = c.write_note.ensures.2 in let of = c.has_room.ensures.of in (
      c.write_note.ensures.0 ∙ of.1,
      omega (arith, ring.sized),
      posts _ _ _ _ _ _ _ _ c.args.note _ (ap (λ m. m.0.kind) written ∙ of.0) (sym c.to_words-bits.ensures ∙ sym (ap (λ m. m.0.words) written)) (ap (λ m. length m.0.words) written ∙ search rules)
          (ap (λ m. m.0.subject) written ∙ (w.scripted.0 ∙ ap Some of.2)) c.requires.fits
          (subst (λ l. Carries g.M.Monomial.vector g.R.CoeffRing.value s (l ++ c.args.note ∷ [])) (sym (ap (λ m. m.0.notes) written ∙ c.has_room.ensures.sent)) c.requires.carries)
          (ap (λ (z : ℕ). z + 1) (sym w.counted.0 ∙ sym (ap (λ m. length m.0.notes) written)))
          (omega (arith, w.counted.0, c.if-not-has_room.ensures.room.1)),
    )

pub returns-clause-sent : goal.returns-clause-sent
returns-clause-sent g c =
    let monomials = g.met.M.Monomial g.world.𝓛 g.world.𝓜 g.world.𝓡 ((λ s x. x), (λ x. x), (λ x. x), λ x. x) in
    let coefficients = g.met.R.CoeffRing g.world.𝓛 g.world.𝓜 g.world.𝓡 ((λ s x. x), (λ x. x), (λ x. x), λ x. x) in
    let w = c.has_room.new.self.end in let ring = c.args.ring.now in let s = ring.table.shared.key.script.value in
    let m = w.seat.me in let now = c.write_note.new.seat.me in let written = c.write_note.ensures.2 in
    let scripted : now.0.subject ≡ Some s = ap (λ m. m.0.subject) written ∙ (w.scripted.0 ∙ ap Some c.has_room.ensures.of.2) in
    let told = c.store.ensures.2 in let n = told.0 in let same : told.1.0 ≡ s = cc (told.1.1, scripted) in
    let fits : Fits g.R.CoeffRing.belongs s n = subst (λ z. Fits g.R.CoeffRing.belongs z n) same told.1.2 in
    let over : g.R.CoeffRing.characteristic c.coefficients.result ≡ modulus_of s = c.coefficients.ensures ∙ ring.over in
    let spells : words_of g.M.Monomial.words g.R.CoeffRing.words n ≡ words_of g.M.Monomial.words g.R.CoeffRing.words c.args.note = told.2 ∙ (ap (λ m. m.0.words) written ∙ c.to_words-bits.ensures) in
    let is : n ≡ c.args.note = one_note g.M.Monomial.words g.R.CoeffRing.words (g.R.CoeffRing.belongs (modulus_of s)) monomials.two_words monomials.spelled
    (λ a b x y. coefficients.spelled c.coefficients.result a b (subst (λ p. g.R.CoeffRing.belongs p a) (sym over) x) (subst (λ p. g.R.CoeffRing.belongs p b) (sym over) y)) n c.args.note fits c.requires.fits spells in
    ap (λ m. m.0.notes) told.3 ∙ (ap (λ m. m.0.notes ++ n ∷ []) written ∙ λ i. c.has_room.ensures.sent i ++ is i ∷ [])
