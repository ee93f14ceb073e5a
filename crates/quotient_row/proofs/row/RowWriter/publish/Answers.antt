use Rattle.std.proofs.Common.{rules, arith, ◌≡◌, ◌+◌, ℕ, List, [], ◌∷◌, ◌++◌, Some, length, sym, ap, ◌∙◌, subst}
use Rattle.quotient_row.specs.Legal.{Fits, Legal}
use Rattle.quotient_row.specs.Spelling.{words_of}
use Rattle.quotient_row.proofs.RuleStays.{publishes}
use Rattle.quotient_row.proofs.Spelled.{one_note}
use Rattle.quotient_row.proofs.row.RowWriter.publish.Goals as goal

pub store-requires : goal.store-requires
store-requires g c =
    let w = c.args.self.now.end in let row = c.args.row.now in let s = row.table.shared.key.name.value in let bits : List ℕ = c.to_words-bits.result in
    let m = w.seat.me in let now = c.write_note.new.seat.me in
    let chain : now ≡ (record m.0 { words = bits }, m.1) = c.write_note.ensures.2 in (
      c.write_note.ensures.0 ∙ c.requires.of.1,
      omega (arith, row.sized),
      publishes _ _ _ _ _ _ _ _ c.args.note _ (ap (λ m. m.0.kind) chain ∙ c.requires.of.0) (sym c.to_words-bits.ensures ∙ sym (ap (λ m. m.0.words) chain)) (ap (λ m. length m.0.words) chain ∙ search rules)
          (ap (λ m. m.0.subject) chain ∙ (w.named.0 ∙ ap Some c.requires.of.2)) c.requires.fits
          (subst (λ l. Legal g.M.Monomial.vector g.R.CoeffRing.value s (l ++ c.args.note ∷ [])) (sym (ap (λ m. m.0.notes) chain)) c.requires.legal)
          (ap (λ (z : ℕ). z + 1) (sym w.counted.0 ∙ sym (ap (λ m. length m.0.notes) chain))),
    )

pub returns-clause-published : goal.returns-clause-published
returns-clause-published g c =
    let monomials = g.met.M.Monomial g.world.𝓛 g.world.𝓜 g.world.𝓡 ((λ s x. x), (λ x. x), (λ x. x), λ x. x) in
    let coefficients = g.met.R.CoeffRing g.world.𝓛 g.world.𝓜 g.world.𝓡 ((λ s x. x), (λ x. x), (λ x. x), λ x. x) in
    let w = c.args.self.now.end in let row = c.args.row.now in let s = row.table.shared.key.name.value in let bits : List ℕ = c.to_words-bits.result in
    let m = w.seat.me in let now = c.write_note.new.seat.me in
    let chain : now ≡ (record m.0 { words = bits }, m.1) = c.write_note.ensures.2 in
    let named : now.0.subject ≡ Some s = ap (λ m. m.0.subject) chain ∙ (w.named.0 ∙ ap Some c.requires.of.2) in
    let told = c.store.ensures.2 in let n = told.0 in let same : told.1.0 ≡ s = cc (told.1.1, named) in
    let fits : Fits g.R.CoeffRing.belongs s n = subst (λ z. Fits g.R.CoeffRing.belongs z n) same told.1.2 in
    let over : g.R.CoeffRing.characteristic c.coefficients.result ≡ s.division.p = c.coefficients.ensures ∙ row.over in
    let spells : words_of g.M.Monomial.words g.R.CoeffRing.words n ≡ words_of g.M.Monomial.words g.R.CoeffRing.words c.args.note = told.2 ∙ (ap (λ m. m.0.words) chain ∙ c.to_words-bits.ensures) in
    let is : n ≡ c.args.note = one_note g.M.Monomial.words g.R.CoeffRing.words (g.R.CoeffRing.belongs (s.division.p)) monomials.two_words monomials.spelled
    (λ a b x y. coefficients.spelled c.coefficients.result a b (subst (λ p. g.R.CoeffRing.belongs p a) (sym over) x) (subst (λ p. g.R.CoeffRing.belongs p b) (sym over) y)) n c.args.note fits c.requires.fits spells in
    ap (λ m. m.0.notes) told.3 ∙ (ap (λ m. m.0.notes ++ n ∷ []) chain ∙ ap (λ x. m.0.notes ++ x ∷ []) is)
