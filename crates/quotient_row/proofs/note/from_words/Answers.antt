use Rattle.std.proofs.Common.{rules, ◌≡◌, Option, Some, None, sym, ◌∙◌, subst}
use Rattle.std.specs.Prelude.{IsSome, MatchOption}
use Rattle.quotient_row.specs.declared.note.RowNoteOf.TheVariants.{Term}
use Rattle.quotient_row.proofs.Spelled.{term_at, mono_at}
use Rattle.quotient_row.proofs.note.from_words.Goals as goal

is_there : {A : Type 0} (o : Option A) (P : Type 0) (Q : A → Type 0) → MatchOption o P Q → (P → ⊥) → IsSome o
is_there None P Q h never = absurd (never h)
is_there (Some a) P Q h never = search rules

said : {A : Type 0} (o : Option A) (a : A) (P : Type 0) (Q : A → Type 0) → o ≡ Some a → MatchOption o P Q → Q a
said o a P Q e h = subst (λ x. MatchOption x P Q) e h

pub unwrap-mono-requires : goal.unwrap-mono-requires
unwrap-mono-requires g c =
    let monomials = g.met.M.Monomial g.world.𝓛 g.world.𝓜 g.world.𝓡 ((λ s x. x), (λ x. x), (λ x. x), λ x. x) in
    let x = c.requires in let t = mono_at g.M.Monomial.words g.R.CoeffRing.words (g.R.CoeffRing.belongs (g.R.CoeffRing.characteristic c.args.coefficients.now)) monomials.two_words c.args.bits.now x.0 c.told-bits x.2 in
    is_there _ _ _ c.from_words.ensures (λ none. none t.0 t.1)

pub unwrap-coef-requires : goal.unwrap-coef-requires
unwrap-coef-requires g c =
    let monomials = g.met.M.Monomial g.world.𝓛 g.world.𝓜 g.world.𝓡 ((λ s x. x), (λ x. x), (λ x. x), λ x. x) in
    let x = c.requires in
    let t = term_at g.M.Monomial.words g.R.CoeffRing.words (g.R.CoeffRing.belongs (g.R.CoeffRing.characteristic c.args.coefficients.now)) monomials.two_words c.args.bits.now x.0 c.told-bits c.if-bits-eq1.true x.1 x.2 in
    is_there _ _ _ c.from_words-then-bits-eq1.ensures (λ none. none t.0.coef t.2 t.4)

pub returns-then-bits-eq1 : goal.returns-then-bits-eq1
returns-then-bits-eq1 g c x f h =
    let monomials = g.met.M.Monomial g.world.𝓛 g.world.𝓜 g.world.𝓡 ((λ s x. x), (λ x. x), (λ x. x), λ x. x) in
    let coefficients = g.met.R.CoeffRing g.world.𝓛 g.world.𝓜 g.world.𝓡 ((λ s x. x), (λ x. x), (λ x. x), λ x. x) in
    let t = term_at g.M.Monomial.words g.R.CoeffRing.words (g.R.CoeffRing.belongs (g.R.CoeffRing.characteristic c.args.coefficients.now)) monomials.two_words c.args.bits.now x c.told-bits c.if-bits-eq1.true f h in
    let m = said _ c.unwrap-mono.result _ _ c.unwrap-mono.ensures c.from_words.ensures in
    let e = said _ c.unwrap-coef.result _ _ c.unwrap-coef.ensures c.from_words-then-bits-eq1.ensures in
    let p : c.unwrap-mono.result ≡ t.0.mono = monomials.spelled _ _ (m ∙ sym t.3) in
    let q : c.unwrap-coef.result ≡ t.0.coef = coefficients.spelled c.args.coefficients.now _ _ e.0 t.2 (e.1 ∙ sym t.4) in
    (λ i. Term record { mono = p i; coef = q i }) ∙ sym t.1
