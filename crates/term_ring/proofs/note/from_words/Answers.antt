use Rattle.std.proofs.Common.{rules, ◌≡◌, get_or, Option, Some, None, sym, ap, ◌∙◌, subst}
use Rattle.std.specs.Prelude.{IsSome, MatchOption}
use Rattle.term_ring.specs.declared.note.NoteOf.TheVariants.{Term, Mark}
use Rattle.term_ring.proofs.Spelled.{term_at, mark_at}
use Rattle.term_ring.proofs.note.from_words.Goals as goal

is_there : {A : Type 0} (o : Option A) (P : Type 0) (Q : A → Type 0) → MatchOption o P Q → (P → ⊥) → IsSome o
is_there None P Q h never = absurd (never h)
is_there (Some a) P Q h never = search rules

said : {A : Type 0} (o : Option A) (a : A) (P : Type 0) (Q : A → Type 0) → o ≡ Some a → MatchOption o P Q → Q a
said o a P Q e h = subst (λ x. MatchOption x P Q) e h

pub unwrap-coef-requires : goal.unwrap-coef-requires
unwrap-coef-requires g c =
    let monomials = g.met.M.Monomial g.world.𝓛 g.world.𝓜 g.world.𝓡 ((λ s x. x), (λ x. x), (λ x. x), λ x. x) in
    let x = c.requires in
    let t = term_at g.M.Monomial.words g.R.CoeffRing.words (g.R.CoeffRing.belongs (g.R.CoeffRing.characteristic c.args.coefficients.now)) monomials.two_words c.args.bits.now x.0 c.told-bits c.if-kind-eq1.true x.1 x.2 in
    is_there _ _ _ c.from_words-then-kind-eq1.ensures (λ none. none t.0.coef t.2 t.4)

pub returns-then-kind-eq1 : goal.returns-then-kind-eq1
returns-then-kind-eq1 g c x f h =
    let monomials = g.met.M.Monomial g.world.𝓛 g.world.𝓜 g.world.𝓡 ((λ s x. x), (λ x. x), (λ x. x), λ x. x) in
    let coefficients = g.met.R.CoeffRing g.world.𝓛 g.world.𝓜 g.world.𝓡 ((λ s x. x), (λ x. x), (λ x. x), λ x. x) in
    let t = term_at g.M.Monomial.words g.R.CoeffRing.words (g.R.CoeffRing.belongs (g.R.CoeffRing.characteristic c.args.coefficients.now)) monomials.two_words c.args.bits.now x c.told-bits c.if-kind-eq1.true f h in
    let m = said _ c.unwrap-mono.result _ _ c.unwrap-mono.ensures c.from_words.ensures in
    let e = said _ c.unwrap-coef.result _ _ c.unwrap-coef.ensures c.from_words-then-kind-eq1.ensures in
    let p : c.unwrap-mono.result ≡ t.0.mono = monomials.spelled _ _ (m ∙ sym t.3) in
    let q : c.unwrap-coef.result ≡ t.0.coef = coefficients.spelled c.args.coefficients.now _ _ e.0 t.2 (e.1 ∙ sym t.4) in
    (λ i. Term record { mono = p i; coef = q i }) ∙ sym t.1

pub returns-then-kind-eq3 : goal.returns-then-kind-eq3
returns-then-kind-eq3 g c x f h =
    let monomials = g.met.M.Monomial g.world.𝓛 g.world.𝓜 g.world.𝓡 ((λ s x. x), (λ x. x), (λ x. x), λ x. x) in
    let t = mark_at g.M.Monomial.words g.R.CoeffRing.words (g.R.CoeffRing.belongs (g.R.CoeffRing.characteristic c.args.coefficients.now)) monomials.two_words c.args.bits.now x c.told-bits c.if-kind-eq3.true h in
    let m = said _ c.unwrap.result _ _ c.unwrap.ensures c.from_words-then-kind-eq3.ensures in
    let p : c.unwrap.result ≡ t.0 = monomials.spelled _ _ (m ∙ sym t.2) in
    ap (λ y. Mark (get_or c.args.bits.now 3 0) (Some y)) p ∙ sym t.1
