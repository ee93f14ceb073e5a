use Rattle.std.proofs.Common.{◌≡◌, map, sym, ap, ◌∙◌, subst, IfSome, All}
use Rattle.calc_session.specs.Session.{known}
use Rattle.calc_session.specs.View.{held, plain}
use Rattle.calc_session.proofs.DefinitionLemmas.{known_found, known_none, all_found}
use Rattle.calc_session.proofs.definitions.Definitions.look_up.Goals as goal

pub returns-in-Some-clause-known : goal.returns-in-Some-clause-known
returns-in-Some-clause-known g c =
    let es = c.self.inside.polynomials.entries in
    let name = c.args.name.now in
    ap (λ ds. known (held (map plain ds) name)) (sym c.self.view_is)
    ∙ known_found es name c.in-Some.poly.now (sym c.in-Some.ensures.value)

pub returns-in-Some-clause-modulus : goal.returns-in-Some-clause-modulus
returns-in-Some-clause-modulus g c = λ p h.
    let es = c.self.inside.polynomials.entries in
    subst (λ o. IfSome o (λ f. f.modulus ≡ p)) (sym c.in-Some.ensures.value)
    (all_found (λ f. f.modulus ≡ p) es c.args.name.now (subst (All (λ d. d.poly.modulus ≡ p)) (sym c.self.view_is) h))

pub returns-in-None-clause-known : goal.returns-in-None-clause-known
returns-in-None-clause-known g c =
    let es = c.self.inside.polynomials.entries in
    let name = c.args.name.now in
    ap (λ ds. known (held (map plain ds) name)) (sym c.self.view_is)
    ∙ known_none es name (sym c.in-None.ensures.value)
