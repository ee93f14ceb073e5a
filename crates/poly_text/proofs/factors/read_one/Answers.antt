use Rattle.std.proofs.Common.{◌≡◌, ◌-◌, ◌∷◌, min, drop, take, sym, ap, ◌∙◌, refl}
use Rattle.text_laws.specs.Summands.{is_known, exponent_of}
use Rattle.poly_text.specs.Exponents.{added}
use Rattle.poly_text.specs.Tokens.{power_front, cap}
use Rattle.poly_text.proofs.TokenFronts.{power_is, name_range, capped_exponent}
use Rattle.poly_text.proofs.factors.read_one.Goals as goal

pub returns-then-add_power-clause-adds : goal.returns-then-add_power-clause-adds
returns-then-add_power-clause-adds c = λ p rest i f e.
    let r = c.read_power-p.ensures in
    let names = c.args.names.now in
    let front = power_is p rest i f in
    let name : take (c.read_power-p.result.name_end - c.args.at) (drop c.args.at c.args.bytes.now) ≡ p.name.first ∷ p.name.more =
    name_range p rest c.args.bytes.now c.args.at c.read_power-p.result.name_end i f c.requires.within r.name_bound r.name_from e r.name in
    let x : c.read_power-p.result.exponent ≡ min (exponent_of p.raised) cap = r.exponent ∙ ap (λ l. (power_front l).0) e ∙ front.0 in
    let k = capped_exponent (exponent_of p.raised) c.read_power-p.result.exponent c.cap_exponent.result x c.cap_exponent.ensures in (
      sym (ap (is_known names) name) ∙ sym c.add_power.ensures.known ∙ c.if-add_power.true,
      r.after ∙ ap (λ l. (power_front l).1) e ∙ front.1,
      c.add_power.ensures.added ∙ (λ j. added names (name j) (k j) c.args.exponents.now),
    )

pub returns-else-add_power-clause-adds : goal.returns-else-add_power-clause-adds
returns-else-add_power-clause-adds c = λ p rest i f e.
    let r = c.read_power-p.ensures in
    let name : take (c.read_power-p.result.name_end - c.args.at) (drop c.args.at c.args.bytes.now) ≡ p.name.first ∷ p.name.more =
    name_range p rest c.args.bytes.now c.args.at c.read_power-p.result.name_end i f c.requires.within r.name_bound r.name_from e r.name in
    (sym (ap (is_known c.args.names.now) name) ∙ sym c.add_power.ensures.known ∙ c.if-add_power.false, refl)
