use Rattle.std.proofs.Common.{rules, ◌≡◌, map, sym, ap, ◌∙◌, subst, All}
use Rattle.std.specs.BTreeMap.{insert_entry}
use Rattle.calc_session.specs.Definitions.{definitions_of}
use Rattle.calc_session.specs.Session.{define as define_name}
use Rattle.calc_session.specs.View.{held, plain}
use Rattle.calc_session.proofs.DefinitionLemmas.{name_cmp, defines, all_inserted}
use Rattle.calc_session.proofs.definitions.Definitions.define.Goals as goal

pub returns-clause-ok : goal.returns-clause-ok
returns-clause-ok g c =
    let es = c.self.inside.polynomials.entries in
    let key = c.in-Ok.name in
    let named : key.items ≡ c.args.name.now = search rules in
    let entries : c.insert.new.self.entries ≡ insert_entry name_cmp es key c.args.poly = search rules in
    ap (λ l. held (map plain (definitions_of l))) entries
    ∙ defines es key c.args.poly
    ∙ ap (λ n. define_name n c.args.poly.list (held (map plain (definitions_of es)))) named
    ∙ ap (λ ds. define_name c.args.name.now c.args.poly.list (held (map plain ds))) c.self.view_is

pub returns-clause-modulus : goal.returns-clause-modulus
returns-clause-modulus g c = λ p here old.
    let es = c.self.inside.polynomials.entries in
    let key = c.in-Ok.name in
    let entries : c.insert.new.self.entries ≡ insert_entry name_cmp es key c.args.poly = search rules in
    subst (λ l. All (λ d. d.poly.modulus ≡ p) (definitions_of l)) (sym entries)
    (all_inserted (λ f. f.modulus ≡ p) es key c.args.poly here (subst (All (λ d. d.poly.modulus ≡ p)) (sym c.self.view_is) old))
