use Rattle.std.proofs.Common.{rules, sym, ◌∙◌}
use Rattle.std.proofs.lemmas.Result.{on_ok_weaker}
use Rattle.sdmp_laws.specs.declared.Mode.TheVariants.{Exact}
use Rattle.division_laws.specs.Outcome.{IsOutcome, HasQuotient, HasNoQuotient, division}
use Rattle.poly_text.proofs.Results.{passed_up}
use Rattle.calc_session.specs.declared.commands.Command.TheVariants.{Div}
use Rattle.sdmp_top.specs.Work.{tally_of}
use Rattle.sdmp_top.proofs.SettingLemmas.{divided, divided_none, not_divided}
use Rattle.sdmp_top.proofs.WorkLemmas.{div_makes, made_of}
use Rattle.sdmp_top.proofs.commands.divide.Goals as goal

pub quotient-requires-clause-moduli : goal.quotient-requires-clause-moduli
quotient-requires-clause-moduli g c = λ κs within.
    let moduli = c.in-Some.ensures.moduli c.args.session.now.setting.modulus c.requires.moduli in
    moduli.0 ∙ sym moduli.1

pub returns-in_err-quotient-clause-refused : goal.returns-in_err-quotient-clause-refused
returns-in_err-quotient-clause-refused g c =
    passed_up c.from_residual.result c.in_err-quotient.field-0.0 _ c.from_residual.ensures.1
    (not_divided _ _ _ c.args.session.now.setting c.names-names.ensures.setting _ _ _ _ _ c.in-Some.ensures.lists (c.in-Some.ensures.moduli c.args.session.now.setting.modulus c.requires.moduli)
    c.in-Some.ensures.canonical c.in_err-quotient.field-0.0 c.in_err-quotient.ensures.refused)

pub returns-in-Some-2-clause-ok : goal.returns-in-Some-2-clause-ok
returns-in-Some-2-clause-ok g c =
    let f = c.in-Some.f.now in
    let outcome : IsOutcome (division Exact g.M.Monomial.order g.M.Monomial.VARS f.modulus f.list c.in-Some.g.now.list) (HasQuotient c.in-Some-2.quotient.list) = search rules in
    on_ok_weaker c.write_line.result
    (λ written. divided _ _ _ c.args.session.now.setting c.names-names.ensures.setting _ _ _ _ _ c.in-Some.ensures.lists (c.in-Some.ensures.moduli c.args.session.now.setting.modulus c.requires.moduli)
    c.in-Some.ensures.canonical c.names-names.result.now c.args.out.now.items c.write_line.new.out.items c.in-Some-2.quotient.list outcome c.names-names.ensures.names c.requires.empty written)
    c.write_line.ensures.ok

pub returns-in-None-clause-ok : goal.returns-in-None-clause-ok
returns-in-None-clause-ok g c =
    let f = c.in-Some.f.now in
    let outcome : IsOutcome (division Exact g.M.Monomial.order g.M.Monomial.VARS f.modulus f.list c.in-Some.g.now.list) HasNoQuotient = search rules in
    on_ok_weaker c.write_none.result
    (λ written. divided_none _ _ _ c.args.session.now.setting c.names-names.ensures.setting _ _ _ _ _ c.in-Some.ensures.lists (c.in-Some.ensures.moduli c.args.session.now.setting.modulus c.requires.moduli)
    c.in-Some.ensures.canonical c.write_none.new.out.items outcome written)
    c.write_none.ensures.ok

pub returns-in-Some-2-clause-tallied : goal.returns-in-Some-2-clause-tallied
returns-in-Some-2-clause-tallied g c =
    made_of c.write_line.result c.args.by.now.workers c.args.session.now.setting Div _ _ _ (tally_of c.args.ends.now) (tally_of c.quotient.new.ends) c.in_ok-quotient.ensures.tallied
    (div_makes _ _ _ c.args.session.now.setting c.names-names.ensures.setting c.in-Some.f.now.modulus c.in-Some.f.now.list c.in-Some.g.now.list (c.in-Some.ensures.moduli c.args.session.now.setting.modulus c.requires.moduli).0)
    c.in-Some.ensures.lists

pub returns-in-None-clause-tallied : goal.returns-in-None-clause-tallied
returns-in-None-clause-tallied g c =
    made_of c.write_none.result c.args.by.now.workers c.args.session.now.setting Div _ _ _ (tally_of c.args.ends.now) (tally_of c.quotient.new.ends) c.in_ok-quotient.ensures.tallied
    (div_makes _ _ _ c.args.session.now.setting c.names-names.ensures.setting c.in-Some.f.now.modulus c.in-Some.f.now.list c.in-Some.g.now.list (c.in-Some.ensures.moduli c.args.session.now.setting.modulus c.requires.moduli).0)
    c.in-Some.ensures.lists
