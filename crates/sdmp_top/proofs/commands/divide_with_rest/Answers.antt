use Rattle.std.proofs.Common.{sym, ◌∙◌}
use Rattle.std.proofs.lemmas.Result.{on_ok_weaker}
use Rattle.poly_text.proofs.Results.{passed_up}
use Rattle.calc_session.specs.declared.commands.Command.TheVariants.{Rem}
use Rattle.sdmp_top.specs.Work.{tally_of}
use Rattle.sdmp_top.proofs.SettingLemmas.{divided_with_rest, not_divided_with_rest}
use Rattle.sdmp_top.proofs.WorkLemmas.{rem_makes, made_of}
use Rattle.sdmp_top.proofs.commands.divide_with_rest.Goals as goal

pub remainder-requires-clause-moduli : goal.remainder-requires-clause-moduli
remainder-requires-clause-moduli g c = λ κs within.
    let moduli = c.in-Some.ensures.moduli c.args.session.now.setting.modulus c.requires.moduli in
    moduli.0 ∙ sym moduli.1

pub returns-in_err-divided-clause-refused : goal.returns-in_err-divided-clause-refused
returns-in_err-divided-clause-refused g c =
    passed_up c.from_residual.result c.in_err-divided.field-0.0 _ c.from_residual.ensures.1
    (not_divided_with_rest _ _ _ c.args.session.now.setting c.names-names.ensures.setting _ _ _ _ _ c.in-Some.ensures.lists (c.in-Some.ensures.moduli c.args.session.now.setting.modulus c.requires.moduli)
    c.in-Some.ensures.canonical c.in_err-divided.field-0.0 c.in_err-divided.ensures.refused)

pub returns-clause-ok : goal.returns-clause-ok
returns-clause-ok g c =
    on_ok_weaker c.write_pair.result
    (λ written. divided_with_rest _ _ _ c.args.session.now.setting c.names-names.ensures.setting _ _ _ _ _ c.in-Some.ensures.lists (c.in-Some.ensures.moduli c.args.session.now.setting.modulus c.requires.moduli)
    c.in-Some.ensures.canonical c.names-names.result.now c.write_pair.new.out.items c.in_ok-divided.divided.quotient.list c.in_ok-divided.divided.remainder.list c.in_ok-divided.ensures.remainder c.names-names.ensures.names written)
    c.write_pair.ensures.ok

pub returns-clause-tallied : goal.returns-clause-tallied
returns-clause-tallied g c =
    made_of c.write_pair.result c.args.by.now.workers c.args.session.now.setting Rem _ _ _ (tally_of c.args.ends.now) (tally_of c.remainder.new.ends) c.in_ok-divided.ensures.tallied
    (rem_makes _ _ _ c.args.session.now.setting c.names-names.ensures.setting c.in-Some.f.now.modulus c.in-Some.f.now.list c.in-Some.g.now.list (c.in-Some.ensures.moduli c.args.session.now.setting.modulus c.requires.moduli).0)
    c.in-Some.ensures.lists
