use Rattle.std.proofs.Common.{sym, ◌∙◌}
use Rattle.std.proofs.lemmas.Result.{IfErr-weaker, on_ok_weaker}
use Rattle.poly_text.proofs.Results.{passed_up}
use Rattle.calc_session.specs.declared.commands.Command.TheVariants.{Mul}
use Rattle.sdmp_top.specs.Work.{tally_of}
use Rattle.sdmp_top.proofs.SettingLemmas.{multiplied, not_multiplied}
use Rattle.sdmp_top.proofs.WorkLemmas.{mul_makes, made_of}
use Rattle.sdmp_top.proofs.commands.multiply.Goals as goal

pub product-requires-clause-moduli : goal.product-requires-clause-moduli
product-requires-clause-moduli g c = λ κs within.
    let moduli = c.in-Some.ensures.moduli c.args.session.now.setting.modulus c.requires.moduli in
    moduli.0 ∙ sym moduli.1

pub returns-in_err-product-clause-refused : goal.returns-in_err-product-clause-refused
returns-in_err-product-clause-refused g c =
    passed_up c.from_residual.result c.in_err-product.field-0.0 _ c.from_residual.ensures.1
    (not_multiplied _ _ _ c.args.session.now.setting c.names-names.ensures.setting _ _ _ _ _ c.in-Some.ensures.lists (c.in-Some.ensures.moduli c.args.session.now.setting.modulus c.requires.moduli)
    c.in_err-product.field-0.0 c.in_err-product.ensures.refused)

pub returns-clause-ok : goal.returns-clause-ok
returns-clause-ok g c =
    on_ok_weaker c.write_line.result
    (λ written. multiplied _ _ _ c.args.session.now.setting c.names-names.ensures.setting _ _ _ _ _ c.in-Some.ensures.lists (c.in-Some.ensures.moduli c.args.session.now.setting.modulus c.requires.moduli)
    c.names-names.result.now c.args.out.now.items c.write_line.new.out.items c.in_ok-product.product.list c.in_ok-product.ensures.product c.names-names.ensures.names c.requires.empty written)
    c.write_line.ensures.ok

pub returns-clause-refused : goal.returns-clause-refused
returns-clause-refused g c = IfErr-weaker c.write_line.result _ _ (λ fault is other. absurd (other is)) c.write_line.ensures.fault

pub returns-clause-tallied : goal.returns-clause-tallied
returns-clause-tallied g c =
    made_of c.write_line.result c.args.by.now.workers c.args.session.now.setting Mul _ _ _ (tally_of c.args.ends.now) (tally_of c.product.new.ends) c.in_ok-product.ensures.tallied
    (mul_makes _ _ _ c.args.session.now.setting c.names-names.ensures.setting c.in-Some.f.now.modulus c.in-Some.f.now.list c.in-Some.g.now.list (c.in-Some.ensures.moduli c.args.session.now.setting.modulus c.requires.moduli).0)
    c.in-Some.ensures.lists

pub returns-clause-untallied : goal.returns-clause-untallied
returns-clause-untallied g c = IfErr-weaker c.write_line.result _ _ (λ fault is other. absurd (other is)) c.write_line.ensures.fault
