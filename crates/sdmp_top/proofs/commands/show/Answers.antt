use Rattle.std.proofs.Common.{map, ap, ◌∙◌}
use Rattle.std.proofs.lemmas.Result.{on_ok_weaker}
use Rattle.calc_session.specs.Session.{answer_of}
use Rattle.calc_session.specs.declared.commands.Command.TheVariants.{Show}
use Rattle.calc_session.proofs.CommandLemmas.{show_ok}
use Rattle.sdmp_top.proofs.LineLemmas.{one_item}
use Rattle.sdmp_top.proofs.SettingLemmas.{line_there}
use Rattle.sdmp_top.proofs.commands.show.Goals as goal

pub returns-clause-ok : goal.returns-clause-ok
returns-clause-ok g c =
    let S = c.args.session.now.setting in
    let f = c.f-item.result.now.list in
    let one = one_item c.args.polynomials.now c.f-item.result c.in-len1.len_at_least c.in-len1.len_below c.f-item.is in
    on_ok_weaker c.write_line.result
    (λ e. ap (λ fs. answer_of S Show (map (λ f. f.now.list) fs)) one
    ∙ show_ok S c.write_line.new.out.items f (line_there c.args.out.now.items c.write_line.new.out.items c.names.result.now S.variables f c.requires.empty c.names.ensures.names e))
    c.write_line.ensures.ok
