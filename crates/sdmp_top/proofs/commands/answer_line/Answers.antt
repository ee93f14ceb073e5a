use Rattle.std.proofs.Common.{rules, List, ℕ, ◌≡◌, ◌∙◌, ap, sym, subst, Ok}
use Rattle.std.proofs.lemmas.Result.{IfErr-weaker, on_ok_weaker}
use Rattle.calc_session.specs.Body.{form_of, Skip, Define}
use Rattle.calc_session.specs.View.{held}
use Rattle.poly_text.specs.Words.{words_of}
use Rattle.poly_text.proofs.Results.{passed_up}
use Rattle.calc_session.proofs.CommandLemmas.{begins_within, to_err, to_skip, to_define, to_unread, to_unknown}
use Rattle.sdmp_top.proofs.LineLemmas.{known_there, answered, refused}
use Rattle.sdmp_top.specs.Work.{Calculation, IsTallied, tally_of}
use Rattle.sdmp_top.proofs.WorkLemmas.{line_makes, tallied_by, tallied_none}
use Rattle.sdmp_top.proofs.commands.answer_line.Goals as goal

pub returns-in_err-parse_line-clause-refused : goal.returns-in_err-parse_line-clause-refused
returns-in_err-parse_line-clause-refused g c =
    passed_up c.from_residual.result c.in_err-parse_line.field-0.0 _ c.from_residual.ensures.1
    (λ other. to_err c.args.session.now.setting (held c.args.session.now.defined) c.args.line.now c.in_err-parse_line.field-0.0 (search rules))

pub define-requires-clause-within : goal.define-requires-clause-within
define-requires-clause-within g c = λ κs h. begins_within c.args.session.now.setting.variables c.args.line.now c.in-Define.name.now c.in-Define.start (search rules)

pub returns-in-Skip-clause-answered : goal.returns-in-Skip-clause-answered
returns-in-Skip-clause-answered g c =
    let D = held c.args.session.now.defined in
    to_skip c.args.session.now.setting D c.args.line.now (search rules) ∙ ap (λ (o : List ℕ). Ok (D, o)) (sym c.requires.empty)

pub returns-in-Define-clause-answered : goal.returns-in-Define-clause-answered
returns-in-Define-clause-answered g c =
    let now = held c.define.new.self.defined in
    on_ok_weaker c.define.result
    (λ h. to_define c.args.session.now.setting (held c.args.session.now.defined) c.args.line.now c.in-Define.name.now c.in-Define.start now (search rules) h
    ∙ ap (λ (o : List ℕ). Ok (now, o)) (sym c.requires.empty))
    c.define.ensures.defines

pub returns-in-Define-clause-refused : goal.returns-in-Define-clause-refused
returns-in-Define-clause-refused g c =
    let said : form_of c.args.session.now.setting.variables c.args.line.now ≡ Ok (Define c.in-Define.name.now c.in-Define.start) = search rules in
    IfErr-weaker c.define.result _ _
    (λ fault h other. to_unread c.args.session.now.setting (held c.args.session.now.defined) c.args.line.now c.in-Define.name.now c.in-Define.start fault said (h other)) c.define.ensures.refused

pub returns-in-Skip-clause-tallied : goal.returns-in-Skip-clause-tallied
returns-in-Skip-clause-tallied g c =
    subst (λ (made : List Calculation). IsTallied c.args.by.now.workers made (tally_of c.args.ends.now) (tally_of c.args.ends.now))
    (sym (line_makes c.args.session.now.setting (held c.args.session.now.defined) c.args.line.now Skip (search rules))) (tallied_none c.args.by.now.workers (tally_of c.args.ends.now))

pub returns-in-Define-clause-tallied : goal.returns-in-Define-clause-tallied
returns-in-Define-clause-tallied g c =
    let said : form_of c.args.session.now.setting.variables c.args.line.now ≡ Ok (Define c.in-Define.name.now c.in-Define.start) = search rules in
    on_ok_weaker c.define.result
    (λ _. subst (λ (made : List Calculation). IsTallied c.args.by.now.workers made (tally_of c.args.ends.now) (tally_of c.args.ends.now))
    (sym (line_makes c.args.session.now.setting (held c.args.session.now.defined) c.args.line.now (Define c.in-Define.name.now c.in-Define.start) said))
    (tallied_none c.args.by.now.workers (tally_of c.args.ends.now)))
    c.define.ensures.defines

pub returns-in_err-polynomials-in-Ask-clause-refused : goal.returns-in_err-polynomials-in-Ask-clause-refused
returns-in_err-polynomials-in-Ask-clause-refused g c =
    let fault = c.in_err-polynomials-in-Ask.field-0.0 in
    passed_up c.from_residual-in_err-polynomials-in-Ask.result fault _ c.from_residual-in_err-polynomials-in-Ask.ensures.1
    (λ other. to_unknown c.args.session.now.setting (held c.args.session.now.defined) c.args.line.now c.in-Ask.command (words_of c.in-Ask.names.now) (search rules) fault (c.in_err-polynomials-in-Ask.ensures.unknown other))

pub returns-in_ok-polynomials-in-Ask-clause-answered : goal.returns-in_ok-polynomials-in-Ask-clause-answered
returns-in_ok-polynomials-in-Ask-clause-answered g c =
    answered c.args.session.now c.args.line.now c.in-Ask.command (words_of c.in-Ask.names.now) _ c.answer_command.result (search rules)
    (known_there (λ f. f.now.list) (held c.args.session.now.defined) (words_of c.in-Ask.names.now) c.in_ok-polynomials-in-Ask.polynomials.items c.deref.result.now c.in_ok-polynomials-in-Ask.ensures.known c.deref.ensures.value)
    c.answer_command.new.out.items c.answer_command.ensures.ok

pub returns-in_ok-polynomials-in-Ask-clause-refused : goal.returns-in_ok-polynomials-in-Ask-clause-refused
returns-in_ok-polynomials-in-Ask-clause-refused g c =
    refused c.args.session.now c.args.line.now c.in-Ask.command (words_of c.in-Ask.names.now) _ c.answer_command.result (search rules)
    (known_there (λ f. f.now.list) (held c.args.session.now.defined) (words_of c.in-Ask.names.now) c.in_ok-polynomials-in-Ask.polynomials.items c.deref.result.now c.in_ok-polynomials-in-Ask.ensures.known c.deref.ensures.value)
    c.answer_command.ensures.refused

pub returns-in_ok-polynomials-in-Ask-clause-tallied : goal.returns-in_ok-polynomials-in-Ask-clause-tallied
returns-in_ok-polynomials-in-Ask-clause-tallied g c =
    tallied_by c.answer_command.result c.args.by.now.workers c.args.session.now.setting (held c.args.session.now.defined) c.args.line.now c.in-Ask.command (words_of c.in-Ask.names.now) _ (tally_of c.args.ends.now) (tally_of c.answer_command.new.ends) (search rules)
    (known_there (λ f. f.now.list) (held c.args.session.now.defined) (words_of c.in-Ask.names.now) c.in_ok-polynomials-in-Ask.polynomials.items c.deref.result.now c.in_ok-polynomials-in-Ask.ensures.known c.deref.ensures.value)
    c.answer_command.ensures.tallied
