use Rattle.std.proofs.Common.{rules, ◌≡◌, [], ◌∷◌, sym, ◌∙◌}
use Rattle.calc_session.specs.Lines.{lines}
use Rattle.calc_session.proofs.HeadLemmas.{no_first, first_fault, first_vars, told}
use Rattle.calc_session.proofs.header.parse_header.Goals as goal

pub returns-in_default-clause-head : goal.returns-in_default-clause-head
returns-in_default-clause-head c = λ other.
    let none : lines c.effective_line-first.result.from.now ≡ [] = search rules in
    no_first c.args.bytes.now c.effective_line-first.result.number (lines c.effective_line-first.result.from.now) c.effective_line-first.ensures.from none

pub returns-in-Ok-clause-head : goal.returns-in-Ok-clause-head
returns-in-Ok-clause-head c =
    let cut : lines c.effective_line-first.result.from.now ≡ c.in-Some.line.now ∷ lines c.effective_line-first.result.rest.now = search rules in
    told c.args.bytes.now c.after_vars.result
    (first_vars c.args.bytes.now c.effective_line-first.result.number (lines c.effective_line-first.result.from.now) c.effective_line-first.ensures.from
    c.in-Some.line.now (lines c.effective_line-first.result.rest.now) c.in-Ok.names cut c.in-Ok.ensures.names ∙ sym c.after_vars.ensures.head)

pub returns-in-Err-clause-head : goal.returns-in-Err-clause-head
returns-in-Err-clause-head c = λ other.
    let cut : lines c.effective_line-first.result.from.now ≡ c.in-Some.line.now ∷ lines c.effective_line-first.result.rest.now = search rules in
    first_fault c.args.bytes.now c.effective_line-first.result.number (lines c.effective_line-first.result.from.now) c.effective_line-first.ensures.from
    c.in-Some.line.now (lines c.effective_line-first.result.rest.now) c.in-Err.fault cut (c.in-Err.ensures.refused other)
