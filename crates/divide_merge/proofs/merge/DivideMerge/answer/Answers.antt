use Rattle.std.proofs.Common.{◌≡◌, ◌∙◌, Some, Option, is_some, true≢false, ap, sym}
use Rattle.divide_merge.specs.Inside.{answer_of}
use Rattle.divide_merge.specs.Merges.{DivideView, verdict_of}
use Rattle.divide_merge.specs.Reached.{divide_reached, Follows-itself}
use Rattle.divide_merge.specs.Verdicts.{Verdict}
use Rattle.divide_merge.proofs.Running.{Grows-refl, over_cause}
use Rattle.divide_merge.proofs.merge.DivideMerge.answer.Goals as goal

pub returns-in-Some-clause-grows : goal.returns-in-Some-clause-grows
returns-in-Some-clause-grows g c = Grows-refl c.args.self.now

pub returns-in-Some-clause-follows : goal.returns-in-Some-clause-follows
returns-in-Some-clause-follows g c = Follows-itself (divide_reached c.args.self.now)

pub returns-in-Some-clause-cause : goal.returns-in-Some-clause-cause
returns-in-Some-clause-cause g c =
    let x = verdict_of g.M.Monomial.vector g.R.CoeffRing.value c.in-Some.answer in
    let e : c.args.self.now.answer ≡ Some x = ap (λ (v : DivideView). v.answer) (sym c.self.view_is) ∙ ap (answer_of g.M.Monomial.vector g.R.CoeffRing.value) c.in-Some.is in
    (over_cause g.M.Monomial.LIM c.args.self.now x c.requires.sound e).0

pub returns-in-Some-clause-answer : goal.returns-in-Some-clause-answer
returns-in-Some-clause-answer g c =
    let x = verdict_of g.M.Monomial.vector g.R.CoeffRing.value c.in-Some.answer in
    let e : c.args.self.now.answer ≡ Some x = ap (λ (v : DivideView). v.answer) (sym c.self.view_is) ∙ ap (answer_of g.M.Monomial.vector g.R.CoeffRing.value) c.in-Some.is in
    e ∙ sym (over_cause g.M.Monomial.LIM c.args.self.now x c.requires.sound e).1

pub run-requires-clause-going : goal.run-requires-clause-going
run-requires-clause-going g c κs within = ap (λ (v : DivideView). v.answer) (sym c.self.view_is) ∙ ap (answer_of g.M.Monomial.vector g.R.CoeffRing.value) c.in-None.is

pub returns-in-None-clause-again : goal.returns-in-None-clause-again
returns-in-None-clause-again g c = λ x e.
    absurd (true≢false (ap (λ (o : Option Verdict). is_some o) (sym e ∙ ap (λ (v : DivideView). v.answer) (sym c.self.view_is) ∙ ap (answer_of g.M.Monomial.vector g.R.CoeffRing.value) c.in-None.is)))
