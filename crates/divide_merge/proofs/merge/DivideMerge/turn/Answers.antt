use Rattle.std.proofs.Common.{◌∙◌, Some, None, ap, sym, subst}
use Rattle.divide_merge.specs.Merges.{free_places, verdict_of}
use Rattle.divide_merge.specs.Reading.{next_mono}
use Rattle.divide_merge.specs.Steps.{Turns}
use Rattle.divide_merge.proofs.Turning.{heard_mono, last_finished, turns_end}
use Rattle.divide_merge.proofs.merge.DivideMerge.turn.Goals as goal

pub end-requires-clause-last : goal.end-requires-clause-last
end-requires-clause-last g c κs within =
    let s = c.args.self.now.run.state in
    (last_finished s (free_places c.args.self.now) c.args.self.now.spare c.in-None.ensures (heard_mono g.M.Monomial.vector s c.mono_of-mono.result None (c.mono_of-mono.ensures ∙ ap next_mono c.in-None.is) c.in_default.ensures)).0

pub end-requires-clause-cause : goal.end-requires-clause-cause
end-requires-clause-cause g c κs within =
    let s = c.args.self.now.run.state in
    (last_finished s (free_places c.args.self.now) c.args.self.now.spare c.in-None.ensures (heard_mono g.M.Monomial.vector s c.mono_of-mono.result None (c.mono_of-mono.ensures ∙ ap next_mono c.in-None.is) c.in_default.ensures)).1

pub returns-in-None-clause-turns : goal.returns-in-None-clause-turns
returns-in-None-clause-turns g c =
    let s = c.args.self.now.run.state in
    let k = last_finished s (free_places c.args.self.now) c.args.self.now.spare c.in-None.ensures (heard_mono g.M.Monomial.vector s c.mono_of-mono.result None (c.mono_of-mono.ensures ∙ ap next_mono c.in-None.is) c.in_default.ensures) in
    subst (λ r. Turns c.args.self.now c.end.new.self (Some (verdict_of g.M.Monomial.vector g.R.CoeffRing.value r))) (sym c.end.ensures.answer)
    (turns_end g.M.Monomial.LIM c.args.self.now c.end.new.self c.requires.sound c.requires.going _ k.0 k.1 c.end.ensures.ends)
