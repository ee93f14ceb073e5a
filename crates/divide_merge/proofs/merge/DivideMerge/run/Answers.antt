use Rattle.std.proofs.Common.{◌∙◌}
use Rattle.divide_merge.specs.Merges.{verdict_of}
use Rattle.divide_merge.proofs.Running.{runs_begin, runs_on, shorter, ends_grows, ends_follows, ends_cause}
use Rattle.divide_merge.proofs.merge.DivideMerge.run.Goals as goal

pub loop-answer-init : goal.loop-answer-init
loop-answer-init g c = runs_begin g.M.Monomial.LIM c.args.self.now c.requires.sound c.requires.going

pub fill-requires-clause-rings : goal.fill-requires-clause-rings
fill-requires-clause-rings g c κs within = c.loop-answer.invariant.grows.rings ∙ c.requires.rings

pub turn-requires-clause-going : goal.turn-requires-clause-going
turn-requires-clause-going g c κs within = c.fill.ensures.fills.answer ∙ c.loop-answer.invariant.going

pub turn-requires-clause-row : goal.turn-requires-clause-row
turn-requires-clause-row g c κs within = c.fill.ensures.fills.row ∙ c.loop-answer.invariant.grows.row ∙ c.requires.row

pub returns-in-Some-clause-grows : goal.returns-in-Some-clause-grows
returns-in-Some-clause-grows g c =
    ends_grows g.M.Monomial.LIM c.args.self.now c.loop-answer.self c.fill.new.self c.turn.new.self c.loop-answer.invariant c.fill.ensures.fills c.fill.ensures.sound (verdict_of g.M.Monomial.vector g.R.CoeffRing.value c.in-Some.answer) c.in-Some.ensures.turns

pub returns-in-Some-clause-follows : goal.returns-in-Some-clause-follows
returns-in-Some-clause-follows g c =
    ends_follows g.M.Monomial.LIM c.args.self.now c.loop-answer.self c.fill.new.self c.turn.new.self c.loop-answer.invariant c.fill.ensures.fills c.fill.ensures.sound (verdict_of g.M.Monomial.vector g.R.CoeffRing.value c.in-Some.answer) c.in-Some.ensures.turns

pub returns-in-Some-clause-cause : goal.returns-in-Some-clause-cause
returns-in-Some-clause-cause g c =
    ends_cause g.M.Monomial.LIM c.args.self.now c.loop-answer.self c.fill.new.self c.turn.new.self c.loop-answer.invariant c.fill.ensures.fills c.fill.ensures.sound (verdict_of g.M.Monomial.vector g.R.CoeffRing.value c.in-Some.answer) c.in-Some.ensures.turns c.fill.ensures.asked

pub loop-answer-smaller : goal.loop-answer-smaller
loop-answer-smaller g c =
    shorter g.M.Monomial.LIM c.args.self.now c.loop-answer.self c.fill.new.self c.turn.new.self c.loop-answer.invariant c.fill.ensures.fills c.fill.ensures.sound c.in_default.ensures.turns c.turn.ensures.sound

pub loop-answer-preserved : goal.loop-answer-preserved
loop-answer-preserved g c =
    runs_on g.M.Monomial.LIM c.args.self.now c.loop-answer.self c.fill.new.self c.turn.new.self c.loop-answer.invariant c.fill.ensures.fills c.fill.ensures.sound c.in_default.ensures.turns c.turn.ensures.sound
