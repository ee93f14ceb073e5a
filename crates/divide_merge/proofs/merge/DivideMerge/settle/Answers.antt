use Rattle.std.proofs.Common.{true≢false, sym, ◌∙◌}
use Rattle.divide_merge.proofs.Settling.{nonzero_here, unit_here, greatest_low, none_here}
use Rattle.divide_merge.proofs.Turning.{turns_pass}
use Rattle.divide_merge.proofs.merge.DivideMerge.settle.Goals as goal

pub returns-then-is_zero-clause-turns : goal.returns-then-is_zero-clause-turns
returns-then-is_zero-clause-turns g c = turns_pass g.M.Monomial.LIM c.args.self.now c.pass.new.self c.requires.sound c.requires.going (g.M.Monomial.vector c.args.next.mono) c.pass.ensures.passes

pub find-requires-clause-nonzero : goal.find-requires-clause-nonzero
find-requires-clause-nonzero g c κs within = nonzero_here c.self.invariant c.self.view_is

pub find-requires-clause-inverse : goal.find-requires-clause-inverse
find-requires-clause-inverse g c κs within = unit_here c.self.invariant c.self.view_is

pub find-requires-clause-term_low : goal.find-requires-clause-term_low
find-requires-clause-term_low g c κs within = greatest_low g.M.Monomial.LIM c.args.self.now (g.M.Monomial.vector c.args.next.mono) c.requires.sound c.requires.next.greatest

pub add_term-requires-clause-present : goal.add_term-requires-clause-present
add_term-requires-clause-present g c κs within =
    record { read = c.requires.next.greatest; heard = c.requires.heard; there = λ z. true≢false (sym (c.is_zero.ensures.1 (c.coefficient-coef.ensures.value ∙ z)) ∙ c.if-is_zero.false) }

pub spill-requires-clause-present : goal.spill-requires-clause-present
spill-requires-clause-present g c κs within =
    record { read = c.requires.next.greatest; heard = c.requires.heard; there = λ z. true≢false (sym (c.is_zero.ensures.1 (c.coefficient-coef.ensures.value ∙ z)) ∙ c.if-is_zero.false) }

pub spill-requires-clause-none : goal.spill-requires-clause-none
spill-requires-clause-none g c κs within = none_here c.self.invariant c.self.view_is c.args.next.mono c.coefficient-coef.result c.coefficient-coef.ensures.value c.in-None.ensures
