use Rattle.std.proofs.Common.{Some, refl, ◌∙◌, sym, subst}
use Rattle.divide_merge.specs.Merges.{verdict_of}
use Rattle.divide_merge.specs.Steps.{Turns}
use Rattle.divide_merge.proofs.Adding.{no_divides}
use Rattle.divide_merge.proofs.Settling.{read_reduced, divisor_is, spare_here}
use Rattle.divide_merge.proofs.Turning.{turns_end, turns_keep, last_none, same_out_rest}
use Rattle.divide_merge.proofs.merge.DivideMerge.spill.Goals as goal

pub end-requires-clause-last : goal.end-requires-clause-last
end-requires-clause-last g c κs within =
    (last_none c.args.self.now.run.state 0 0 (g.M.Monomial.vector c.args.next.mono) (sym (divisor_is c.self.invariant c.self.view_is).mode ∙ c.in-Exact.is) (record { present = c.requires.present; none = c.requires.none })).0

pub end-requires-clause-cause : goal.end-requires-clause-cause
end-requires-clause-cause g c κs within =
    (last_none c.args.self.now.run.state _ _ (g.M.Monomial.vector c.args.next.mono) (sym (divisor_is c.self.invariant c.self.view_is).mode ∙ c.in-Exact.is) (record { present = c.requires.present; none = c.requires.none })).1

pub returns-in-Exact-clause-turns : goal.returns-in-Exact-clause-turns
returns-in-Exact-clause-turns g c =
    let l = last_none c.args.self.now.run.state _ _ (g.M.Monomial.vector c.args.next.mono) (sym (divisor_is c.self.invariant c.self.view_is).mode ∙ c.in-Exact.is) (record { present = c.requires.present; none = c.requires.none }) in
    subst (λ r. Turns c.args.self.now c.end.new.self (Some (verdict_of g.M.Monomial.vector g.R.CoeffRing.value r))) (sym c.end.ensures.answer) (turns_end g.M.Monomial.LIM c.args.self.now c.end.new.self c.requires.sound c.requires.going _ l.0 l.1 c.end.ensures.ends)

pub returns-then-self-eq0-clause-turns : goal.returns-then-self-eq0-clause-turns
returns-then-self-eq0-clause-turns g c =
    same_out_rest g.M.Monomial.LIM c.args.self.now _ c.requires.sound c.requires.going (g.M.Monomial.vector c.args.next.mono) (sym (divisor_is c.self.invariant c.self.view_is).mode ∙ c.in-Remainder.is) (record { present = c.requires.present; none = c.requires.none })
    (sym (spare_here c.self.invariant c.self.view_is) ∙ c.if-self-eq0.true) refl

pub keep_term-requires-clause-rest : goal.keep_term-requires-clause-rest
keep_term-requires-clause-rest g c κs within =
    let m = sym (divisor_is c.self.invariant c.self.view_is).mode ∙ c.in-Remainder.is in
    record { there = c.requires.present.there; mode = m; indivisible = no_divides c.args.self.now.run.state (g.M.Monomial.vector c.args.next.mono) c.requires.sound.fit.accepted (read_reduced c.args.self.now.run.state (g.M.Monomial.vector c.args.next.mono)) m c.requires.none }

pub returns-else-self-eq0-clause-turns : goal.returns-else-self-eq0-clause-turns
returns-else-self-eq0-clause-turns g c = turns_keep g.M.Monomial.LIM c.args.self.now c.keep_term.new.self c.requires.sound c.requires.going (g.M.Monomial.vector c.args.next.mono) c.keep_term.ensures.keeps
