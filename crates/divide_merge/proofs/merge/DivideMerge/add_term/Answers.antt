use Rattle.std.proofs.Common.{Some, ◌+◌, refl, ◌∙◌, sym, subst, arith}
use Rattle.divide_core.specs.Answer.{IsBoundPassed}
use Rattle.divide_merge.specs.Merges.{verdict_of}
use Rattle.divide_merge.specs.Steps.{Turns}
use Rattle.divide_merge.proofs.Settling.{belongs_here, has_place, due_fits, due_norm, due_count, due_within, due_longer, spare_here}
use Rattle.divide_merge.proofs.Turning.{turns_end, turns_find, last_norm, last_count, same_row_term, same_out_term}
use Rattle.divide_merge.proofs.merge.DivideMerge.add_term.Goals as goal

pub with_term-requires : goal.with_term-requires
with_term-requires g c =
    let rings = g.met.R.CoeffRing g.world.𝓛 g.world.𝓜 g.world.𝓡 ((λ s x. x), (λ x. x), (λ x. x), λ x. x) in
    due_fits c.self.invariant c.self.view_is c.requires.sound c.args.term c.size-size.result (c.len-count.result + 1) c.size-size.ensures (omega (arith, c.len-count.ensures, c.self.inside.q.ok))
    (rings.size_fits c.self.inside.coefficients c.args.term.coef (belongs_here c.self.invariant c.self.view_is c.args.term.coef c.requires.belongs))

pub end-requires-clause-last : goal.end-requires-clause-last
end-requires-clause-last g c κs within = (last_norm c.args.self.now.run.state 0 0 _ (record { at = g.M.Monomial.vector c.args.next.mono; present = c.requires.present; fits = c.requires.fits; is = c.requires.mono }) (due_norm c.self.invariant c.self.view_is c.requires.sound c.args.term c.size-size.result (c.len-count.result + 1) c.size-size.ensures (omega (arith, c.len-count.ensures, c.self.inside.q.ok)) (subst (λ f. IsBoundPassed c.self.inside.divisor.norms.integers c.self.inside.divisor.norms.dividend c.self.inside.divisor.norms.divisor (c.self.inside.norm + c.size-size.result) (c.len-count.result + 1) f) c.in-CoefficientBound.is c.in-Err.ensures))).0

pub end-requires-clause-cause : goal.end-requires-clause-cause
end-requires-clause-cause g c κs within = (last_norm c.args.self.now.run.state _ _ _ (record { at = g.M.Monomial.vector c.args.next.mono; present = c.requires.present; fits = c.requires.fits; is = c.requires.mono }) (due_norm c.self.invariant c.self.view_is c.requires.sound c.args.term c.size-size.result (c.len-count.result + 1) c.size-size.ensures (omega (arith, c.len-count.ensures, c.self.inside.q.ok)) (subst (λ f. IsBoundPassed c.self.inside.divisor.norms.integers c.self.inside.divisor.norms.dividend c.self.inside.divisor.norms.divisor (c.self.inside.norm + c.size-size.result) (c.len-count.result + 1) f) c.in-CoefficientBound.is c.in-Err.ensures))).1

pub returns-in-CoefficientBound-clause-turns : goal.returns-in-CoefficientBound-clause-turns
returns-in-CoefficientBound-clause-turns g c =
    let l = last_norm c.args.self.now.run.state _ _ _ (record { at = g.M.Monomial.vector c.args.next.mono; present = c.requires.present; fits = c.requires.fits; is = c.requires.mono }) (due_norm c.self.invariant c.self.view_is c.requires.sound c.args.term c.size-size.result (c.len-count.result + 1) c.size-size.ensures (omega (arith, c.len-count.ensures, c.self.inside.q.ok)) (subst (λ f. IsBoundPassed c.self.inside.divisor.norms.integers c.self.inside.divisor.norms.dividend c.self.inside.divisor.norms.divisor (c.self.inside.norm + c.size-size.result) (c.len-count.result + 1) f) c.in-CoefficientBound.is c.in-Err.ensures)) in
    subst (λ r. Turns c.args.self.now c.end.new.self (Some (verdict_of g.M.Monomial.vector g.R.CoeffRing.value r))) (sym c.end.ensures.answer) (turns_end g.M.Monomial.LIM c.args.self.now c.end.new.self c.requires.sound c.requires.going _ l.0 l.1 c.end.ensures.ends)

pub end-requires-in_default-clause-last : goal.end-requires-in_default-clause-last
end-requires-in_default-clause-last g c κs within = (last_count c.args.self.now.run.state 0 0 _ (record { at = g.M.Monomial.vector c.args.next.mono; present = c.requires.present; fits = c.requires.fits; is = c.requires.mono }) (due_count c.self.invariant c.self.view_is c.requires.sound c.args.term c.size-size.result (c.len-count.result + 1) c.size-size.ensures (omega (arith, c.len-count.ensures, c.self.inside.q.ok)) c.in-Err.fault c.in_default.not-CoefficientBound c.in-Err.ensures)).0

pub end-requires-in_default-clause-cause : goal.end-requires-in_default-clause-cause
end-requires-in_default-clause-cause g c κs within = (last_count c.args.self.now.run.state _ _ _ (record { at = g.M.Monomial.vector c.args.next.mono; present = c.requires.present; fits = c.requires.fits; is = c.requires.mono }) (due_count c.self.invariant c.self.view_is c.requires.sound c.args.term c.size-size.result (c.len-count.result + 1) c.size-size.ensures (omega (arith, c.len-count.ensures, c.self.inside.q.ok)) c.in-Err.fault c.in_default.not-CoefficientBound c.in-Err.ensures)).1

pub returns-in_default : goal.returns-in_default
returns-in_default g c =
    let l = last_count c.args.self.now.run.state _ _ _ (record { at = g.M.Monomial.vector c.args.next.mono; present = c.requires.present; fits = c.requires.fits; is = c.requires.mono }) (due_count c.self.invariant c.self.view_is c.requires.sound c.args.term c.size-size.result (c.len-count.result + 1) c.size-size.ensures (omega (arith, c.len-count.ensures, c.self.inside.q.ok)) c.in-Err.fault c.in_default.not-CoefficientBound c.in-Err.ensures) in
    record {
      sound = c.end-in_default.ensures.sound;
      turns = subst (λ r. Turns c.args.self.now c.end-in_default.new.self (Some (verdict_of g.M.Monomial.vector g.R.CoeffRing.value r))) (sym c.end-in_default.ensures.answer) (turns_end g.M.Monomial.LIM c.args.self.now c.end-in_default.new.self c.requires.sound c.requires.going _ l.0 l.1 c.end-in_default.ensures.ends);
    }

pub returns-then-is_row_full-clause-turns : goal.returns-then-is_row_full-clause-turns
returns-then-is_row_full-clause-turns g c =
    same_row_term g.M.Monomial.LIM c.args.self.now _ c.requires.sound c.requires.going _ (record { at = g.M.Monomial.vector c.args.next.mono; present = c.requires.present; fits = c.requires.fits; is = c.requires.mono }) (due_within c.self.invariant c.self.view_is c.requires.sound c.args.term c.size-size.result (c.len-count.result + 1) c.size-size.ensures (omega (arith, c.len-count.ensures, c.self.inside.q.ok)) c.in-Ok.norm c.in-Ok.ensures) (c.is_row_full.ensures.0 c.if-is_row_full.true) refl

pub returns-then-self-eq0-clause-turns : goal.returns-then-self-eq0-clause-turns
returns-then-self-eq0-clause-turns g c =
    same_out_term g.M.Monomial.LIM c.args.self.now _ c.requires.sound c.requires.going _ (record { at = g.M.Monomial.vector c.args.next.mono; present = c.requires.present; fits = c.requires.fits; is = c.requires.mono }) (due_within c.self.invariant c.self.view_is c.requires.sound c.args.term c.size-size.result (c.len-count.result + 1) c.size-size.ensures (omega (arith, c.len-count.ensures, c.self.inside.q.ok)) c.in-Ok.norm c.in-Ok.ensures) (has_place _ c.is_row_full.result c.is_row_full.ensures c.if-is_row_full.false)
    (sym (spare_here c.self.invariant c.self.view_is) ∙ c.if-self-eq0.true) refl

pub find_term-requires-clause-found : goal.find_term-requires-clause-found
find_term-requires-clause-found g c κs within = record { there = c.requires.present.there; fits = c.requires.fits; is = c.requires.mono; within = (due_within c.self.invariant c.self.view_is c.requires.sound c.args.term c.size-size.result (c.len-count.result + 1) c.size-size.ensures (omega (arith, c.len-count.ensures, c.self.inside.q.ok)) c.in-Ok.norm c.in-Ok.ensures) }

pub find_term-requires-clause-norm : goal.find_term-requires-clause-norm
find_term-requires-clause-norm g c κs within = due_longer c.self.invariant c.self.view_is c.requires.sound c.args.term c.size-size.result (c.len-count.result + 1) c.size-size.ensures (omega (arith, c.len-count.ensures, c.self.inside.q.ok)) c.in-Ok.norm c.in-Ok.ensures

pub find_term-requires-clause-place : goal.find_term-requires-clause-place
find_term-requires-clause-place g c κs within = has_place _ c.is_row_full.result c.is_row_full.ensures c.if-is_row_full.false

pub returns-clause-turns : goal.returns-clause-turns
returns-clause-turns g c = turns_find g.M.Monomial.LIM c.args.self.now c.find_term.new.self c.requires.sound c.requires.going (g.M.Monomial.vector c.args.next.mono) _ c.find_term.ensures.finds
