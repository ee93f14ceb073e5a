use Rattle.std.proofs.Common.{map, sym, ap, ◌∙◌, arith}
use Rattle.term_ring.specs.Names.{notes_count}
use Rattle.mul_workers.proofs.Bounds.{taken_within, taken_all, few_taken, round_takes, round_ends, team_still}
use Rattle.mul_workers.proofs.rounds.finish.Goals as goal

pub round-requires-clause-team : goal.round-requires-clause-team
round-requires-clause-team g c κs within = team_still c.loop-merge.merge c.reserve.new.self (map (λ w. w.worker.sender) c.loop-merge.workers) c.reserve.ensures.state c.reserve.ensures.rings c.loop-merge.invariant.team

pub overflow_add-rounds : goal.overflow_add-rounds
overflow_add-rounds g c =
    let i = c.loop-merge.invariant in
    let n = i.count in
    let f = few_taken g.M.Monomial.LIM c.loop-merge.merge i.sound in
    omega arith

pub returns-in-Done-clause-notes : goal.returns-in-Done-clause-notes
returns-in-Done-clause-notes g c =
    let e = c.in_ok-next.ensures in
    e.receipt.1 ∙ taken_all g.M.Monomial.LIM c.in_ok-next.next c.args.merge.rings e.sound (e.rings ∙ c.reserve.ensures.rings ∙ c.loop-merge.invariant.rings)
    (round_ends c.reserve.new.self c.in_ok-next.next c.in_ok-next.last.answer e.round (sym c.answer.ensures ∙ c.in-Done.is))

pub returns-in-Done-clause-rounds : goal.returns-in-Done-clause-rounds
returns-in-Done-clause-rounds g c =
    let i = c.loop-merge.invariant in
    let n = i.count in
    let t = taken_within g.M.Monomial.LIM c.loop-merge.merge c.args.merge.rings i.sound i.rings in
    omega arith

pub loop-merge-smaller : goal.loop-merge-smaller
loop-merge-smaller g c =
    let e = c.in_ok-next.ensures in
    let t = taken_within g.M.Monomial.LIM c.in_ok-next.next c.args.merge.rings e.sound (e.rings ∙ c.reserve.ensures.rings ∙ c.loop-merge.invariant.rings) in
    let m = round_takes c.reserve.new.self c.in_ok-next.next c.in_ok-next.last.answer e.round (λ d. c.in_default.not-Done (c.answer.ensures ∙ d)) in
    let s = ap (λ s. notes_count s.taken) c.reserve.ensures.state in
    omega arith

pub loop-merge-preserved : goal.loop-merge-preserved
loop-merge-preserved g c =
    let e = c.in_ok-next.ensures in
    record {
      rings = e.rings ∙ c.reserve.ensures.rings ∙ c.loop-merge.invariant.rings;
      team = e.team;
      sound = e.sound;
      count =
          let m = round_takes c.reserve.new.self c.in_ok-next.next c.in_ok-next.last.answer e.round (λ d. c.in_default.not-Done (c.answer.ensures ∙ d)) in
          let s = ap (λ s. notes_count s.taken) c.reserve.ensures.state in
          let n = c.loop-merge.invariant.count in
          omega arith;
    }
