use Rattle.std.proofs.Common.{ℕ, ◌<◌, ◌≤◌, map, sym, ap, ◌∙◌, subst, arith}
use Rattle.dividing_rounds.specs.Runs.{DivideRun}
use Rattle.dividing_rounds.specs.Rounds.{progress}
use Rattle.divide_merge.specs.Names.{row_identity}
use Rattle.divide_merge.specs.Merges.{DivideView}
use Rattle.divide_workers.specs.Working.{IsWorking}
use Rattle.divide_workers.specs.Rounds.{IsTeam, HasPlace}
use Rattle.divide_workers.proofs.Changing.{each_has}
use Rattle.divide_workers.proofs.Finishing.{team_still, place_still, over_after, place_after, farther_after, row_not_over, round_not_over, place_new, progress_new, progress_within}
use Rattle.divide_workers.proofs.rounds.finish.Goals.{in-Row+in_ok-row-in-Row, in-Round}
use Rattle.divide_workers.proofs.rounds.finish.Goals as goal

pub round-requires-clause-team : goal.round-requires-clause-team
round-requires-clause-team g c κs within =
    let e = c.reserve.ensures in
    team_still c.loop-row.merge c.reserve.new.self e.run e.row (map (λ w. w.worker.sender) c.loop-row.workers) e.rings c.loop-row.invariant.team

pub round-requires-clause-place : goal.round-requires-clause-place
round-requires-clause-place g c κs within =
    let e = c.reserve.ensures in
    place_still c.loop-row.merge c.reserve.new.self e.run e.row c.loop-row.invariant.place

pub returns-in-Over-clause-answer : goal.returns-in-Over-clause-answer
returns-in-Over-clause-answer g c = over_after c.reserve.new.self c.in_ok-next.next _ c.in_ok-next.ensures.round (sym c.next_after.ensures ∙ c.in-Over.is)

pub returns-in-Over-clause-rounds : goal.returns-in-Over-clause-rounds
returns-in-Over-clause-rounds g c =
    let below = progress_within g.M.Monomial.LIM c.args.merge c.loop-row.merge (map (λ w. w.worker.sender) c.loop-row.workers) c.whole.ensures.sound c.whole-in-loop-row.ensures.sound c.loop-row.invariant.rings c.loop-row.invariant.team (each_has (IsWorking g.M.Monomial.LIM) (λ w. w.worker.sender) c.loop-row.workers c.all_whole.ensures) in
    let rounds = c.loop-row.invariant.rounds in
    let more = c.saturating_add-rounds.ensures in omega (arith, below, rounds, more)

pub loop-row-smaller : goal.loop-row-smaller
loop-row-smaller g c =
    let below = progress_within g.M.Monomial.LIM c.args.merge c.loop-row.merge (map (λ w. w.worker.sender) c.loop-row.workers) c.whole.ensures.sound c.whole-in-loop-row.ensures.sound c.loop-row.invariant.rings c.loop-row.invariant.team (each_has (IsWorking g.M.Monomial.LIM) (λ w. w.worker.sender) c.loop-row.workers c.all_whole.ensures) in
    let later : progress c.loop-row.merge.run < progress c.match-next_after.merge.run =
    elim c.match-next_after.branch [
      | in-Row+in_ok-row-in-Row w ↦ subst (λ (n : ℕ). progress c.loop-row.merge.run < n) (sym (ap (λ (m : DivideView). progress m.run) w.merge-is ∙ progress_new c.in_ok-next.next w.change_row.new.merge w.in_ok-row-in-Row.ensures.run)) (subst (λ (r : DivideRun). progress r < progress c.in_ok-next.next.run) c.reserve.ensures.run (farther_after c.reserve.new.self c.in_ok-next.next _ c.in_ok-next.ensures.round g.M.Monomial.LIM c.whole-in-loop-row-2.ensures.sound (row_not_over _ (sym c.next_after.ensures ∙ w.in-Row.is))))
      | in-Round w ↦ subst (λ (n : ℕ). progress c.loop-row.merge.run < n) (sym (ap (λ (m : DivideView). progress m.run) w.merge-is)) (subst (λ (r : DivideRun). progress r < progress c.in_ok-next.next.run) c.reserve.ensures.run (farther_after c.reserve.new.self c.in_ok-next.next _ c.in_ok-next.ensures.round g.M.Monomial.LIM c.whole-in-loop-row-2.ensures.sound (round_not_over _ (sym c.next_after.ensures ∙ w.in-Round.is))))
    ] in
    omega (arith, below, later)

pub loop-row-preserved : goal.loop-row-preserved
loop-row-preserved g c =
    let i = c.loop-row.invariant in
    let e = c.in_ok-next.ensures in
    let f = c.match-next_after in
    let later : progress c.loop-row.merge.run < progress c.match-next_after.merge.run =
    elim c.match-next_after.branch [
      | in-Row+in_ok-row-in-Row w ↦ subst (λ (n : ℕ). progress c.loop-row.merge.run < n) (sym (ap (λ (m : DivideView). progress m.run) w.merge-is ∙ progress_new c.in_ok-next.next w.change_row.new.merge w.in_ok-row-in-Row.ensures.run)) (subst (λ (r : DivideRun). progress r < progress c.in_ok-next.next.run) c.reserve.ensures.run (farther_after c.reserve.new.self c.in_ok-next.next _ c.in_ok-next.ensures.round g.M.Monomial.LIM c.whole-in-loop-row-2.ensures.sound (row_not_over _ (sym c.next_after.ensures ∙ w.in-Row.is))))
      | in-Round w ↦ subst (λ (n : ℕ). progress c.loop-row.merge.run < n) (sym (ap (λ (m : DivideView). progress m.run) w.merge-is)) (subst (λ (r : DivideRun). progress r < progress c.in_ok-next.next.run) c.reserve.ensures.run (farther_after c.reserve.new.self c.in_ok-next.next _ c.in_ok-next.ensures.round g.M.Monomial.LIM c.whole-in-loop-row-2.ensures.sound (round_not_over _ (sym c.next_after.ensures ∙ w.in-Round.is))))
    ] in
    let rounds : c.saturating_add-rounds.result ≤ progress f.merge.run = let old = i.rounds in let more = c.saturating_add-rounds.ensures in omega (arith, later, old, more) in
    elim c.match-next_after.branch [
      | in-Row+in_ok-row-in-Row w ↦
          let some : 0 < w.more_places-places.result = let old = i.places in let more = w.more_places-places.ensures in omega (arith, old, more) in
          let n = w.in_ok-row-in-Row.ensures in
          record {
            rings = ap (λ (m : DivideView). m.rings) w.merge-is ∙ n.rings ∙ e.rings ∙ c.reserve.ensures.rings ∙ i.rings;
            row = ap (λ (m : DivideView). m.row) w.merge-is ∙ n.row ∙ ap row_identity (sym w.row-is);
            team = subst (λ (m : DivideView). IsTeam m (map (λ w. w.worker.sender) f.workers)) (sym w.merge-is) (subst (λ ws. IsTeam w.change_row.new.merge (map (λ w. w.worker.sender) ws)) (sym w.workers-is) n.team);
            place = subst HasPlace (sym w.merge-is) (place_new c.in_ok-next.next w.change_row.new.merge w.more_places-places.result n.run n.places some);
            places = subst (λ (n : ℕ). 0 < n) (sym w.places-is) some;
            rounds = rounds;
          }
      | in-Round w ↦
          record {
            rings = ap (λ (m : DivideView). m.rings) w.merge-is ∙ e.rings ∙ c.reserve.ensures.rings ∙ i.rings;
            row = ap (λ (m : DivideView). m.row) w.merge-is ∙ e.row ∙ c.reserve.ensures.row ∙ i.row ∙ ap row_identity (sym w.row-is);
            team = subst (λ (m : DivideView). IsTeam m (map (λ w. w.worker.sender) f.workers)) (sym w.merge-is) (subst (λ ws. IsTeam c.in_ok-next.next (map (λ w. w.worker.sender) ws)) (sym w.workers-is) e.team);
            place = subst HasPlace (sym w.merge-is) (place_after c.reserve.new.self c.in_ok-next.next _ e.round (sym c.next_after.ensures ∙ w.in-Round.is));
            places = subst (λ (n : ℕ). 0 < n) (sym w.places-is) i.places;
            rounds = rounds;
          }
    ]
