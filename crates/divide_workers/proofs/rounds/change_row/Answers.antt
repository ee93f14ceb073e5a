use Rattle.std.proofs.Common.{◌≡◌, ◌≤◌, ◌+◌, length, map, sym, ap, ◌∙◌, subst, arith}
use Rattle.std.proofs.Math.Facts.{Fits-of_lt}
use Rattle.std.proofs.lemmas.List.{length-map}
use Rattle.divide_merge.specs.Names.{RowIdentity}
use Rattle.divide_workers.specs.Paying.{HasRows}
use Rattle.divide_workers.specs.Working.{IsWorking}
use Rattle.divide_workers.specs.Rounds.{AllMakeRoom}
use Rattle.divide_workers.proofs.Changing.{each_has, all_have}
use Rattle.divide_workers.proofs.NewRow.{HasNewRow, start_is, divisions, rooms, team_there, found_few}
use Rattle.divide_workers.proofs.rounds.change_row.Given as given
use Rattle.divide_workers.proofs.rounds.change_row.Goals as goal
use Rattle.divide_workers.proofs.rounds.change_row.Goals.{After-quotient-found, After-change_row}

found_is : (g : given.Over) (c : After-quotient-found g) → length c.quotient-found.result.now ≡ length c.args.merge.now.run.state.q
found_is g c = sym (length-map c.quotient-found.result.now _) ∙ ap length c.quotient-found.ensures.terms

-- the merge has its new row, and the workers room
ready : (g : given.Over) (c : After-change_row g) → HasNewRow g.M.Monomial.LIM c.args.merge.now c.change_row.new.self c.args.places (map (λ w. w.worker.sender) c.args.workers.now) (map (λ w. w.worker.sender) c.make_room.new.workers)
ready g c = record {
  sound = c.whole.ensures.sound;
  team = c.requires.team;
  working = each_has (IsWorking g.M.Monomial.LIM) (λ w. w.worker.sender) c.args.workers.now c.all_whole.ensures;
  run = c.change_row.ensures.run;
  rings = c.change_row.ensures.rings;
  places_are = ap (λ (r : RowIdentity). r.places) c.change_row.ensures.row ∙ c.in_ok-row.ensures.writer.3 ∙ c.in_ok-row.ensures.places;
  room = subst (λ n. AllMakeRoom n c.args.places (map (λ w. w.worker.sender) c.args.workers.now) (map (λ w. w.worker.sender) c.make_room.new.workers)) (sym (length-map c.quotient-found.result.now _) ∙ ap length c.quotient-found.ensures.terms) c.in_ok-make_room.ensures;
}

pub make_room-requires-clause-few : goal.make_room-requires-clause-few
make_room-requires-clause-few g c κs within =
    let few = found_few g.M.Monomial.LIM c.args.merge.now c.whole.ensures.sound in
    let found = found_is g (goal.at.make_room-requires-clause-few g c).After-quotient-found in
    omega (arith, few, found)

pub overflow_cast-found : goal.overflow_cast-found
overflow_cast-found g c =
    let few = found_few g.M.Monomial.LIM c.args.merge.now c.whole.ensures.sound in
    let found = found_is g (goal.at.overflow_cast-found g c).After-quotient-found in
    Fits-of_lt (omega (arith, few, found))

pub overflow_cast-workers : goal.overflow_cast-workers
overflow_cast-workers g c =
    let l = length-map c.args.workers.now (λ w. w.worker.sender) in
    let team = c.requires.team.members.long in
    let count = c.whole.ensures.sound.rings_count in
    let few = c.whole.ensures.sound.few in
    Fits-of_lt (omega (arith, l, team, count, few))

pub catch_up_all-requires-clause-readers : goal.catch_up_all-requires-clause-readers
catch_up_all-requires-clause-readers g c κs within = λ k d lt.
    let r = c.in_ok-row.ensures.each k d lt in
    let w = c.in_ok-row.ensures.writer in
    (r.0.0, (λ j. record { table = (r.0.1 ∙ sym w.1) j; name = (r.0.2 ∙ sym w.2) j; places = (r.0.3 ∙ sym w.3) j }) ∙ sym c.change_row.ensures.row, r.1.0)

pub catch_up_all-requires-clause-new : goal.catch_up_all-requires-clause-new
catch_up_all-requires-clause-new g c κs within =
    start_is g.M.Monomial.LIM c.args.merge.now c.change_row.new.self c.args.places (map (λ w. w.worker.sender) c.args.workers.now) (map (λ w. w.worker.sender) c.make_room.new.workers) (ready g (goal.at.catch_up_all-requires-clause-new g c).After-change_row)

pub catch_up_all-requires-clause-division : goal.catch_up_all-requires-clause-division
catch_up_all-requires-clause-division g c κs within =
    all_have (λ v. v.state.division ≡ c.change_row.new.self.run.state.division) (λ w. w.worker.sender) c.make_room.new.workers (divisions g.M.Monomial.LIM c.args.merge.now c.change_row.new.self c.args.places (map (λ w. w.worker.sender) c.args.workers.now) (map (λ w. w.worker.sender) c.make_room.new.workers) (ready g (goal.at.catch_up_all-requires-clause-division g c).After-change_row))

pub catch_up_all-requires-clause-room : goal.catch_up_all-requires-clause-room
catch_up_all-requires-clause-room g c κs within =
    all_have (λ v. HasRows v.state → length c.change_row.new.self.run.state.q ≤ length v.state.known + v.spare) (λ w. w.worker.sender) c.make_room.new.workers (rooms g.M.Monomial.LIM c.args.merge.now c.change_row.new.self c.args.places (map (λ w. w.worker.sender) c.args.workers.now) (map (λ w. w.worker.sender) c.make_room.new.workers) (ready g (goal.at.catch_up_all-requires-clause-room g c).After-change_row))

pub returns-clause-team : goal.returns-clause-team
returns-clause-team g c =
    team_there g.M.Monomial.LIM c.args.merge.now c.change_row.new.self c.args.places (map (λ w. w.worker.sender) c.args.workers.now) (map (λ w. w.worker.sender) c.make_room.new.workers) (ready g (goal.at.returns-clause-team g c).After-change_row) (map (λ w. w.worker.sender) c.catch_up_all.new.workers) c.catch_up_all.ensures
