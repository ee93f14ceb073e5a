use Rattle.std.proofs.Common.{ap, sym, ◌∙◌}
use Rattle.std.proofs.lemmas.Result.{IfOk-weaker, IfErr-weaker}
use Rattle.divide_workers.specs.Views.{WorkerView}
use Rattle.divide_workers.specs.Steps.{Pushes, Refuses}
use Rattle.divide_workers.specs.Stops.{StaysRefused}
use Rattle.divide_workers.proofs.Pushing.{pushes_after, refuses_after}
use Rattle.divide_workers.proofs.part.Part.push.Goals as goal

pub wait_for_room-requires-clause-ring : goal.wait_for_room-requires-clause-ring
wait_for_room-requires-clause-ring g c κs within = c.requires.ring ∙ sym (ap (λ (v : WorkerView). v.ring) c.in-Err.ensures.refused.same)

pub returns-clause-sent : goal.returns-clause-sent
returns-clause-sent g c =
    let a = c.args.self.now.sender in
    let b = c.push.new.self in
    let d = c.wait_for_room.new.sender in
    IfOk-weaker c.wait_for_room.result (λ x. Pushes b d) (λ x. Pushes a d) (λ x p. pushes_after a b d c.in-Err.ensures.refused p) c.wait_for_room.ensures.sent

pub returns-clause-refused : goal.returns-clause-refused
returns-clause-refused g c =
    let a = c.args.self.now.sender in
    let b = c.push.new.self in
    let d = c.wait_for_room.new.sender in
    IfErr-weaker c.wait_for_room.result (λ x. StaysRefused b d) (λ x. Refuses a d) (λ x s. refuses_after a b d c.in-Err.ensures.refused c.wait_for_room.ensures.works s) c.wait_for_room.ensures.refused
