use Rattle.std.proofs.Common.{List, length, map, sym, subst, ◌∙◌}
use Rattle.whole_laws.specs.Notes.{Note}
use Rattle.whole_laws.specs.Wholes.{MergeState}
use Rattle.term_ring.specs.Names.{RingName, NoneBelow}
use Rattle.global_heap.specs.Reached.{merge_reached}
use Rattle.mul_workers.specs.Rounds.{AreMembers}
use Rattle.mul_workers.proofs.Teams.{members_move, round_is}
use Rattle.mul_workers.proofs.round.round.Goals as goal

pub settle-last-requires-clause-members : goal.settle-last-requires-clause-members
settle-last-requires-clause-members g c κs within =
    let s = map (λ w. w.worker.sender) c.around.new.workers in
    subst (λ (n : List RingName). AreMembers n s) (sym (c.reserve.ensures.rings ∙ c.in_ok-merge.ensures.rings)) (members_move c.args.merge.rings (map (λ w. w.worker.sender) c.args.workers.now) s c.requires.team.members c.in_ok-merge.ensures.moves)

pub returns-clause-round : goal.returns-clause-round
returns-clause-round g c =
    round_is g.M.Monomial.LIM c.args.merge c.reserve.new.self c.settle-last.new.merge (map (λ w. w.worker.sender) c.args.workers.now) (map (λ w. w.worker.sender) c.around.new.workers) c.settle-last.result.answer
    c.settle-last.ensures.sound c.requires.team c.in_ok-merge.ensures.moves
    (subst (λ (s : MergeState). NoneBelow (merge_reached c.args.merge) (map (λ (n : List Note). length n) s.taken)) (sym c.reserve.ensures.state) c.in_ok-merge.ensures.reached)
    c.settle-last.ensures.reached (c.settle-last.ensures.rings ∙ c.reserve.ensures.rings ∙ c.in_ok-merge.ensures.rings) c.settle-last.ensures.settled
