use Rattle.std.proofs.Common.{List, length, map, sym, ap, subst, ◌∙◌, arith}
use Rattle.term_ring.specs.Names.{RingName}
use Rattle.mul_workers.specs.Rounds.{AreMembers}
use Rattle.mul_workers.proofs.Teams.{settled_by, met_team, have_met, members_meet}
use Rattle.mul_workers.proofs.round.settle.Goals as goal

pub meet_all-requires-2-clause-members : goal.meet_all-requires-2-clause-members
meet_all-requires-2-clause-members g c κs within =
    let s = map (λ w. w.worker.sender) c.meet_all.new.workers in
    subst (λ (n : List RingName). AreMembers n s) (sym (c.advance-last.ensures.rings ∙ c.meet_all.ensures.rings)) (members_meet c.meet_all.new.merge c.args.merge.now.rings (map (λ w. w.worker.sender) c.args.workers.now) s c.requires.members c.meet_all.ensures.meet)

pub returns-clause-team : goal.returns-clause-team
returns-clause-team g c =
    let s = map (λ w. w.worker.sender) c.meet_all.new.workers in
    met_team c.meet_all-2.new.merge s (map (λ w. w.worker.sender) c.meet_all-2.new.workers)
    (subst (λ (n : List RingName). AreMembers n s) (sym (c.meet_all-2.ensures.rings ∙ c.advance-last.ensures.rings ∙ c.meet_all.ensures.rings)) (members_meet c.meet_all.new.merge c.args.merge.now.rings (map (λ w. w.worker.sender) c.args.workers.now) s c.requires.members c.meet_all.ensures.meet))
    c.meet_all-2.ensures.meet

pub returns-clause-met : goal.returns-clause-met
returns-clause-met g c = have_met c.meet_all-2.new.merge (map (λ w. w.worker.sender) c.meet_all.new.workers) (map (λ w. w.worker.sender) c.meet_all-2.new.workers) c.meet_all-2.ensures.meet

pub returns-clause-settled : goal.returns-clause-settled
returns-clause-settled g c =
    let r = c.advance-last.ensures.rings ∙ c.meet_all.ensures.rings in
    settled_by c.args.merge.now c.meet_all.new.merge c.advance-last.new.self c.meet_all-2.new.merge (map (λ w. w.worker.sender) c.args.workers.now) (map (λ w. w.worker.sender) c.meet_all.new.workers) (map (λ w. w.worker.sender) c.meet_all-2.new.workers) c.advance-last.result.answer
    (c.requires.members.long ∙ c.whole.ensures.sound.rings_count) c.meet_all.ensures.state
    (ap (λ s. s.workers) c.meet_all.ensures.state ∙ sym c.whole.ensures.sound.rings_count ∙ ap (λ (n : List RingName). length n) (sym r) ∙ c.whole-2.ensures.sound.rings_count)
    c.meet_all-2.ensures.state c.requires.members c.meet_all.ensures.meet c.advance-last.ensures.tails c.meet_all-2.ensures.meet
    (λ q. c.advance-last.ensures.moved q (let a = c.requires.room in let b = c.meet_all.ensures.spare in omega arith)) c.advance-last.ensures.cause
