use Rattle.std.proofs.Common.{List, length, map, sym, ap, subst, ◌∙◌}
use Rattle.term_ring.specs.Names.{RingName}
use Rattle.dividing_rounds.specs.Runs.{DivideRun}
use Rattle.divide_merge.specs.Names.{RowIdentity}
use Rattle.divide_workers.specs.Rounds.{AreMembers}
use Rattle.divide_workers.proofs.Teams.{members_meet}
use Rattle.divide_workers.proofs.round.settle.Goals as goal

pub meet_all-requires-2-clause-members : goal.meet_all-requires-2-clause-members
meet_all-requires-2-clause-members g c κs within =
    let s = map (λ w. w.worker.sender) c.meet_all.new.workers in
    let m = members_meet c.meet_all.new.merge c.args.merge.now.rings c.args.merge.now.row (map (λ w. w.worker.sender) c.args.workers.now) s c.meet_all.ensures.meet c.requires.members in
    subst (λ (r : RowIdentity). AreMembers c.advance-last.new.self.rings r s) (sym (c.advance-last.ensures.grows.row ∙ c.meet_all.ensures.row))
    (subst (λ (n : List RingName). AreMembers n c.args.merge.now.row s) (sym (c.advance-last.ensures.grows.rings ∙ c.meet_all.ensures.rings)) m)

pub returns-clause-settles : goal.returns-clause-settles
returns-clause-settles g c = record {
  met = c.meet_all.new.merge;
  team = map (λ w. w.worker.sender) c.meet_all.new.workers;
  advanced = c.advance-last.new.self;
  first = c.meet_all.ensures.meet;
  second = c.meet_all-2.ensures.meet;
  workers = c.meet_all.ensures.workers;
  met_run = c.meet_all.ensures.run;
  met_spare = c.meet_all.ensures.spare;
  sound = c.whole.ensures.sound;
  rings = c.advance-last.ensures.grows.rings ∙ c.meet_all.ensures.rings;
  row = c.advance-last.ensures.grows.row ∙ c.meet_all.ensures.row;
  tails = c.advance-last.ensures.grows.tails;
  advance = c.advance-last.ensures.reached;
  answer = c.advance-last.ensures.over;
  cause = c.advance-last.ensures.cause;
  run = c.meet_all-2.ensures.run;
  spare = c.meet_all-2.ensures.spare;
}

pub returns-clause-terms : goal.returns-clause-terms
returns-clause-terms g c = c.advance-last.ensures.terms ∙ ap (λ (r : DivideRun). length r.state.q) (sym c.meet_all-2.ensures.run)
