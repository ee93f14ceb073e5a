use Rattle.std.proofs.Common.{List, map, sym, subst, ◌∙◌, arith}
use Rattle.term_ring.specs.Names.{RingName}
use Rattle.divide_merge.specs.Names.{RowIdentity}
use Rattle.divide_merge.specs.Merges.{verdict_of}
use Rattle.divide_workers.specs.Rounds.{AreMembers}
use Rattle.divide_workers.proofs.Teams.{members_move}
use Rattle.divide_workers.proofs.Settling.{IsTaken, round_is, round_team}
use Rattle.divide_workers.proofs.round.round.Goals as goal

pub settle-last-requires-clause-members : goal.settle-last-requires-clause-members
settle-last-requires-clause-members g c κs within =
    let s = map (λ w. w.worker.sender) c.around.new.workers in
    let m = members_move c.args.merge.rings c.args.merge.row (map (λ w. w.worker.sender) c.args.workers.now) s c.in_ok-merge.ensures.moves c.requires.team.members in
    subst (λ (r : RowIdentity). AreMembers c.reserve.new.self.rings r s) (sym (c.reserve.ensures.row ∙ c.in_ok-merge.ensures.row))
    (subst (λ (n : List RingName). AreMembers n c.args.merge.row s) (sym (c.reserve.ensures.rings ∙ c.in_ok-merge.ensures.rings)) m)

pub returns : goal.returns
returns g c =
    let team0 = map (λ w. w.worker.sender) c.args.workers.now in
    let team1 = map (λ w. w.worker.sender) c.around.new.workers in
    let team3 = map (λ w. w.worker.sender) c.settle-last.new.workers in
    let x = verdict_of g.M.Monomial.vector g.R.CoeffRing.value c.settle-last.result.answer in
    let t : IsTaken g.M.Monomial.LIM c.args.merge c.in_ok-merge.merge c.reserve.new.self c.settle-last.new.merge team0 team1 team3 x = record {
      began = c.whole.ensures.sound;
      ended = c.settle-last.ensures.sound;
      team = c.requires.team;
      place = c.requires.place;
      around = c.in_ok-merge.ensures.reached;
      moves = c.in_ok-merge.ensures.moves;
      run = c.reserve.ensures.run;
      room = let r = c.in_ok-reserve.ensures.room in omega (arith, r);
      rings = c.reserve.ensures.rings ∙ c.in_ok-merge.ensures.rings;
      row = c.reserve.ensures.row ∙ c.in_ok-merge.ensures.row;
      settles = c.settle-last.ensures.settles;
      end_rings = c.settle-last.ensures.rings;
      end_row = c.settle-last.ensures.row;
    } in record {
      rings = c.settle-last.ensures.rings ∙ t.rings;
      row = c.settle-last.ensures.row ∙ t.row;
      team = round_team g.M.Monomial.LIM c.args.merge c.in_ok-merge.merge c.reserve.new.self c.settle-last.new.merge team0 team1 team3 x t;
      round = round_is g.M.Monomial.LIM c.args.merge c.in_ok-merge.merge c.reserve.new.self c.settle-last.new.merge team0 team1 team3 x t;
      terms = c.settle-last.ensures.terms;
      receipt = c.settle-last.ensures.receipt;
    }
