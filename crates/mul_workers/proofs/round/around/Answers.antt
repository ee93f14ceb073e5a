use Rattle.std.proofs.Common.{List, map, sym, subst}
use Rattle.term_ring.specs.Names.{RingName, ring_name}
use Rattle.term_ring.specs.Sending.{SenderView}
use Rattle.term_ring.proofs.Lists.{same_images}
use Rattle.mul_workers.specs.Rounds.{AreMembers, AllMove}
use Rattle.mul_workers.proofs.Steps.{all_among}
use Rattle.mul_workers.proofs.round.around.Goals as goal

pub advance_all-requires-clause-have : goal.advance_all-requires-clause-have
advance_all-requires-clause-have g c κs within = λ k d lt. (
  c.hand_out.ensures.have k d lt,
  all_among (map ring_name c.args.rings.now) (λ w. w.worker.sender) c.hand_out.new.members
      (subst (λ (n : List RingName). AreMembers n (map (λ w. w.worker.sender) c.hand_out.new.members)) c.requires.rings (subst (λ (s : List SenderView). AreMembers c.args.merge.rings s) (sym (same_images (λ w. w.worker) (λ p. p.sender) c.args.workers.now c.hand_out.new.members c.hand_out.ensures.workers)) c.requires.members)) k d lt,
)

pub returns-clause-moves : goal.returns-clause-moves
returns-clause-moves g c =
    let before = same_images (λ w. w.worker) (λ p. p.sender) c.args.workers.now c.hand_out.new.members c.hand_out.ensures.workers in
    let after = same_images (λ w. w.worker) (λ p. p.sender) c.advance_all.new.workers c.take_back.new.members c.take_back.ensures.workers in
    subst (λ (s : List SenderView). AllMove s (map (λ w. w.worker.sender) c.take_back.new.members)) before (subst (AllMove (map (λ w. w.worker.sender) c.hand_out.new.members)) (sym after) c.advance_all.ensures.moves)
