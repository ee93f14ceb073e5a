use Rattle.std.proofs.Common.{◌≡◌, List, get_or, map, sym, ◌∙◌, subst}
use Rattle.term_ring.specs.Names.{RingName}
use Rattle.term_ring.specs.Sending.{IsAmong}
use Rattle.term_ring.proofs.Lists.{same_images}
use Rattle.turnstile.specs.Passes.{made_with}
use Rattle.divide_merge.specs.Merges.{DivideView}
use Rattle.divide_merge.specs.Reached.{divide_reached, Follows}
use Rattle.divide_workers.specs.Views.{WorkerView, sender_of}
use Rattle.divide_workers.specs.Rounds.{IsTeam, AllMove}
use Rattle.divide_workers.proofs.TeamSteps.{all_among}
use Rattle.divide_workers.proofs.round.around.Goals as goal

pub advance_all-requires-clause-have : goal.advance_all-requires-clause-have
advance_all-requires-clause-have g c κs within =
    let team = subst (IsTeam c.args.merge) (sym (same_images (λ w. w.worker) (λ p. p.sender) c.args.workers.now c.hand_out.new.members c.hand_out.ensures.workers)) c.requires.team in λ k d lt.
    let h = all_among c.args.merge (λ w. w.worker.sender) c.hand_out.new.members team k d lt in (
      c.hand_out.ensures.have k d lt,
      subst (λ (n : List RingName). IsAmong n (sender_of (get_or c.hand_out.new.members k d).worker.sender)) c.requires.rings h.0,
      h.1 ∙ c.requires.row,
      h.2,
    )

pub returns-clause-reached : goal.returns-clause-reached
returns-clause-reached g c =
    let made : made_with c.hand_out.new.turnstile ≡ c.args.merge = c.hand_out.ensures.made ∙ c.in-Ok-new.ensures.made in
    subst (λ (v : DivideView). Follows (divide_reached v) (divide_reached c.take_back.result)) made c.take_back.ensures.value.1

pub returns-clause-moves : goal.returns-clause-moves
returns-clause-moves g c =
    let before = same_images (λ w. w.worker) (λ p. p.sender) c.args.workers.now c.hand_out.new.members c.hand_out.ensures.workers in
    let after = same_images (λ w. w.worker) (λ p. p.sender) c.advance_all.new.workers c.take_back.new.members c.take_back.ensures.workers in
    subst (λ (s : List WorkerView). AllMove s (map (λ w. w.worker.sender) c.take_back.new.members)) before (subst (AllMove (map (λ w. w.worker.sender) c.hand_out.new.members)) (sym after) c.advance_all.ensures.moves)
