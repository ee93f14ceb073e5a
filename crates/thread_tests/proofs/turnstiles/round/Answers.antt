use Rattle.std.proofs.Common.{◌≤◌, length, vec_capacity, sym, ap, subst, ◌∙◌, length-set}
use Rattle.std.proofs.lemmas.List.{length-map}
use Rattle.std.proofs.lemmas.List.Elements.{All-set}
use Rattle.turnstile.specs.Passes.{HasPass}
use Rattle.thread_tests.proofs.turnstiles.round.Goals as goal

pub loop-i-init : goal.loop-i-init
loop-i-init c =
    let e = c.hand_out.ensures in
    let a = length-map c.hand_out.new.members (λ m. m.worker) in
    let b = length-map c.args.members.now (λ m. m.worker) in
    let l = ap (λ ws. length ws) e.workers in record {
      all = sym a ∙ l ∙ b ∙ sym e.out;
      have = e.have;
    }

pub loop-i-preserved : goal.loop-i-preserved
loop-i-preserved c =
    let i = c.loop-i.invariant in let ms = c.loop-i.members in record {
      all = length-set ms c.loop-i.i c.count_one.new.member ∙ i.all;
      have = All-set (λ m. HasPass c.hand_out.new.turnstile m.pass) ms c.loop-i.i c.count_one.new.member c.count_one.ensures i.have;
    }

pub take_back-requires-clause-room : goal.take_back-requires-clause-room
take_back-requires-clause-room c = (
  c.requires.room.0,
  subst (λ k. k ≤ vec_capacity c.args.passes) (sym (c.loop-i.invariant.all ∙ c.hand_out.ensures.out)) c.requires.room.1,
)
