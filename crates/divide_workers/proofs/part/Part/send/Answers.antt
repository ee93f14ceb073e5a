use Rattle.std.proofs.Common.{refl, ◌∙◌, arith}
use Rattle.turnstile.specs.Passes.{made_with, patience}
use Rattle.term_ring.specs.Names.{ring_name}
use Rattle.term_ring.specs.Sending.{IsRefused, WasRefused}
use Rattle.divide_merge.specs.Reached.{divide_name}
use Rattle.divide_workers.specs.Fronts.{plain_front}
use Rattle.divide_workers.specs.Stops.{IsReceipt}
use Rattle.divide_workers.specs.Views.{sender_of}
use Rattle.divide_workers.proofs.Fields.{if_err}
use Rattle.divide_workers.proofs.Working.{works_itself, works_again}
use Rattle.divide_workers.proofs.Pushing.{receipt_before, frontier_kept, less_left, works_on, pushes_notes, refuses_notes, hands_notes, refused_on, passed_up, ring_on}
use Rattle.divide_workers.proofs.part.Part.send.Goals as goal

pub loop-frontier-init : goal.loop-frontier-init
loop-frontier-init g c =
    record {
      pass = c.requires.pass;
      entries_rise = omega arith;
      busy_rise = omega arith;
      works = works_itself g.M.Monomial.LIM c.args.self.now.sender c.whole.ensures.working;
      notes = refl;
      frontier = c.frontier-frontier.ensures;
    }

pub push-requires-clause-ring : goal.push-requires-clause-ring
push-requires-clause-ring g c κs within =
    ring_on c.args.self.now.sender c.loop-frontier.self.sender c.keep_next.new.self (ring_name c.args.ring.now) c.loop-frontier.invariant.works c.keep_next.ensures.hands c.requires.ring

pub loop-frontier-preserved : goal.loop-frontier-preserved
loop-frontier-preserved g c =
    let i = c.loop-frontier.invariant in
    let h = c.keep_next.ensures.hands in
    let p = c.in_ok-push.ensures.sent in
    record {
      pass = c.push.ensures.pass;
      entries_rise = let a = i.entries_rise in let b = c.push.ensures.entries in omega arith;
      busy_rise = let a = i.busy_rise in let b = c.push.ensures.busy in omega arith;
      works = works_on c.args.self.now.sender c.loop-frontier.self.sender c.keep_next.new.self c.push.new.self.sender i.works h p.works;
      notes = pushes_notes c.keep_next.new.self c.push.new.self.sender p ∙ hands_notes c.args.self.now.sender c.loop-frontier.self.sender c.keep_next.new.self i.notes h;
      frontier = frontier_kept c.keep_next.new.self c.push.new.self.sender (plain_front g.M.Monomial.vector c.frontier-frontier.result) p c.keep_next.ensures.frontier;
    }

pub loop-frontier-smaller : goal.loop-frontier-smaller
loop-frontier-smaller g c =
    less_left c.loop-frontier.self.sender c.keep_next.new.self c.push.new.self.sender c.keep_next.ensures.hands (c.keep_next.ensures.fewer c.loop-frontier-test.true) c.in_ok-push.ensures.sent

pub returns-in_err-push-clause-works : goal.returns-in_err-push-clause-works
returns-in_err-push-clause-works g c =
    works_on c.args.self.now.sender c.loop-frontier.self.sender c.keep_next.new.self c.push.new.self.sender c.loop-frontier.invariant.works c.keep_next.ensures.hands c.in_err-push.ensures.refused.works

pub returns-in_err-push-clause-row : goal.returns-in_err-push-clause-row
returns-in_err-push-clause-row g c =
    let i = c.loop-frontier.invariant in
    let h = c.keep_next.ensures.hands in
    let r = c.in_err-push.ensures.refused in
    (refuses_notes c.keep_next.new.self c.push.new.self.sender r ∙ hands_notes c.args.self.now.sender c.loop-frontier.self.sender c.keep_next.new.self i.notes h, r.works.row ∙ h.works.row ∙ i.works.row)

pub returns-in_err-push-clause-refused : goal.returns-in_err-push-clause-refused
returns-in_err-push-clause-refused g c =
    if_err c.from_residual.result (IsRefused (sender_of c.push.new.self.sender) × WasRefused (sender_of c.args.self.now.sender) (sender_of c.push.new.self.sender))
    (refused_on c.args.self.now.sender c.loop-frontier.self.sender c.keep_next.new.self c.push.new.self.sender c.loop-frontier.invariant.works c.keep_next.ensures.hands c.in_err-push.ensures.refused)

pub returns-in_err-push-clause-receipt : goal.returns-in_err-push-clause-receipt
returns-in_err-push-clause-receipt g c =
    let i = c.loop-frontier.invariant in
    let name = divide_name (made_with c.args.shared.now.turnstile.now) in
    passed_up c.from_residual.result c.in_err-push.field-0.0 (IsReceipt name patience c.args.pass.now c.push.new.pass) c.from_residual.ensures.1
    (receipt_before name patience c.args.pass.now c.loop-frontier.pass c.push.new.pass c.in_err-push.field-0.0 i.entries_rise i.busy_rise c.in_err-push.ensures.receipt)

pub returns-clause-works : goal.returns-clause-works
returns-clause-works g c =
    works_again c.args.self.now.sender c.loop-frontier.self.sender c.keep_next.new.self c.loop-frontier.invariant.works c.keep_next.ensures.hands.works

pub returns-clause-row : goal.returns-clause-row
returns-clause-row g c =
    let i = c.loop-frontier.invariant in
    let h = c.keep_next.ensures.hands in
    (hands_notes c.args.self.now.sender c.loop-frontier.self.sender c.keep_next.new.self i.notes h, h.works.row ∙ i.works.row)
