use Rattle.std.proofs.Common.{◌≤◌, inr, arith}
use Rattle.turnstile.specs.Passes.{made_with, entries, busy}
use Rattle.divide_merge.specs.Reached.{divide_name}
use Rattle.divide_workers.proofs.Working.{works_itself, works_again}
use Rattle.divide_workers.proofs.Looking.{rows_stay}
use Rattle.divide_workers.proofs.Advancing.{works_then, fewer_untold, stops_waiting}
use Rattle.divide_workers.proofs.part.Part.work.Goals as goal

pub loop-receipt-init : goal.loop-receipt-init
loop-receipt-init g c = record {
  pass = c.requires.pass;
  entries_rise = omega arith;
  busy_rise = omega arith;
  works = works_itself g.M.Monomial.LIM c.args.self.now.sender c.whole.ensures.working;
}

pub learn_all-requires-clause-rows : goal.learn_all-requires-clause-rows
learn_all-requires-clause-rows g c κs within = rows_stay c.args.self.now.sender c.loop-receipt.self.sender c.loop-receipt.invariant.works c.requires.rows

pub returns-in-Err-clause-works : goal.returns-in-Err-clause-works
returns-in-Err-clause-works g c = works_then c.args.self.now.sender c.loop-receipt.self.sender c.learn_all.new.self c.send.new.self.sender c.loop-receipt.invariant.works c.learn_all.ensures.works c.send.ensures.works

pub look-requires-clause-rows : goal.look-requires-clause-rows
look-requires-clause-rows g c κs within =
    rows_stay c.args.self.now.sender c.send.new.self.sender (works_then c.args.self.now.sender c.loop-receipt.self.sender c.learn_all.new.self c.send.new.self.sender c.loop-receipt.invariant.works c.learn_all.ensures.works c.send.ensures.works) c.requires.rows

pub look-requires-clause-room : goal.look-requires-clause-room
look-requires-clause-room g c κs within =
    (works_then c.args.self.now.sender c.loop-receipt.self.sender c.learn_all.new.self c.send.new.self.sender c.loop-receipt.invariant.works c.learn_all.ensures.works c.send.ensures.works).room c.requires.room

pub loop-receipt-smaller-then-look : goal.loop-receipt-smaller-then-look
loop-receipt-smaller-then-look g c =
    let e = c.look.ensures.news c.if-look.true in
    fewer_untold c.loop-receipt.self.sender c.send.new.self.sender c.look.new.self (works_again c.loop-receipt.self.sender c.learn_all.new.self c.send.new.self.sender c.learn_all.ensures.works c.send.ensures.works) c.look.ensures.works (omega (arith, e)) (c.look.ensures.places c.if-look.true)

pub loop-receipt-preserved-then-look : goal.loop-receipt-preserved-then-look
loop-receipt-preserved-then-look g c =
    let i = c.loop-receipt.invariant in
    let e = c.send.ensures in
    record {
      pass = e.pass;
      entries_rise = let x = i.entries_rise in let y = e.entries in omega (arith, x, y);
      busy_rise = let x = i.busy_rise in let y = e.busy in omega (arith, x, y);
      works = works_again c.args.self.now.sender c.send.new.self.sender c.look.new.self (works_then c.args.self.now.sender c.loop-receipt.self.sender c.learn_all.new.self c.send.new.self.sender c.loop-receipt.invariant.works c.learn_all.ensures.works c.send.ensures.works) c.look.ensures.works;
    }

pub returns-in-Err-push-clause-works : goal.returns-in-Err-push-clause-works
returns-in-Err-push-clause-works g c =
    works_then c.args.self.now.sender c.send.new.self.sender c.look.new.self c.push.new.self.sender (works_then c.args.self.now.sender c.loop-receipt.self.sender c.learn_all.new.self c.send.new.self.sender c.loop-receipt.invariant.works c.learn_all.ensures.works c.send.ensures.works) c.look.ensures.works c.in-Err-push.ensures.refused.works

pub wait_for_news-requires-clause-rows : goal.wait_for_news-requires-clause-rows
wait_for_news-requires-clause-rows g c κs within =
    rows_stay c.args.self.now.sender c.push.new.self.sender
    (works_then c.args.self.now.sender c.send.new.self.sender c.look.new.self c.push.new.self.sender (works_then c.args.self.now.sender c.loop-receipt.self.sender c.learn_all.new.self c.send.new.self.sender c.loop-receipt.invariant.works c.learn_all.ensures.works c.send.ensures.works) c.look.ensures.works c.in_default-push.ensures.sent.works)
    c.requires.rows

pub wait_for_news-requires-clause-room : goal.wait_for_news-requires-clause-room
wait_for_news-requires-clause-room g c κs within =
    (works_then c.args.self.now.sender c.send.new.self.sender c.look.new.self c.push.new.self.sender (works_then c.args.self.now.sender c.loop-receipt.self.sender c.learn_all.new.self c.send.new.self.sender c.loop-receipt.invariant.works c.learn_all.ensures.works c.send.ensures.works) c.look.ensures.works c.in_default-push.ensures.sent.works).room c.requires.room

pub returns-in-Err-wait_for_news-clause-works : goal.returns-in-Err-wait_for_news-clause-works
returns-in-Err-wait_for_news-clause-works g c =
    works_again c.args.self.now.sender c.push.new.self.sender c.wait_for_news.new.sender
    (works_then c.args.self.now.sender c.send.new.self.sender c.look.new.self c.push.new.self.sender (works_then c.args.self.now.sender c.loop-receipt.self.sender c.learn_all.new.self c.send.new.self.sender c.loop-receipt.invariant.works c.learn_all.ensures.works c.send.ensures.works) c.look.ensures.works c.in_default-push.ensures.sent.works)
    c.wait_for_news.ensures.works

pub returns-in-Err-wait_for_news-clause-stop : goal.returns-in-Err-wait_for_news-clause-stop
returns-in-Err-wait_for_news-clause-stop g c =
    let i = c.loop-receipt.invariant in
    let entered : entries c.args.pass.now ≤ entries c.push.new.pass = let x = i.entries_rise in let y = c.send.ensures.entries in let z = c.push.ensures.entries in omega (arith, x, y, z) in
    let found_held : busy c.args.pass.now ≤ busy c.push.new.pass = let x = i.busy_rise in let y = c.send.ensures.busy in let z = c.push.ensures.busy in omega (arith, x, y, z) in
    inr (stops_waiting (divide_name (made_with c.args.shared.now.turnstile.now)) c.args.self.now.sender c.send.new.self.sender c.look.new.self c.push.new.self.sender c.wait_for_news.new.sender c.args.pass.now c.push.new.pass c.wait_for_news.new.pass c.known-known.result c.in-Err-wait_for_news.merged
    (works_then c.args.self.now.sender c.loop-receipt.self.sender c.learn_all.new.self c.send.new.self.sender c.loop-receipt.invariant.works c.learn_all.ensures.works c.send.ensures.works)
    c.in_default.ensures.held (c.look.ensures.nothing c.if-look.false) c.in_default-push.ensures.sent c.in-Err-wait_for_news.ensures.untold c.known-known.ensures entered found_held c.in-Err-wait_for_news.ensures.receipt)

pub loop-receipt-preserved : goal.loop-receipt-preserved
loop-receipt-preserved g c =
    let i = c.loop-receipt.invariant in
    let e = c.wait_for_news.ensures in
    record {
      pass = e.pass;
      entries_rise = let x = i.entries_rise in let y = c.send.ensures.entries in let z = c.push.ensures.entries in let u = e.entries in omega (arith, x, y, z, u);
      busy_rise = let x = i.busy_rise in let y = c.send.ensures.busy in let z = c.push.ensures.busy in let u = e.busy in omega (arith, x, y, z, u);
      works = works_again c.args.self.now.sender c.push.new.self.sender c.wait_for_news.new.sender
          (works_then c.args.self.now.sender c.send.new.self.sender c.look.new.self c.push.new.self.sender (works_then c.args.self.now.sender c.loop-receipt.self.sender c.learn_all.new.self c.send.new.self.sender c.loop-receipt.invariant.works c.learn_all.ensures.works c.send.ensures.works) c.look.ensures.works c.in_default-push.ensures.sent.works)
          e.works;
    }
