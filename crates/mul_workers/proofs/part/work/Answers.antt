use Rattle.std.proofs.Common.{arith}
use Rattle.mul_workers.proofs.Sending.{Sends-trans}
use Rattle.mul_workers.proofs.part.work.Goals as goal

pub loop-sender-preserved : goal.loop-sender-preserved
loop-sender-preserved g c =
    let i = c.loop-sender.invariant in
    let e = c.wait.ensures in
    record {
      pass = e.pass;
      entries_rise = let a = i.entries_rise in let b = e.entries in omega arith;
      busy_rise = let a = i.busy_rise in let b = e.busy in omega arith;
      sends = Sends-trans c.args.sender.now c.loop-sender.sender c.wait.new.sender i.sends (Sends-trans c.loop-sender.sender c.send.new.self c.wait.new.sender c.send.ensures.sends e.sends);
      looks = let a = i.looks in let b = c.send.ensures.looks in let d = e.looks in omega arith;
    }
