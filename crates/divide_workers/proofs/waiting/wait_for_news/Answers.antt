use Rattle.std.proofs.Common.{◌+◌, arith}
use Rattle.turnstile.specs.Passes.{made_with}
use Rattle.divide_merge.specs.Reached.{divide_name}
use Rattle.divide_workers.proofs.Working.{works_itself, works_again}
use Rattle.divide_workers.proofs.Waits.{gives_up, untold_itself, stays_untold}
use Rattle.divide_workers.proofs.waiting.wait_for_news.Goals as goal

pub loop-turn-init : goal.loop-turn-init
loop-turn-init g c =
    record {
      pass = c.requires.pass;
      entries_rise = omega arith;
      busy_rise = omega arith;
      works = works_itself g.M.Monomial.LIM c.args.sender.now c.whole.ensures.working;
      untold = untold_itself c.args.sender.now c.requires.untold;
      receipt = omega arith;
    }

pub returns-then-is_enough-clause-receipt : goal.returns-then-is_enough-clause-receipt
returns-then-is_enough-clause-receipt g c =
    let i = c.loop-turn.invariant in
    gives_up (divide_name (made_with c.args.shared.now.turnstile.now)) (c.loop-turn.turn + 1) c.args.pass.now c.advance_merge.new.pass c.advance_merge.new.receipt (c.is_enough.ensures c.if-is_enough.true) (c.advance_merge.ensures.receipt c.args.pass.now c.loop-turn.turn i.entries_rise i.receipt)

pub loop-turn-preserved : goal.loop-turn-preserved
loop-turn-preserved g c =
    let i = c.loop-turn.invariant in
    let e = c.advance_merge.ensures in
    let l = c.look.ensures in
    record {
      pass = e.pass;
      entries_rise = let a = i.entries_rise in let b = e.entries in omega arith;
      busy_rise = let a = i.busy_rise in let b = e.busy in omega arith;
      works = works_again c.args.sender.now c.loop-turn.sender c.look.new.self i.works l.works;
      untold = stays_untold c.args.sender.now c.loop-turn.sender c.look.new.self i.untold l.works (l.nothing c.if-look.false);
      receipt = e.receipt c.args.pass.now c.loop-turn.turn i.entries_rise i.receipt;
    }
