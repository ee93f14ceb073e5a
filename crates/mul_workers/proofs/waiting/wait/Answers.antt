use Rattle.std.proofs.Common.{◌+◌, map, sym, ◌∙◌, subst, arith}
use Rattle.whole_laws.specs.Notes.{NoEnd}
use Rattle.term_ring.specs.Names.{ring_name}
use Rattle.mul_workers.proofs.Sending.{Sends-trans}
use Rattle.mul_workers.proofs.GivingUp.{gives_up}
use Rattle.mul_workers.proofs.waiting.wait.Goals as goal

pub returns-then-is_enough-clause-receipt : goal.returns-then-is_enough-clause-receipt
returns-then-is_enough-clause-receipt g c =
    let i = c.loop-turn.invariant in
    gives_up (map ring_name c.args.rings.now) (c.loop-turn.turn + 1) c.args.pass.now c.advance_merge.new.pass c.advance_merge.new.receipt (c.is_enough.ensures c.if-is_enough.true) (c.advance_merge.ensures.receipt c.args.pass.now c.loop-turn.turn i.goes_on.entries_rise i.receipt)

pub loop-turn-preserved : goal.loop-turn-preserved
loop-turn-preserved g c =
    let i = c.loop-turn.invariant in
    let e = c.advance_merge.ensures in
    let k = c.in_default.ensures.kept in
    record {
      goes_on = record {
        pass = e.pass;
        entries_rise = let a = i.goes_on.entries_rise in let b = e.entries in omega arith;
        busy_rise = let a = i.goes_on.busy_rise in let b = e.busy in omega arith;
        sends = Sends-trans c.args.sender.now c.loop-turn.sender c.push.new.self i.goes_on.sends c.push.ensures.sends;
        looks = let a = i.goes_on.looks in let d = c.in_default.ensures.refused.1 in omega arith;
      };
      same = k ∙ i.same;
      carried = c.push.ensures.carried;
      clear = subst NoEnd (sym k) i.clear;
      refused = c.in_default.ensures.refused.0;
      receipt = e.receipt c.args.pass.now c.loop-turn.turn i.goes_on.entries_rise i.receipt;
    }
