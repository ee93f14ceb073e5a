use Rattle.text_laws.proofs.Faults.{not_dead}
use Rattle.poly_text.proofs.FaultPlace.{lives_on, dies}
use Rattle.poly_text.proofs.syntax.find_fault.Goals as goal

pub returns-in-Dead : goal.returns-in-Dead
returns-in-Dead c = dies c.args.bytes.now c.loop-i.i c.loop-i.state c.next_state-state.result _ _ c.loop-i-test.true c.class_of_byte.ensures c.next_state-state.ensures c.in-Dead.is c.loop-i.invariant

pub loop-i-preserved : goal.loop-i-preserved
loop-i-preserved c = lives_on c.args.bytes.now c.loop-i.i c.loop-i.state c.next_state-state.result _ _ c.loop-i-test.true c.class_of_byte.ensures c.next_state-state.ensures (not_dead _ c.in_default.not-Dead) c.loop-i.invariant
