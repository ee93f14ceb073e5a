use Rattle.std.proofs.Common.{◌≡◌, drop}
use Rattle.text_laws.specs.Automaton.{fault_from, fault_place}
use Rattle.poly_text.proofs.syntax.find_fault.Given as goal

abbrev pub invariant-loop-i : goal.invariant-loop-i
invariant-loop-i l = fault_from l.state l.i (drop l.i l.bytes) ≡ fault_place l.bytes
