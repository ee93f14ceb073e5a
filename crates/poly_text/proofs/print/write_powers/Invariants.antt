use Rattle.std.proofs.Common.{◌≡◌, ◌++◌, drop}
use Rattle.text_laws.specs.Canonical.{power_texts}
use Rattle.poly_text.specs.Printed.{joined, Extends}
use Rattle.poly_text.proofs.print.write_powers.Given as goal

abbrev pub invariant-loop-i : goal.invariant-loop-i
invariant-loop-i g l = record {
  text : l.out.items ++ joined l.written (power_texts (drop l.i l.names) (drop l.i (g.M.Monomial.vector l.mono))) ≡ l.fn.out.items ++ joined l.after (power_texts l.names (g.M.Monomial.vector l.mono));
  front : Extends l.fn.out.items l.out.items;
}
