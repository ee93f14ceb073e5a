use Rattle.std.proofs.Common.{◌≡◌, ◌++◌, take, drop}
use Rattle.text_laws.specs.Summands.{is_known}
use Rattle.poly_text.specs.Exponents.{added}
use Rattle.poly_text.proofs.factors.add_power.Given as goal

abbrev pub invariant-loop-i : goal.invariant-loop-i
invariant-loop-i l = record {
  same : l.exponents ≡ l.fn.exponents;
  known : is_known (drop l.i l.names) l.name ≡ is_known l.names l.name;
  added : take l.i l.exponents ++ added (drop l.i l.names) l.name l.exponent (drop l.i l.exponents) ≡ added l.names l.name l.exponent l.fn.exponents;
}
