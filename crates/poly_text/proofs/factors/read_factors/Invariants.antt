use Rattle.std.proofs.Common.{◌≡◌, ◌≤◌, ◌-◌, ◌++◌, ℕ, List, length, drop}
use Rattle.text_laws.specs.Grammar.{Factor, AreFactors, spell_factors, EndsTerm}
use Rattle.text_laws.specs.Summands.{factors_at}
use Rattle.poly_text.proofs.FactorLoop.{Left}
use Rattle.poly_text.proofs.factors.read_factors.Given as goal

abbrev pub invariant-loop-i : goal.invariant-loop-i
invariant-loop-i l = record {
  bound : l.i ≤ length l.bytes;
  from : l.start ≤ l.i;
  left : (fs : List Factor) (rest : List ℕ) → AreFactors fs → EndsTerm rest → drop l.start l.bytes ≡ spell_factors fs ++ rest
      → Left l.names l.bytes rest (factors_at l.start fs) l.fn.exponents l.i l.exponents;
}

abbrev pub decreases-loop-i : goal.decreases-loop-i
decreases-loop-i l = length l.initial.bytes - l.i
