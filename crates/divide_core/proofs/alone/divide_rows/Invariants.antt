use Rattle.std.proofs.Common.{◌≡◌, ◌≤◌, ◌+◌, ◌*◌, ◌-◌, length, drop, All}
use Rattle.sdmp_laws.specs.Order.{degree}
use Rattle.sdmp_laws.specs.Poly.{norm, every}
use Rattle.sdmp_laws.specs.LongDivision.{quotient_list}
use Rattle.canonical_terms.specs.View.{sum_of}
use Rattle.divide_core.specs.Dividing.{Dividing}
use Rattle.division_laws.specs.Outcome.{division_of}
use Rattle.divide_core.proofs.alone.divide_rows.Given as goal

abbrev pub invariant-loop-term : goal.invariant-loop-term
invariant-loop-term g l = record {
  dividing : Dividing (division_of l.mode g.M.Monomial.order g.M.Monomial.VARS l.f l.g) g.M.Monomial.LIM l.rows.learned (sum_of g.M.Monomial.vector g.R.CoeffRing.value l.rest.items) (sum_of g.M.Monomial.vector g.R.CoeffRing.value (drop l.read l.terms)) l.rows.unread;
  quotient : sum_of g.M.Monomial.vector g.R.CoeffRing.value l.quotient.items ≡ l.rows.learned;
  quotient_belongs : All (λ t. g.R.CoeffRing.belongs l.g.modulus t.coef) l.quotient.items;
  rest_belongs : All (λ t. g.R.CoeffRing.belongs l.g.modulus t.coef) l.rest.items;
  quotient_low : All (λ t. degree t.monomial ≤ g.M.Monomial.LIM) l.rows.learned;
  modulus : l.rows.modulus ≡ l.g.modulus;
  divisor : l.rows.divisor ≡ l.g.list;
  later : l.rows.rows ≡ every 1 0 1 (drop 1 l.g.list);
  read : l.read ≤ length l.terms;
  norm_is : l.g.modulus ≡ 0 → l.norm ≡ norm l.rows.learned;
}

abbrev pub decreases-loop-term : goal.decreases-loop-term
decreases-loop-term g l = length (sum_of g.M.Monomial.vector g.R.CoeffRing.value (drop l.read l.terms)) + (length l.rows.unread + (length (quotient_list (division_of l.mode g.M.Monomial.order g.M.Monomial.VARS l.f l.g)) - length l.rows.learned) * length l.rows.rows)
