use Rattle.std.proofs.Common.{◌≡◌, ℕ, take, drop, All}
use Rattle.canonical_terms.specs.View.{sum_of}
use Rattle.sdmp_laws.specs.Poly.{every}
use Rattle.row_merge.proofs.quotient_rows.later_rows.Given as goal

abbrev pub invariant-loop-place : goal.invariant-loop-place
invariant-loop-place g l = record {
  terms : sum_of g.M.Monomial.vector g.R.CoeffRing.value l.rows.items ≡ every l.workers l.worker 1 (drop 1 (sum_of g.M.Monomial.vector g.R.CoeffRing.value (take l.place l.terms)));
  belongs : (p : ℕ) → All (λ t. g.R.CoeffRing.belongs p t.coef) l.terms → All (λ t. g.R.CoeffRing.belongs p t.coef) l.rows.items;
}
