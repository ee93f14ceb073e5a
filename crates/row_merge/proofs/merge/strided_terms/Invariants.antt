use Rattle.std.proofs.Common.{◌≡◌, ℕ, All}
use Rattle.canonical_terms.specs.View.{sum_of}
use Rattle.row_merge.specs.Rows.{strided}
use Rattle.row_merge.proofs.merge.strided_terms.Given as goal

abbrev pub invariant-loop-slot : goal.invariant-loop-slot
invariant-loop-slot g l = record {
  terms : sum_of g.M.Monomial.vector g.R.CoeffRing.value l.part.items ≡ strided (sum_of g.M.Monomial.vector g.R.CoeffRing.value l.terms) l.first l.stride l.slot;
  belongs : (p : ℕ) → All (λ t. g.R.CoeffRing.belongs p t.coef) l.terms → All (λ t. g.R.CoeffRing.belongs p t.coef) l.part.items;
}
