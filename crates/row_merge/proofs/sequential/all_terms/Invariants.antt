use Rattle.std.proofs.Common.{◌≡◌, ◌++◌, length, All}
use Rattle.canonical_terms.specs.View.{sum_of}
use Rattle.row_merge.proofs.sequential.all_terms.Given as goal

abbrev pub invariant-loop-term : goal.invariant-loop-term
invariant-loop-term g l = record {
  modulus : l.merge.modulus ≡ l.initial.merge.modulus;
  terms : sum_of g.M.Monomial.vector g.R.CoeffRing.value l.list.items ++ l.merge.rest ≡ l.initial.merge.rest;
  belongs : All (λ t. g.R.CoeffRing.belongs l.initial.merge.modulus t.coef) l.list.items;
}

abbrev pub decreases-loop-term : goal.decreases-loop-term
decreases-loop-term g l = length l.merge.rest
