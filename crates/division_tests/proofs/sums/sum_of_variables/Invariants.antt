use Rattle.std.proofs.Common.{◌≤◌, All}
use Rattle.std.specs.Prelude.{unsigned_abs}
use Rattle.sdmp_laws.specs.Order.{degree}
use Rattle.sdmp_laws.specs.Limits.{greatest_norm}
use Rattle.packed_monomial.specs.Packing.{vector_of, limit_of}
use Rattle.division_tests.proofs.sums.sum_of_variables.Given as goal

abbrev pub invariant-loop-i : goal.invariant-loop-i
invariant-loop-i l = All (λ t. unsigned_abs t.coef ≤ greatest_norm) l.list.items × All (λ t. degree (vector_of 4 t.mono.word) ≤ limit_of 4) l.list.items
