use Rattle.std.proofs.Common.{◌≤◌, All}
use Rattle.sdmp_laws.specs.Order.{degree}
use Rattle.packed_monomial.specs.Packing.{vector_of, limit_of}
use Rattle.division_tests.proofs.polys.poly.Given as goal

abbrev pub invariant-loop-i : goal.invariant-loop-i
invariant-loop-i g l = All (λ t. g.R.CoeffRing.belongs (g.R.CoeffRing.characteristic l.ring) t.coef) l.list.items × All (λ t. degree (vector_of 2 t.mono.word) ≤ limit_of 2) l.list.items
