use Rattle.std.proofs.Common.{◌-◌, ◌≤◌, All}
use Rattle.std.specs.Prelude.{unsigned_abs}
use Rattle.sdmp_laws.specs.Limits.{greatest_norm}
use Rattle.packed_monomial.specs.Packing.{vector_of}
use Rattle.quotient_row.specs.Spelling.{Belongs, notes_of}
use Rattle.thread_tests.proofs.Published.{Falls}
use Rattle.thread_tests.proofs.rows.falling_list.Given as goal

abbrev pub invariant-loop-k : goal.invariant-loop-k
invariant-loop-k l = record {
  fits : All (Belongs (λ a. unsigned_abs a ≤ greatest_norm)) l.out.items;
  falls : Falls (302 - l.k) (notes_of (λ m. vector_of 1 m.word) (λ a. a) l.out.items);
}
