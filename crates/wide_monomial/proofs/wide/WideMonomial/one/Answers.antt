use Rattle.wide_monomial.specs.Packing.{bits_of, limit_of}
use Rattle.packed_monomial.specs.Laws.{packed_zero, vector_zero}
use Rattle.wide_monomial.proofs.wide.WideMonomial.one.Goals as goal

pub invariant_of-result : goal.invariant_of-result
invariant_of-result g c = record { packed = packed_zero (bits_of g.row.N) (limit_of g.row.N) g.row.N }

pub returns : goal.returns
returns g c = vector_zero (bits_of g.row.N) g.row.N
