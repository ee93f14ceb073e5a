use Rattle.wide_monomial.specs.Packing.{cut_is}
use Rattle.wide_monomial.specs.SumsLaws.{holds_zero, vector_zero}
use Rattle.wide_monomial.proofs.rev_wide.RevWideMonomial.one.Goals as goal

pub invariant_of-result : goal.invariant_of-result
invariant_of-result g c = record { packed = holds_zero (cut_is g.row.N) }

pub returns : goal.returns
returns g c = vector_zero (cut_is g.row.N)
