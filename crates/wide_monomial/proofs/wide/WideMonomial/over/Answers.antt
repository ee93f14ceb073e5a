use Rattle.wide_monomial.specs.Packing.{cut_is}
use Rattle.packed_monomial.specs.Laws.{over_is}
use Rattle.wide_monomial.proofs.wide.WideMonomial.over.Goals as goal

pub overflow_sub-result : goal.overflow_sub-result
overflow_sub-result g c = (over_is (cut_is g.row.N) c.args.self.word c.args.divisor.word c.args.self.packed c.args.divisor.packed c.requires.divides).below

pub invariant_of-result : goal.invariant_of-result
invariant_of-result g c = record { packed = (over_is (cut_is g.row.N) c.args.self.word c.args.divisor.word c.args.self.packed c.args.divisor.packed c.requires.divides).packed }

pub returns : goal.returns
returns g c = (over_is (cut_is g.row.N) c.args.self.word c.args.divisor.word c.args.self.packed c.args.divisor.packed c.requires.divides).vector
