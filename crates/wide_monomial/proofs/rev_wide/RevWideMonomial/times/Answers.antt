use Rattle.std.proofs.Math.Facts.{Fits-of_lt}
use Rattle.wide_monomial.specs.Packing.{cut_is}
use Rattle.wide_monomial.specs.SumsLaws.{times_is}
use Rattle.wide_monomial.proofs.rev_wide.RevWideMonomial.times.Goals as goal

pub overflow_add-result : goal.overflow_add-result
overflow_add-result g c = Fits-of_lt (times_is (cut_is g.row.N) c.args.self.word c.args.other.word c.args.self.packed c.args.other.packed c.requires.left c.requires.right).fits

pub invariant_of-result : goal.invariant_of-result
invariant_of-result g c = record { packed = (times_is (cut_is g.row.N) c.args.self.word c.args.other.word c.args.self.packed c.args.other.packed c.requires.left c.requires.right).holds }

pub returns : goal.returns
returns g c = (times_is (cut_is g.row.N) c.args.self.word c.args.other.word c.args.self.packed c.args.other.packed c.requires.left c.requires.right).vector
