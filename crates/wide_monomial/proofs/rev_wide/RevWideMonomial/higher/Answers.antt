use Rattle.std.proofs.Common.{◌∙◌}
use Rattle.wide_monomial.specs.Packing.{cut_is}
use Rattle.wide_monomial.specs.SumsLaws.{sums_ordered}
use Rattle.wide_monomial.proofs.rev_wide.RevWideMonomial.higher.Goals as goal

pub returns-clause-value : goal.returns-clause-value
returns-clause-value g c = c.cmp.ensures ∙ sums_ordered (cut_is g.row.N) c.args.self.word c.args.other.word c.args.self.packed c.args.other.packed
