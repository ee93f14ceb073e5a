use Rattle.std.proofs.Common.{arith}
use Rattle.quotient_row.proofs.RuleStays.{looks_count}
use Rattle.quotient_row.proofs.row.RowReader.sees_more.Goals as goal

pub load-count-requires : goal.load-count-requires
load-count-requires g c = (c.requires.1, omega (arith, c.args.row.now.sized), looks_count _ _ _ _ _ _ _ _ c.requires.0)
