use Rattle.divide_merge.proofs.Hearing.{full_is}
use Rattle.divide_merge.proofs.merge.DivideMerge.is_row_full.Goals as goal

pub returns : goal.returns
returns g c = full_is c.self.invariant c.self.view_is c.is_full.result c.is_full.ensures
