use Rattle.divide_merge.proofs.Hearing.{missing_is, head_there}
use Rattle.divide_merge.proofs.merge.DivideMerge.is_missing.Goals as goal

pub is_missing-requires-after_bounds : goal.is_missing-requires-after_bounds
is_missing-requires-after_bounds g c κs within = head_there c.self.invariant c.self.view_is c.args.worker c.requires

pub returns : goal.returns
returns g c = missing_is c.self.invariant c.self.view_is c.args.worker c.requires c.is_missing.result c.is_missing.ensures
