use denote.Exit.{yes}
use denote.Param.Send.{param_send, arg_send}
use Rattle.divide_merge.proofs.Shares.{merge_send}
use Rattle.divide_merge.proofs.merge.merge_is_sent.Goals as goal

pub is_send-requires-send-T : goal.is_send-requires-send-T
is_send-requires-send-T g c κs within =
    let b = c.type_bounds in
    param_send _ _ (arg_send _ yes _ (merge_send _ _ _ g.R.CoeffRing g.M.Monomial g.M.Ord g.M.PartialEq g.M.PartialOrd b.send-R b.send-M b.send-R-E))
