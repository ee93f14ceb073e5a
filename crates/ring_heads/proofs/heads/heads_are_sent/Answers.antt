use denote.Exit.{yes}
use denote.Param.{copied}
use denote.Param.Send.{param_send, arg_send}
use Rattle.ring_heads.proofs.Shares.{heads_send}
use Rattle.ring_heads.proofs.heads.heads_are_sent.Goals as goal

pub is_send-requires-send-T : goal.is_send-requires-send-T
is_send-requires-send-T g c κs within =
    let b = c.type_bounds in
    param_send _ _ (arg_send _ yes _ (heads_send (copied 0 g.row.R) _ _ g.R.CoeffRing g.M.Monomial g.M.Ord g.M.PartialEq g.M.PartialOrd b.send-M b.send-R-E))
