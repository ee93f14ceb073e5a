use denote.RattleType.{RattleType}
use denote.Param.Send.{IsSend}
use Rattle.chained_heap.specs.contracts.ghost_list.GhostList.{the_row}
use Rattle.chained_heap.proofs.Ghosts.{list_send}

pub send : (T : RattleType) → IsSend T → IsSend (the_row T)
send = list_send
