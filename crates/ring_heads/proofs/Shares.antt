-- The heads may go to another thread.
use denote.RattleType.{RattleType}
use denote.Param.Send.{IsSend, sendable}
use Rattle.std.proofs.Crossing.{crosses}
use Rattle.coeff_ring.specs.declared.CoeffRing as CoeffRing
use Rattle.packed_monomial.specs.declared.monomial.Monomial as Monomial
use Rattle.std.specs.declared.cmp.Ord as Ord
use Rattle.std.specs.declared.cmp.PartialEq as PartialEq
use Rattle.std.specs.declared.cmp.PartialOrd as PartialOrd
use Rattle.chained_heap.proofs.Ghosts.{list_send}
use Rattle.chained_heap.specs.contracts.heap.ChainedHeap as ChainedHeap
use Rattle.chained_heap.specs.contracts.node.Place as Place
use Rattle.ring_heads.specs.contracts.heads.Heads as Heads

place_send : (M : RattleType) → IsSend M → IsSend (Place.the_row M)
place_send M s = search sendable depth 14

module _ (R M E : RattleType) (c : CoeffRing.Ghosts R.Denot E.Denot) (m : Monomial.Ghosts M.Denot) (o : Ord.Ghosts M.Denot) (e : PartialEq.Ghosts M.Denot) (p : PartialOrd.Ghosts M.Denot) where
  pub heap_send : IsSend M → IsSend (ChainedHeap.the_row M m o e p)
  heap_send s = search (sendable, crosses, list_send, place_send) depth 24

  pub heads_send : IsSend M → IsSend E → IsSend (Heads.the_row R M E c m o e p)
  heads_send s t = search (sendable, crosses, heap_send) depth 24
