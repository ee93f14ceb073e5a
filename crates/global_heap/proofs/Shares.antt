-- A merge may go to another thread.
use denote.RattleType.{RattleType}
use denote.Param.Send.{IsSend, sendable}
use Rattle.std.proofs.Crossing.{crosses}
use Rattle.coeff_ring.specs.declared.CoeffRing as CoeffRing
use Rattle.packed_monomial.specs.declared.monomial.Monomial as Monomial
use Rattle.std.specs.declared.cmp.Ord as Ord
use Rattle.std.specs.declared.cmp.PartialEq as PartialEq
use Rattle.std.specs.declared.cmp.PartialOrd as PartialOrd
use Rattle.ring_heads.proofs.Shares.{heads_send}
use Rattle.term_ring.proofs.Shares.{reader_send}
use Rattle.global_heap.specs.contracts.merge.Merge as Merge

module _ (R M E : RattleType) (c : CoeffRing.Ghosts R.Denot E.Denot) (m : Monomial.Ghosts M.Denot) (o : Ord.Ghosts M.Denot) (e : PartialEq.Ghosts M.Denot) (p : PartialOrd.Ghosts M.Denot) where
  pub merge_send : IsSend R → IsSend M → IsSend E → IsSend (Merge.the_row R M E c m o e p)
  merge_send r s t = search (sendable, crosses, reader_send, heads_send) depth 24
