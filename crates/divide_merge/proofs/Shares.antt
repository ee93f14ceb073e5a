-- A merge may go to another thread.
use denote.RattleType.{RattleType}
use denote.Param.Send.{IsSend, sendable}
use Rattle.std.proofs.Crossing.{crosses}
use Rattle.atomic_table.proofs.shared.Seat.TheSendSync as seat
use Rattle.coeff_ring.specs.declared.CoeffRing as CoeffRing
use Rattle.packed_monomial.specs.declared.monomial.Monomial as Monomial
use Rattle.std.specs.declared.cmp.Ord as Ord
use Rattle.std.specs.declared.cmp.PartialEq as PartialEq
use Rattle.std.specs.declared.cmp.PartialOrd as PartialOrd
use Rattle.canonical_terms.specs.contracts.poly.Poly as Poly
use Rattle.ring_heads.proofs.Shares.{heads_send}
use Rattle.term_ring.proofs.Shares.{reader_send, snapshot_send}
use Rattle.quotient_row.specs.contracts.row.RowWriter as RowWriter
use Rattle.divide_merge.specs.contracts.mark.Mark as Mark
use Rattle.divide_merge.specs.contracts.divisor.Divisor as Divisor
use Rattle.divide_merge.specs.contracts.answer.DivideAdvanceOf as Answer
use Rattle.divide_merge.specs.contracts.merge.DivideMerge as DivideMerge

mark_send : (M : RattleType) → IsSend M → IsSend (Mark.the_row M)
mark_send M s = search sendable depth 24

answer_send : (M E : RattleType) → IsSend M → IsSend E → IsSend (Answer.the_row M E)
answer_send M E s t = search sendable depth 24

-- a struct without a model stands in another as its fields
divisor_send : (M E : RattleType) → IsSend M → IsSend E → IsSend (Divisor.the_field M E).row
divisor_send M E s t = search sendable depth 24

module _ (R M E : RattleType) (c : CoeffRing.Ghosts R.Denot E.Denot) (m : Monomial.Ghosts M.Denot) (o : Ord.Ghosts M.Denot) (e : PartialEq.Ghosts M.Denot) (p : PartialOrd.Ghosts M.Denot) where
  poly_send : IsSend R → IsSend M → IsSend E → IsSend (Poly.the_row R M E c m o e p)
  poly_send r s t = search (sendable, crosses) depth 24

  writer_send : IsSend (RowWriter.the_field R M E c m o e p).row
  writer_send = search (sendable, seat.the_send, snapshot_send) depth 24

  pub merge_send : IsSend R → IsSend M → IsSend E → IsSend (DivideMerge.the_row R M E c m o e p)
  merge_send r s t = search (sendable, crosses, mark_send, answer_send, divisor_send, poly_send, reader_send, writer_send, heads_send) depth 40 fits 20000
