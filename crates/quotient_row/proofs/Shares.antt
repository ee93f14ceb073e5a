-- An end may go to another thread.
use denote.RattleType.{RattleType}
use denote.Param.Send.{IsSend, sendable}
use Rattle.atomic_table.proofs.shared.Seat.TheSendSync as seat
use Rattle.term_ring.proofs.Shares.{snapshot_send}
use Rattle.quotient_row.specs.contracts.row.RowWriter as RowWriter
use Rattle.quotient_row.specs.contracts.row.RowReader as RowReader
use Rattle.coeff_ring.specs.declared.CoeffRing as CoeffRing
use Rattle.packed_monomial.specs.declared.monomial.Monomial as Monomial
use Rattle.std.specs.declared.cmp.Ord as Ord
use Rattle.std.specs.declared.cmp.PartialEq as PartialEq
use Rattle.std.specs.declared.cmp.PartialOrd as PartialOrd

module _ (R M E : RattleType) (c : CoeffRing.Ghosts R.Denot E.Denot) (m : Monomial.Ghosts M.Denot) (o : Ord.Ghosts M.Denot) (e : PartialEq.Ghosts M.Denot) (p : PartialOrd.Ghosts M.Denot) where
  pub writer_send : IsSend (RowWriter.the_row R M E c m o e p)
  writer_send = search (sendable, seat.the_send, snapshot_send) depth 24

  pub reader_send : IsSend (RowReader.the_row R M E c m o e p)
  reader_send = search (sendable, seat.the_send, snapshot_send) depth 24
