-- An end may go to another thread, and a polynomial is shared by threads.
use denote.RattleType.{RattleType}
use denote.Param.Send.{IsSend, IsSync, part_keyless, sendable}
use Rattle.atomic_table.proofs.shared.Seat.TheSendSync as seat
use Rattle.std.specs.contracts.snapshot.Snapshot as Snapshot
use Rattle.term_ring.specs.contracts.ring.End as End
use Rattle.term_ring.specs.contracts.ring.Ring as Ring
use Rattle.term_ring.specs.contracts.ring.Writer as Writer
use Rattle.term_ring.specs.contracts.ring.Reader as Reader
use Rattle.coeff_ring.specs.declared.CoeffRing as CoeffRing
use Rattle.canonical_terms.specs.contracts.poly.Poly as Poly
use Rattle.packed_monomial.specs.declared.monomial.Monomial as Monomial
use Rattle.std.specs.declared.cmp.Ord as Ord
use Rattle.std.specs.declared.cmp.PartialEq as PartialEq
use Rattle.std.specs.declared.cmp.PartialOrd as PartialOrd
use Rattle.std.specs.declared.cmp.Eq as Eq
use Rattle.std.specs.declared.clone.Clone as Clone
use Rattle.std.proofs.Crossing.{crosses}
use Rattle.atomic_table.proofs.shared.Shared.TheSendSync as shared
use Rattle.atomic_table.proofs.send_lease.SendLease.TheSendSync as lease

pub snapshot_send : (T : RattleType) → IsSend (Snapshot.the_row T)
snapshot_send T = record { owned = λ d vs. ((λ vss. (tt, ((λ uss. (tt, tt)), tt))), tt); leaving = λ k f vs. tt }

pub end_send : (N C : RattleType) → IsSend (End.the_row N C)
end_send N C = search (sendable, seat.the_send, snapshot_send) depth 14

module _ (R M E : RattleType) (c : CoeffRing.Ghosts R.Denot E.Denot) (m : Monomial.Ghosts M.Denot) (o : Ord.Ghosts M.Denot) (e : PartialEq.Ghosts M.Denot) (p : PartialOrd.Ghosts M.Denot) where
  pub writer_send : IsSend (Writer.the_row R M E c m o e p)
  writer_send = search (sendable, seat.the_send, snapshot_send) depth 24

  pub reader_send : IsSend (Reader.the_row R M E c m o e p)
  reader_send = search (sendable, seat.the_send, snapshot_send) depth 24

  -- a struct without a model stands in another as its fields
  pub writer_field_send : IsSend (Writer.the_field R M E c m o e p).row
  writer_field_send = search (sendable, seat.the_send, snapshot_send) depth 24

  pub poly_sync : IsSync R → IsSync M → IsSync E → IsSync (Poly.the_row R M E c m o e p)
  poly_sync x y z = search (sendable, crosses) depth 24

pub snapshot_sync : (T : RattleType) → IsSync (Snapshot.the_row T)
snapshot_sync T = record { shared = λ d b o κ q. part_keyless (Snapshot.the_row T) (snapshot_send T) q d b o }

module _ (R M E : RattleType) (c : CoeffRing.Ghosts R.Denot E.Denot) (k : Clone.Ghosts R.Denot) (l : Clone.Ghosts E.Denot) (m : Monomial.Ghosts M.Denot) (n : Clone.Ghosts M.Denot) (o : Ord.Ghosts M.Denot) (q : Eq.Ghosts M.Denot) (e : PartialEq.Ghosts M.Denot)
    (p : PartialOrd.Ghosts M.Denot) where
  pub ring_sync : IsSync R → IsSync (Ring.the_row R M E c k l m n o q e p)
  ring_sync s = search (sendable, crosses, shared.the_sync, lease.the_sync, snapshot_sync) depth 20
