-- A worker's part may go to another thread, and the call of each worker is shared by threads.
use denote.RattleType.{RattleType}
use denote.Ref.{NamedLft}
use denote.Param.Send.{IsSend, IsSync, sendable}
use denote.Ref.{ShrRef}
use denote.Struct.Tuple.{TupleAt}
use mathlib.Core.List.{[], ◌∷◌}
use mir.Syntax.{Sym}
use Rattle.std.proofs.Crossing.{crosses}
use Rattle.atomic_table.proofs.shared.Seat.TheSendSync as seat
use Rattle.atomic_table.proofs.shared.Shared.TheSendSync as shared
use Rattle.atomic_table.proofs.send_lease.SendLease.TheSendSync as lease
use Rattle.coeff_ring.specs.declared.CoeffRing as CoeffRing
use Rattle.packed_monomial.specs.declared.monomial.Monomial as Monomial
use Rattle.std.specs.declared.cmp.Ord as Ord
use Rattle.std.specs.declared.cmp.PartialEq as PartialEq
use Rattle.std.specs.declared.cmp.PartialOrd as PartialOrd
use Rattle.std.specs.declared.cmp.Eq as Eq
use Rattle.std.specs.declared.clone.Clone as Clone
use Rattle.canonical_terms.specs.contracts.term.TermOf as TermOf
use Rattle.row_merge.specs.contracts.quotient_rows.QuotientRows as QuotientRows
use Rattle.term_ring.proofs.Shares.{snapshot_send, writer_field_send, poly_sync, ring_sync}
use Rattle.quotient_row.specs.contracts.row.Row as Row
use Rattle.quotient_row.specs.contracts.row.RowReader as RowReader
use Rattle.turnstile.proofs.Sharing.{turnstile_sync}
use Rattle.turnstile.specs.contracts.turn.Turnstile as Turnstile
use Rattle.divide_merge.proofs.Shares.{merge_send}
use Rattle.divide_merge.specs.Merges.{IsSound}
use Rattle.divide_merge.specs.Reached.{DivideName, DivideReach, divide_name, divide_reached, Follows, Follows-itself}
use Rattle.divide_merge.specs.contracts.merge.DivideMerge as DivideMerge
use Rattle.ring_heads.proofs.Shares.{heap_send}
use Rattle.chained_heap.specs.contracts.heap.ChainedHeap as ChainedHeap
use Rattle.divide_workers.specs.contracts.front.Front as Front
use Rattle.divide_workers.specs.contracts.sender.Sender as Sender
use Rattle.divide_workers.specs.contracts.part.Part as Part
use Rattle.divide_workers.specs.contracts.shared.Shared as Shared

-- a closure that captures two references
pub captures_sync : (name : Sym) (α β : NamedLft) (A B : RattleType) → IsSync A → IsSync B → IsSync (TupleAt name (ShrRef α.mir α.lft A ∷ ShrRef β.mir β.lft B ∷ []))
captures_sync name α β A B a b = search sendable depth 20

front_send : (M : RattleType) → IsSend M → IsSend (Front.the_row M)
front_send M s = search sendable depth 24

term_send : (M E : RattleType) → IsSend M → IsSend E → IsSend (TermOf.the_row M E)
term_send M E s t = search sendable depth 24

module _ (R M E : RattleType) (c : CoeffRing.Ghosts R.Denot E.Denot) (m : Monomial.Ghosts M.Denot) (o : Ord.Ghosts M.Denot) (e : PartialEq.Ghosts M.Denot) (p : PartialOrd.Ghosts M.Denot) where
  -- a struct without a model stands in another as its fields
  reader_send : IsSend (RowReader.the_field R M E c m o e p).row
  reader_send = search (sendable, seat.the_send, snapshot_send) depth 24

  rows_send : (α : NamedLft) → IsSend R → IsSend M → IsSend E → IsSync R → IsSync M → IsSync E → IsSend (QuotientRows.the_row α R M E c m o e p)
  rows_send α r s t x y z = search (sendable, crosses, poly_sync, heap_send, term_send) depth 24

  sender_send : (α : NamedLft) → IsSend R → IsSend M → IsSend E → IsSync R → IsSync M → IsSync E → IsSend (Sender.the_row α R M E c m o e p)
  sender_send α r s t x y z = search (sendable, crosses, writer_field_send, reader_send, rows_send, front_send) depth 24

  pub part_send : (α : NamedLft) → IsSend R → IsSend M → IsSend E → IsSync R → IsSync M → IsSync E → IsSend (Part.the_row α R M E c m o e p)
  part_send α r s t x y z = search (sendable, crosses, sender_send) depth 24

module _ (R M E : RattleType) (c : CoeffRing.Ghosts R.Denot E.Denot) (k : Clone.Ghosts R.Denot) (l : Clone.Ghosts E.Denot) (m : Monomial.Ghosts M.Denot) (n : Clone.Ghosts M.Denot) (o : Ord.Ghosts M.Denot) (q : Eq.Ghosts M.Denot) (e : PartialEq.Ghosts M.Denot)
    (p : PartialOrd.Ghosts M.Denot) where
  row_sync : IsSync R → IsSync (Row.the_row R M E c k l m n o q e p)
  row_sync s = search (sendable, crosses, shared.the_sync, lease.the_sync) depth 20

  turn_sync : IsSend R → IsSend M → IsSend E
      → IsSync (Turnstile.the_row (DivideMerge.the_row R M E c m o e p) record { naming = DivideName; reaching = DivideReach; name = divide_name; reached = divide_reached; follows = Follows; whole = IsSound m.LIM; follows_itself = Follows-itself })
  turn_sync r s t =
      turnstile_sync (DivideMerge.the_row R M E c m o e p) record { naming = DivideName; reaching = DivideReach; name = divide_name; reached = divide_reached; follows = Follows; whole = IsSound m.LIM; follows_itself = Follows-itself }
      (merge_send R M E c m o e p r s t)

  -- what the workers of a round share
  pub shared_sync : (α : NamedLft) → IsSend R → IsSend M → IsSend E → IsSync R → IsSync (Shared.the_row α R M E c k l m n o q e p)
  shared_sync α r s t x = search (sendable, crosses, ring_sync, row_sync, turn_sync) depth 24
