-- A worker's part may go to another thread, and the call of each worker is shared by threads.
use denote.RattleType.{RattleType}
use denote.Ref.{NamedLft}
use denote.Param.Send.{IsSend, IsSync, sendable}
use denote.Ref.{ShrRef}
use denote.Slice.{ShrSlice}
use denote.Struct.Tuple.{TupleAt}
use mathlib.Core.List.{[], ◌∷◌}
use mir.Syntax.{Sym}
use Rattle.std.proofs.Crossing.{crosses}
use Rattle.coeff_ring.specs.declared.CoeffRing as CoeffRing
use Rattle.packed_monomial.specs.declared.monomial.Monomial as Monomial
use Rattle.std.specs.declared.cmp.Ord as Ord
use Rattle.std.specs.declared.cmp.PartialEq as PartialEq
use Rattle.std.specs.declared.cmp.PartialOrd as PartialOrd
use Rattle.row_merge.specs.contracts.merge.RowMerge as RowMerge
use Rattle.row_merge.specs.contracts.merge.RowSet as RowSet
use Rattle.row_merge.specs.contracts.rows.Rows as Rows
use Rattle.term_ring.proofs.Shares.{writer_field_send, poly_sync}
use Rattle.ring_heads.proofs.Shares.{heap_send}
use Rattle.mul_workers.specs.contracts.sender.Sender as Sender
use Rattle.mul_workers.specs.contracts.part.Part as Part

-- a closure that captures a slice and two references
pub captures_sync : (name : Sym) (α β γ : NamedLft) (A B C : RattleType) → IsSync A → IsSync B → IsSync C → IsSync (TupleAt name (ShrSlice α.mir α.lft A ∷ ShrRef β.mir β.lft B ∷ ShrRef γ.mir γ.lft C ∷ []))
captures_sync name α β γ A B C a b c = search sendable depth 20

module _ (R M E : RattleType) (c : CoeffRing.Ghosts R.Denot E.Denot) (m : Monomial.Ghosts M.Denot) (o : Ord.Ghosts M.Denot) (e : PartialEq.Ghosts M.Denot) (p : PartialOrd.Ghosts M.Denot) where
  -- a struct without a model stands in another as its fields
  pub set_send : (α : NamedLft) → IsSync R → IsSync M → IsSync E → IsSend (RowSet.the_field α R M E c m o e p).row
  set_send α x y z = search (sendable, poly_sync) depth 24

  pub read_send : IsSend M → IsSend (Rows.the_field M m o e p).row
  read_send s = search (sendable, crosses, heap_send) depth 24

  pub rows_send : (α : NamedLft) → IsSend M → IsSend E → IsSync R → IsSync M → IsSync E → IsSend (RowMerge.the_row α R M E c m o e p)
  rows_send α s t x y z = search (sendable, crosses, set_send, read_send) depth 24

  pub sender_send : (α : NamedLft) → IsSend M → IsSend E → IsSync R → IsSync M → IsSync E → IsSend (Sender.the_row α R M E c m o e p)
  sender_send α s t x y z = search (sendable, crosses, writer_field_send, rows_send) depth 24

  pub part_send : (α : NamedLft) → IsSend R → IsSend M → IsSend E → IsSync R → IsSync M → IsSync E → IsSend (Part.the_row α R M E c m o e p)
  part_send α r s t x y z = search (sendable, crosses, sender_send) depth 24
