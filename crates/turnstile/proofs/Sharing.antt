-- A member goes to another thread where its worker and the value may, and a turnstile is shared by threads.
use denote.RattleType.{RattleType}
use denote.Param.Send.{IsSend, IsSync, sendable}
use Rattle.std.proofs.Crossing.{crosses}
use Rattle.atomic_table.proofs.shared.Seat.TheSendSync as seat
use Rattle.atomic_table.proofs.shared.Shared.TheSendSync as shared
use Rattle.atomic_table.proofs.send_lease.SendLease.TheSendSync as lease
use Rattle.turnstile.proofs.own.Own.TheSendSync as own
use Rattle.turnstile.specs.contracts.members.Member as Member
use Rattle.turnstile.specs.contracts.turn.Pass as Pass
use Rattle.turnstile.specs.contracts.turn.Turnstile as Turnstile
use Rattle.turnstile.specs.declared.named.Named as Named

pub pass_send : (T : RattleType) → IsSend T → IsSend (Pass.the_row T)
pass_send T s = search (sendable, seat.the_send) depth 14

pub turnstile_sync : (T : RattleType) (n : Named.Ghosts T.Denot) → IsSend T → IsSync (Turnstile.the_row T n)
turnstile_sync T n s = search (sendable, crosses, shared.the_sync, lease.the_sync, own.the_sync) depth 20

pub member_send : (W T : RattleType) → IsSend W → IsSend T → IsSend (Member.the_row W T)
member_send W T w s = search (sendable, pass_send) depth 20
