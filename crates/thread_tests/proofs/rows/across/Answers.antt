use denote.Param.Send.{sendable}
use Rattle.std.proofs.Crossing.{crosses}
use Rattle.atomic_table.proofs.shared.Seat.TheSendSync as seat
use Rattle.atomic_table.proofs.shared.Shared.TheSendSync as shared
use Rattle.atomic_table.proofs.send_lease.SendLease.TheSendSync as lease
use Rattle.term_ring.proofs.Shares.{snapshot_send, snapshot_sync}
use Rattle.thread_tests.proofs.rows.across.Goals as goal

pub join-requires-send-F : goal.join-requires-send-F
join-requires-send-F g c κs within = search (sendable, crosses, seat.the_send, snapshot_send, snapshot_sync, shared.the_sync, lease.the_sync) depth 30 fits 5000
