use denote.Param.Send.{sendable}
use Rattle.quotient_row.proofs.Shares.{reader_send}
use Rattle.thread_tests.proofs.rows.look_each.Goals as goal

pub map_vec-requires-send-J : goal.map_vec-requires-send-J
map_vec-requires-send-J g c κs within = search (sendable, reader_send)
