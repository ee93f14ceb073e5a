use denote.Param.Send.{sendable}
use Rattle.quotient_row.proofs.Shares.{writer_send, reader_send}
use Rattle.quotient_row.proofs.row.row_is_shared.Goals as goal

pub is_send-requires-send-T : goal.is_send-requires-send-T
is_send-requires-send-T g c κs within = search (sendable, writer_send)

pub is_send-requires-2-send-T : goal.is_send-requires-2-send-T
is_send-requires-2-send-T g c κs within = search (sendable, reader_send)
