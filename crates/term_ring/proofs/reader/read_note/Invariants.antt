use Rattle.std.proofs.Common.{◌≡◌, length, take}
use Rattle.term_ring.proofs.reader.read_note.Given as goal

abbrev pub invariant-loop-k : goal.invariant-loop-k
invariant-loop-k g l =
    (l.seat.table_id ≡ l.initial.seat.table_id) × (l.seat.id ≡ l.initial.seat.id) × (length l.bits ≡ 5) × (l.seat.me ≡ (record l.initial.seat.me.0 { words = take l.k l.bits }, l.initial.seat.me.1))
