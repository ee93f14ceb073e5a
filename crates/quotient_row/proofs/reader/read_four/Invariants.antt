use Rattle.std.proofs.Common.{◌≡◌, length, take}
use Rattle.quotient_row.proofs.reader.read_four.Given as goal

abbrev pub invariant-loop-k : goal.invariant-loop-k
invariant-loop-k g l =
    (l.seat.table_id ≡ l.initial.seat.table_id) × (l.seat.id ≡ l.initial.seat.id) × (length l.bits ≡ 4) × (l.seat.me ≡ (record l.initial.seat.me.0 { words = take l.k l.bits }, l.initial.seat.me.1))
