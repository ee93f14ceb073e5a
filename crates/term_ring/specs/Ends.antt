-- What a clause says of a ring and of its ends.
use Rattle.std.specs.Prelude.{◌≡◌, ℕ, List}
use Rattle.atomic_table.specs.Seated.{TableId}
use Rattle.whole_laws.specs.Notes.{Script}
use Rattle.term_ring.specs.declared.note.NoteOf.{NoteOf}
use Rattle.term_ring.specs.declared.view.Kind.TheVariants.{Writing, Reading}
use Rattle.term_ring.specs.declared.ring.Ring.{Ring}
use Rattle.term_ring.specs.declared.ring.Writer.{Writer}
use Rattle.term_ring.specs.declared.ring.Reader.{Reader}

module _ {X Y Z : Type 0} where
  -- the identity of a ring's table
  abbrev pub table_of : Ring X Y Z → TableId
  table_of ring = ring.table.shared.table_id

  abbrev pub script_in : Ring X Y Z → Script
  script_in ring = ring.table.shared.key.script.value

  abbrev pub places_of : Ring X Y Z → ℕ
  places_of ring = ring.table.shared.key.places

  -- the notes that the writer has sent
  abbrev pub sent : Writer X Y Z → List (NoteOf Y Z)
  sent w = w.end.seat.me.0.notes

  -- the head that it saw last
  abbrev pub head_seen : Writer X Y Z → ℕ
  head_seen w = w.end.seat.me.0.seen

  -- how often it loaded the head and found no room
  abbrev pub full_looks : Writer X Y Z → ℕ
  full_looks w = w.end.seat.me.0.looks

  -- the writer was made with the ring
  abbrev pub IsWriterOf : Ring X Y Z → Writer X Y Z → Type 0
  IsWriterOf ring w = (w.end.seat.me.0.kind ≡ Writing) × (w.end.seat.table_id ≡ table_of ring) × (w.end.script.value ≡ script_in ring) × (w.end.places ≡ places_of ring)

  -- the notes that the reader has taken
  abbrev pub taken : Reader X Y Z → List (NoteOf Y Z)
  taken r = r.end.seat.me.0.notes

  -- the tail that it saw last
  abbrev pub tail_seen : Reader X Y Z → ℕ
  tail_seen r = r.end.seat.me.0.seen

  -- how often it loaded the tail and found no note
  abbrev pub empty_looks : Reader X Y Z → ℕ
  empty_looks r = r.end.seat.me.0.looks

  -- what the writer had sent when the two last met
  abbrev pub told_sent : Reader X Y Z → List (NoteOf Y Z)
  told_sent r = r.end.seat.me.0.told

  -- the reader was made with the ring
  abbrev pub IsReaderOf : Ring X Y Z → Reader X Y Z → Type 0
  IsReaderOf ring r = (r.end.seat.me.0.kind ≡ Reading) × (r.end.seat.table_id ≡ table_of ring) × (r.end.script.value ≡ script_in ring) × (r.end.places ≡ places_of ring)
