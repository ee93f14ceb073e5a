-- What a clause says of a row and of its ends.
use Rattle.std.specs.Prelude.{◌≡◌, ℕ, List, []}
use Rattle.atomic_table.specs.Seated.{TableId}
use Rattle.quotient_row.specs.declared.note.RowNoteOf.{RowNoteOf}
use Rattle.quotient_row.specs.declared.kind.Kind.TheVariants.{Publishing, Looking}
use Rattle.quotient_row.specs.declared.row.Row.{Row}
use Rattle.quotient_row.specs.declared.row.RowWriter.{RowWriter}
use Rattle.quotient_row.specs.declared.row.RowReader.{RowReader}
use Rattle.quotient_row.specs.Names.{RowName}

module _ {X Y Z : Type 0} where
  -- the identity of a row's table
  abbrev pub table_of : Row X Y Z → TableId
  table_of row = row.table.shared.table_id

  abbrev pub name_of : Row X Y Z → RowName
  name_of row = row.table.shared.key.name.value

  abbrev pub places_of : Row X Y Z → ℕ
  places_of row = row.table.shared.key.places

  -- the notes that the writer has published
  abbrev pub published : RowWriter X Y Z → List (RowNoteOf Y Z)
  published w = w.end.seat.me.0.notes

  -- how many places its row has
  abbrev pub writer_places : RowWriter X Y Z → ℕ
  writer_places w = w.end.places

  -- the writer was made with the row
  abbrev pub IsWriterOf : Row X Y Z → RowWriter X Y Z → Type 0
  IsWriterOf row w = (w.end.seat.me.0.kind ≡ Publishing) × (w.end.seat.table_id ≡ table_of row) × (w.end.name.value ≡ name_of row) × (w.end.places ≡ places_of row)

  -- the notes that the reader knows
  abbrev pub known : RowReader X Y Z → List (RowNoteOf Y Z)
  known r = r.end.seat.me.0.notes

  -- the count that it saw last
  abbrev pub count_seen : RowReader X Y Z → ℕ
  count_seen r = r.end.seat.me.0.seen

  -- how often it loaded the count
  abbrev pub count_loads : RowReader X Y Z → ℕ
  count_loads r = r.end.seat.me.0.looks

  -- what the writer had published when the two last met
  abbrev pub told_published : RowReader X Y Z → List (RowNoteOf Y Z)
  told_published r = r.end.seat.me.0.told

  -- the reader was made with the row
  abbrev pub IsReaderOf : Row X Y Z → RowReader X Y Z → Type 0
  IsReaderOf row r = (r.end.seat.me.0.kind ≡ Looking) × (r.end.seat.table_id ≡ table_of row) × (r.end.name.value ≡ name_of row) × (r.end.places ≡ places_of row)

  -- it knows nothing, and has not looked
  abbrev pub IsNew : RowReader X Y Z → Type 0
  IsNew r = (known r ≡ []) × (count_seen r ≡ 0) × (count_loads r ≡ 0) × (told_published r ≡ [])
