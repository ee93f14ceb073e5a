-- Which ring an end belongs to, and counts of notes by ring.
use Rattle.std.specs.Prelude.{◌≡◌, ℕ, ◌≤◌, List, length, slice_index_or, sum_by}
use Rattle.std.proofs.Common.{refl, le_refl}
use Rattle.atomic_table.specs.Seated.{TableId}
use Rattle.whole_laws.specs.Notes.{Note, Script}
use Rattle.term_ring.specs.Ends.{script_in, places_of, table_of}
use Rattle.term_ring.specs.declared.ring.Ring.{Ring}
use Rattle.term_ring.specs.declared.ring.Reader.{Reader}
use Rattle.term_ring.specs.declared.ring.Writer.{Writer}
use Rattle.term_ring.specs.declared.view.Kind.TheVariants.{Writing, Reading}

-- a ring, by its table, its script and its number of places
pub record RingName : Type 0 where
  pub table : TableId
  pub script : Script
  pub places : ℕ

module _ {X Y Z : Type 0} where
  abbrev pub ring_name : Ring X Y Z → RingName
  ring_name ring = record { table = table_of ring; script = script_in ring; places = places_of ring }

  -- the ring that a reader was made with
  abbrev pub reader_name : Reader X Y Z → RingName
  reader_name r = record { table = r.end.seat.table_id; script = r.end.script.value; places = r.end.places }

  -- it is a reader, and no writer
  abbrev pub IsReading : Reader X Y Z → Type 0
  IsReading r = r.end.seat.me.0.kind ≡ Reading

  -- the ring that a writer was made with
  abbrev pub writer_name : Writer X Y Z → RingName
  writer_name w = record { table = w.end.seat.table_id; script = w.end.script.value; places = w.end.places }

  -- it is a writer, and no reader
  abbrev pub IsWriting : Writer X Y Z → Type 0
  IsWriting w = w.end.seat.me.0.kind ≡ Writing

-- no number of b is below that of a at the same place
pub record NoneBelow (a b : List ℕ) : Type 0 where
  pub long : length b ≡ length a
  pub each : (k : ℕ) → slice_index_or a k 0 ≤ slice_index_or b k 0

pub NoneBelow-itself : (a : List ℕ) → NoneBelow a a
NoneBelow-itself a = record { long = refl; each = λ k. le_refl _ }

-- how many notes stand in all of the lists
abbrev pub notes_count : List (List Note) → ℕ
notes_count taken = sum_by (λ notes. length notes) taken
