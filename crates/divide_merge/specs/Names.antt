-- Which rings and which row a merge reads and writes, and which division it makes.
use Rattle.std.specs.Prelude.{◌≡◌, ℕ, ◌<◌, ◌^◌, List, [], ◌∷◌, length, slice_index_or}
use Rattle.atomic_table.specs.Seated.{TableId}
use Rattle.sdmp_laws.specs.Order.{Grlex}
use Rattle.sdmp_laws.specs.Canonical.{IsCanonical}
use Rattle.sdmp_laws.specs.Division.{Division, IsAccepted}
use Rattle.sdmp_laws.specs.declared.Mode.TheVariants.{Exact}
use Rattle.whole_laws.specs.Notes.{Script, ProductScript, QuotientScript}
use Rattle.term_ring.specs.Names.{RingName}
use Rattle.quotient_row.specs.Names.{RowName}
use Rattle.quotient_row.specs.Ends.{table_of, name_of, places_of}
use Rattle.quotient_row.specs.declared.row.Row.{Row}
use Rattle.quotient_row.specs.declared.row.RowWriter.{RowWriter}
use Rattle.quotient_row.specs.declared.row.RowReader.{RowReader}
use Rattle.quotient_row.specs.declared.kind.Kind.TheVariants.{Publishing, Looking}

-- a row, by its table, its name and its number of places
pub record RowIdentity : Type 0 where
  pub table : TableId
  pub name : RowName
  pub places : ℕ

module _ {X Y Z : Type 0} where
  abbrev pub row_identity : Row X Y Z → RowIdentity
  row_identity row = record { table = table_of row; name = name_of row; places = places_of row }

  -- the row that a writer was made with
  abbrev pub writer_row : RowWriter X Y Z → RowIdentity
  writer_row w = record { table = w.end.seat.table_id; name = w.end.name.value; places = w.end.places }

  -- the row that a reader was made with
  abbrev pub reader_row : RowReader X Y Z → RowIdentity
  reader_row r = record { table = r.end.seat.table_id; name = r.end.name.value; places = r.end.places }

  -- it is a writer, and no reader
  abbrev pub IsPublishing : RowWriter X Y Z → Type 0
  IsPublishing w = w.end.seat.me.0.kind ≡ Publishing

  -- it is a reader, and no writer
  abbrev pub IsLooking : RowReader X Y Z → Type 0
  IsLooking r = r.end.seat.me.0.kind ≡ Looking

-- the division that a script is of
abbrev pub script_division : Script → Division
script_division (ProductScript m W w) = record { mode = Exact; ord = m.ord; p = m.p; n = m.n; f = m.f; g = m.g }
script_division (QuotientScript d W w) = d

-- the division of the first ring
abbrev pub first_division : List RingName → Division
first_division [] = record { mode = Exact; ord = Grlex; p = 0; n = 0; f = []; g = [] }
first_division (a ∷ rings) = script_division a.script

-- the rings are those of all the workers of the division, in order
abbrev pub HasScripts : Division → List RingName → Type 0
HasScripts d rings = (w : ℕ) (a : RingName) → w < length rings → (slice_index_or rings w a).script ≡ QuotientScript d (length rings) w

-- dividend and divisor are polynomials of fewer than 2^30 terms each and of degrees up to lim, and the division is one that is carried out
pub record IsFit (lim : ℕ) (d : Division) : Type 0 where
  pub dividend : IsCanonical d.ord d.p d.n lim d.f
  pub divisor : IsCanonical d.ord d.p d.n lim d.g
  pub accepted : IsAccepted d
  pub few_dividend : length d.f < 2 ^ 30
  pub few_divisor : length d.g < 2 ^ 30
