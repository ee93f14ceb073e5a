-- What a row is for.
use Rattle.std.specs.Prelude.{ℕ}
use Rattle.sdmp_laws.specs.Order.{Order}
use Rattle.sdmp_laws.specs.Canonical.{Polynomial}
use Rattle.sdmp_laws.specs.Division.{Division}
use Rattle.sdmp_laws.specs.declared.Mode.{Mode}

-- a division, and how many quotient terms came before the row
pub record RowName : Type 0 where
  pub division : Division
  pub start : ℕ

abbrev pub row_name : Order → ℕ → Polynomial → Polynomial → Mode → ℕ → RowName
row_name ord n f g mode start = record { division = record { mode = mode; ord = ord; p = f.modulus; n = n; f = f.list; g = g.list }; start = start }
