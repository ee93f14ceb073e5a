-- What contracts see of the definitions.
use Rattle.std.specs.Prelude.{ℕ, List, map}
use Rattle.std.specs.Global.{Vec}
use Rattle.sdmp_laws.specs.Canonical.{Polynomial}

-- a name and the polynomial that it stands for
pub record Definition : Type 0 where
  pub name : List ℕ
  pub poly : Polynomial

-- the entries of the map as definitions
abbrev pub definitions_of : List (Vec ℕ × Polynomial) → List Definition
definitions_of entries = map (λ e. record { name = e.0.items; poly = e.1 }) entries
