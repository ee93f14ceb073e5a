-- Scripts as plain data.
use Rattle.std.specs.Prelude.{ℕ, Option, Some, None}
use Rattle.sdmp_laws.specs.Order.{Order}
use Rattle.sdmp_laws.specs.Canonical.{Polynomial}
use Rattle.sdmp_laws.specs.declared.Mode.{Mode}
use Rattle.whole_laws.specs.Notes.{Script, ProductScript, QuotientScript}

-- what a worker sends: of a product where there is no mode, else of a division
abbrev pub plain_script : Order → ℕ → Polynomial → Polynomial → Option Mode → ℕ → ℕ → Script
plain_script ord n f g None workers worker = ProductScript record { ord = ord; p = f.modulus; n = n; f = f.list; g = g.list } workers worker
plain_script ord n f g (Some mode) workers worker = QuotientScript record { mode = mode; ord = ord; p = f.modulus; n = n; f = f.list; g = g.list } workers worker

-- the modulus of the coefficients
abbrev pub modulus_of : Script → ℕ
modulus_of (ProductScript m workers worker) = m.p
modulus_of (QuotientScript d workers worker) = d.p
