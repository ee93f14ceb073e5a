-- The scripts of the program as plain data.
use Rattle.std.specs.Prelude.{ℕ, Some, None}
use Rattle.sdmp_laws.specs.Order.{Order}
use Rattle.whole_laws.specs.Notes.{Script as PlainScript}
use Rattle.term_ring.specs.Plain.{plain_script}
use Rattle.term_ring.specs.declared.script.Script.{Script}
use Rattle.term_ring.specs.declared.script.Script.TheVariants.{Product, Quotient}

-- a script as plain data
abbrev pub script_of : {X Y Z : Type 0} → Order → ℕ → Script X Y Z → PlainScript
script_of ord n (Product f g workers worker) = plain_script ord n f.now g.now None workers worker
script_of ord n (Quotient f g mode workers worker) = plain_script ord n f.now g.now (Some mode) workers worker
