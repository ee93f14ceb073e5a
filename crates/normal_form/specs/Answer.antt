-- What contracts see of an answer.
use Rattle.std.specs.Prelude.{List}
use Rattle.sdmp_laws.specs.Canonical.{Polynomial}

-- an answer as plain data: a quotient for each divisor, and the remainder
pub record Form : Type 0 where
  pub quotients : List Polynomial
  pub remainder : Polynomial
