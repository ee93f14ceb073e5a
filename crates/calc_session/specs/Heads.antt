-- The header of a session: what the lines before the body say, or the first of their faults and its line.
use Rattle.std.specs.Prelude.{◌+◌, ℕ, List, [], ◌∷◌, Option, Some, None, Result, Ok, Err}
use Rattle.poly_text.specs.Words.{words_of}
use Rattle.calc_session.specs.Results.{◌>>=◌}
use Rattle.calc_session.specs.Lines.{lines, effective}
use Rattle.calc_session.specs.Header.{vars_of, ring_of, order_of}
use Rattle.calc_session.specs.declared.fault.LineFault.{LineFault}
use Rattle.calc_session.specs.declared.fault.LineFault.TheVariants.{VarsExpected, RingExpected}
use Rattle.calc_session.specs.declared.header.HeaderFault.{HeaderFault}
use Rattle.calc_session.specs.declared.order.Order.{Order}
use Rattle.calc_session.specs.declared.order.Order.TheVariants.{Grlex}
use Rattle.calc_session.specs.declared.ring.RingChoice.{RingChoice}

-- the variables, the ring, the order, the lines of the body, and the number of the first of these
pub record Head : Type 0 where
  pub variables : List (List ℕ)
  pub ring : RingChoice
  pub order : Order
  pub line : ℕ
  pub body : List (List ℕ)

abbrev pub head_in : List (List ℕ) → RingChoice → Order → ℕ → List (List ℕ) → Head
head_in variables ring order line body = record { variables = variables; ring = ring; order = order; line = line; body = body }

-- a fault is told with the number of its line
abbrev pub at_line : {A : Type 0} → ℕ → Result A LineFault → Result A HeaderFault
at_line number (Ok a) = Ok a
at_line number (Err fault) = Err record { line = number; fault = fault }

-- a line that chooses no order is the first one of the body, and the order is then graded lexicographic
abbrev pub ordered : List (List ℕ) → RingChoice → ℕ → List ℕ → List (List ℕ) → Option Order → Head
ordered variables ring number line later (Some order) = head_in variables ring order (number + 1) later
ordered variables ring number line later None = head_in variables ring Grlex number (line ∷ later)

-- from the third line that isn't skipped on, which has this number
abbrev pub order_head : List (List ℕ) → RingChoice → ℕ × List (List ℕ) → Result Head HeaderFault
order_head variables ring (number, []) = Ok (head_in variables ring Grlex number [])
order_head variables ring (number, line ∷ later) = do
  order ← at_line number (order_of line)
  Ok (ordered variables ring number line later order)

-- from the line with the ring on
abbrev pub ring_head : List (List ℕ) → ℕ × List (List ℕ) → Result Head HeaderFault
ring_head variables (number, []) = Err record { line = number; fault = RingExpected }
ring_head variables (number, line ∷ later) = do
  ring ← at_line number (ring_of (words_of line))
  order_head variables ring (effective (number + 1) later)

-- from the line with the variables on
abbrev pub vars_head : ℕ × List (List ℕ) → Result Head HeaderFault
vars_head (number, []) = Err record { line = number; fault = VarsExpected }
vars_head (number, line ∷ later) = do
  variables ← at_line number (vars_of (words_of line))
  ring_head variables (effective (number + 1) later)

-- the header of a session of these bytes
unfoldable pub head_of : List ℕ → Result Head HeaderFault
head_of bytes = vars_head (effective 1 (lines bytes))
