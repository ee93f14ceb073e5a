-- Lemmas on what the lines before the body say.
use Rattle.std.proofs.Common.{◌≡◌, ◌≢◌, ◌+◌, ℕ, List, [], ◌∷◌, Option, Some, None, Result, Ok, Err, MatchResult, sym, ap, ◌∙◌}
use Rattle.poly_text.specs.Words.{words_of}
use Rattle.calc_session.specs.Results.{◌>>=◌}
use Rattle.calc_session.specs.Lines.{lines, effective}
use Rattle.calc_session.specs.Header.{vars_of, ring_of, order_of}
use Rattle.calc_session.specs.Heads.{Head, head_in, at_line, ordered, order_head, ring_head, vars_head, head_of}
use Rattle.calc_session.specs.Says.{head_said, header_said}
use Rattle.calc_session.specs.declared.fault.LineFault.{LineFault}
use Rattle.calc_session.specs.declared.fault.LineFault.TheVariants.{VarsExpected, RingExpected, NoMemory}
use Rattle.calc_session.specs.declared.header.Header.{Header}
use Rattle.calc_session.specs.declared.header.HeaderFault.{HeaderFault}
use Rattle.calc_session.specs.declared.order.Order.{Order}
use Rattle.calc_session.specs.declared.order.Order.TheVariants.{Grlex}
use Rattle.calc_session.specs.declared.ring.RingChoice.{RingChoice}

abbrev pub fault_at : {A : Type 0} → ℕ → LineFault → Result A HeaderFault
fault_at number fault = Err record { line = number; fault = fault }

-- ---- from the third line on
module _ (variables : List (List ℕ)) (ring : RingChoice) (number : ℕ) where
  abbrev from_order : List (List ℕ) → Result Head HeaderFault
  from_order rest = order_head variables ring (number, rest)

  -- what follows the words of the order's line
  abbrev pub by_order : List ℕ → List (List ℕ) → Result (Option Order) LineFault → Result Head HeaderFault
  by_order line later said = at_line number said >>= λ order. Ok (ordered variables ring number line later order)

  pub no_third : (rest : List (List ℕ)) → rest ≡ [] → Ok (head_in variables ring Grlex number rest) ≡ from_order rest
  no_third rest e = ap (λ ls. Ok (head_in variables ring Grlex number ls)) e ∙ sym (ap from_order e)

  pub third_order : (rest : List (List ℕ)) (line : List ℕ) (later : List (List ℕ)) (order : Order) → rest ≡ line ∷ later → order_of line ≡ Ok (Some order)
      → Ok (head_in variables ring order (number + 1) later) ≡ from_order rest
  third_order rest line later order e said = sym (ap from_order e ∙ ap (by_order line later) said)

  pub third_body : (rest : List (List ℕ)) (line : List ℕ) (later : List (List ℕ)) → rest ≡ line ∷ later → order_of line ≡ Ok None
      → Ok (head_in variables ring Grlex number rest) ≡ from_order rest
  third_body rest line later e said = ap (λ ls. Ok (head_in variables ring Grlex number ls)) e ∙ sym (ap from_order e ∙ ap (by_order line later) said)

  pub third_fault : (rest : List (List ℕ)) (line : List ℕ) (later : List (List ℕ)) (fault : LineFault) → rest ≡ line ∷ later → order_of line ≡ Err fault
      → fault_at number fault ≡ from_order rest
  third_fault rest line later fault e said = sym (ap from_order e ∙ ap (by_order line later) said)

-- ---- from the line with the ring on
module _ (variables : List (List ℕ)) (number : ℕ) where
  abbrev from_ring : List (List ℕ) → Result Head HeaderFault
  from_ring rest = ring_head variables (number, rest)

  -- what follows the words of the ring's line
  abbrev pub by_ring : List (List ℕ) → Result RingChoice LineFault → Result Head HeaderFault
  by_ring later said = at_line number said >>= λ ring. order_head variables ring (effective (number + 1) later)

  pub no_second : (rest : List (List ℕ)) → rest ≡ [] → fault_at number RingExpected ≡ from_ring rest
  no_second rest e = sym (ap from_ring e)

  pub second_fault : (rest : List (List ℕ)) (line : List ℕ) (later : List (List ℕ)) (fault : LineFault) → rest ≡ line ∷ later → ring_of (words_of line) ≡ Err fault
      → fault_at number fault ≡ from_ring rest
  second_fault rest line later fault e said = sym (ap from_ring e ∙ ap (by_ring later) said)

  pub second_ring : (rest : List (List ℕ)) (line : List ℕ) (later : List (List ℕ)) (ring : RingChoice) → rest ≡ line ∷ later → ring_of (words_of line) ≡ Ok ring
      → order_head variables ring (effective (number + 1) later) ≡ from_ring rest
  second_ring rest line later ring e said = sym (ap from_ring e ∙ ap (by_ring later) said)

-- ---- the whole header
-- what follows the words of the variables' line
abbrev pub by_vars : ℕ → List (List ℕ) → Result (List (List ℕ)) LineFault → Result Head HeaderFault
by_vars number later said = at_line number said >>= λ variables. ring_head variables (effective (number + 1) later)

module _ (bytes : List ℕ) (number : ℕ) (rest : List (List ℕ)) (first : effective 1 (lines bytes) ≡ (number, rest)) where
  from_first : head_of bytes ≡ vars_head (number, rest)
  unfolding head_of
  from_first = ap vars_head first

  abbrev from_vars : List (List ℕ) → Result Head HeaderFault
  from_vars ls = vars_head (number, ls)

  pub no_first : rest ≡ [] → head_of bytes ≡ fault_at number VarsExpected
  no_first e = from_first ∙ ap from_vars e

  pub first_fault : (line : List ℕ) (later : List (List ℕ)) (fault : LineFault) → rest ≡ line ∷ later → vars_of (words_of line) ≡ Err fault
      → head_of bytes ≡ fault_at number fault
  first_fault line later fault e said = from_first ∙ ap from_vars e ∙ ap (by_vars number later) said

  pub first_vars : (line : List ℕ) (later variables : List (List ℕ)) → rest ≡ line ∷ later → vars_of (words_of line) ≡ Ok variables
      → head_of bytes ≡ ring_head variables (effective (number + 1) later)
  first_vars line later variables e said = from_first ∙ ap from_vars e ∙ ap (by_vars number later) said

-- what is read is the header, or its fault where memory isn't wanting
pub told : (bytes : List ℕ) (read : Result Header HeaderFault) → head_of bytes ≡ header_said read
    → MatchResult read (λ header. head_of bytes ≡ Ok (head_said header)) (λ e. e.fault ≢ NoMemory → head_of bytes ≡ Err e)
told bytes (Ok header) e = e
told bytes (Err fault) e = λ other. e
