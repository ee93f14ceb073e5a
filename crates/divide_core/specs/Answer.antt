-- What the answer of a division says.
use Rattle.std.specs.Prelude.{◌≡◌, ℕ, ◌+◌, ◌*◌, ◌<◌, ◌≤◌, Bool, IsTrue}
use Rattle.sdmp_laws.specs.Limits.{greatest_norm, quotient_terms_limit}
use Rattle.sdmp_laws.specs.Division.{Division}
use Rattle.division_laws.specs.Outcome.{IsOutcome, OverZero, ByNoUnit, OverBound, OverTerms, HasQuotient, HasNoQuotient, HasRemainder}
use Rattle.divide_core.specs.declared.answer.Division.{Division as Answer}
use Rattle.divide_core.specs.declared.answer.Division.TheVariants.{Quotient, NoQuotient, Remainder}
use Rattle.divide_core.specs.declared.answer.DivideFault.{DivideFault}
use Rattle.divide_core.specs.declared.answer.DivideFault.TheVariants.{ZeroDivisor, NotUnit, CoefficientBound, TermBound, NoMemory}

-- an answer is that of the division
abbrev pub IsAnswer : {A B C : Type 0} → Division → Answer A B C → Type 0
IsAnswer d (Quotient q) = (q.modulus ≡ d.p) × IsOutcome d (HasQuotient q.list)
IsAnswer d NoQuotient = IsOutcome d HasNoQuotient
IsAnswer d (Remainder q r) = (q.modulus ≡ d.p) × (r.modulus ≡ d.p) × IsOutcome d (HasRemainder q.list r.list)

-- a refusal is that of the division, or memory is wanting
abbrev pub IsRefusal : Division → DivideFault → Type 0
IsRefusal d ZeroDivisor = IsOutcome d OverZero
IsRefusal d NotUnit = IsOutcome d ByNoUnit
IsRefusal d CoefficientBound = IsOutcome d OverBound
IsRefusal d TermBound = IsOutcome d OverTerms
IsRefusal d NoMemory = Unit {0}

-- with a quotient of the norm n that has k terms, a division passes this bound: that on norms first
abbrev pub IsBoundPassed : Bool → ℕ → ℕ → ℕ → ℕ → DivideFault → Type 0
IsBoundPassed integers dividend divisor n k ZeroDivisor = ⊥
IsBoundPassed integers dividend divisor n k NotUnit = ⊥
IsBoundPassed integers dividend divisor n k CoefficientBound = IsTrue integers × (greatest_norm < dividend + n * divisor)
IsBoundPassed integers dividend divisor n k TermBound = (IsTrue integers → dividend + n * divisor ≤ greatest_norm) × (k ≡ quotient_terms_limit)
IsBoundPassed integers dividend divisor n k NoMemory = ⊥
