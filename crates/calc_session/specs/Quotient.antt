-- Why a division of two polynomials is refused.
use Rattle.sdmp_laws.specs.Division.{Division}
use Rattle.division_laws.specs.Outcome.{OverZero, ByNoUnit, OverBound, OverTerms, IsOutcome}
use Rattle.calc_session.specs.declared.fault.LineFault.{LineFault}
use Rattle.calc_session.specs.declared.fault.LineFault.TheVariants.{ZeroDivisor, NotUnit, CoefficientBound, TermBound, NoMemory}

-- why a division is refused
abbrev pub IsUndivided : Division → LineFault → Type 0
IsUndivided d ZeroDivisor = IsOutcome d OverZero
IsUndivided d NotUnit = IsOutcome d ByNoUnit
IsUndivided d CoefficientBound = IsOutcome d OverBound
IsUndivided d TermBound = IsOutcome d OverTerms
IsUndivided d NoMemory = Unit {0}
IsUndivided d _ = ⊥
