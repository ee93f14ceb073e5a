-- Names that are looked up one after the other.
use Rattle.std.proofs.Common.{◌≡◌, ℕ, List, ◌++◌, Result, Ok, Err}
use Rattle.sdmp_laws.specs.Poly.{Term}
use Rattle.calc_session.specs.Session.{Defined, polynomials_of}
use Rattle.calc_session.specs.declared.fault.LineFault.{LineFault}

-- the polynomials of the later names stand behind those that were found
abbrev pub behind : List (List Term) → Result (List (List Term)) LineFault → Result (List (List Term)) LineFault
behind found (Ok fs) = Ok (found ++ fs)
behind found (Err fault) = Err fault

-- all names have these polynomials where the later ones have theirs
abbrev pub IsFound : Defined → List (List ℕ) → List (List Term) → List (List ℕ) → Type 0
IsFound defined names found later = polynomials_of defined names ≡ behind found (polynomials_of defined later)
