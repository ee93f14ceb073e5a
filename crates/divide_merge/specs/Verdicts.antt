-- Why an advance of a division's merge ends, said of plain lists.
use Rattle.std.specs.Prelude.{◌≡◌, ◌≢◌, ◌⊎◌, ℕ, ◌<◌, ℤ, pos, List, [], ◌∷◌, ◌++◌, length, Option, Some, None}
use Rattle.sdmp_laws.specs.Poly.{Term}
use Rattle.sdmp_laws.specs.Division.{IsAccepted}
use Rattle.sdmp_laws.specs.Limits.{Passes, PassesBound, quotient_terms_limit}
use Rattle.sdmp_laws.specs.declared.Mode.TheVariants.{Exact, Remainder}
use Rattle.divide_wholes.specs.Wholes.{DivideState}
use Rattle.dividing_rounds.specs.Found.{read_coef, term_at, Fits}
use Rattle.dividing_rounds.specs.Stalls.{IsGreatestRead, IsStuck, IsDue}

-- nothing more has to be heard before m is processed
abbrev pub NoneStuck : DivideState → Option (List ℕ) → Type 0
NoneStuck s m = (w : ℕ) → IsStuck s m w → ⊥

-- w is the first worker of which more has to be heard
pub record IsFirstStuck (s : DivideState) (m : Option (List ℕ)) (w : ℕ) : Type 0 where
  pub stuck : IsStuck s m w
  pub first : (v : ℕ) → v < w → IsStuck s m v → ⊥

-- w is that worker at what was read
pub record HoldsUp (s : DivideState) (w : ℕ) : Type 0 where
  pub next : Option (List ℕ)
  pub read : IsGreatestRead s next
  pub first : IsFirstStuck s next w

-- a front is due where some worker holds the merge up
pub record IsFrontDue (s : DivideState) : Type 0 where
  pub worker : ℕ
  pub held : HoldsUp s worker
  pub bound : List ℕ
  pub due : IsDue s bound

-- x is the greatest monomial that was read, nothing more has to be heard, and the coefficient there isn't zero
pub record IsPresentAt (s : DivideState) (x : List ℕ) : Type 0 where
  pub read : IsGreatestRead s (Some x)
  pub heard : NoneStuck s (Some x)
  pub there : read_coef s x ≢ pos 0

-- t is the quotient term that takes away the coefficient there
pub record IsTermDue (s : DivideState) (t : Term) : Type 0 where
  pub at : List ℕ
  pub present : IsPresentAt s at
  pub fits : Fits s at t.coefficient
  pub is : t ≡ term_at s at t.coefficient

-- none does
pub record IsLeftOver (s : DivideState) (x : List ℕ) : Type 0 where
  pub present : IsPresentAt s x
  pub none : (u : ℤ) → Fits s x u → ⊥

abbrev pub with_term : DivideState → Term → List Term
with_term s t = s.q ++ t ∷ []

-- t is due, and the quotient with it passes no bound
pub record IsTermWithin (s : DivideState) (t : Term) : Type 0 where
  pub due : IsTermDue s t
  pub within : PassesBound s.division (with_term s t) → ⊥

-- why an advance ends
pub data Verdict : Type 0 where
  Finishes : Verdict
  HasNone : List ℕ → Verdict
  PassesNorm : Term → Verdict
  PassesCount : Term → Verdict
  IsBlocked : ℕ → Verdict
  RowIsFull : Verdict
  OutIsFull : Verdict

-- The cause of each answer, where the row has so many free places and there is room for so many terms. No two answers have their causes at once.
unfoldable pub IsVerdict : DivideState → ℕ → ℕ → Verdict → Type 0
IsVerdict s free spare Finishes = IsGreatestRead s None × NoneStuck s None
IsVerdict s free spare (HasNone x) = (s.division.mode ≡ Exact) × IsLeftOver s x
IsVerdict s free spare (PassesNorm t) = IsTermDue s t × Passes s.division (with_term s t)
IsVerdict s free spare (PassesCount t) = IsTermDue s t × (Passes s.division (with_term s t) → ⊥) × (length (with_term s t) ≡ quotient_terms_limit)
IsVerdict s free spare (IsBlocked w) = HoldsUp s w × ((x : List ℕ) → IsDue s x → ⊥)
IsVerdict s free spare RowIsFull = (free ≡ 0) × (IsFrontDue s ⊎ ((t : Term) × IsTermWithin s t))
IsVerdict s free spare OutIsFull = (spare ≡ 0) × (((t : Term) × IsTermWithin s t × (0 < free)) ⊎ ((s.division.mode ≡ Remainder) × ((x : List ℕ) × IsLeftOver s x)))

-- the answers after which a merge is over
unfoldable pub IsFinal : Verdict → Type 0
IsFinal Finishes = Unit {0}
IsFinal (HasNone x) = Unit {0}
IsFinal (PassesNorm t) = Unit {0}
IsFinal (PassesCount t) = Unit {0}
IsFinal (IsBlocked w) = ⊥
IsFinal RowIsFull = ⊥
IsFinal OutIsFull = ⊥

-- what a merge that gave this answer keeps of it
unfoldable pub kept_of : Verdict → Option Verdict
kept_of Finishes = Some Finishes
kept_of (HasNone x) = Some (HasNone x)
kept_of (PassesNorm t) = Some (PassesNorm t)
kept_of (PassesCount t) = Some (PassesCount t)
kept_of (IsBlocked w) = None
kept_of RowIsFull = None
kept_of OutIsFull = None

-- one state and one row have one answer, whatever room there is
abbrev pub OneVerdict : Type 0
OneVerdict = (s : DivideState) (free m n : ℕ) (a b : Verdict) → IsAccepted s.division → IsVerdict s free m a → IsVerdict s free n b → a ≡ b
