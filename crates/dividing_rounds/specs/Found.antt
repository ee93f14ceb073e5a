-- What the coefficient at a candidate says.
use Rattle.std.specs.Prelude.{◌≡◌, ◌≢◌, ℕ, List, [], ◌∷◌, ◌++◌, ℤ, pos, ◌*ℤ◌, true}
use Rattle.sdmp_laws.specs.Order.{Divides, over}
use Rattle.sdmp_laws.specs.Ring.{red, IsReduced}
use Rattle.sdmp_laws.specs.Poly.{Term, coef, minus, lm, lc}
use Rattle.sdmp_laws.specs.Division.{IsAccepted}
use Rattle.sdmp_laws.specs.LongDivision.{quotient_list}
use Rattle.sdmp_laws.specs.Limits.{PassesBound}
use Rattle.whole_laws.specs.Notes.{has}
use Rattle.whole_laws.specs.Wholes.{head_terms}
use Rattle.divide_wholes.specs.Wholes.{DivideState, DivideWhole, IsCandidate}
use Rattle.sdmp_laws.specs.declared.Mode.TheVariants.{Exact, Remainder}

-- the coefficient at x of what was read: of the unread part less the heads
abbrev pub read_coef : DivideState → List ℕ → ℤ
read_coef s x = coef s.division.p (minus s.unread (head_terms s.heads)) x

-- the term with the coefficient u whose product with lt(g) stands at x
abbrev pub term_at : DivideState → List ℕ → ℤ → Term
term_at s x u = record { monomial = over x (lm s.division.g); coefficient = u }

-- u takes the coefficient at x away
pub record Fits (s : DivideState) (x : List ℕ) (u : ℤ) : Type 0 where
  pub divides : Divides (lm s.division.g) x
  pub reduced : IsReduced s.division.p u
  pub product : red s.division.p (u *ℤ lc s.division.g) ≡ read_coef s x

-- the candidate x was read: it is what the merge processes next
pub record IsNext (s : DivideState) (x : List ℕ) : Type 0 where
  pub candidate : IsCandidate s x
  pub read : has x (s.unread ++ head_terms s.heads) ≡ true

-- ---- the three cases in which it does
abbrev pub IsZeroAt : DivideState → List ℕ → Type 0
IsZeroAt s x = read_coef s x ≡ pos 0

-- t is the quotient term at x, with which the quotient doesn't pass its bound
pub record IsQuotientAt (s : DivideState) (x : List ℕ) (t : Term) : Type 0 where
  pub there : read_coef s x ≢ pos 0
  pub fits : Fits s x t.coefficient
  pub is : t ≡ term_at s x t.coefficient
  pub within : PassesBound s.division (s.q ++ t ∷ []) → ⊥

-- the term at x belongs to the remainder
pub record IsRestAt (s : DivideState) (x : List ℕ) : Type 0 where
  pub there : read_coef s x ≢ pos 0
  pub mode : s.division.mode ≡ Remainder
  pub indivisible : Divides (lm s.division.g) x → ⊥

-- where no number fits at a candidate of an exact division, all quotient terms were found
abbrev pub CandidateLast : Type 0
CandidateLast =
    (s : DivideState) (x : List ℕ) → IsAccepted s.division → DivideWhole s → IsCandidate s x → s.division.mode ≡ Exact →
    read_coef s x ≢ pos 0 → ((u : ℤ) → Fits s x u → ⊥) → s.q ≡ quotient_list s.division
