-- What a division's merge and the rings of its workers hold together, at each moment at which no worker holds the merge.
use Rattle.std.specs.Prelude.{◌≡◌, ℕ, ◌<◌, ℤ, List, ◌++◌, Option}
use Rattle.sdmp_laws.specs.Poly.{Term, Same, times, minus, sum_over}
use Rattle.sdmp_laws.specs.LongDivision.{quotient_list}
use Rattle.whole_laws.specs.Notes.{Note, Script, terms_in, owed, lead_term, after_lead}
use Rattle.whole_laws.specs.Wholes.{head_terms}
use Rattle.divide_wholes.specs.Wholes.{DivideState, divide_script}
use Rattle.atomic_table.specs.Table.{State}
use Rattle.term_ring.specs.declared.note.NoteOf.{NoteOf}
use Rattle.term_ring.specs.declared.view.Kind.TheVariants.{Writing, Reading}
use Rattle.term_ring.specs.Rule.{IsRing}
use Rattle.term_ring.specs.Carried.{Carries}
use Rattle.term_ring.specs.Spelling.{notes_of}
use Rattle.turnstile.specs.Turns.{Stays, Kept, IsFree, ValueAtHome}
use Rattle.turnstile.specs.declared.view.View.{View as TurnView}
use Rattle.global_heap.specs.Moments.{RingMoment, IsSeated}
use Rattle.divide_merge.specs.Merges.{DivideView, IsSound, taken_of}
use Rattle.divide_merge.specs.Reached.{divide_name, divide_reached, Follows}

-- the quotient terms found, each times the leading term of g, the terms of the remainder and the unread terms
abbrev pub terms_out : DivideState → List Term
terms_out s = times s.q (lead_term s.division.g) ++ (s.r ++ s.unread)

-- the heads, the terms inside the workers' rings, and those that the workers haven't sent
abbrev pub terms_back : DivideState → (ℕ → List Note) → (ℕ → List Note) → List Term
terms_back s inside sent =
    head_terms s.heads ++ (sum_over s.workers (λ w. terms_in (inside w)) ++ sum_over s.workers (λ w. owed (divide_script s w) (sent w)))

-- the dividend less the products of the quotient with the later terms of the divisor
abbrev pub whole_of : DivideState → List Term
whole_of s = minus s.division.f (times (quotient_list s.division) (after_lead s.division.g))

-- a value that the turnstile of the merge `made` may hold
abbrev pub DivideStays : ℕ → DivideView → DivideView → Type 0
DivideStays lim = Stays divide_name divide_reached Follows (IsSound lim)

module _ {M E : Type 0} (words : NoteOf M E → List ℕ) (fits : Script → NoteOf M E → Type 0) (vector : M → List ℕ) (value : E → ℤ) where
  -- the ring of the merge's worker w, in a state that its rule allows
  pub record IsDivideRing (v : DivideView) (w : ℕ) (r : RingMoment M E) : Type 0 where
    pub allowed : IsRing words fits (Carries vector value) (divide_script v.run.state w) r.places r.state
    pub writing : IsSeated r.state Writing r.writer
    pub reading : IsSeated r.state Reading r.reader
    -- what the reader took is what the merge took of w
    pub taken : notes_of vector value r.reader.notes ≡ taken_of v w
    -- what the writer sent is what the reader took, followed by what is inside
    pub sent : r.writer.notes ≡ r.reader.notes ++ r.inside

  -- the merge's terms, less its heads and what its workers' rings hold and haven't got yet, add up to the dividend less the products of the quotient
  abbrev pub DividesUp : DivideView → Type 0
  DividesUp v =
      (rings : ℕ → RingMoment M E) → ((w : ℕ) → w < v.run.state.workers → IsDivideRing v w (rings w)) →
      Same v.run.state.division.p (minus (terms_out v.run.state) (terms_back v.run.state (λ w. notes_of vector value (rings w).inside) (λ w. notes_of vector value (rings w).writer.notes))) (whole_of v.run.state)

  -- each merge that is sound does
  abbrev pub DivisionAtEachMoment : ℕ → Type 0
  DivisionAtEachMoment lim = (v : DivideView) → IsSound lim v → DividesUp v

  -- in each state of a turnstile in which the flag is 0, the merge with which it was made is at home, or one that follows it, and does
  abbrev pub DivisionWhileNobodyHolds : ℕ → Type 0
  DivisionWhileNobodyHolds lim =
      (made : DivideView) (s : State (Option DivideView) (TurnView DivideView)) → Kept (DivideStays lim made) s → IsFree s →
      ValueAtHome (λ v. DivideStays lim made v × DividesUp v) s
