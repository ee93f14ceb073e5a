-- How many rounds a division takes at most, and what its merge says in the end.
use Rattle.std.proofs.Common.{◌≡◌, ℕ, ◌+◌, ◌-◌, ◌<◌, ◌≤◌, List, length, slice_index_or, Some, None, sym, ap, ◌∙◌, subst, arith, [], ◌∷◌}
use Rattle.std.proofs.lemmas.List.{length-drop}
use mathlib.Core.List.{IsPrefix}
use Rattle.sdmp_laws.specs.Poly.{Term}
use Rattle.sdmp_laws.specs.LongDivision.{quotient_list}
use Rattle.sdmp_laws.specs.Limits.{PassesBound}
use Rattle.sdmp_laws.specs.declared.Mode.TheVariants.{Exact, Remainder}
use Rattle.division_laws.specs.Outcome.{OverBound, OverTerms, HasQuotient, HasNoQuotient, HasRemainder, IsWithin, IsOutcome}
use Rattle.divide_core.proofs.DividingSteps.{list_within, passes_now, long_now}
use Rattle.divide_wholes.specs.Row.{row_terms}
use Rattle.divide_wholes.specs.Wholes.{DivideState, IsFinished}
use Rattle.divide_wholes.proofs.Candidate.{candidate_term, candidate_none, finished_is_right}
use Rattle.term_ring.specs.Names.{RingName}
use Rattle.dividing_rounds.specs.Found.{IsNext}
use Rattle.dividing_rounds.specs.Runs.{RunWhole}
use Rattle.dividing_rounds.specs.Counting.{NotesFit}
use Rattle.dividing_rounds.specs.Stalls.{GoesOn}
use Rattle.dividing_rounds.proofs.WorkloadLemmas.{candidate_last}
use Rattle.dividing_rounds.proofs.CountingLemmas.{counted_fit}
use Rattle.dividing_rounds.proofs.StallLemmas.{nobody_stuck}
use Rattle.divide_merge.specs.Verdicts.{IsPresentAt, IsTermDue, with_term, Finishes, HasNone, PassesNorm, PassesCount, IsVerdict}
use Rattle.divide_merge.specs.Merges.{DivideView, IsSound}
use Rattle.divide_workers.specs.Views.{WorkerView}
use Rattle.divide_workers.specs.Working.{IsWorking}
use Rattle.divide_workers.specs.Rounds.{IsTeam}
use Rattle.divide_workers.proofs.Working.{more_terms}
use Rattle.divide_workers.proofs.Hearing.{its_division}

-- ---- the bound
-- a worker knows no more terms than are found
pub known_few : (m : DivideView) (v : WorkerView) → RunWhole m.run → IsPrefix v.notes m.run.notes → length v.state.known ≤ m.run.state.start + length (row_terms v.notes) → length v.state.known ≤ length m.run.state.q
known_few m v w p few =
    let more = more_terms v.notes m.run.notes p in
    let t : length (row_terms m.run.notes) ≡ length m.run.state.q - m.run.state.start = ap (λ (L : List Term). length L) (w.row.terms ∙ sym w.whole.row_terms) ∙ length-drop m.run.state.start m.run.state.q in
    let l = w.whole.row_start in omega (arith, more, t, l, few)

-- the merge has taken no more notes of a worker than this may send for the quotient terms found
pub all_fit : (lim : ℕ) (m : DivideView) (team : List WorkerView) (z : RingName) (y : WorkerView) → IsSound lim m → IsTeam m team → ((k : ℕ) → k < length team → IsWorking lim (slice_index_or team k y)) → (w : ℕ) → w < m.run.state.workers → NotesFit m.run.state w
all_fit lim m team z y s t working w l =
    let k : w < length team = let a = t.members.long in let b = s.rings_count in omega (arith, a, b, l) in
    let v = slice_index_or team w y in
    let i = t.members.each w y k in
    let d = its_division lim m v z w s (working w k) i in
    let few : length v.state.known ≤ length m.run.state.q = known_few m v s.whole (t.told w y k).notes (t.current w y k).few in
    subst (NotesFit m.run.state) i.number (counted_fit m.run.state v.state (working w k).paid.paid d.0 d.1 (working w k).paid.counted (t.told w y k).taken few)

-- ---- the last answer
module _ (lim : ℕ) (m : DivideView) (s : IsSound lim m) where
  abbrev state : DivideState
  state = m.run.state

  -- what is read next is a candidate
  next : (x : List ℕ) → IsPresentAt state x → IsNext state x
  unfolding GoesOn
  next x p = nobody_stuck state (Some x) s.fit.accepted s.whole.whole p.read p.heard

  -- a quotient term that is due is the next one
  begins : (t : Term) → IsTermDue state t → IsPrefix (with_term state t) (quotient_list state.division)
  begins t d =
      let i = candidate_term state d.at t.coefficient s.fit.accepted s.whole.whole (next d.at d.present).candidate d.fits.divides d.fits.reduced d.present.there d.fits.product in
      subst (λ (u : Term). IsPrefix (with_term state u) (quotient_list state.division)) (sym d.is) i

  finished : (free spare : ℕ) → IsVerdict state free spare Finishes → IsFinished state
  unfolding IsVerdict GoesOn
  finished free spare v = nobody_stuck state None s.fit.accepted s.whole.whole v.0 v.1

  -- all quotient terms are found where the division finishes, or has no quotient
  pub all_found : (free spare : ℕ) → IsVerdict state free spare Finishes → state.q ≡ quotient_list state.division
  all_found free spare v = (finished_is_right state s.fit.accepted s.whole.whole (finished free spare v)).0

  pub all_found_none : (x : List ℕ) (free spare : ℕ) → IsVerdict state free spare (HasNone x) → state.q ≡ quotient_list state.division
  unfolding IsVerdict
  all_found_none x free spare v = candidate_last state x s.fit.accepted s.whole.whole (next x v.1.present).candidate v.0 v.1.present.there v.1.none

  within : state.q ≡ quotient_list state.division → IsWithin state.division
  within e = list_within state.division s.fit.accepted (subst (λ (q : List Term). PassesBound state.division q → ⊥) e s.whole.whole.within)

  -- what each last answer says of the division
  pub gives_quotient : (free spare : ℕ) → IsVerdict state free spare Finishes → state.division.mode ≡ Exact → IsOutcome state.division (HasQuotient state.q)
  unfolding IsOutcome
  gives_quotient free spare v e = (within (all_found free spare v), e, (finished_is_right state s.fit.accepted s.whole.whole (finished free spare v)).1 e)

  pub gives_remainder : (free spare : ℕ) → IsVerdict state free spare Finishes → state.division.mode ≡ Remainder → IsOutcome state.division (HasRemainder state.q state.r)
  unfolding IsOutcome
  gives_remainder free spare v e = (within (all_found free spare v), e, (finished_is_right state s.fit.accepted s.whole.whole (finished free spare v)).2 e)

  pub gives_none : (x : List ℕ) (free spare : ℕ) → IsVerdict state free spare (HasNone x) → IsOutcome state.division HasNoQuotient
  unfolding IsOutcome IsVerdict
  gives_none x free spare v = (
    within (all_found_none x free spare v),
    v.0,
    candidate_none state x s.fit.accepted s.whole.whole (next x v.1.present).candidate v.0 v.1.present.there (λ u d r p. v.1.none u record { divides = d; reduced = r; product = p }),
  )

  pub passes_bound : (t : Term) (free spare : ℕ) → IsVerdict state free spare (PassesNorm t) → IsOutcome state.division OverBound
  unfolding IsOutcome IsVerdict
  passes_bound t free spare v = (s.fit.accepted, passes_now state.division state.q t s.fit.accepted (begins t v.0) s.whole.whole.within v.1)

  pub passes_terms : (t : Term) (free spare : ℕ) → IsVerdict state free spare (PassesCount t) → IsOutcome state.division OverTerms
  unfolding IsOutcome IsVerdict
  passes_terms t free spare v =
      let r = long_now state.division state.q t s.fit.accepted (begins t v.0) v.1 v.2 in (s.fit.accepted, r.0, r.1)

pub a_worker : (team : List WorkerView) → 0 < length team → WorkerView
a_worker [] l = absurd (omega (arith, l))
a_worker (v ∷ team) l = v
