-- A round of a division leaves its merge over, or farther than it was.
use Rattle.std.proofs.Common.{◌≡◌, ◌⊎◌, inl, inr, ℕ, ◌-◌, ◌<◌, ◌≤◌, true, false, true≢false, List, length, slice_index_or, Some, refl, sym, ap, ◌∙◌, subst, arith}
use Rattle.std.specs.Option.{is_some}
use Rattle.sdmp_laws.specs.Division.{IsAccepted}
use Rattle.term_ring.specs.Names.{RingName, NoneBelow}
use Rattle.dividing_rounds.specs.Runs.{DivideRun}
use Rattle.dividing_rounds.specs.Rounds.{progress}
use Rattle.dividing_rounds.specs.Stalls.{IsAsked, HasWaited}
use Rattle.dividing_rounds.proofs.StallLemmas.{no_stall}
use Rattle.divide_merge.specs.Verdicts.{Verdict, Finishes, HasNone, PassesNorm, PassesCount, IsBlocked, RowIsFull, OutIsFull, IsVerdict, kept_of, OneVerdict}
use Rattle.divide_merge.specs.Merges.{DivideView, IsSound, AllStarved, IsAskedInVain, free_places}
use Rattle.divide_merge.specs.Reached.{DivideReach, divide_reached, Follows}
use Rattle.divide_workers.specs.Views.{WorkerView}
use Rattle.divide_workers.specs.Working.{IsWorking}
use Rattle.divide_workers.specs.Rounds.{AllMove, AllMeet, IsTeam, HasPlace}
use Rattle.divide_workers.proofs.Falling.{IsFrontVector}
use Rattle.divide_workers.proofs.Hearing.{has_waited}

-- a round that began with the merge a and the workers team0; c is the merge after their calls, e after the first meeting, d after its advance, which gave the answer x
pub record RoundTaken (lim : ℕ) (a c e d : DivideView) (team0 team1 team2 : List WorkerView) (x : Verdict) : Type 0 where
  pub sound : IsSound lim d
  pub team : IsTeam a team0
  pub place : HasPlace a
  pub around : Follows (divide_reached a) (divide_reached c)
  pub met_run : e.run ≡ c.run
  pub room : 0 < e.spare
  pub moves : AllMove team0 team1
  pub meets : AllMeet e team1 team2
  pub working : (k : ℕ) (y : WorkerView) → k < length team2 → IsWorking lim (slice_index_or team2 k y) × IsFrontVector (slice_index_or team2 k y).state.division.n (slice_index_or team2 k y).front
  pub rings : d.rings ≡ a.rings
  pub row : d.row ≡ a.row
  pub tails : NoneBelow e.tails d.tails
  pub advance : Follows (divide_reached e) (divide_reached d)
  pub answer : d.answer ≡ kept_of x
  pub cause : IsVerdict d.run.state (free_places d) d.spare x × IsAskedInVain e d x

module _ (lim : ℕ) (a c e d : DivideView) (team0 team1 team2 : List WorkerView) (z : RingName) (y : WorkerView) where
  -- where nothing happened each worker that is asked has said all that it can
  all_waited : (x : Verdict) → RoundTaken lim a c e d team0 team1 team2 x → e.run ≡ a.run → d.run ≡ e.run → AllStarved e d → (k : ℕ) → IsAsked d.run.state k → HasWaited d.run.state k
  all_waited x t before after starved k asked =
      let rings : length a.rings ≡ d.run.state.workers = ap (λ (l : List RingName). length l) (sym t.rings) ∙ t.sound.rings_count in
      let l0 : k < length team0 = let i = asked.worker in let m = t.team.members.long in omega (arith, i, m, rings) in
      let l1 : k < length team1 = let m = t.moves.long in omega (arith, m, l0) in
      let l2 : k < length team2 = let m = t.meets.long in omega (arith, m, l1) in
      let w = t.working k y l2 in
      has_waited lim a e d k (slice_index_or team0 k y) (slice_index_or team1 k y) (slice_index_or team2 k y) z record {
        sound = t.sound;
        working = w.0;
        vector = w.1;
        member = t.team.members.each k y l0;
        heard = t.team.told k y l0;
        current = t.team.current k y l0;
        moves = t.moves.each k y l0;
        meets = t.meets.each k y l1;
        before = before;
        after = after;
        rings = t.rings;
        row = t.row;
        tails = t.tails;
        starved = (starved k asked.worker asked.no_head).0;
        rows = asked.rows;
      }

  -- a merge that is as it was has its cause for no answer but a last one
  over_then : (x : Verdict) → RoundTaken lim a c e d team0 team1 team2 x → Some x ≡ kept_of x → d.run.over ≡ false → ⊥
  over_then x t k o = true≢false (sym (t.sound.over ∙ ap is_some (t.answer ∙ sym k)) ∙ o)

  no_answer : (x : Verdict) → RoundTaken lim a c e d team0 team1 team2 x → OneVerdict → e.run ≡ a.run → d.run ≡ e.run → d.spare ≡ e.spare → d.run.over ≡ false → ⊥
  unfolding kept_of IsVerdict
  no_answer Finishes t one before after spare o = over_then Finishes t refl o
  no_answer (HasNone m) t one before after spare o = over_then (HasNone m) t refl o
  no_answer (PassesNorm u) t one before after spare o = over_then (PassesNorm u) t refl o
  no_answer (PassesCount u) t one before after spare o = over_then (PassesCount u) t refl o
  no_answer OutIsFull t one before after spare o = let c = t.cause.0.0 in let r = t.room in omega (arith, c, r, spare)
  no_answer RowIsFull t one before after spare o = pick t.place
    where
      same : d.run ≡ a.run
      same = after ∙ before

      free : free_places d ≡ free_places a
      free = λ i. (t.row i).places - length (same i).notes

      pick : HasPlace a → ⊥
      pick (inl l) = let c = t.cause.0.0 in omega (arith, l, c, free)
      pick (inr h) =
          h.3 (one a.run.state (free_places a) h.0 d.spare h.1 RowIsFull (subst (λ (r : DivideRun). IsAccepted r.state.division) same t.sound.fit.accepted) h.2
          (subst (λ (r : DivideRun). IsVerdict r.state (free_places a) d.spare RowIsFull) same (subst (λ (n : ℕ). IsVerdict d.run.state n d.spare RowIsFull) free t.cause.0)))
  no_answer (IsBlocked w) t one before after spare o =
      let h = t.cause.0.0 in let n = t.cause.0.1 in
      let due = no_stall d.run h.next w t.sound.fit.accepted t.sound.whole h.read (all_waited (IsBlocked w) t before after t.cause.1) h.first.stuck in
      n due.0 due.1

  -- the merge is over, or has come farther
  pub farther : (x : Verdict) → RoundTaken lim a c e d team0 team1 team2 x → OneVerdict → d.run.over ≡ false → progress a.run < progress d.run
  farther x t one o = first t.around t.advance
    where
      over_not : e.run.over ≡ true → Follows (divide_reached e) (divide_reached d) → ⊥
      over_not q (inl f) = true≢false (sym q ∙ ap (λ (r : DivideReach). r.run.over) (sym f) ∙ o)
      over_not q (inr f) = true≢false (sym q ∙ f.0)

      -- nothing happened before the advance
      second : e.run ≡ a.run → Follows (divide_reached e) (divide_reached d) → progress a.run < progress d.run
      second s (inl f) = absurd (no_answer x t one s (ap (λ (r : DivideReach). r.run) f) (ap (λ (r : DivideReach). r.spare) f) o)
      second s (inr f) = step f.1
        where
          step : (d.run.over ≡ true) ⊎ (progress e.run < progress d.run) → progress a.run < progress d.run
          step (inl q) = absurd (true≢false (sym q ∙ o))
          step (inr l) = subst (λ (r : DivideRun). progress r < progress d.run) s l

      no_less : Follows (divide_reached e) (divide_reached d) → progress e.run ≤ progress d.run
      no_less (inl f) = let s = ap (λ (r : DivideReach). progress r.run) f in omega (arith, s)
      no_less (inr f) = step f.1
        where
          step : (d.run.over ≡ true) ⊎ (progress e.run < progress d.run) → progress e.run ≤ progress d.run
          step (inl q) = absurd (true≢false (sym q ∙ o))
          step (inr l) = omega (arith, l)

      first : Follows (divide_reached a) (divide_reached c) → Follows (divide_reached e) (divide_reached d) → progress a.run < progress d.run
      first (inl f) g = second (t.met_run ∙ ap (λ (r : DivideReach). r.run) f) g
      first (inr f) g = step f.1
        where
          step : (c.run.over ≡ true) ⊎ (progress a.run < progress c.run) → progress a.run < progress d.run
          step (inl q) = absurd (over_not (ap (λ (r : DivideRun). r.over) t.met_run ∙ q) g)
          step (inr l) = let s = ap progress t.met_run in let k = no_less g in omega (arith, l, s, k)
