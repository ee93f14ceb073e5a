-- What a round tells of its merge and of its workers.
use Rattle.std.proofs.Common.{◌≡◌, inl, inr, ℕ, ◌-◌, ◌<◌, false, true≢false, List, length, slice_index_or, Option, Some, None, IfSome, refl, sym, ap, ◌∙◌, subst, arith}
use Rattle.std.specs.Option.{is_some}
use Rattle.term_ring.specs.Names.{RingName}
use Rattle.dividing_rounds.specs.Runs.{DivideRun}
use Rattle.dividing_rounds.specs.Rounds.{progress}
use Rattle.divide_merge.specs.Names.{RowIdentity, first_division}
use Rattle.divide_merge.specs.Verdicts.{Verdict, IsVerdict, IsFinal, kept_of}
use Rattle.divide_merge.specs.Merges.{DivideView, IsSound, free_places}
use Rattle.divide_merge.specs.Reached.{DivideReach, divide_reached, RowGrows, Follows}
use Rattle.divide_merge.proofs.Following.{RowGrows-refl, RowGrows-trans, prefix_nil}
use Rattle.divide_merge.proofs.OneAnswer.{one_verdict}
use Rattle.divide_merge.proofs.Turning.{final_kept}
use Rattle.divide_workers.specs.Fronts.{PlainFront, front_mono}
use Rattle.divide_workers.specs.Views.{WorkerView}
use Rattle.divide_workers.specs.Rounds.{AllMove, AreMembers, IsTeam, IsUpToDate, HasPlace, Settles, IsRound}
use Rattle.divide_workers.proofs.Falling.{IsFrontVector}
use Rattle.divide_workers.proofs.Hearing.{its_division}
use Rattle.divide_workers.proofs.Rounding.{RoundTaken, farther}
use Rattle.divide_workers.proofs.Teams.{members_move, members_meet, meeting_tells, up_to_date}
use Rattle.divide_workers.proofs.Bounding.{a_worker}

front_vector : (n : ℕ) (front : Option PlainFront) → IfSome (front_mono front) (λ m. length m ≡ n) → IsFrontVector n front
unfolding IsFrontVector
front_vector n None h = tt
front_vector n (Some f) h = h

follows_row : (a b : DivideReach) → Follows a b → RowGrows a.run b.run
follows_row a b (inl e) = subst (λ (r : DivideRun). RowGrows a.run r) (ap (λ (r : DivideReach). r.run) (sym e)) (RowGrows-refl a.run)
follows_row a b (inr h) = h.2

-- the workers of team0 made their calls around the merge a, which left them as team1 and it as c; b is c with room for a term, and f what settling left of it
pub record IsTaken (lim : ℕ) (a c b f : DivideView) (team0 team1 team3 : List WorkerView) (x : Verdict) : Type 0 where
  pub began : IsSound lim a
  pub ended : IsSound lim f
  pub team : IsTeam a team0
  pub place : HasPlace a
  pub around : Follows (divide_reached a) (divide_reached c)
  pub moves : AllMove team0 team1
  pub run : b.run ≡ c.run
  pub room : 0 < b.spare
  pub rings : b.rings ≡ a.rings
  pub row : b.row ≡ a.row
  pub settles : Settles lim b f team1 team3 x
  pub end_rings : f.rings ≡ b.rings
  pub end_row : f.row ≡ b.row

module _ (lim : ℕ) (a c b f : DivideView) (team0 team1 team3 : List WorkerView) (x : Verdict) (t : IsTaken lim a c b f team0 team1 team3 x) where
  abbrev e : DivideView
  e = t.settles.met

  abbrev d : DivideView
  d = t.settles.advanced

  abbrev team2 : List WorkerView
  team2 = t.settles.team

  taken : RoundTaken lim a c e d team0 team1 team2 x
  taken = record {
    sound = t.settles.sound;
    team = t.team;
    place = t.place;
    around = t.around;
    met_run = t.settles.met_run ∙ t.run;
    room = let r = t.room in let s = t.settles.met_spare in omega (arith, r, s);
    moves = t.moves;
    meets = t.settles.first;
    working = λ k y l. let w = t.settles.workers k y l in (w.working, front_vector (slice_index_or team2 k y).state.division.n (slice_index_or team2 k y).front w.front);
    rings = t.settles.rings ∙ t.rings;
    row = t.settles.row ∙ t.row;
    tails = t.settles.tails;
    advance = t.settles.advance;
    answer = t.settles.answer;
    cause = t.settles.cause;
  }

  rings : f.rings ≡ a.rings
  rings = t.end_rings ∙ t.rings

  row : f.row ≡ a.row
  row = t.end_row ∙ t.row

  -- ---- the answer
  cause : IsVerdict f.run.state (free_places f) f.spare x
  cause =
      let free : free_places d ≡ free_places f = λ i. ((t.settles.row ∙ sym t.end_row) i).places - length (sym t.settles.run i).notes in
      subst (λ (n : ℕ). IsVerdict f.run.state n f.spare x) free
      (subst (λ (n : ℕ). IsVerdict f.run.state (free_places d) n x) (sym t.settles.spare) (subst (λ (r : DivideRun). IsVerdict r.state (free_places d) d.spare x) (sym t.settles.run) t.settles.cause.0))

  answer : f.answer ≡ kept_of x
  answer = pick f.answer refl
    where
      none_kept : (o : Option Verdict) → is_some o ≡ false → o ≡ None
      none_kept None e = refl
      none_kept (Some y) e = absurd (true≢false e)

      pick : (o : Option Verdict) → f.answer ≡ o → f.answer ≡ kept_of x
      pick None e = e ∙ sym (sym t.settles.answer ∙ none_kept d.answer (sym t.settles.sound.over ∙ ap (λ (r : DivideRun). r.over) (sym t.settles.run) ∙ t.ended.over ∙ ap is_some e))
      pick (Some y) e =
          let h : IfSome (Some y) (λ z. IsFinal z × IsVerdict f.run.state (free_places f) f.spare z) = subst (λ (o : Option Verdict). IfSome o (λ z. IsFinal z × IsVerdict f.run.state (free_places f) f.spare z)) e t.ended.cause in
          let same : y ≡ x = one_verdict f.run.state (free_places f) f.spare f.spare y x t.ended.fit.accepted h.1 cause in
          e ∙ ap (λ (z : Verdict). Some z) same ∙ sym (final_kept x (subst IsFinal same h.0))

  -- ---- how far it has come
  some : 0 < length team0
  some = let m = t.team.members.long in let r = t.began.rings_count in let s = t.began.some in omega (arith, m, r, s)

  pub round_is : IsRound a f x
  round_is = record {
    answer = answer;
    cause = cause;
    farther = λ o.
        let v = a_worker team0 some in
        subst (λ (r : DivideRun). progress a.run < progress r) (sym t.settles.run) (farther lim a c e d team0 team1 team2 v.ring v x taken one_verdict (ap (λ (r : DivideRun). r.over) (sym t.settles.run) ∙ o));
  }

  -- ---- the workers
  grows : RowGrows a.run f.run
  grows =
      subst (λ (r : DivideRun). RowGrows a.run r) (sym t.settles.run)
      (RowGrows-trans a.run e.run d.run (subst (λ (r : DivideRun). RowGrows a.run r) (sym (t.settles.met_run ∙ t.run)) (follows_row (divide_reached a) (divide_reached c) t.around)) (follows_row (divide_reached e) (divide_reached d) t.settles.advance))

  members2 : AreMembers a.rings a.row team2
  members2 = members_meet e a.rings a.row team1 team2 t.settles.first (members_move a.rings a.row team0 team1 t.moves t.team.members)

  current : (k : ℕ) (y : WorkerView) → k < length team3 → IsUpToDate f (slice_index_or team3 k y)
  current k y l =
      let m3 = t.settles.second.long in let m2 = t.settles.first.long in let m1 = t.moves.long in
      let l2 : k < length team2 = omega (arith, l, m3) in
      let l1 : k < length team1 = omega (arith, l2, m2) in
      let l0 : k < length team0 = omega (arith, l1, m1) in
      let v0 = slice_index_or team0 k y in
      let v1 = slice_index_or team1 k y in
      let v2 = slice_index_or team2 k y in
      let v3 = slice_index_or team3 k y in
      let moves = t.moves.each k y l0 in
      let first = t.settles.first.each k y l1 in
      let start : f.run.state.start ≡ a.run.state.start = sym t.ended.row_start ∙ ap (λ (r : RowIdentity). r.name.start) row ∙ t.began.row_start in
      let division : f.run.state.division ≡ a.run.state.division = t.ended.division ∙ ap first_division rings ∙ sym t.began.division in
      let its = its_division lim a v2 y.ring k t.began (t.settles.workers k y l2).working (members2.each k y l2) in
      up_to_date a e f v0 v1 v2 v3 record {
        moves = moves;
        first = first;
        second = t.settles.second.each k y l2;
        current = t.team.current k y l0;
        start = start;
        row_start = ap (λ (r : RowIdentity). r.name.start) (t.team.members.each k y l0).row_is ∙ t.began.row_start;
        division = division;
        mine = sym moves.works.division ∙ ap (λ (v : WorkerView). v.state.division) (sym first.same) ∙ its.0;
        still = λ none. (prefix_nil a.run.notes f.run.notes grows.notes none, grows.front none);
      }

  pub round_team : IsTeam f team3
  round_team = record {
    members = subst (λ (r : RowIdentity). AreMembers f.rings r team3) (sym row) (subst (λ (n : List RingName). AreMembers n a.row team3) (sym rings) (members_meet f a.rings a.row team2 team3 t.settles.second members2));
    told = meeting_tells f team2 team3 t.settles.second;
    current = current;
  }
