-- One turn of an advance: what is read next is processed, or the merge answers.
use Rattle.std.proofs.Common.{◌≡◌, ◌⊎◌, inl, inr, ℕ, ◌<◌, true, false, true≢false, List, [], ◌∷◌, ◌++◌, length, Option, Some, None, MatchOption, is_some, refl, sym, ap, ◌∙◌, subst, arith, append-nil}
use Rattle.sdmp_laws.specs.Order.{Below, IsUnder}
use Rattle.sdmp_laws.specs.Poly.{Term}
use Rattle.sdmp_laws.specs.Division.{AtOrAbove, AllAtOrBelow}
use Rattle.sdmp_laws.proofs.OrderLemmas.{order_facts}
use Rattle.whole_laws.specs.Notes.{has}
use Rattle.whole_laws.specs.Wholes.{head_terms}
use Rattle.divide_wholes.specs.Row.{RowTerm, RowFront}
use Rattle.divide_wholes.specs.Wholes.{DivideState, processed, found, kept}
use Rattle.dividing_rounds.specs.Runs.{DivideRun, run_zero, run_rest, run_found, run_front, run_over}
use Rattle.dividing_rounds.specs.Rounds.{progress}
use Rattle.dividing_rounds.specs.Stalls.{IsGreatestRead, IsAsked, IsStuck, IsLow, IsDue, mark_of, TopWithin}
use Rattle.divide_merge.specs.Verdicts.{Verdict, Finishes, HasNone, PassesNorm, PassesCount, IsBlocked, RowIsFull, OutIsFull, IsVerdict, IsFinal, kept_of, HoldsUp, IsFirstStuck, NoneStuck, IsTermDue, IsLeftOver, with_term}
use Rattle.sdmp_laws.specs.Limits.{Passes, PassesBound, quotient_terms_limit}
use Rattle.sdmp_laws.specs.declared.Mode.TheVariants.{Exact, Remainder}
use Rattle.divide_merge.specs.Merges.{DivideView, IsSound, free_places}
use Rattle.divide_merge.specs.Reached.{divide_reached, Follows-itself}
use Rattle.divide_merge.specs.Inside.{vector_of}
use Rattle.divide_merge.specs.Reading.{IsReadNext, next_mono}
use Rattle.divide_merge.specs.declared.mark.Next.{Next}
use Rattle.divide_merge.specs.Steps.{PassesOver, FindsTerm, KeepsTerm, PublishesFront, EndsWith, Turns}
use Rattle.dividing_rounds.proofs.RoundLemmas.{progress_rises}
use Rattle.divide_merge.proofs.OneAnswer.{at_has}
use Rattle.divide_merge.proofs.Reserving.{final_anywhere}
use Rattle.divide_merge.proofs.Following.{RowGrows-refl, row_same, row_longer}

-- a final answer is kept
pub final_kept : (x : Verdict) → IsFinal x → kept_of x ≡ Some x
unfolding IsFinal kept_of
final_kept Finishes f = refl
final_kept (HasNone m) f = refl
final_kept (PassesNorm t) f = refl
final_kept (PassesCount t) f = refl
final_kept (IsBlocked w) f = absurd f
final_kept RowIsFull f = absurd f
final_kept OutIsFull f = absurd f

module _ (lim : ℕ) (a b : DivideView) (s : IsSound lim a) (going : a.answer ≡ None) where
  -- it isn't over
  not_over : a.run.over ≡ false
  not_over = s.over ∙ ap (λ (o : Option Verdict). is_some o) going

  -- ---- a monomial was processed
  pub turns_pass : (x : List ℕ) → PassesOver a b x → Turns a b None
  unfolding run_zero processed
  turns_pass x p = record {
    steady = p.steady;
    workers = ap (λ (r : DivideRun). r.state.workers) p.run;
    division = ap (λ (r : DivideRun). r.state.division) p.run;
    start = ap (λ (r : DivideRun). r.state.start) p.run;
    taken = ap (λ (r : DivideRun). r.state.taken) p.run;
    row_grows = row_same a.run b.run (ap (λ (r : DivideRun). r.notes) p.run) (ap (λ (r : DivideRun). r.state.front) p.run);
    found = [];
    kept = [];
    q = ap (λ (r : DivideRun). r.state.q) p.run ∙ sym (append-nil a.run.state.q);
    r = ap (λ (r : DivideRun). r.state.r) p.run ∙ sym (append-nil a.run.state.r);
    spare = let e = p.spare in omega arith;
    ends = tt;
    goes_on = λ _. record {
      processed = ap (λ (r : DivideRun). r.processed_count) p.run;
      farther = let e = ap progress p.run in let k = (progress_rises a.run).1 x in omega arith;
      answer = p.answer ∙ going;
    };
  }

  pub turns_find : (x : List ℕ) (t : Term) → FindsTerm a b x t → Turns a b None
  unfolding run_found processed found
  turns_find x t p = record {
    steady = p.steady;
    workers = ap (λ (r : DivideRun). r.state.workers) p.run;
    division = ap (λ (r : DivideRun). r.state.division) p.run;
    start = ap (λ (r : DivideRun). r.state.start) p.run;
    taken = ap (λ (r : DivideRun). r.state.taken) p.run;
    row_grows = row_longer a.run b.run (RowTerm t) (ap (λ (r : DivideRun). r.notes) p.run);
    found = t ∷ [];
    kept = [];
    q = ap (λ (r : DivideRun). r.state.q) p.run;
    r = ap (λ (r : DivideRun). r.state.r) p.run ∙ sym (append-nil a.run.state.r);
    spare = let e = p.spare in omega arith;
    ends = tt;
    goes_on = λ _. record {
      processed = ap (λ (r : DivideRun). r.processed_count) p.run;
      farther = let e = ap progress p.run in let k = (progress_rises a.run).3 x t in omega arith;
      answer = p.answer ∙ going;
    };
  }

  pub turns_keep : (x : List ℕ) → KeepsTerm a b x → Turns a b None
  unfolding run_rest processed kept
  turns_keep x p = record {
    steady = p.steady;
    workers = ap (λ (r : DivideRun). r.state.workers) p.run;
    division = ap (λ (r : DivideRun). r.state.division) p.run;
    start = ap (λ (r : DivideRun). r.state.start) p.run;
    taken = ap (λ (r : DivideRun). r.state.taken) p.run;
    row_grows = row_same a.run b.run (ap (λ (r : DivideRun). r.notes) p.run) (ap (λ (r : DivideRun). r.state.front) p.run);
    found = [];
    kept = _ ∷ [];
    q = ap (λ (r : DivideRun). r.state.q) p.run ∙ sym (append-nil a.run.state.q);
    r = ap (λ (r : DivideRun). r.state.r) p.run;
    spare = let e = p.spare in omega arith;
    ends = tt;
    goes_on = λ _. record {
      processed = ap (λ (r : DivideRun). r.processed_count) p.run;
      farther = let e = ap progress p.run in let k = (progress_rises a.run).2 x in omega arith;
      answer = p.answer ∙ going;
    };
  }

  -- ---- the merge is over
  pub turns_end : (x : Verdict) → IsFinal x → IsVerdict a.run.state (free_places a) a.spare x → EndsWith a b x → Turns a b (Some x)
  unfolding run_over kept_of IsFinal IsVerdict
  turns_end x f v p = record {
    steady = p.steady;
    workers = ap (λ (r : DivideRun). r.state.workers) p.run;
    division = ap (λ (r : DivideRun). r.state.division) p.run;
    start = ap (λ (r : DivideRun). r.state.start) p.run;
    taken = ap (λ (r : DivideRun). r.state.taken) p.run;
    row_grows = row_same a.run b.run (ap (λ (r : DivideRun). r.notes) p.run) (ap (λ (r : DivideRun). r.state.front) p.run);
    found = [];
    kept = [];
    q = ap (λ (r : DivideRun). r.state.q) p.run ∙ sym (append-nil a.run.state.q);
    r = ap (λ (r : DivideRun). r.state.r) p.run ∙ sym (append-nil a.run.state.r);
    spare = let e = p.spare in omega arith;
    ends = record {
      cause = subst (λ (u : DivideState). IsVerdict u (free_places b) b.spare x) (sym (ap (λ (r : DivideRun). r.state) p.run)) (final_anywhere x a.run.state _ _ _ _ f v);
      answer = p.answer ∙ sym (final_kept x f);
      heads = ap (λ (r : DivideRun). r.state.heads) p.run;
      follows = inr (not_over, inl (ap (λ (r : DivideRun). r.over) p.run), row_same a.run b.run (ap (λ (r : DivideRun). r.notes) p.run) (ap (λ (r : DivideRun). r.state.front) p.run));
    };
    goes_on = λ e. absurd (true≢false (ap (λ (o : Option Verdict). is_some o) e));
  }

-- ---- a front that is due
-- what was read, and the tops of the asked workers, are at one bound or below, at which one of them stands
pub reached_below : (s : DivideState) (x y : List ℕ) → (has x (s.unread ++ head_terms s.heads) ≡ true) ⊎ ((w : ℕ) × IsAsked s w × ((mark_of s w).1 ≡ Some x)) → IsDue s y → AtOrAbove s.division.ord x y
unfolding TopWithin
reached_below s x y (inl h) d = at_has s.division.ord x y (s.unread ++ head_terms s.heads) h d.read_below
reached_below s x y (inr w) d = subst (TopWithin s.division.ord y) w.2 (d.tops_below w.0 w.1)

-- a front that isn't above the bound at which it was due leaves none due
front_done : (s : DivideState) (x y z : List ℕ) → IsDue s x → AtOrAbove s.division.ord y x → (has z (s.unread ++ head_terms s.heads) ≡ true) ⊎ ((w : ℕ) × IsAsked s w × ((mark_of s w).1 ≡ Some z))
    → AllAtOrBelow s.division.ord z (s.unread ++ head_terms s.heads) → ((w : ℕ) → IsAsked s w → TopWithin s.division.ord z (mark_of s w).1) → Below s.division.ord z y → ⊥
unfolding TopWithin
front_done s x y z d no_higher reached read tops under =
    let back : AtOrAbove s.division.ord x z = pick d.reached in
    let b = below_at_or (order_below no_higher under) back in
    (order_facts s.division.ord).irreflexive z b
  where
    pick : (has x (s.unread ++ head_terms s.heads) ≡ true) ⊎ ((w : ℕ) × IsAsked s w × ((mark_of s w).1 ≡ Some x)) → AtOrAbove s.division.ord x z
    pick (inl h) = at_has s.division.ord x z (s.unread ++ head_terms s.heads) h read
    pick (inr w) = subst (TopWithin s.division.ord z) w.2 (tops w.0 w.1)

    -- z is below y, hence below x
    order_below : AtOrAbove s.division.ord y x → Below s.division.ord z y → Below s.division.ord z x
    order_below (inl e) l = subst (Below s.division.ord z) e l
    order_below (inr k) l = (order_facts s.division.ord).transitive z y x l k

    below_at_or : Below s.division.ord z x → AtOrAbove s.division.ord x z → Below s.division.ord z z
    below_at_or l (inl e) = subst (Below s.division.ord z) e l
    below_at_or l (inr k) = (order_facts s.division.ord).transitive z x z l k

module _ (lim : ℕ) (a b : DivideView) (s : IsSound lim a) (going : a.answer ≡ None) where
  still : a.run.over ≡ false
  still = s.over ∙ ap (λ (o : Option Verdict). is_some o) going

  -- the merge answers, and nothing was done
  pub turns_same : (x : Verdict) → b ≡ a → kept_of x ≡ None → IsVerdict a.run.state (free_places a) a.spare x → Turns a b (Some x)
  turns_same x e k v = subst (λ (c : DivideView). Turns a c (Some x)) (sym e) (record {
    steady = record { rings = refl; row = refl; tails = refl; looks = refl };
    workers = refl;
    division = refl;
    start = refl;
    taken = refl;
    row_grows = RowGrows-refl a.run;
    found = [];
    kept = [];
    q = sym (append-nil a.run.state.q);
    r = sym (append-nil a.run.state.r);
    spare = omega arith;
    ends = record { cause = v; answer = going ∙ sym k; heads = refl; follows = Follows-itself (divide_reached a) };
    goes_on = λ f. absurd (true≢false (ap (λ (o : Option Verdict). is_some o) f));
  })

  -- a front was published, and a worker is waited for
  pub turns_front : (x : List ℕ) (w : ℕ) → PublishesFront a b x → IsDue a.run.state x → HoldsUp a.run.state w → Turns a b (Some (IsBlocked w))
  unfolding run_front kept_of IsVerdict IsUnder IsLow
  turns_front x w p d h = record {
    steady = p.steady;
    workers = ap (λ (r : DivideRun). r.state.workers) p.run;
    division = ap (λ (r : DivideRun). r.state.division) p.run;
    start = ap (λ (r : DivideRun). r.state.start) p.run;
    taken = ap (λ (r : DivideRun). r.state.taken) p.run;
    row_grows = row_longer a.run b.run (RowFront p.front) (ap (λ (r : DivideRun). r.notes) p.run);
    found = [];
    kept = [];
    q = ap (λ (r : DivideRun). r.state.q) p.run ∙ sym (append-nil a.run.state.q);
    r = ap (λ (r : DivideRun). r.state.r) p.run ∙ sym (append-nil a.run.state.r);
    spare = let e = p.spare in omega arith;
    ends = record {
      cause = subst (λ (t : DivideState). IsVerdict t (free_places b) b.spare (IsBlocked w)) (sym (ap (λ (r : DivideRun). r.state) p.run)) (held, none);
      answer = p.answer ∙ going;
      heads = ap (λ (r : DivideRun). r.state.heads) p.run;
      follows = inr (still, inr (let e = ap progress p.run in let k = (progress_rises a.run).4 p.front in omega arith), row_longer a.run b.run (RowFront p.front) (ap (λ (r : DivideRun). r.notes) p.run));
    };
    goes_on = λ e. absurd (true≢false (ap (λ (o : Option Verdict). is_some o) e));
  }
    where
      stuck : (m : Option (List ℕ)) (v : ℕ) → IsStuck a.run.state m v → IsStuck (record a.run.state { front = Some p.front }) m v
      stuck m v k = record { asked = record { worker = k.asked.worker; no_head = k.asked.no_head; rows = k.asked.rows }; waits = λ c l. k.waits c l }

      back : (m : Option (List ℕ)) (v : ℕ) → IsStuck (record a.run.state { front = Some p.front }) m v → IsStuck a.run.state m v
      back m v k = record { asked = record { worker = k.asked.worker; no_head = k.asked.no_head; rows = k.asked.rows }; waits = λ c l. k.waits c l }

      held : HoldsUp (record a.run.state { front = Some p.front }) w
      held = record {
        next = h.next;
        read = h.read;
        first = record { stuck = stuck h.next w h.first.stuck; first = λ v l k. h.first.first v l (back h.next v k) };
      }

      asked : (v : ℕ) → IsAsked (record a.run.state { front = Some p.front }) v → IsAsked a.run.state v
      asked v k = record { worker = k.worker; no_head = k.no_head; rows = k.rows }

      unasked : (v : ℕ) → IsAsked a.run.state v → IsAsked (record a.run.state { front = Some p.front }) v
      unasked v k = record { worker = k.worker; no_head = k.no_head; rows = k.rows }

      none : (z : List ℕ) → IsDue (record a.run.state { front = Some p.front }) z → ⊥
      none z k = front_done a.run.state x p.front z d p.no_higher (reached k.reached) k.read_below (λ v i. k.tops_below v (unasked v i)) k.lower
        where
          reached : (has z (a.run.state.unread ++ head_terms a.run.state.heads) ≡ true) ⊎ ((v : ℕ) × IsAsked (record a.run.state { front = Some p.front }) v × ((mark_of a.run.state v).1 ≡ Some z)) → (has z (a.run.state.unread ++ head_terms a.run.state.heads) ≡ true) ⊎ ((v : ℕ) × IsAsked a.run.state v × ((mark_of a.run.state v).1 ≡ Some z))
          reached (inl i) = inl i
          reached (inr v) = inr (v.0, asked v.0 v.1, v.2)

  -- ---- answers where nothing was done
  pub same_blocked : (w : ℕ) (m : Option (List ℕ)) → IsGreatestRead a.run.state m → IsFirstStuck a.run.state m w → ((x : List ℕ) → IsDue a.run.state x → ⊥) → b ≡ a → Turns a b (Some (IsBlocked w))
  unfolding kept_of IsVerdict
  same_blocked w m read first none e = turns_same (IsBlocked w) e refl (record { next = m; read = read; first = first }, none)

  pub same_row_front : (w : ℕ) (m : Option (List ℕ)) (x : List ℕ) → IsGreatestRead a.run.state m → IsFirstStuck a.run.state m w → IsDue a.run.state x → free_places a ≡ 0 → b ≡ a → Turns a b (Some RowIsFull)
  unfolding kept_of IsVerdict
  same_row_front w m x read first due free e =
      turns_same RowIsFull e refl (free, inl (record { worker = w; held = record { next = m; read = read; first = first }; bound = x; due = due }))

  pub same_row_term : (t : Term) → IsTermDue a.run.state t → (PassesBound a.run.state.division (with_term a.run.state t) → ⊥) → free_places a ≡ 0 → b ≡ a → Turns a b (Some RowIsFull)
  unfolding kept_of IsVerdict
  same_row_term t due within free e = turns_same RowIsFull e refl (free, inr (t, record { due = due; within = within }))

  pub same_out_term : (t : Term) → IsTermDue a.run.state t → (PassesBound a.run.state.division (with_term a.run.state t) → ⊥) → 0 < free_places a → a.spare ≡ 0 → b ≡ a → Turns a b (Some OutIsFull)
  unfolding kept_of IsVerdict
  same_out_term t due within free spare e = turns_same OutIsFull e refl (spare, inl (t, record { due = due; within = within }, free))

  pub same_out_rest : (x : List ℕ) → a.run.state.division.mode ≡ Remainder → IsLeftOver a.run.state x → a.spare ≡ 0 → b ≡ a → Turns a b (Some OutIsFull)
  unfolding kept_of IsVerdict
  same_out_rest x mode left spare e = turns_same OutIsFull e refl (spare, inr (mode, (x, left)))

-- ---- last answers
module _ (s : DivideState) (free spare : ℕ) where
  pub last_finished : IsGreatestRead s None → NoneStuck s None → IsFinal Finishes × IsVerdict s free spare Finishes
  unfolding IsFinal IsVerdict
  last_finished read heard = (tt, (read, heard))

  pub last_none : (x : List ℕ) → s.division.mode ≡ Exact → IsLeftOver s x → IsFinal (HasNone x) × IsVerdict s free spare (HasNone x)
  unfolding IsFinal IsVerdict
  last_none x mode left = (tt, (mode, left))

  pub last_norm : (t : Term) → IsTermDue s t → Passes s.division (with_term s t) → IsFinal (PassesNorm t) × IsVerdict s free spare (PassesNorm t)
  unfolding IsFinal IsVerdict
  last_norm t due passes = (tt, (due, passes))

  pub last_count : (t : Term) → IsTermDue s t → (Passes s.division (with_term s t) → ⊥) × (length (with_term s t) ≡ quotient_terms_limit) → IsFinal (PassesCount t) × IsVerdict s free spare (PassesCount t)
  unfolding IsFinal IsVerdict
  last_count t due passes = (tt, (due, passes.0, passes.1))

-- ---- what is read next
module _ {M : Type 0} (vector : M → List ℕ) (s : DivideState) where
  greatest_next : (next : Option (Next M)) → MatchOption next (IsGreatestRead s None) (λ x. IsReadNext vector s x) → IsGreatestRead s (vector_of vector (next_mono next))
  greatest_next None k = k
  greatest_next (Some x) k = k.greatest

  pub read_mono : (next : Option (Next M)) (mono : Option M) → mono ≡ next_mono next → MatchOption next (IsGreatestRead s None) (λ x. IsReadNext vector s x) → IsGreatestRead s (vector_of vector mono)
  read_mono next mono e k = subst (λ (m : Option M). IsGreatestRead s (vector_of vector m)) (sym e) (greatest_next next k)

  pub heard_mono : (mono other : Option M) → mono ≡ other → NoneStuck s (vector_of vector mono) → NoneStuck s (vector_of vector other)
  heard_mono mono other e = subst (λ (m : Option M). NoneStuck s (vector_of vector m)) e
