-- How a round follows the one before it, and how many rounds there are.
use Rattle.std.proofs.Common.{◌≡◌, ◌≢◌, inl, inr, ℕ, ◌+◌, ◌-◌, ◌*◌, ◌<◌, ◌≤◌, false, List, [], All, length, get_or, Some, refl, sym, ap, ◌∙◌, subst, arith}
use Rattle.std.specs.Option.{is_some}
use Rattle.std.proofs.Math.Nat.{mul-le-mul}
use mathlib.Core.List.{IsPrefix}
use Rattle.sdmp_laws.specs.Division.{Division}
use Rattle.sdmp_laws.specs.LongDivision.{quotient_list}
use Rattle.whole_laws.specs.Wholes.{notes_of}
use Rattle.divide_wholes.specs.Row.{row_terms}
use Rattle.term_ring.specs.Names.{RingName}
use Rattle.term_ring.proofs.Lists.{prefix_length}
use Rattle.dividing_rounds.specs.Runs.{DivideRun, workload_count, run_row}
use Rattle.dividing_rounds.specs.Rounds.{progress, most_rounds}
use Rattle.dividing_rounds.specs.Stalls.{IsLowered}
use Rattle.dividing_rounds.proofs.RoundLemmas.{progress_fits, progress_rises}
use Rattle.divide_merge.specs.Names.{RowIdentity, first_division}
use Rattle.divide_merge.specs.Verdicts.{Verdict, Finishes, HasNone, PassesNorm, PassesCount, IsBlocked, RowIsFull, OutIsFull, IsVerdict, kept_of}
use Rattle.divide_merge.specs.Merges.{DivideView, IsSound}
use Rattle.divide_workers.specs.Fronts.{front_mono}
use Rattle.divide_workers.specs.Views.{WorkerView}
use Rattle.divide_workers.specs.Working.{IsWorking}
use Rattle.divide_workers.specs.Rounds.{AreMembers, IsTeam, HasPlace, IsRound, next_of, rounds_bound}
use Rattle.divide_workers.specs.declared.rounds.Next.TheVariants.{Over, Row, Round}
use Rattle.divide_workers.proofs.Bounding.{all_fit, a_worker}

-- ---- a merge with more room
module _ (a b : DivideView) (run : b.run ≡ a.run) (row : b.row ≡ a.row) where
  pub team_still : (team : List WorkerView) → b.rings ≡ a.rings → IsTeam a team → IsTeam b team
  team_still team rings t = record {
    members = subst (λ (r : RowIdentity). AreMembers b.rings r team) (sym row) (subst (λ (l : List RingName). AreMembers l a.row team) (sym rings) t.members);
    told = λ k d lt.
        let h = t.told k d lt in let v = get_or team k d in record {
          taken = subst (λ (r : DivideRun). IsPrefix (notes_of r.state.taken v.state.worker) v.state.sent) (sym run) h.taken;
          head = subst (λ (r : DivideRun). length (notes_of r.state.taken v.state.worker) ≤ v.head) (sym run) h.head;
          count = subst (λ (r : DivideRun). length r.notes ≤ v.count) (sym run) h.count;
          notes = subst (λ (r : DivideRun). IsPrefix v.notes r.notes) (sym run) h.notes;
        };
    current = λ k d lt.
        let h = t.current k d lt in let v = get_or team k d in record {
          learned = λ r. subst (λ (r : DivideRun). length v.state.known ≡ r.state.start + length (row_terms v.notes)) (sym run) (h.learned r);
          few = subst (λ (r : DivideRun). length v.state.known ≤ r.state.start + length (row_terms v.notes)) (sym run) h.few;
          room = h.room;
          fronted = λ r. subst (λ (r : DivideRun). r.notes ≡ [] → IsLowered r.state.division.ord (front_mono v.front) r.state.front) (sym run) (h.fronted r);
        };
  }

  pub place_still : HasPlace a → HasPlace b
  place_still (inl l) = inl (let n = ap (λ (r : DivideRun). length r.notes) run in let p = ap (λ (r : RowIdentity). r.places) row in omega (arith, l, n, p))
  place_still (inr h) = inr
      (h.0, h.1, subst (λ (r : RowIdentity). IsVerdict b.run.state (r.places - length b.run.notes) h.0 h.1) (sym row) (subst (λ (r : DivideRun). IsVerdict r.state (a.row.places - length r.notes) h.0 h.1) (sym run) h.2), h.3)

-- ---- after a round
kept_over : (x : Verdict) → next_of x ≡ Over → kept_of x ≡ Some x
unfolding kept_of
kept_over Finishes e = refl
kept_over (HasNone m) e = refl
kept_over (PassesNorm t) e = refl
kept_over (PassesCount t) e = refl
kept_over (IsBlocked w) e = absurd (cc e)
kept_over RowIsFull e = absurd (cc e)
kept_over OutIsFull e = absurd (cc e)

none_kept : (x : Verdict) → next_of x ≢ Over → is_some (kept_of x) ≡ false
unfolding kept_of
none_kept Finishes n = absurd (n refl)
none_kept (HasNone m) n = absurd (n refl)
none_kept (PassesNorm t) n = absurd (n refl)
none_kept (PassesCount t) n = absurd (n refl)
none_kept (IsBlocked w) n = refl
none_kept RowIsFull n = refl
none_kept OutIsFull n = refl

pub row_not_over : (x : Verdict) → next_of x ≡ Row → next_of x ≢ Over
row_not_over x e o = let f : Row ≡ Over = sym e ∙ o in absurd (cc f)

pub round_not_over : (x : Verdict) → next_of x ≡ Round → next_of x ≢ Over
round_not_over x e o = let f : Round ≡ Over = sym e ∙ o in absurd (cc f)

not_full : (x : Verdict) → next_of x ≡ Round → x ≢ RowIsFull
not_full x e is = let f : Row ≡ Round = sym (ap next_of is) ∙ e in absurd (cc f)

module _ (a b : DivideView) (x : Verdict) (r : IsRound a b x) where
  -- the merge is over, and keeps its answer
  pub over_after : next_of x ≡ Over → b.answer ≡ Some x
  over_after e = r.answer ∙ kept_over x e

  -- another round has what it needs
  pub place_after : next_of x ≡ Round → HasPlace b
  place_after e = inr (b.spare, x, r.cause, not_full x e)

  -- unless the merge is over it has come farther
  pub farther_after : (lim : ℕ) → IsSound lim b → next_of x ≢ Over → progress a.run < progress b.run
  farther_after lim s n = r.farther (s.over ∙ ap is_some r.answer ∙ none_kept x n)

-- ---- a new row
-- it has a place
pub place_new : (m n : DivideView) (places : ℕ) → n.run ≡ run_row m.run → n.row.places ≡ places → 0 < places → HasPlace n
unfolding run_row
place_new m n places run row some = inl (let none : length n.run.notes ≡ 0 = ap (λ (r : DivideRun). length r.notes) run in omega (arith, none, row, some))

-- and leaves the progress
pub progress_new : (m n : DivideView) → n.run ≡ run_row m.run → progress n.run ≡ progress m.run
progress_new m n run = ap progress run ∙ (progress_rises m.run).5

-- ---- the bound
most_more : (d : Division) (W m n : ℕ) → m ≤ n → most_rounds d W m ≤ most_rounds d W n
unfolding most_rounds workload_count
most_more d W m n l = count (length d.f) (length d.g - 1) (m * (length d.g - 1)) (n * (length d.g - 1)) (W * (m + 1)) (W * (n + 1)) (mul-le-mul l (omega arith)) (mul-le-mul (omega arith) (omega (arith, l)))
  where
    count : (f g p q v w : ℕ) → p ≤ q → v ≤ w → 1 + 4 * (f + p) + m + v ≤ 1 + 4 * (f + q) + n + w
    count f g p q v w h k = omega (arith, l, h, k)

-- the progress of a merge with its team is below the bound
progress_below : (lim : ℕ) (m : DivideView) (team : List WorkerView) → IsSound lim m → IsTeam m team → All (IsWorking lim) team → progress m.run < rounds_bound m.run.state.division m.run.state.workers
progress_below lim m team s t working =
    let y = a_worker team (let a = t.members.long in let b = s.rings_count in let c = s.some in omega (arith, a, b, c)) in
    let p = progress_fits m.run s.some s.whole (all_fit lim m team y.ring y s t (λ k l. working k y l)) in
    let l = most_more m.run.state.division m.run.state.workers (length m.run.state.q) (length (quotient_list m.run.state.division)) (prefix_length m.run.state.q (quotient_list m.run.state.division) s.whole.whole.quotient) in
    omega (arith, p, l)

-- merges of the same rings make one division with as many workers
same_division : (lim : ℕ) (a b : DivideView) → IsSound lim a → IsSound lim b → b.rings ≡ a.rings → b.run.state.division ≡ a.run.state.division
same_division lim a b s t e = t.division ∙ ap first_division e ∙ sym s.division

same_bound : (lim : ℕ) (a b : DivideView) → IsSound lim a → IsSound lim b → b.rings ≡ a.rings → rounds_bound b.run.state.division b.run.state.workers ≡ rounds_bound a.run.state.division a.run.state.workers
same_bound lim a b s t e =
    ap (λ (d : Division). rounds_bound d b.run.state.workers) (same_division lim a b s t e)
    ∙ ap (rounds_bound a.run.state.division) (sym t.rings_count ∙ ap (λ (l : List RingName). length l) e ∙ s.rings_count)

-- the bound is that of the first merge
pub progress_within : (lim : ℕ) (first m : DivideView) (team : List WorkerView) → IsSound lim first → IsSound lim m → m.rings ≡ first.rings → IsTeam m team → All (IsWorking lim) team → progress m.run < rounds_bound first.run.state.division first.run.state.workers
progress_within lim first m team s t rings a working = subst (λ (n : ℕ). progress m.run < n) (same_bound lim first m s t rings) (progress_below lim m team t a working)
