-- The loop of an advance.
use Rattle.std.proofs.Common.{◌≡◌, ◌⊎◌, inl, inr, ℕ, ◌-◌, ◌<◌, ◌≤◌, List, [], ◌++◌, length, get_or, Option, Some, None, is_some, refl, sym, ap, ◌∙◌, subst, arith, length-append, append-nil, append_assoc}
use Rattle.std.proofs.Math.Nat.{mul-le-mul}
use Rattle.std.specs.Option.{IfSome}
use mathlib.Core.List.{IsPrefix}
use Rattle.sdmp_laws.specs.Poly.{Term}
use Rattle.sdmp_laws.specs.Division.{Division}
use Rattle.sdmp_laws.specs.LongDivision.{quotient_list}
use Rattle.whole_laws.specs.Notes.{Note}
use Rattle.whole_laws.specs.Wholes.{notes_of, head_of_worker}
use Rattle.dividing_rounds.specs.Runs.{DivideRun, workload_count}
use Rattle.dividing_rounds.specs.Rounds.{progress}
use Rattle.term_ring.specs.Names.{NoneBelow, notes_count}
use Rattle.term_ring.proofs.Lists.{prefix_self, prefix_trans}
use Rattle.global_heap.proofs.Steps.{NoneBelow-refl, NoneBelow-trans}
use Rattle.divide_merge.specs.Verdicts.{Verdict, Finishes, HasNone, PassesNorm, PassesCount, IsBlocked, RowIsFull, OutIsFull, IsVerdict, IsFinal, kept_of}
use Rattle.divide_merge.specs.Merges.{DivideView, free_places, IsSound, IsCause, IsAskedInVain, Grows, taken_of, AllStarved}
use Rattle.divide_merge.specs.Reached.{divide_reached, Follows, Follows-itself}
use Rattle.divide_merge.specs.Steps.{Fills, Turns}
use Rattle.dividing_rounds.proofs.LogLemmas.{counts_fit}
use Rattle.divide_merge.proofs.Following.{row_same, Follows-trans}

pub Grows-refl : (a : DivideView) → Grows a a
Grows-refl a = record {
  rings = refl;
  row = refl;
  start = refl;
  taken = λ w. prefix_self (taken_of a w);
  notes = prefix_self a.run.notes;
  found = [];
  kept = [];
  q = sym (append-nil a.run.state.q);
  r = sym (append-nil a.run.state.r);
  spare = omega arith;
  tails = NoneBelow-refl a.tails;
  looks = NoneBelow-refl a.looks;
}

pub Grows-trans : (a b c : DivideView) → Grows a b → Grows b c → Grows a c
Grows-trans a b c f g = record {
  rings = g.rings ∙ f.rings;
  row = g.row ∙ f.row;
  start = g.start ∙ f.start;
  taken = λ w. prefix_trans (taken_of a w) (taken_of b w) (taken_of c w) (f.taken w) (g.taken w);
  notes = prefix_trans a.run.notes b.run.notes c.run.notes f.notes g.notes;
  found = f.found ++ g.found;
  kept = f.kept ++ g.kept;
  q = g.q ∙ ap (λ (L : List Term). L ++ g.found) f.q ∙ append_assoc a.run.state.q f.found g.found;
  r = g.r ∙ ap (λ (L : List Term). L ++ g.kept) f.r ∙ append_assoc a.run.state.r f.kept g.kept;
  spare = let x = f.spare in let y = g.spare in let m = length-append f.found g.found in let n = length-append f.kept g.kept in omega arith;
  tails = NoneBelow-trans a.tails b.tails c.tails f.tails g.tails;
  looks = NoneBelow-trans a.looks b.looks c.looks f.looks g.looks;
}

fills_grows : (a b : DivideView) → Fills a b → Grows a b
fills_grows a b f = record {
  rings = f.rings;
  row = f.row;
  start = ap (λ (r : DivideRun). r.state.start) f.run;
  taken = f.taken;
  notes = subst (λ (r : DivideRun). IsPrefix a.run.notes r.notes) (sym f.run) (prefix_self a.run.notes);
  found = [];
  kept = [];
  q = ap (λ (r : DivideRun). r.state.q) f.run ∙ sym (append-nil a.run.state.q);
  r = ap (λ (r : DivideRun). r.state.r) f.run ∙ sym (append-nil a.run.state.r);
  spare = let e = f.spare in omega arith;
  tails = f.tails;
  looks = f.looks;
}

same_below : (a b : List ℕ) → b ≡ a → NoneBelow a b
same_below a b e = subst (NoneBelow a) (sym e) (NoneBelow-refl a)

turns_grows : (a b : DivideView) (o : Option Verdict) → Turns a b o → Grows a b
turns_grows a b o t = record {
  rings = t.steady.rings;
  row = t.steady.row;
  start = t.start;
  taken = λ w. subst (λ (ts : List (List Note)). IsPrefix (taken_of a w) (notes_of ts w)) (sym t.taken) (prefix_self (taken_of a w));
  notes = t.row_grows.notes;
  found = t.found;
  kept = t.kept;
  q = t.q;
  r = t.r;
  spare = t.spare;
  tails = same_below a.tails b.tails t.steady.tails;
  looks = same_below a.looks b.looks t.steady.looks;
}

fills_follows : (lim : ℕ) (a b : DivideView) → IsSound lim a → a.answer ≡ None → Fills a b → Follows (divide_reached a) (divide_reached b)
unfolding progress
fills_follows lim a b s going f = pick f.counts
  where
    pick : (b.run ≡ a.run) ⊎ (notes_count a.run.state.taken < notes_count b.run.state.taken) → Follows (divide_reached a) (divide_reached b)
    pick (inl e) = inl (λ i. record { run = e i; answer = f.answer i; spare = f.spare i })
    pick (inr l) =
        inr (
          s.over ∙ ap (λ (o : Option Verdict). is_some o) going,
          inr (let q = ap (λ (r : DivideRun). length r.state.q) f.run in let x = ap (λ (r : DivideRun). r.fronts_count) f.run in let y = ap (λ (r : DivideRun). r.processed_count) f.run in omega arith),
          row_same a.run b.run (ap (λ (r : DivideRun). r.notes) f.run) (ap (λ (r : DivideRun). r.state.front) f.run),
        )

-- ---- after some turns
pub record Runs (lim : ℕ) (a b : DivideView) : Type 0 where
  pub sound : IsSound lim b
  pub going : b.answer ≡ None
  pub grows : Grows a b
  pub follows : Follows (divide_reached a) (divide_reached b)

pub runs_begin : (lim : ℕ) (a : DivideView) → IsSound lim a → a.answer ≡ None → Runs lim a a
runs_begin lim a s g = record { sound = s; going = g; grows = Grows-refl a; follows = Follows-itself (divide_reached a) }

-- how many more there may be
unfoldable pub turns_left : DivideView → ℕ
turns_left v = workload_count v.run.state.division (length (quotient_list v.run.state.division)) - v.run.processed_count

processed_fit : (lim : ℕ) (v : DivideView) → IsSound lim v → v.run.processed_count ≤ workload_count v.run.state.division (length (quotient_list v.run.state.division))
unfolding workload_count
processed_fit lim v s =
    let c = (counts_fit v.run s.whole).0 in
    let p = s.whole.whole.quotient in
    let l = ap (λ (L : List Term). length L) p.1 in
    let m = length-append v.run.state.q p.0 in
    let k = mul-le-mul (let e : length v.run.state.q ≤ length (quotient_list v.run.state.division) = omega arith in e) (let e : length v.run.state.division.g - 1 ≤ length v.run.state.division.g - 1 = omega arith in e) in
    omega arith

module _ (lim : ℕ) (a b c d : DivideView) (r : Runs lim a b) (f : Fills b c) (s : IsSound lim c) where
  filling : Follows (divide_reached b) (divide_reached c)
  filling = fills_follows lim b c r.sound r.going f

  pub fill_going : c.answer ≡ None
  fill_going = f.answer ∙ r.going

  -- ---- the loop goes on
  pub runs_on : Turns c d None → IsSound lim d → Runs lim a d
  runs_on t sd =
      let far = t.goes_on refl in record {
        sound = sd;
        going = far.answer;
        grows = Grows-trans a b d r.grows (Grows-trans b c d (fills_grows b c f) (turns_grows c d None t));
        follows =
            Follows-trans (divide_reached a) (divide_reached b) (divide_reached d) r.follows
            (Follows-trans (divide_reached b) (divide_reached c) (divide_reached d) filling
            (inr (s.over ∙ ap (λ (o : Option Verdict). is_some o) fill_going, inr far.farther, t.row_grows)));
      }

  pub shorter : Turns c d None → IsSound lim d → turns_left d < turns_left b
  unfolding turns_left
  shorter t sd =
      let far = t.goes_on refl in
      let p = ap (λ (x : DivideRun). x.processed_count) f.run in
      let q = far.processed in
      let w = ap (λ (e : Division). workload_count e (length (quotient_list e))) (t.division ∙ ap (λ (x : DivideRun). x.state.division) f.run) in
      let k = processed_fit lim d sd in
      omega arith

  -- ---- the merge answers
  pub ends_grows : (x : Verdict) → Turns c d (Some x) → Grows a d
  ends_grows x t = Grows-trans a b d r.grows (Grows-trans b c d (fills_grows b c f) (turns_grows c d (Some x) t))

  pub ends_follows : (x : Verdict) → Turns c d (Some x) → Follows (divide_reached a) (divide_reached d)
  ends_follows x t =
      Follows-trans (divide_reached a) (divide_reached b) (divide_reached d) r.follows
      (Follows-trans (divide_reached b) (divide_reached c) (divide_reached d) filling t.ends.follows)

  starved : (x : Verdict) → Turns c d (Some x) → AllStarved b c → AllStarved a d
  starved x t h w l none =
      let k = h w (subst (λ (n : ℕ). w < n) t.workers l) (ap (λ (hs : List (Option Term)). head_of_worker hs w) (sym t.ends.heads) ∙ none) in
      let tails = ap (λ (ts : List ℕ). get_or ts w 0) t.steady.tails in
      let looks = ap (λ (ts : List ℕ). get_or ts w 0) t.steady.looks in
      let before = r.grows.looks.each w in (
        tails ∙ k.0 ∙ ap (λ (ts : List (List Note)). length (notes_of ts w)) (sym t.taken),
        (let m = k.1 in omega arith),
      )

  pub ends_cause : (x : Verdict) → Turns c d (Some x) → AllStarved b c → IsCause a d x
  ends_cause x t h = (t.ends.cause, vain x (starved x t h))
    where
      vain : (y : Verdict) → AllStarved a d → IsAskedInVain a d y
      vain Finishes k = tt
      vain (HasNone m) k = tt
      vain (PassesNorm u) k = tt
      vain (PassesCount u) k = tt
      vain (IsBlocked w) k = k
      vain RowIsFull k = tt
      vain OutIsFull k = tt

-- ---- a merge that is over
-- the answer that it gives again has its cause
pub over_cause : (lim : ℕ) (v : DivideView) (x : Verdict) → IsSound lim v → v.answer ≡ Some x → IsCause v v x × (kept_of x ≡ Some x)
unfolding IsFinal kept_of
over_cause lim v x s e = pick x (subst (λ (o : Option Verdict). IfSome o (λ y. IsFinal y × IsVerdict v.run.state (free_places v) v.spare y)) e s.cause)
  where
    pick : (y : Verdict) → IsFinal y × IsVerdict v.run.state (free_places v) v.spare y → IsCause v v y × (kept_of y ≡ Some y)
    pick Finishes k = ((k.1, tt), refl)
    pick (HasNone m) k = ((k.1, tt), refl)
    pick (PassesNorm u) k = ((k.1, tt), refl)
    pick (PassesCount u) k = ((k.1, tt), refl)
    pick (IsBlocked w) k = absurd k.0
    pick RowIsFull k = absurd k.0
    pick OutIsFull k = absurd k.0
