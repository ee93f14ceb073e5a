-- What a dividing worker may not hand out.
use Rattle.std.proofs.Common.{◌≡◌, ◌⊎◌, inl, inr, ℕ, ◌+◌, ◌<◌, ◌≤◌, Bool, true, false, true≢false, List, [], ◌∷◌, length, Option, Some, None, sym, ap, ◌∙◌, subst, arith, All}
use Rattle.std.proofs.lemmas.List.Elements.{All-head, All-tail}
use Rattle.sdmp_laws.specs.Order.{Order, ◌⋅◌, alike, degree, Below}
use Rattle.sdmp_laws.specs.Poly.{Term, AllDegrees, Decreasing, lm}
use Rattle.sdmp_laws.specs.Division.{Division, AtOrAbove}
use Rattle.sdmp_laws.proofs.OrderLemmas.{order_facts, alike_same, degree_times}
use Rattle.sdmp_laws.proofs.Tests.{or_out}
use Rattle.sdmp_laws.proofs.DegreeLemmas.{degrees_poly, degrees_below}
use Rattle.sdmp_laws.proofs.ListLemmas.{All-front, AllDegrees-every}
use Rattle.whole_laws.specs.Notes.{has, after_lead, divisor_rows, IsProductMonomial}
use Rattle.divide_wholes.specs.Workers.{IsUnreadTop, worker_rows}
use Rattle.divide_wholes.proofs.WorkerLemmas.{rows_decreasing}
use Rattle.row_merge.proofs.LearnedRows.{lead_degree}
use Rattle.dividing_rounds.specs.Stalls.{IsHeld}
use Rattle.dividing_rounds.proofs.WorkloadLemmas.{has_nothing}
use Rattle.divide_workers.specs.Fronts.{PlainFront, front_mono, IsPastBy, IsPast}
use Rattle.divide_workers.specs.Views.{WorkerView}
use Rattle.divide_workers.specs.Working.{IsWorking}
use Rattle.divide_workers.specs.Steps.{IsAllHeld, IsFrontier, MayHand}
use Rattle.divide_workers.proofs.Ahead.{quotient_low}
use Rattle.divide_merge.proofs.OneAnswer.{top_one}
use Rattle.divide_merge.proofs.Degrees.{degree_has}

-- ---- by the order
pub held_by : (s : Bool) (ord : Order) (a x : List ℕ) → length a ≡ length x → (IsPastBy s ord a x → ⊥) → AtOrAbove ord x a
unfolding IsPastBy
held_by false ord a x l n = pick ((order_facts ord).total a x l)
  where
    pick : Below ord a x ⊎ (a ≡ x) ⊎ Below ord x a → AtOrAbove ord x a
    pick (inl h) = absurd (n h)
    pick (inr (inl e)) = inl (sym e)
    pick (inr (inr h)) = inr h
held_by true ord a x l n = pick ((order_facts ord).total a x l)
  where
    pick : Below ord a x ⊎ (a ≡ x) ⊎ Below ord x a → AtOrAbove ord x a
    pick (inl h) = absurd (n (inr h))
    pick (inr (inl e)) = absurd (n (inl e))
    pick (inr (inr h)) = inr h

-- ---- by the degree
known_has : (d : Division) (m : List ℕ) (A : List Term) → All (λ (t : Term). degree t.monomial + degree (lm d.g) ≤ degree (lm d.f)) A → has m A ≡ true → degree m + degree (lm d.g) ≤ degree (lm d.f)
unfolding has
known_has d m [] h e = absurd (true≢false (sym e))
known_has d m (t ∷ A) h e = pick (λ k. known_has d m A (All-tail (λ (u : Term). degree u.monomial + degree (lm d.g) ≤ degree (lm d.f)) t A h) k) (or_out (alike t.monomial m) (has m A) e)
  where
    pick : (has m A ≡ true → degree m + degree (lm d.g) ≤ degree (lm d.f)) → (alike t.monomial m ≡ true) ⊎ (has m A ≡ true) → degree m + degree (lm d.g) ≤ degree (lm d.f)
    pick later (inl k) = subst (λ (x : List ℕ). degree x + degree (lm d.g) ≤ degree (lm d.f)) (alike_same t.monomial m k) (All-head (λ (u : Term). degree u.monomial + degree (lm d.g) ≤ degree (lm d.f)) t A h)
    pick later (inr k) = later k

falling_low : (ord : Order) (A : List Term) → Decreasing ord A → AllDegrees (degree (lm A)) A
unfolding Decreasing AllDegrees lm
falling_low ord [] h = tt
falling_low ord (t ∷ A) h = (omega arith, degrees_below ord t.monomial A h.0)

-- a front above the limit on degrees is above all that the worker holds
pub held_by_degree : (lim : ℕ) (v : WorkerView) (m x : List ℕ) → IsWorking lim v → degree (lm v.state.division.f) ≤ lim → lim < degree m → IsProductMonomial v.state.known (worker_rows v.state) x
    → AtOrAbove v.state.division.ord (x ⋅ lm v.state.division.g) (m ⋅ lm (worker_rows v.state))
unfolding worker_rows
held_by_degree lim v m x w low high p =
    let d = v.state.division in let rows = worker_rows v.state in
    let P : Term → Type 0 = λ t. degree t.monomial + degree (lm d.g) ≤ degree (lm d.f) in
    let known : All P v.state.known = All-front P v.state.known w.whole.knows.0 (subst (λ (Q : List Term). All P Q) (sym w.whole.knows.1) (quotient_low d w.fit.accepted)) in
    let a = known_has d p.left.monomial v.state.known known p.left_in in
    let b = degree_has (degree (lm rows)) rows p.right.monomial (falling_low d.ord rows (rows_decreasing d v.state.workers v.state.worker w.fit.accepted)) p.right_in in
    let e = ap degree p.is ∙ degree_times p.left.monomial p.right.monomial in
    let f = degree_times x (lm d.g) in let g = degree_times m (lm rows) in
    inr ((order_facts d.ord).degree_first (x ⋅ lm d.g) (m ⋅ lm rows) (omega (arith, low, high, a, b, e, f, g)))

-- ---- degrees of what it holds
later_low : (D : ℕ) (g : List Term) → AllDegrees D g → AllDegrees D (after_lead g)
unfolding AllDegrees after_lead
later_low D [] h = tt
later_low D (t ∷ g) h = h.1

own_rows_low : (lim : ℕ) (v : WorkerView) → IsWorking lim v → AllDegrees (degree (lm v.state.division.g)) (worker_rows v.state)
unfolding worker_rows divisor_rows
own_rows_low lim v w =
    let d = v.state.division in let D = degree (lm d.g) in
    AllDegrees-every D v.state.workers v.state.worker 1 (after_lead d.g) (later_low D d.g (degrees_poly d.ord d.p d.n d.g w.fit.accepted.divisor))

pub divisor_low : (lim : ℕ) (v : WorkerView) → IsWorking lim v → degree (lm v.state.division.g) ≤ lim
divisor_low lim v w = lead_degree lim v.state.division.g w.fit.divisor.degrees

pub first_low : (lim : ℕ) (v : WorkerView) → IsWorking lim v → degree (lm (worker_rows v.state)) ≤ lim
first_low lim v w =
    let a = lead_degree (degree (lm v.state.division.g)) (worker_rows v.state) (own_rows_low lim v w) in let b = divisor_low lim v w in omega (arith, a, b)

-- what holds of each monomial holds of one that is there
at_one : (P : List ℕ → Type 0) (A : List Term) (x : List ℕ) → All (λ (t : Term). P t.monomial) A → has x A ≡ true → P x
unfolding has
at_one P [] x h e = absurd (true≢false (sym e))
at_one P (t ∷ A) x h e = pick (λ k. at_one P A x (All-tail (λ (u : Term). P u.monomial) t A h) k) (or_out (alike t.monomial x) (has x A) e)
  where
    pick : (has x A ≡ true → P x) → (alike t.monomial x ≡ true) ⊎ (has x A ≡ true) → P x
    pick later (inl k) = subst P (alike_same t.monomial x k) (All-head (λ (u : Term). P u.monomial) t A h)
    pick later (inr k) = later k

unread_product : (lim : ℕ) (v : WorkerView) (x : List ℕ) → IsWorking lim v → has x v.state.unread ≡ true → IsProductMonomial v.state.known (worker_rows v.state) x
unread_product lim v x w h = at_one (IsProductMonomial v.state.known (worker_rows v.state)) v.state.unread x w.whole.products h

pub top_low : (lim : ℕ) (v : WorkerView) (x : List ℕ) → IsWorking lim v → IsUnreadTop v.state.division.ord v.state.unread (Some x) → degree x ≤ lim
unfolding IsUnreadTop
top_low lim v x w h =
    let d = v.state.division in let rows = worker_rows v.state in let p = unread_product lim v x w h.0 in
    let P : Term → Type 0 = λ t. degree t.monomial + degree (lm d.g) ≤ degree (lm d.f) in
    let known : All P v.state.known = All-front P v.state.known w.whole.knows.0 (subst (λ (Q : List Term). All P Q) (sym w.whole.knows.1) (quotient_low d w.fit.accepted)) in
    let a = known_has d p.left.monomial v.state.known known p.left_in in
    let b = degree_has (degree (lm d.g)) rows p.right.monomial (own_rows_low lim v w) p.right_in in
    let e = ap degree p.is ∙ degree_times p.left.monomial p.right.monomial in
    let f = lead_degree lim d.f w.fit.dividend.degrees in omega (arith, a, b, e, f)

-- ---- where nothing may be handed out
pub held_without_front : (v : WorkerView) → v.front ≡ None → IsAllHeld v
unfolding IsHeld
held_without_front v e None h = tt
held_without_front v e (Some x) h = subst (λ (o : Option PlainFront). IsHeld v.state.division (worker_rows v.state) (front_mono o) (Some x)) (sym e) tt

pub held_without_rows : (lim : ℕ) (v : WorkerView) → IsWorking lim v → worker_rows v.state ≡ [] → IsAllHeld v
unfolding IsHeld IsUnreadTop
held_without_rows lim v w none None h = tt
held_without_rows lim v w none (Some x) h = let p = unread_product lim v x w h.0 in absurd (has_nothing p.right.monomial (worker_rows v.state) none p.right_in)

pub held_above : (lim : ℕ) (v : WorkerView) (f : PlainFront) → IsWorking lim v → v.front ≡ Some f → lim < degree f.mono → IsAllHeld v
unfolding IsHeld IsUnreadTop
held_above lim v f w e high None h = tt
held_above lim v f w e high (Some x) h =
    subst (λ (o : Option PlainFront). IsHeld v.state.division (worker_rows v.state) (front_mono o) (Some x)) (sym e)
    (held_by_degree lim v f.mono x w (lead_degree lim v.state.division.f w.fit.dividend.degrees) high (unread_product lim v x w h.0))

pub held_empty : (v : WorkerView) → IsUnreadTop v.state.division.ord v.state.unread None → IsAllHeld v
unfolding IsHeld
held_empty v n top h = subst (IsHeld v.state.division (worker_rows v.state) (front_mono v.front)) (top_one v.state.division.ord v.state.unread None top n h) tt

-- ---- the frontier
pub frontier_none : (v : WorkerView) → IsAllHeld v → IsFrontier v None
unfolding IsFrontier
frontier_none v h = h

pub none_held : (v : WorkerView) → IsFrontier v None → IsAllHeld v
unfolding IsFrontier
none_held v h = h

pub frontier_some : (v : WorkerView) (f a : PlainFront) → v.front ≡ Some f → a.mono ≡ f.mono ⋅ lm (worker_rows v.state) → a.is_strict ≡ f.is_strict → IsFrontier v (Some a)
unfolding IsFrontier
frontier_some v f a e m b = (f, e, m, b)

pub may_hand : (v : WorkerView) (a : PlainFront) (x : List ℕ) → IsFrontier v (Some a) → IsUnreadTop v.state.division.ord v.state.unread (Some x) → IsPastBy a.is_strict v.state.division.ord a.mono (x ⋅ lm v.state.division.g) → MayHand v
unfolding IsFrontier IsPast
may_hand v a x h top past =
    let d = v.state.division in let rows = worker_rows v.state in record {
      top = x;
      is_top = top;
      past = subst (λ (o : Option PlainFront). IsPast d rows o x) (sym h.1)
          (subst (λ (s : Bool). IsPastBy s d.ord (h.0.mono ⋅ lm rows) (x ⋅ lm d.g)) h.3 (subst (λ (m : List ℕ). IsPastBy a.is_strict d.ord m (x ⋅ lm d.g)) h.2 past));
    }

pub held_at_top : (v : WorkerView) (a : PlainFront) (x : List ℕ) → IsFrontier v (Some a) → length a.mono ≡ length (x ⋅ lm v.state.division.g) → IsUnreadTop v.state.division.ord v.state.unread (Some x) → (IsPastBy a.is_strict v.state.division.ord a.mono (x ⋅ lm v.state.division.g) → ⊥) → IsAllHeld v
unfolding IsFrontier IsHeld
held_at_top v a x h l is_top not top t =
    let d = v.state.division in let rows = worker_rows v.state in
    let y = x ⋅ lm d.g in
    let at : AtOrAbove d.ord y (h.0.mono ⋅ lm rows) = subst (AtOrAbove d.ord y) h.2 (held_by a.is_strict d.ord a.mono y l not) in
    subst (IsHeld d rows (front_mono v.front)) (top_one d.ord v.state.unread (Some x) top is_top t) (subst (λ (o : Option PlainFront). IsHeld d rows (front_mono o) (Some x)) (sym h.1) at)
