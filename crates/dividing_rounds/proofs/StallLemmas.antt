-- Where all workers have said what they can, the merge of a division goes on.
use Rattle.std.proofs.Common.{◌≡◌, ◌≢◌, ℕ, zero, suc, ◌<◌, ◌≤◌, ◌⊎◌, inl, inr, Bool, true, false, ◌||◌, List, [], ◌∷◌, ◌++◌, length, take, drop, get_or, Option, Some, None, refl, sym, ap, ap₂, ◌∙◌, subst, subst₂, arith, true≢false}
use Rattle.std.specs.Prelude.{IfSome}
use Rattle.std.proofs.lemmas.List.{take-append-drop, length-drop}
use native.Mathlib.Decide.{ℕ_discrete}
use Rattle.sdmp_laws.specs.Order.{Order, ◌⋅◌, alike, Below, IsUnder, is_below}
use Rattle.sdmp_laws.specs.Poly.{Term, Over, lm}
use Rattle.sdmp_laws.specs.Division.{Division, IsAccepted, AllAtOrBelow, AtOrAbove}
use Rattle.sdmp_laws.specs.LongDivision.{quotient_list}
use Rattle.whole_laws.specs.Notes.{AboveTop, TopIsProduct, IsProductMonomial, QuotientScript, divisor_rows, script_list, has}
use Rattle.whole_laws.specs.Wholes.{head_terms, notes_of, head_of_worker}
use Rattle.divide_wholes.specs.Wholes.{DivideState, DivideWhole, IsSettled, divide_script, latest_mark}
use Rattle.divide_wholes.specs.Row.{RowNote, row_terms, front_after}
use Rattle.divide_wholes.specs.Workers.{IsUnreadTop, worker_rows}
use Rattle.dividing_rounds.specs.Runs.{IsKnownAt}
use Rattle.dividing_rounds.specs.Stalls.{mark_of, IsGreatestRead, IsAsked, IsCurrent, IsLow, IsStuck, GoesOn, NobodyStuck, TopWithin, IsDue, DueIsBound, Behind, IsHeld, NoStall, IsLowered, HeardHasWaited}
use Rattle.sdmp_laws.proofs.OrderLemmas.{Three, is_less, is_equal, is_greater, numbers, below_total, order_facts, length_times, alike_same, alike_self}
use Rattle.sdmp_laws.proofs.Tests.{or_out, or_in_left, or_in_right, below_yes, below_known}
use Rattle.sdmp_laws.proofs.NextTerm.{at_then_below, at_then_at}
use Rattle.sdmp_laws.proofs.DivisionLemmas.{below_left, length_lm}
use Rattle.whole_laws.proofs.NotesLemmas.{has-append_left}
use Rattle.divide_wholes.proofs.Candidate.{rows_below, rows_over, quotient_poly, script_poly}
use Rattle.divide_wholes.proofs.MarkLemmas.{latest_mark_counts}
use Rattle.dividing_rounds.proofs.WorkloadLemmas.{has-append_right, has-append_out, HeadAt, head_at, script_has, first_lower, has_nothing}

-- ---- lists at or below a monomial
within_front : (ord : Order) (m : List ℕ) (A B : List Term) → AllAtOrBelow ord m (A ++ B) → AllAtOrBelow ord m A
unfolding AllAtOrBelow
within_front ord m [] B h = tt
within_front ord m (t ∷ A) B h = (h.0, within_front ord m A B h.1)

within_back : (ord : Order) (m : List ℕ) (A B : List Term) → AllAtOrBelow ord m (A ++ B) → AllAtOrBelow ord m B
unfolding AllAtOrBelow
within_back ord m [] B h = h
within_back ord m (t ∷ A) B h = within_back ord m A B h.1

within_up : (ord : Order) (m x : List ℕ) (A : List Term) → AllAtOrBelow ord m A → AtOrAbove ord m x → AllAtOrBelow ord x A
unfolding AllAtOrBelow
within_up ord m x [] h a = tt
within_up ord m x (t ∷ A) h a = (at_then_at ord t.monomial m x h.0 a, within_up ord m x A h.1 a)

pub within_at : (ord : Order) (m x : List ℕ) (A : List Term) → AllAtOrBelow ord m A → has x A ≡ true → AtOrAbove ord x m
unfolding AllAtOrBelow has
within_at ord m x [] h k = absurd (true≢false (sym k))
within_at ord m x (t ∷ A) h k = pick (λ l. within_at ord m x A h.1 l) (or_out (alike t.monomial x) (has x A) k)
  where
    pick : (has x A ≡ true → AtOrAbove ord x m) → (alike t.monomial x ≡ true) ⊎ (has x A ≡ true) → AtOrAbove ord x m
    pick ih (inl e) = subst (λ (v : List ℕ). AtOrAbove ord v m) (alike_same t.monomial x e) h.0
    pick ih (inr l) = ih l

pub nothing_within : (ord : Order) (m : List ℕ) (A : List Term) → A ≡ [] → AllAtOrBelow ord m A
unfolding AllAtOrBelow
nothing_within ord m A e = subst (λ (L : List Term). AllAtOrBelow ord m L) (sym e) tt

-- the head of a worker is one of the heads
head_there : (heads : List (Option Term)) (w : ℕ) (t : Term) → get_or heads w None ≡ Some t → has t.monomial (head_terms heads) ≡ true
unfolding head_terms has
head_there [] w t e = absurd (cc e)
head_there (None ∷ heads) zero t e = absurd (cc e)
head_there (Some u ∷ heads) zero t e = same (cc e)
  where
    same : u ≡ t → (alike u.monomial t.monomial || has t.monomial (head_terms heads)) ≡ true
    same k = or_in_left (alike u.monomial t.monomial) (has t.monomial (head_terms heads)) (ap (λ (v : Term). alike v.monomial t.monomial) k ∙ alike_self t.monomial)
head_there (None ∷ heads) (suc w) t e = head_there heads w t e
head_there (Some u ∷ heads) (suc w) t e = or_in_right (alike u.monomial t.monomial) (has t.monomial (head_terms heads)) (head_there heads w t e)

head_has : (s : DivideState) (w : ℕ) (t : Term) → head_of_worker s.heads w ≡ Some t → has t.monomial (head_terms s.heads) ≡ true
unfolding head_of_worker
head_has s w t e = head_there s.heads w t e

-- ---- what was read, and the tops of marks, are vectors
over_has : (n : ℕ) (A : List Term) (x : List ℕ) → Over n A → has x A ≡ true → length x ≡ n
unfolding Over has
over_has n [] x o h = absurd (true≢false (sym h))
over_has n (t ∷ A) x o h = pick (λ k. over_has n A x o.1 k) (or_out (alike t.monomial x) (has x A) h)
  where
    pick : (has x A ≡ true → length x ≡ n) → (alike t.monomial x ≡ true) ⊎ (has x A ≡ true) → length x ≡ n
    pick ih (inl e) = ap length (sym (alike_same t.monomial x e)) ∙ o.0
    pick ih (inr k) = ih k

read_vector : (s : DivideState) (x : List ℕ) → IsAccepted s.division → DivideWhole s → has x (s.unread ++ head_terms s.heads) ≡ true → length x ≡ s.division.n
unfolding divide_script
read_vector s x a whole h = pick (has-append_out x s.unread (head_terms s.heads) h)
  where
    at_head : HeadAt s.heads x → length x ≡ s.division.n
    at_head k =
        let l : k.worker < s.workers = (let j = k.here in omega (arith, j, whole.heads_count)) in
        ap length (sym k.at) ∙ over_has s.division.n (script_list (QuotientScript s.division s.workers k.worker)) k.head.monomial (script_poly s.division s.workers k.worker a).vectors (script_has s k.worker k.head whole l k.is)

    pick : (has x s.unread ≡ true) ⊎ (has x (head_terms s.heads) ≡ true) → length x ≡ s.division.n
    pick (inl u) = over_has s.division.n s.division.f x a.dividend.vectors (subst (λ (L : List Term). has x L ≡ true) (whole.unread_suffix).1 (has-append_right x (whole.unread_suffix).0 s.unread u))
    pick (inr k) = at_head (head_at s.heads x k)

product_vector : (d : Division) (W w k : ℕ) (x : List ℕ) → IsAccepted d → IsProductMonomial (take k (quotient_list d)) (divisor_rows d.g W w) x → length x ≡ d.n
product_vector d W w k x a p =
    let Q = quotient_list d in
    let inside : has p.left.monomial Q ≡ true = subst (λ (L : List Term). has p.left.monomial L ≡ true) (take-append-drop k Q) (has-append_left p.left.monomial (take k Q) (drop k Q) p.left_in) in
    let l = over_has d.n Q p.left.monomial (quotient_poly d a).vectors inside in
    let r = over_has d.n (divisor_rows d.g W w) p.right.monomial (rows_over d W w a) p.right_in in
    ap length p.is ∙ length_times p.left.monomial p.right.monomial (l ∙ sym r) ∙ l

top_vector : (s : DivideState) (w : ℕ) (x : List ℕ) → IsAccepted s.division → DivideWhole s → w < s.workers → (mark_of s w).1 ≡ Some x → length x ≡ s.division.n
unfolding TopIsProduct divide_script
top_vector s w x a whole l e =
    let c = (latest_mark_counts s.division s.workers w (notes_of s.taken w) (whole.carried w l)).1 in
    product_vector s.division s.workers w (mark_of s w).0 x a (subst (λ (t : Option (List ℕ)). TopIsProduct (take (mark_of s w).0 (quotient_list s.division)) (divisor_rows s.division.g s.workers w) t) e c)

-- ---- which workers are asked, and what they have to be
rows_or_none : (R : List Term) → (R ≡ []) ⊎ (R ≢ [])
rows_or_none [] = inl refl
rows_or_none (t ∷ R) = inr (λ e. absurd (cc e))

above_or_not : (ord : Order) (top : Option (List ℕ)) (x : List ℕ) → AboveTop ord top x ⊎ (AboveTop ord top x → ⊥)
unfolding AboveTop
above_or_not ord None x = inl tt
above_or_not ord (Some t) x = pick (is_below ord t x) refl
  where
    pick : (b : Bool) → is_below ord t x ≡ b → Below ord t x ⊎ (Below ord t x → ⊥)
    pick true e = inl (below_yes ord t x e)
    pick false e = inr (λ b. true≢false (sym (below_known ord t x b) ∙ e))

none_or_some : (top : Option (List ℕ)) → (top ≡ None) ⊎ ((top ≡ None) → ⊥)
none_or_some None = inl refl
none_or_some (Some t) = inr (λ e. absurd (cc e))

low_or_not : (s : DivideState) (m : Option (List ℕ)) (w : ℕ) → IsLow s m w ⊎ (IsLow s m w → ⊥)
unfolding IsLow
low_or_not s None w = none_or_some (mark_of s w).1
low_or_not s (Some m) w = above_or_not s.division.ord (mark_of s w).1 m

-- an asked worker that isn't stuck is current and low
heard : (s : DivideState) (m : Option (List ℕ)) (w : ℕ) → IsAsked s w → (IsStuck s m w → ⊥) → IsCurrent s w × IsLow s m w
heard s m w asked none = pick (ℕ_discrete (mark_of s w).0 (length s.q)) (low_or_not s m w)
  where
    pick : Dec ((mark_of s w).0 ≡ length s.q) → IsLow s m w ⊎ (IsLow s m w → ⊥) → IsCurrent s w × IsLow s m w
    pick (yes c) (inl l) = (c, l)
    pick (yes c) (inr n) = absurd (none (record { asked = asked; waits = λ d l. n l }))
    pick (no n) l = absurd (none (record { asked = asked; waits = λ c k. n c }))

-- a worker is settled where it has a head there or below, or isn't asked, or is current and low
settled_by : (s : DivideState) (y : List ℕ) (w : ℕ) → w < s.workers → ((t : Term) → head_of_worker s.heads w ≡ Some t → AtOrAbove s.division.ord t.monomial y)
    → (IsAsked s w → IsCurrent s w × AboveTop s.division.ord (mark_of s w).1 y) → IsSettled s y w
unfolding IsSettled
settled_by s y w l head rest = pick (head_of_worker s.heads w) refl (rows_or_none (divisor_rows s.division.g s.workers w))
  where
    pick : (o : Option Term) → head_of_worker s.heads w ≡ o → (divisor_rows s.division.g s.workers w ≡ []) ⊎ (divisor_rows s.division.g s.workers w ≢ [])
        → ((t : Term) × (head_of_worker s.heads w ≡ Some t) × AtOrAbove s.division.ord t.monomial y)
        ⊎ (((latest_mark (notes_of s.taken w)).0 ≡ length s.q) × AboveTop s.division.ord (latest_mark (notes_of s.taken w)).1 y)
        ⊎ (divisor_rows s.division.g s.workers w ≡ [])
    pick (Some t) e r = inl (t, e, head t e)
    pick None e (inl r) = inr (inr r)
    pick None e (inr r) = inr (inl (rest (record { worker = l; no_head = e; rows = r })))

-- ---- nobody stuck
no_first : (A B : List Term) → A ++ B ≡ [] → (A ≡ []) × (B ≡ [])
no_first [] B e = (refl, e)
no_first (t ∷ A) B e = absurd (cc e)

above_none : (ord : Order) (top : Option (List ℕ)) (y : List ℕ) → top ≡ None → AboveTop ord top y
unfolding AboveTop
above_none ord None y e = tt
above_none ord (Some t) y e = absurd (cc e)

pub nobody_stuck : NobodyStuck
unfolding GoesOn IsUnreadTop IsLow
nobody_stuck s None a whole read none =
    let empty = no_first s.unread (head_terms s.heads) read in
    record {
      no_unread = empty.0;
      no_heads = empty.1;
      settled = λ y w l. settled_by s y w l (λ t e. absurd (has_nothing t.monomial (head_terms s.heads) empty.1 (head_has s w t e)))
          (λ asked. let h = heard s None w asked (none w) in (h.0, above_none s.division.ord (mark_of s w).1 y h.1));
    }
nobody_stuck s (Some x) a whole read none =
    let heads = within_back s.division.ord x s.unread (head_terms s.heads) read.1 in
    record {
      candidate = record {
        vector = read_vector s x a whole read.0;
        unread_below = within_front s.division.ord x s.unread (head_terms s.heads) read.1;
        heads_below = heads;
        settled = λ w l. settled_by s x w l (λ t e. within_at s.division.ord x t.monomial (head_terms s.heads) heads (head_has s w t e)) (λ asked. heard s (Some x) w asked (none w));
      };
      read = read.0;
    }

-- ---- a front that is due
above_within : (ord : Order) (x y : List ℕ) (top : Option (List ℕ)) → TopWithin ord x top → Below ord x y → AboveTop ord top y
unfolding TopWithin AboveTop
above_within ord x y None h b = tt
above_within ord x y (Some t) h b = at_then_below ord t x y h b

pub due_is_bound : DueIsBound
unfolding IsKnownAt
due_is_bound s x a whole due =
    let heads = within_back s.division.ord x s.unread (head_terms s.heads) due.read_below in (
      record {
        vector = vector due.reached;
        unread_below = within_front s.division.ord x s.unread (head_terms s.heads) due.read_below;
        heads_below = heads;
        settled_above = λ y w b l. settled_by s y w l
            (λ t e. inr (at_then_below s.division.ord t.monomial x y (within_at s.division.ord x t.monomial (head_terms s.heads) heads (head_has s w t e)) b))
            (λ asked. (due.current w asked, above_within s.division.ord x y (mark_of s w).1 (due.tops_below w asked) b));
      },
      known due.reached,
    )
  where
    vector : (has x (s.unread ++ head_terms s.heads) ≡ true) ⊎ ((w : ℕ) × IsAsked s w × ((mark_of s w).1 ≡ Some x)) → length x ≡ s.division.n
    vector (inl h) = read_vector s x a whole h
    vector (inr k) = top_vector s k.0 x a whole k.1.worker k.2

    known : (has x (s.unread ++ head_terms s.heads) ≡ true) ⊎ ((w : ℕ) × IsAsked s w × ((mark_of s w).1 ≡ Some x))
        → (has x (s.unread ++ head_terms s.heads) ≡ true) ⊎ ((w : ℕ) × (w < s.workers) × (latest_mark (notes_of s.taken w) ≡ (length s.q, Some x)))
    known (inl h) = inl h
    known (inr k) = inr (k.0, k.1.worker, ap₂ (λ (i : ℕ) (t : Option (List ℕ)). (i, t)) (due.current k.0 k.1) k.2)

-- ---- what is held is below the front
pub behind : Behind
behind d W w front top a some lf lt h =
    let low = first_lower d.ord d.n (lm d.g) (divisor_rows d.g W w) some (rows_below d W w a) (rows_over d W w a) in
    let product = below_left d.ord (lm (divisor_rows d.g W w)) (lm d.g) front (low.1 ∙ sym (length_lm d a)) low.0 in
    pick (at_then_below d.ord (top ⋅ lm d.g) (front ⋅ lm (divisor_rows d.g W w)) (front ⋅ lm d.g) h product) (below_total d.ord top front (lt ∙ sym lf))
  where
    never : Below d.ord (top ⋅ lm d.g) (front ⋅ lm d.g) → AtOrAbove d.ord (front ⋅ lm d.g) (top ⋅ lm d.g) → ⊥
    never b k = (order_facts d.ord).irreflexive (front ⋅ lm d.g) (at_then_below d.ord (front ⋅ lm d.g) (top ⋅ lm d.g) (front ⋅ lm d.g) k b)

    pick : Below d.ord (top ⋅ lm d.g) (front ⋅ lm d.g) → Three (Below d.ord top front) (top ≡ front) (Below d.ord front top) → Below d.ord top front
    pick b (is_less k) = k
    pick b (is_equal e) = absurd (never b (inl (ap (λ (v : List ℕ). v ⋅ lm d.g) (sym e))))
    pick b (is_greater k) = absurd (never b (inr ((order_facts d.ord).compatible front top (lm d.g) (lf ∙ sym lt) k)))

held_below : (d : Division) (W w : ℕ) (front : Option (List ℕ)) (top : List ℕ) → IsAccepted d → divisor_rows d.g W w ≢ [] → IfSome front (λ m. length m ≡ d.n) → length top ≡ d.n
    → IsHeld d (divisor_rows d.g W w) front (Some top) → IsUnder d.ord front top
unfolding IsHeld IsUnder
held_below d W w None top a some lf lt h = tt
held_below d W w (Some m) top a some lf lt h = behind d W w m top a some lf lt h

-- ---- the greatest of the monomial `first` and of the tops of the first k workers
record Highest (s : DivideState) (first : List ℕ) (k : ℕ) (x : List ℕ) : Type 0 where
  risen : AtOrAbove s.division.ord first x
  tops : (w : ℕ) → w < k → IsAsked s w → TopWithin s.division.ord x (mark_of s w).1
  by : ℕ
  asked : IsAsked s by
  top : (mark_of s by).1 ≡ Some x

top_up : (ord : Order) (x y : List ℕ) (top : Option (List ℕ)) → TopWithin ord x top → AtOrAbove ord x y → TopWithin ord y top
unfolding TopWithin
top_up ord x y None h a = tt
top_up ord x y (Some t) h a = at_then_at ord t x y h a

within_one : (ord : Order) (x t : List ℕ) (top : Option (List ℕ)) → top ≡ Some t → AtOrAbove ord t x → TopWithin ord x top
unfolding TopWithin
within_one ord x t None e a = tt
within_one ord x t (Some u) e a = subst (λ (v : Option (List ℕ)). TopWithin ord x v) (sym e) a

pub within_none : (ord : Order) (x : List ℕ) (top : Option (List ℕ)) → top ≡ None → TopWithin ord x top
unfolding TopWithin
within_none ord x None e = tt
within_none ord x (Some u) e = absurd (cc e)

-- one worker more, whose top is x or below where it is asked
next_within : (s : DivideState) (first : List ℕ) (k : ℕ) (x : List ℕ) → (IsAsked s k → TopWithin s.division.ord x (mark_of s k).1) → Highest s first k x → Highest s first (suc k) x
next_within s first k x here h = record { risen = h.risen; tops = tops; by = h.by; asked = h.asked; top = h.top }
  where
    tops : (w : ℕ) → w < suc k → IsAsked s w → TopWithin s.division.ord x (mark_of s w).1
    tops w l asked = pick (numbers w k)
      where
        pick : Three (w < k) (w ≡ k) (k < w) → TopWithin s.division.ord x (mark_of s w).1
        pick (is_less b) = h.tops w b asked
        pick (is_equal e) = subst (λ (v : ℕ). IsAsked s v → TopWithin s.division.ord x (mark_of s v).1) (sym e) here asked
        pick (is_greater b) = absurd (omega (arith, b, l))

-- or above it
next_above : (s : DivideState) (first : List ℕ) (k : ℕ) (x t : List ℕ) → IsAsked s k → (mark_of s k).1 ≡ Some t → Below s.division.ord x t → Highest s first k x → Highest s first (suc k) t
next_above s first k x t asked e b h =
    next_within s first k t (λ _. within_one s.division.ord t t (mark_of s k).1 e (inl refl))
    (record {
      risen = at_then_at s.division.ord first x t h.risen (inr b);
      tops = λ w l i. top_up s.division.ord x t (mark_of s w).1 (h.tops w l i) (inr b);
      by = k;
      asked = asked;
      top = e;
    })

climb : (s : DivideState) (k : ℕ) (x : List ℕ) → IsAccepted s.division → DivideWhole s → k ≤ s.workers → Highest s x 0 x → (y : List ℕ) × Highest s x k y
climb s zero x a whole l h = (x, h)
climb s (suc k) x a whole l h = step (climb s k x a whole (omega (arith, l)) h)
  where
    step : (y : List ℕ) × Highest s x k y → (y : List ℕ) × Highest s x (suc k) y
    step p = ask (head_of_worker s.heads k) refl (rows_or_none (divisor_rows s.division.g s.workers k)) (mark_of s k).1 refl
      where
        compare_with : (t : List ℕ) → IsAsked s k → (mark_of s k).1 ≡ Some t → Three (Below s.division.ord t p.0) (t ≡ p.0) (Below s.division.ord p.0 t) → (y : List ℕ) × Highest s x (suc k) y
        compare_with t asked e (is_less b) = (p.0, next_within s x k p.0 (λ _. within_one s.division.ord p.0 t (mark_of s k).1 e (inr b)) p.1)
        compare_with t asked e (is_equal q) = (p.0, next_within s x k p.0 (λ _. within_one s.division.ord p.0 t (mark_of s k).1 e (inl q)) p.1)
        compare_with t asked e (is_greater b) = (t, next_above s x k p.0 t asked e b p.1)

        ask : (o : Option Term) → head_of_worker s.heads k ≡ o → (divisor_rows s.division.g s.workers k ≡ []) ⊎ (divisor_rows s.division.g s.workers k ≢ []) → (top : Option (List ℕ)) → (mark_of s k).1 ≡ top → (y : List ℕ) × Highest s x (suc k) y
        ask (Some t) e r top i = (p.0, next_within s x k p.0 (λ asked. absurd (cc (sym e ∙ asked.no_head))) p.1)
        ask None e (inl r) top i = (p.0, next_within s x k p.0 (λ asked. absurd (asked.rows r)) p.1)
        ask None e (inr r) None i = (p.0, next_within s x k p.0 (λ _. within_none s.division.ord p.0 (mark_of s k).1 i) p.1)
        ask None e (inr r) (Some t) i =
            let here : k < s.workers = omega (arith, l) in
            let asked : IsAsked s k = record { worker = here; no_head = e; rows = r } in
            let lt = top_vector s k t a whole here i in
            let lx = top_vector s (p.1).by p.0 a whole (p.1).asked.worker (p.1).top in
            compare_with t asked i (below_total s.division.ord t p.0 (lt ∙ sym lx))

-- a stuck worker that is current has a top, at what was read or above
not_low : (s : DivideState) (m : Option (List ℕ)) (w : ℕ) → IsAccepted s.division → DivideWhole s → IsGreatestRead s m → w < s.workers → (IsLow s m w → ⊥)
    → (x : List ℕ) × ((mark_of s w).1 ≡ Some x) × AllAtOrBelow s.division.ord x (s.unread ++ head_terms s.heads)
unfolding IsLow IsUnreadTop AboveTop
not_low s None w a whole read l n = pick (mark_of s w).1 refl
  where
    pick : (top : Option (List ℕ)) → (mark_of s w).1 ≡ top → (x : List ℕ) × ((mark_of s w).1 ≡ Some x) × AllAtOrBelow s.division.ord x (s.unread ++ head_terms s.heads)
    pick None e = absurd (n e)
    pick (Some x) e = (x, e, nothing_within s.division.ord x (s.unread ++ head_terms s.heads) read)
not_low s (Some m) w a whole read l n = pick (mark_of s w).1 refl
  where
    above : (x : List ℕ) → (mark_of s w).1 ≡ Some x → Three (Below s.division.ord x m) (x ≡ m) (Below s.division.ord m x) → AtOrAbove s.division.ord m x
    above x e (is_less b) = absurd (n (subst (λ (t : Option (List ℕ)). AboveTop s.division.ord t m) (sym e) b))
    above x e (is_equal q) = inl (sym q)
    above x e (is_greater b) = inr b

    pick : (top : Option (List ℕ)) → (mark_of s w).1 ≡ top → (x : List ℕ) × ((mark_of s w).1 ≡ Some x) × AllAtOrBelow s.division.ord x (s.unread ++ head_terms s.heads)
    pick None e = absurd (n (above_none s.division.ord (mark_of s w).1 m e))
    pick (Some x) e =
        let lx = top_vector s w x a whole l e in
        let lm = read_vector s m a whole read.0 in
        (x, e, within_up s.division.ord m x (s.unread ++ head_terms s.heads) read.1 (above x e (below_total s.division.ord x m (lx ∙ sym lm))))

pub no_stall : NoStall
no_stall r m w a h read waited stuck = due (climb s s.workers first.0 a h.whole (omega arith) start)
  where
    s : DivideState
    s = r.state

    first : (x : List ℕ) × ((mark_of r.state w).1 ≡ Some x) × AllAtOrBelow r.state.division.ord x (r.state.unread ++ head_terms r.state.heads)
    first = not_low r.state m w a h.whole read stuck.asked.worker (λ low. stuck.waits (waited w stuck.asked).current low)

    start : Highest r.state first.0 0 first.0
    start = record { risen = inl refl; tops = λ v l i. absurd (omega (arith, l)); by = w; asked = stuck.asked; top = first.1 }

    due : (y : List ℕ) × Highest r.state first.0 r.state.workers y → (x : List ℕ) × IsDue r.state x
    due p =
        let k = p.1 in
        let held = subst (λ (t : Option (List ℕ)). IsHeld r.state.division (divisor_rows r.state.division.g r.state.workers k.by) r.state.front t) k.top (waited k.by k.asked).held in (
          p.0,
          record {
            current = λ v i. (waited v i).current;
            read_below = within_up r.state.division.ord first.0 p.0 (r.state.unread ++ head_terms r.state.heads) first.2 k.risen;
            tops_below = λ v i. k.tops v i.worker i;
            reached = inr (k.by, k.asked, k.top);
            lower = held_below r.state.division r.state.workers k.by r.state.front p.0 a k.asked.rows h.front_vector (top_vector r.state k.by p.0 a h.whole k.asked.worker k.top) held;
          },
        )

-- ---- a worker that was heard
held_lowered : (d : Division) (R : List Term) (a b top : Option (List ℕ)) → IfSome a (λ m. length m ≡ d.n) → IfSome b (λ m. length m ≡ d.n) → IsLowered d.ord a b → IsHeld d R a top → IsHeld d R b top
unfolding IsLowered IsHeld
held_lowered d R a b None la lb l h = tt
held_lowered d R a None (Some x) la lb l h = tt
held_lowered d R None (Some y) (Some x) la lb l h = absurd l
held_lowered d R (Some m) (Some y) (Some x) la lb l h = at_then_at d.ord (x ⋅ lm d.g) (m ⋅ lm R) (y ⋅ lm R) h (up l)
  where
    up : AtOrAbove d.ord m y → AtOrAbove d.ord (m ⋅ lm R) (y ⋅ lm R)
    up (inl e) = inl (ap (λ (v : List ℕ). v ⋅ lm R) e)
    up (inr b) = inr ((order_facts d.ord).compatible m y (lm R) (la ∙ sym lb) b)

pub heard_has_waited : HeardHasWaited
unfolding worker_rows
heard_has_waited r v notes front top h k = record { current = current; held = held }
  where
    s : DivideState
    s = r.state

    mark : mark_of r.state v.worker ≡ (length v.known, top)
    mark = ap latest_mark k.taken ∙ k.mark

    current : (mark_of r.state v.worker).0 ≡ length r.state.q
    current =
        let rows : row_terms notes ≡ drop r.state.start r.state.q = ap row_terms k.row ∙ h.row.terms ∙ sym h.whole.row_terms in
        let some = ap length rows ∙ length-drop r.state.start r.state.q in
        let start = h.whole.row_start in
        let learned = k.learned in
        ap (λ (p : ℕ × Option (List ℕ)). p.0) mark ∙ omega (arith, some, start, learned)

    published : (x : RowNote) (L : List RowNote) → notes ≡ x ∷ L → front_after v.division None notes ≡ r.state.front
    published x L e =
        ap (λ (d : Division). front_after d None notes) k.division ∙ ap (front_after r.state.division None) k.row ∙ h.row.front (λ z. absurd (cc (sym e ∙ k.row ∙ z)))

    pick : (L : List RowNote) → notes ≡ L → IsLowered v.division.ord front r.state.front
    pick [] e = k.handed e
    pick (x ∷ L) e = subst (λ (b : Option (List ℕ)). IsLowered v.division.ord front b) (published x L e) k.noted

    lowered : IsLowered r.state.division.ord front r.state.front
    lowered = subst (λ (d : Division). IsLowered d.ord front r.state.front) k.division (pick notes refl)

    own : IsHeld r.state.division (divisor_rows r.state.division.g r.state.workers v.worker) front top
    own = subst₂ (λ (d : Division) (W : ℕ). IsHeld d (divisor_rows d.g W v.worker) front top) k.division k.workers k.held

    vector : IfSome front (λ m. length m ≡ r.state.division.n)
    vector = subst (λ (d : Division). IfSome front (λ m. length m ≡ d.n)) k.division k.vector

    held : IsHeld r.state.division (divisor_rows r.state.division.g r.state.workers v.worker) r.state.front (mark_of r.state v.worker).1
    held =
        subst (λ (t : Option (List ℕ)). IsHeld r.state.division (divisor_rows r.state.division.g r.state.workers v.worker) r.state.front t) (sym (ap (λ (p : ℕ × Option (List ℕ)). p.1) mark))
        (held_lowered r.state.division (divisor_rows r.state.division.g r.state.workers v.worker) front r.state.front top vector h.front_vector lowered own)
