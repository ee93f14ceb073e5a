-- Each note of a dividing worker is paid for.
use Rattle.std.proofs.Common.{◌≡◌, ◌≢◌, ◌⊎◌, inl, inr, ℕ, ◌+◌, ◌<◌, ◌≤◌, ℤ, List, [], ◌∷◌, ◌++◌, length, Option, Some, None, refl, sym, ap, ◌∙◌, subst, arith, All, IsPermutation, length-append, append_assoc, append-nil}
use Rattle.std.proofs.lemmas.List.Elements.{All-nil, All-cons, All-append, All-weaker}
use Rattle.std.proofs.lemmas.List.Sorted.{All-permutation, IsPermutation-refl, IsPermutation-append_left, IsPermutation-append_right, IsPermutation-trans, length_permutation}
use Rattle.sdmp_laws.specs.Order.{Order, Below}
use Rattle.sdmp_laws.specs.Poly.{Term, times, row}
use Rattle.sdmp_laws.specs.Division.{Division, AtOrAbove, AllAtOrBelow}
use Rattle.sdmp_laws.proofs.OrderLemmas.{numbers, Three, is_less, is_equal, is_greater}
use Rattle.sdmp_laws.proofs.PolyLemmas.{times_append_left}
use Rattle.sdmp_laws.proofs.ListLemmas.{All-back}
use Rattle.whole_laws.specs.Notes.{TermNote, MarkNote, TopFalls}
use Rattle.divide_wholes.specs.Wholes.{mark_after, latest_mark}
use Rattle.divide_wholes.specs.Workers.{WorkerState, MarkRises, IsUnreadTop, worker_rows, sum_at}
use Rattle.divide_workers.specs.Fronts.{PlainFront, IsPast}
use Rattle.dividing_rounds.specs.Counting.{handed_out}
use Rattle.dividing_rounds.proofs.CountingLemmas.{count_start, count_learn, count_hand, count_send, count_mark, counted_sent}
use Rattle.dividing_rounds.proofs.StallLemmas.{within_at}
use Rattle.dividing_rounds.proofs.WorkloadLemmas.{has_nothing}
use Rattle.divide_workers.specs.Paying.{AllAtTop, HasPaid, IsFewSent}
use Rattle.row_merge.proofs.Places.{all_at_or_below}
use Rattle.divide_merge.proofs.States.{latest_new, latest_term}

-- ---- tops
each_at : (ord : Order) (m : List ℕ) (A : List Term) → AllAtOrBelow ord m A → All (λ (t : Term). AtOrAbove ord t.monomial m) A
unfolding AllAtOrBelow
each_at ord m [] h = All-nil _
each_at ord m (t ∷ A) h = All-cons (λ (u : Term). AtOrAbove ord u.monomial m) t A h.0 (each_at ord m A h.1)

pub top_at_top : (ord : Order) (U : List Term) (a : Option (List ℕ)) → IsUnreadTop ord U a → AllAtTop ord a U
unfolding IsUnreadTop AllAtTop
top_at_top ord U None h = h
top_at_top ord U (Some x) h = h.1

less_at_top : (ord : Order) (top : Option (List ℕ)) (U taken rest : List Term) → IsPermutation U (taken ++ rest) → 0 < length taken → AllAtTop ord top U → AllAtTop ord top rest
unfolding AllAtTop
less_at_top ord None U taken rest p some h =
    let l = length_permutation U (taken ++ rest) p in let k = length-append taken rest in let z = ap (λ (L : List Term). length L) h in absurd (omega (arith, l, k, z))
less_at_top ord (Some x) U taken rest p some h =
    all_at_or_below ord x rest (All-back (λ (t : Term). AtOrAbove ord t.monomial x) taken rest (All-permutation (λ (t : Term). AtOrAbove ord t.monomial x) U (taken ++ rest) p (each_at ord x U h)))

-- ---- marks that tell something new
falls_from : (ord : Order) (U : List Term) (old top : Option (List ℕ)) → AllAtTop ord old U → IsUnreadTop ord U top → (old ≡ top → ⊥) → TopFalls ord old top
unfolding IsUnreadTop AllAtTop TopFalls
falls_from ord U None None h k n = n refl
falls_from ord U None (Some x) h k n = has_nothing x U h k.0
falls_from ord U (Some a) None h k n = tt
falls_from ord U (Some a) (Some x) h k n = pick (within_at ord a x U h k.0)
  where
    pick : AtOrAbove ord x a → Below ord x a
    pick (inl e) = absurd (n (ap (λ (m : List ℕ). Some m) (sym e)))
    pick (inr b) = b

pub mark_rises : (s : WorkerState) (front : Option PlainFront) (top : Option (List ℕ)) → HasPaid s front → IsUnreadTop s.division.ord s.unread top → (latest_mark s.sent ≡ (length s.known, top) → ⊥) → MarkRises s.division.ord (latest_mark s.sent) (length s.known) top
unfolding MarkRises
mark_rises s front top p t n = pick (split (latest_mark s.sent).0 (length s.known) p.mark_known (numbers (latest_mark s.sent).0 (length s.known)))
  where
    split : (a b : ℕ) → a ≤ b → Three (a < b) (a ≡ b) (b < a) → (a < b) ⊎ (a ≡ b)
    split a b h (is_less l) = inl l
    split a b h (is_equal e) = inr e
    split a b h (is_greater l) = absurd (omega (arith, h, l))

    pick : ((latest_mark s.sent).0 < length s.known) ⊎ ((latest_mark s.sent).0 ≡ length s.known) → ((latest_mark s.sent).0 < length s.known) ⊎ (((latest_mark s.sent).0 ≡ length s.known) × TopFalls s.division.ord (latest_mark s.sent).1 top)
    pick (inl h) = inl h
    pick (inr e) = inr (e, falls_from s.division.ord s.unread (latest_mark s.sent).1 top (p.mark_top e) t (λ q. n (λ i. (e i, q i))))

pub some_length : {X : Type 0} (xs : List X) → xs ≢ [] → 0 < length xs
some_length [] n = absurd (n refl)
some_length (x ∷ xs) n = omega arith

-- ---- steps
-- a term is learned, and the front falls
pub learn_pays : (s : WorkerState) (a b : Option PlainFront) (t : Term) (unread : List Term) → HasPaid s a → ((x : List ℕ) → IsPast s.division (worker_rows s) a x → IsPast s.division (worker_rows s) b x)
    → IsPermutation (s.unread ++ row t (worker_rows s)) unread → HasPaid (record s { known = s.known ++ t ∷ []; unread = unread }) b
unfolding worker_rows times
learn_pays s a b t unread p falls h =
    let G = worker_rows s in let l : length (s.known ++ t ∷ []) ≡ length s.known + 1 = length-append s.known (t ∷ []) in
    let P : Term → Type 0 = λ u. IsPast s.division G a u.monomial in
    let Q : Term → Type 0 = λ u. IsPast s.division G b u.monomial in
    let first : times (s.known ++ t ∷ []) G ≡ times s.known G ++ row t G = times_append_left s.known (t ∷ []) G ∙ ap (λ (L : List Term). times s.known G ++ L) (append-nil (row t G)) in
    let second : IsPermutation (times s.known G ++ row t G) (p.handed ++ (s.unread ++ row t G)) =
    subst (λ (L : List Term). IsPermutation (times s.known G ++ row t G) L) (append_assoc p.handed s.unread (row t G)) (IsPermutation-append_left (row t G) (times s.known G) (p.handed ++ s.unread) p.split) in
    record {
      handed = p.handed;
      split = subst (λ (L : List Term). IsPermutation L (p.handed ++ unread)) (sym first)
          (IsPermutation-trans (times s.known G ++ row t G) (p.handed ++ (s.unread ++ row t G)) (p.handed ++ unread) second (IsPermutation-append_right p.handed (s.unread ++ row t G) unread h));
      past = All-weaker P Q (λ u k. falls u.monomial k) p.handed p.past;
      paid = p.paid;
      counted = count_learn s p.paid t unread p.counted h;
      mark_known = let k = p.mark_known in omega (arith, l, k);
      mark_top = λ e. let k = p.mark_known in absurd (omega (arith, l, k, e));
    }

-- the front alone falls
pub fall_pays : (s : WorkerState) (a b : Option PlainFront) → HasPaid s a → ((x : List ℕ) → IsPast s.division (worker_rows s) a x → IsPast s.division (worker_rows s) b x) → HasPaid s b
fall_pays s a b p falls = record {
  handed = p.handed;
  split = p.split;
  past = All-weaker (λ (u : Term). IsPast s.division (worker_rows s) a u.monomial) (λ (u : Term). IsPast s.division (worker_rows s) b u.monomial) (λ u k. falls u.monomial k) p.handed p.past;
  paid = p.paid;
  counted = p.counted;
  mark_known = p.mark_known;
  mark_top = p.mark_top;
}

-- products at x are handed out
pub hand_pays : (s : WorkerState) (front : Option PlainFront) (x : List ℕ) (taken unread : List Term) (c : ℤ) → HasPaid s front → s.kept ≡ [] → IsPermutation s.unread (taken ++ unread) → All (λ (t : Term). t.monomial ≡ x) taken → taken ≢ []
    → IsPast s.division (worker_rows s) front x → HasPaid (record s { unread = unread; kept = sum_at c x }) front
unfolding worker_rows
hand_pays s front x taken unread c p none h at some past =
    let G = worker_rows s in let P : Term → Type 0 = λ u. IsPast s.division G front u.monomial in
    let both : IsPermutation (p.handed ++ s.unread) ((p.handed ++ taken) ++ unread) =
    subst (λ (L : List Term). IsPermutation (p.handed ++ s.unread) L) (sym (append_assoc p.handed taken unread)) (IsPermutation-append_right p.handed s.unread (taken ++ unread) h) in
    record {
      handed = p.handed ++ taken;
      split = IsPermutation-trans (times s.known G) (p.handed ++ s.unread) ((p.handed ++ taken) ++ unread) p.split both;
      past = All-append P p.handed taken p.past (All-weaker (λ (t : Term). t.monomial ≡ x) P (λ t e. subst (IsPast s.division G front) (sym e) past) taken at);
      paid = p.paid;
      counted = count_hand s p.paid c x taken unread p.counted none some h;
      mark_known = p.mark_known;
      mark_top = λ e. less_at_top s.division.ord (latest_mark s.sent).1 s.unread taken unread h (some_length taken some) (p.mark_top e);
    }

-- the term that is kept is sent
pub send_pays : (s : WorkerState) (front : Option PlainFront) (t : Term) → HasPaid s front → s.kept ≡ t ∷ [] → HasPaid (record s { kept = []; sent = s.sent ++ TermNote t ∷ [] }) front
unfolding worker_rows
send_pays s front t p one =
    let mark = latest_term s.sent t in record {
      handed = p.handed;
      split = p.split;
      past = p.past;
      paid = p.paid;
      counted = count_send s p.paid t p.counted one;
      mark_known = subst (λ (v : ℕ × Option (List ℕ)). v.0 ≤ length s.known) (sym mark) p.mark_known;
      mark_top = subst (λ (v : ℕ × Option (List ℕ)). v.0 ≡ length s.known → AllAtTop s.division.ord v.1 s.unread) (sym mark) p.mark_top;
    }

-- a mark that tells something new is sent
pub mark_pays : (s : WorkerState) (front : Option PlainFront) (top : Option (List ℕ)) → HasPaid s front → IsUnreadTop s.division.ord s.unread top → MarkRises s.division.ord (latest_mark s.sent) (length s.known) top
    → HasPaid (record s { sent = s.sent ++ MarkNote (length s.known) top ∷ [] }) front
unfolding worker_rows
mark_pays s front top p t r =
    let mark = latest_new s.sent (length s.known) top in record {
      handed = p.handed;
      split = p.split;
      past = p.past;
      paid = length s.known + handed_out s;
      counted = count_mark s p.paid top p.counted t r;
      mark_known = subst (λ (v : ℕ × Option (List ℕ)). v.0 ≤ length s.known) (sym mark) (omega arith);
      mark_top = subst (λ (v : ℕ × Option (List ℕ)). v.0 ≡ length s.known → AllAtTop s.division.ord v.1 s.unread) (sym mark) (λ e. top_at_top s.division.ord s.unread top t);
    }

-- a worker at first
pub start_pays : (d : Division) (W w : ℕ) → HasPaid (record { division = d; workers = W; worker = w; known = []; unread = []; kept = []; sent = [] }) None
unfolding worker_rows times latest_mark mark_after AllAtTop
start_pays d W w = record {
  handed = [];
  split = IsPermutation-refl [];
  past = All-nil _;
  paid = 0;
  counted = count_start d W w;
  mark_known = omega arith;
  mark_top = λ e. refl;
}

-- ---- the count
pub few_sent : (s : WorkerState) (front : Option PlainFront) → HasPaid s front → IsFewSent s
few_sent s front p = counted_sent s p.paid p.counted
