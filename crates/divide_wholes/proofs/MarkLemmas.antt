-- The notes that a dividing worker may send, and that it stays whole.
use Rattle.std.proofs.Common.{◌≡◌, ◌≢◌, ℕ, ◌≤◌, ◌⊎◌, inl, inr, Bool, true, false, cond, List, [], ◌∷◌, ◌++◌, length, take, Option, Some, None, ℤ, pos, ◌+ℤ◌, neg_ℤ, All, refl, sym, ap, ◌∙◌, subst, arith, true≢false, append_assoc, append-nil}
use Rattle.std.proofs.lemmas.Int.{ints}
use Rattle.std.proofs.lemmas.List.{take-append-le, take_all}
use Rattle.std.proofs.lemmas.List.Elements.{All-nil, All-cons, All-head, All-tail, All-append, All-weaker}
use Rattle.std.proofs.lemmas.List.Sorted.{All-permutation}
use mathlib.Core.List.{IsPrefix}
use Rattle.sdmp_laws.specs.Order.{Order, alike, Below}
use Rattle.sdmp_laws.specs.Ring.{red}
use Rattle.sdmp_laws.specs.Poly.{Term, total, coef, Same, row, term_times, times, minus, is_zero, AllBelow}
use Rattle.sdmp_laws.specs.Division.{Division, IsAccepted}
use Rattle.sdmp_laws.specs.LongDivision.{quotient_list}
use Rattle.sdmp_laws.proofs.Ints.{red_add, red_neg, red_red, red_zero}
use Rattle.sdmp_laws.proofs.OrderLemmas.{order_facts, alike_self, alike_same}
use Rattle.sdmp_laws.proofs.Tests.{or_out, or_in_left, or_in_right}
use Rattle.sdmp_laws.proofs.PolyLemmas.{total_append, total_minus, same_total, from_total, red_difference, times_append_left}
use Rattle.sdmp_laws.proofs.TermsLemmas.{total_nil, total_other, total_above, total_at_head, AllBelow-up, is_zero_yes, is_zero_no}
use Rattle.sdmp_laws.proofs.NextTerm.{AllAtOrBelow-above}
use Rattle.whole_laws.specs.Notes.{Note, TermNote, MarkNote, EndNote, QuotientScript, divisor_rows, script_list, terms_in, has, IsProductMonomial, AboveTop, TopFalls, TopIsProduct, IsMark, NoEnd, MarkMayFollow, EndMayFollow, MayFollow, CarryAfter, Carry}
use Rattle.divide_wholes.specs.Wholes.{mark_after, latest_mark, IsBeyond}
use Rattle.divide_wholes.specs.Workers.{MarkRises, MarkFollows, LatestMark, worker_rows, worker_script, sum_at, IsUnreadTop, WorkerStart, WorkerLearn, WorkerHand, WorkerSend, WorkerMark}
use Rattle.whole_laws.proofs.NotesLemmas.{terms_in-append, terms_in-mark, Carry-push, has-append_left, total_hasnt}
use Rattle.divide_wholes.proofs.WorkerLemmas.{worker_next}
use Rattle.sdmp_laws.proofs.PlaceLemmas.{length_prefix}
use Rattle.sdmp_laws.proofs.Permutations.{total_permutation}
use Rattle.sdmp_laws.proofs.ListLemmas.{All-back}

-- ---- no End
NoEnd-push : (a : List Note) (x : Note) → NoEnd a → NoEnd (x ∷ []) → NoEnd (a ++ x ∷ [])
unfolding NoEnd
NoEnd-push [] x h k = k
NoEnd-push (TermNote t ∷ a) x h k = NoEnd-push a x h k
NoEnd-push (MarkNote j top ∷ a) x h k = NoEnd-push a x h k
NoEnd-push (EndNote ∷ a) x h k = absurd h

no_end_after : (d : Division) (W w : ℕ) (before notes : List Note) → NoEnd before → CarryAfter (QuotientScript d W w) before notes → NoEnd (before ++ notes)
unfolding CarryAfter MayFollow EndMayFollow NoEnd
no_end_after d W w before [] h c = subst NoEnd (sym (append-nil before)) h
no_end_after d W w before (TermNote t ∷ notes) h c = subst NoEnd (append_assoc before (TermNote t ∷ []) notes) (no_end_after d W w (before ++ TermNote t ∷ []) notes (NoEnd-push before (TermNote t) h tt) c.1)
no_end_after d W w before (MarkNote k top ∷ notes) h c = subst NoEnd (append_assoc before (MarkNote k top ∷ []) notes) (no_end_after d W w (before ++ MarkNote k top ∷ []) notes (NoEnd-push before (MarkNote k top) h tt) c.1)
no_end_after d W w before (EndNote ∷ notes) h c = absurd c.0.1

no_end : (d : Division) (W w : ℕ) (notes : List Note) → Carry (QuotientScript d W w) notes → NoEnd notes
unfolding NoEnd
no_end d W w notes c = no_end_after d W w [] notes tt c

-- ---- marks rise
falls_more : (ord : Order) (a b c : Option (List ℕ)) → TopFalls ord a b → TopFalls ord b c → TopFalls ord a c
unfolding TopFalls
falls_more ord None b c f g = absurd f
falls_more ord (Some x) None c f g = absurd g
falls_more ord (Some x) (Some y) None f g = tt
falls_more ord (Some x) (Some y) (Some z) f g = (order_facts ord).transitive z y x g f

-- the latest mark is this one, or rises above it
StaysAbove : Order → ℕ × Option (List ℕ) → ℕ × Option (List ℕ) → Type 0
StaysAbove ord old now = (now ≡ old) ⊎ MarkRises ord old now.0 now.1

rises_more : (ord : Order) (old now : ℕ × Option (List ℕ)) (known : ℕ) (top : Option (List ℕ)) → StaysAbove ord old now → MarkRises ord now known top → MarkRises ord old known top
unfolding MarkRises StaysAbove
rises_more ord old now known top (inl e) r = subst (λ (m : ℕ × Option (List ℕ)). MarkRises ord m known top) e r
rises_more ord old now known top (inr (inl l)) (inl k) = inl (omega arith)
rises_more ord old now known top (inr (inl l)) (inr k) = inl (let e = k.0 in omega arith)
rises_more ord old now known top (inr (inr l)) (inl k) = inl (let e = l.0 in omega arith)
rises_more ord old now known top (inr (inr l)) (inr k) = inr (l.0 ∙ k.0, falls_more ord old.1 now.1 top l.1 k.1)

from_mark : (d : Division) (W w k known : ℕ) (old top : Option (List ℕ)) (earlier between : List Note) → IsMark d W w known top (earlier ++ MarkNote k old ∷ between) → MarkRises d.ord (k, old) known top
unfolding MarkRises
from_mark d W w k known old top earlier between m = m.rises earlier between k old refl

latest_above : (d : Division) (W w k : ℕ) (old : Option (List ℕ)) (now : ℕ × Option (List ℕ)) (earlier between notes : List Note) → StaysAbove d.ord (k, old) now
    → CarryAfter (QuotientScript d W w) (earlier ++ MarkNote k old ∷ between) notes → StaysAbove d.ord (k, old) (mark_after now notes)
unfolding CarryAfter MayFollow MarkMayFollow mark_after StaysAbove
latest_above d W w k old now earlier between [] h c = h
latest_above d W w k old now earlier between (TermNote t ∷ notes) h c =
    latest_above d W w k old now earlier (between ++ TermNote t ∷ []) notes h (subst (λ (b : List Note). CarryAfter (QuotientScript d W w) b notes) (append_assoc earlier (MarkNote k old ∷ between) (TermNote t ∷ [])) c.1)
latest_above d W w k old now earlier between (MarkNote j top ∷ notes) h c =
    latest_above d W w k old (j, top) earlier (between ++ MarkNote j top ∷ []) notes (inr (from_mark d W w k j old top earlier between c.0.1))
    (subst (λ (b : List Note). CarryAfter (QuotientScript d W w) b notes) (append_assoc earlier (MarkNote k old ∷ between) (MarkNote j top ∷ [])) c.1)
latest_above d W w k old now earlier between (EndNote ∷ notes) h c =
    latest_above d W w k old now earlier (between ++ EndNote ∷ []) notes h (subst (λ (b : List Note). CarryAfter (QuotientScript d W w) b notes) (append_assoc earlier (MarkNote k old ∷ between) (EndNote ∷ [])) c.1)

carry_back : (d : Division) (W w : ℕ) (before a b : List Note) → CarryAfter (QuotientScript d W w) before (a ++ b) → CarryAfter (QuotientScript d W w) (before ++ a) b
unfolding CarryAfter
carry_back d W w before [] b c = subst (λ (l : List Note). CarryAfter (QuotientScript d W w) l b) (sym (append-nil before)) c
carry_back d W w before (x ∷ a) b c = subst (λ (l : List Note). CarryAfter (QuotientScript d W w) l b) (append_assoc before (x ∷ []) a) (carry_back d W w (before ++ x ∷ []) a b c.1)

mark_from : (now : ℕ × Option (List ℕ)) (k : ℕ) (old : Option (List ℕ)) (earlier between : List Note) → mark_after now (earlier ++ MarkNote k old ∷ between) ≡ mark_after (k, old) between
unfolding mark_after
mark_from now k old [] between = refl
mark_from now k old (TermNote t ∷ earlier) between = mark_from now k old earlier between
mark_from now k old (MarkNote j top ∷ earlier) between = mark_from (j, top) k old earlier between
mark_from now k old (EndNote ∷ earlier) between = mark_from now k old earlier between

rises_above : (d : Division) (W w k : ℕ) (old : Option (List ℕ)) (notes earlier between : List Note) → Carry (QuotientScript d W w) notes → notes ≡ earlier ++ MarkNote k old ∷ between → StaysAbove d.ord (k, old) (latest_mark notes)
unfolding latest_mark StaysAbove
rises_above d W w k old notes earlier between c e =
    let split : Carry (QuotientScript d W w) ((earlier ++ MarkNote k old ∷ []) ++ between) = subst (Carry (QuotientScript d W w)) (e ∙ sym (append_assoc earlier (MarkNote k old ∷ []) between)) c in
    let after = carry_back d W w [] (earlier ++ MarkNote k old ∷ []) between split in
    subst (StaysAbove d.ord (k, old)) (sym (mark_from (0, None) k old earlier between) ∙ ap (mark_after (0, None)) (sym e)) (latest_above d W w k old (k, old) earlier [] between (inl refl) after)

-- ---- the latest mark
CountsTerms : Division → ℕ → ℕ → ℕ × Option (List ℕ) → Type 0
CountsTerms d W w mark = (mark.0 ≤ length (quotient_list d)) × TopIsProduct (take mark.0 (quotient_list d)) (divisor_rows d.g W w) mark.1

mark_counts : (d : Division) (W w k : ℕ) (top : Option (List ℕ)) (before : List Note) → IsMark d W w k top before → CountsTerms d W w (k, top)
unfolding CountsTerms
mark_counts d W w k top before m = (m.known_terms, m.top_is)

counts_after : (d : Division) (W w : ℕ) (before notes : List Note) (mark : ℕ × Option (List ℕ)) → CarryAfter (QuotientScript d W w) before notes → CountsTerms d W w mark → CountsTerms d W w (mark_after mark notes)
unfolding CarryAfter MayFollow MarkMayFollow mark_after
counts_after d W w before [] mark c h = h
counts_after d W w before (TermNote t ∷ notes) mark c h = counts_after d W w (before ++ TermNote t ∷ []) notes mark c.1 h
counts_after d W w before (MarkNote k top ∷ notes) mark c h = counts_after d W w (before ++ MarkNote k top ∷ []) notes (k, top) c.1 (mark_counts d W w k top before c.0.1)
counts_after d W w before (EndNote ∷ notes) mark c h = counts_after d W w (before ++ EndNote ∷ []) notes mark c.1 h

pub latest_mark_counts : LatestMark
unfolding latest_mark TopIsProduct CountsTerms
latest_mark_counts d W w notes c = counts_after d W w [] notes (0, None) c (omega arith, tt)

-- ---- a mark may follow
has_or_not : (m : List ℕ) (S : List Term) (P : Type 0) → ((has m S ≡ false) → ⊥) → has m S ≡ true
has_or_not m S P h = pick (has m S) refl
  where
    pick : (b : Bool) → has m S ≡ b → has m S ≡ true
    pick true e = e
    pick false e = absurd (h e)

-- where A has a coefficient and A less S has none, S has a term
stands : (p : ℕ) (A S : List Term) (m : List ℕ) → coef p (minus A S) m ≡ pos 0 → coef p A m ≢ pos 0 → has m S ≡ true
unfolding coef
stands p A S m z n =
    has_or_not m S (Unit {0}) (λ none.
    n (red_difference p (total A m) (total S m) (ap (red p) (sym (total_minus A S m)) ∙ z) ∙ ap (red p) (total_hasnt m S none) ∙ red_zero p))

take_known : (known L : List Term) → IsPrefix known L → take (length known) L ≡ known
take_known known L i = ap (take (length known)) (sym i.1) ∙ (take-append-le (length known) known i.0 (omega arith) ∙ take_all (length known) known (omega arith))

pub mark_follows : MarkFollows
unfolding MayFollow MarkMayFollow MarkRises
mark_follows d W w known top notes i c t z r =
    let G = divisor_rows d.g W w in let k = take_known known (quotient_list d) i in (
      no_end d W w notes c,
      record {
        known_terms = length_prefix known (quotient_list d) i;
        top_is = subst (λ (A : List Term). TopIsProduct A G top) (sym k) t;
        sent = λ m l a n. stands d.p (times known G) (terms_in notes) m (z m l a) (λ e. n (ap (λ (A : List Term). coef d.p (times A G) m) k ∙ e));
        rises = λ earlier between j old e. rises_more d.ord (j, old) (latest_mark notes) (length known) top (rises_above d W w j old notes earlier between c e) r;
      },
    )

-- ---- a worker stays whole
pub worker_start : WorkerStart
unfolding CarryAfter worker_script worker_rows times terms_in
worker_start d W w = record {
  knows = (quotient_list d, refl);
  carried = tt;
  sum = from_total d.p [] (minus [] []) (λ m. ap (red d.p) (total_nil m ∙ sym (total_minus [] [] m ∙ (λ i. total_nil m i +ℤ neg_ℤ (total_nil m i)))));
  products = All-nil _;
  next = (script_list (QuotientScript d W w), refl);
}

-- ---- what is learned
has_here : (t : Term) (A : List Term) → has t.monomial (t ∷ A) ≡ true
unfolding has
has_here t A = or_in_left (alike t.monomial t.monomial) (has t.monomial A) (alike_self t.monomial)

has_later : (m : List ℕ) (t : Term) (A : List Term) → has m A ≡ true → has m (t ∷ A) ≡ true
unfolding has
has_later m t A h = or_in_right (alike t.monomial m) (has m A) h

has_last : (A : List Term) (t : Term) → has t.monomial (A ++ t ∷ []) ≡ true
has_last [] t = has_here t []
has_last (u ∷ A) t = has_later t.monomial u (A ++ t ∷ []) (has_last A t)

product_more : (A C B : List Term) (m : List ℕ) → IsProductMonomial A B m → IsProductMonomial (A ++ C) B m
product_more A C B m p = record { left = p.left; right = p.right; left_in = has-append_left p.left.monomial A C p.left_in; right_in = p.right_in; is = p.is }

row_products : (A G B : List Term) (t : Term) → has t.monomial A ≡ true → ((u : Term) → has u.monomial B ≡ true → has u.monomial G ≡ true) → All (λ (u : Term). IsProductMonomial A G u.monomial) (row t B)
unfolding row term_times
row_products A G [] t h inside = All-nil (λ (u : Term). IsProductMonomial A G u.monomial)
row_products A G (u ∷ B) t h inside =
    All-cons (λ (v : Term). IsProductMonomial A G v.monomial) (term_times t u) (row t B) (record { left = t; right = u; left_in = h; right_in = inside u (has_here u B); is = refl })
    (row_products A G B t h (λ v k. inside v (has_later v.monomial u B k)))

total_row : (t : Term) (G : List Term) (m : List ℕ) → total (times (t ∷ []) G) m ≡ total (row t G) m
unfolding times
total_row t G m = ap (λ (L : List Term). total L m) (append-nil (row t G))

learned_sum : (p : ℕ) (known U V S G : List Term) (t : Term) (m : List ℕ) → red p (total U m) ≡ red p (total (minus (times known G) S) m) → total V m ≡ total U m +ℤ total (row t G) m
    → red p (total V m) ≡ red p (total (minus (times (known ++ t ∷ []) G) S) m)
learned_sum p known U V S G t m e v =
    let old : total (minus (times known G) S) m ≡ total (times known G) m +ℤ neg_ℤ (total S m) = total_minus (times known G) S m in
    let new : total (minus (times (known ++ t ∷ []) G) S) m ≡ total (times (known ++ t ∷ []) G) m +ℤ neg_ℤ (total S m) = total_minus (times (known ++ t ∷ []) G) S m in
    let both : total (times (known ++ t ∷ []) G) m ≡ total (times known G) m +ℤ total (row t G) m =
    ap (λ (L : List Term). total L m) (times_append_left known (t ∷ []) G) ∙ total_append (times known G) (times (t ∷ []) G) m ∙ ap (λ (z : ℤ). total (times known G) m +ℤ z) (total_row t G m) in
    let moved : total (minus (times known G) S) m +ℤ total (row t G) m ≡ total (minus (times (known ++ t ∷ []) G) S) m = omega (arith, ints, old, new, both) in
    ap (red p) v ∙ red_add p (total U m) (total (minus (times known G) S) m) (total (row t G) m) (total (row t G) m) e refl ∙ ap (red p) moved

pub worker_learn : WorkerLearn
unfolding worker_script worker_rows
worker_learn s t unread whole i h =
    let G = divisor_rows s.division.g s.workers s.worker in
    let P : Term → Type 0 = λ u. IsProductMonomial (s.known ++ t ∷ []) G u.monomial in record {
      knows = i;
      carried = whole.carried;
      sum = from_total s.division.p unread (minus (times (s.known ++ t ∷ []) G) (terms_in s.sent ++ s.kept)) (λ m.
          learned_sum s.division.p s.known s.unread unread (terms_in s.sent ++ s.kept) G t m (same_total s.division.p s.unread (minus (times s.known G) (terms_in s.sent ++ s.kept)) whole.sum m)
          (total_permutation m (s.unread ++ row t G) unread h ∙ total_append s.unread (row t G) m));
      products = All-permutation P (s.unread ++ row t G) unread h
          (All-append P s.unread (row t G) (All-weaker (λ (u : Term). IsProductMonomial s.known G u.monomial) P (λ u. product_more s.known (t ∷ []) G u.monomial) s.unread whole.products)
          (row_products (s.known ++ t ∷ []) G G t (has_last s.known t) (λ u k. k)));
      next = whole.next;
    }

-- ---- what is handed out
total_elsewhere : (x m : List ℕ) (A : List Term) → All (λ (t : Term). t.monomial ≡ x) A → (x ≡ m → ⊥) → total A m ≡ pos 0
total_elsewhere x m [] h n = total_nil m
total_elsewhere x m (t ∷ A) h n = total_other t A m (λ e. n (sym (All-head (λ (u : Term). u.monomial ≡ x) t A h) ∙ e)) ∙ total_elsewhere x m A (All-tail (λ (u : Term). u.monomial ≡ x) t A h) n

sum_at_own : (c : ℤ) (x : List ℕ) → total (sum_at c x) x ≡ c
unfolding sum_at
sum_at_own c x = pick (is_zero c) refl
  where
    pick : (b : Bool) → is_zero c ≡ b → total (cond b [] (record { monomial = x; coefficient = c } ∷ [])) x ≡ c
    pick true e = total_nil x ∙ sym (is_zero_yes c e)
    pick false e = let h = total_at_head (record { monomial = x; coefficient = c }) [] in let z = total_nil x in omega (arith, ints, h, z)

sum_at_other : (c : ℤ) (x m : List ℕ) → (x ≡ m → ⊥) → total (sum_at c x) m ≡ pos 0
unfolding sum_at
sum_at_other c x m n = pick (is_zero c)
  where
    pick : (b : Bool) → total (cond b [] (record { monomial = x; coefficient = c } ∷ [])) m ≡ pos 0
    pick true = total_nil m
    pick false = total_other (record { monomial = x; coefficient = c }) [] m n ∙ total_nil m

same_or_not : (x m : List ℕ) → (x ≡ m) ⊎ (x ≡ m → ⊥)
same_or_not x m = pick (alike x m) refl
  where
    pick : (b : Bool) → alike x m ≡ b → (x ≡ m) ⊎ (x ≡ m → ⊥)
    pick true e = inl (alike_same x m e)
    pick false e = inr (λ q. true≢false (sym (ap (λ (v : List ℕ). alike v m) q ∙ alike_self m) ∙ e))

-- what is kept at m is what was taken out there
kept_is : (ord : Order) (p : ℕ) (x m : List ℕ) (U T V : List Term) → ((k : List ℕ) → total U k ≡ total T k +ℤ total V k) → All (λ (t : Term). t.monomial ≡ x) T → AllBelow ord x V
    → red p (total (sum_at (red p (total U x)) x) m) ≡ red p (total T m)
kept_is ord p x m U T V e at below = pick (same_or_not x m)
  where
    pick : (x ≡ m) ⊎ (x ≡ m → ⊥) → red p (total (sum_at (red p (total U x)) x) m) ≡ red p (total T m)
    pick (inl q) =
        let v : total V x ≡ pos 0 = total_above ord x V below in let u = e x in let t : total U x ≡ total T x = omega (arith, ints, u, v) in
        ap (λ (k : List ℕ). red p (total (sum_at (red p (total U x)) x) k)) (sym q) ∙ ap (red p) (sum_at_own (red p (total U x)) x) ∙ red_red p (total U x) ∙ ap (red p) t ∙ ap (λ (k : List ℕ). red p (total T k)) q
    pick (inr n) = ap (red p) (sum_at_other (red p (total U x)) x m n ∙ sym (total_elsewhere x m T at n))

handed_sum : (p : ℕ) (F S K U T V : List Term) (m : List ℕ) → red p (total U m) ≡ red p (total (minus F S) m) → total U m ≡ total T m +ℤ total V m → red p (total K m) ≡ red p (total T m)
    → red p (total V m) ≡ red p (total (minus F (S ++ K)) m)
handed_sum p F S K U T V m e u k =
    let old : total (minus F S) m ≡ total F m +ℤ neg_ℤ (total S m) = total_minus F S m in
    let new : total (minus F (S ++ K)) m ≡ total F m +ℤ neg_ℤ (total (S ++ K) m) = total_minus F (S ++ K) m in
    let both : total (S ++ K) m ≡ total S m +ℤ total K m = total_append S K m in
    let v : total V m ≡ total U m +ℤ neg_ℤ (total T m) = omega (arith, ints, u) in
    let moved : total (minus F S) m +ℤ neg_ℤ (total K m) ≡ total (minus F (S ++ K)) m = omega (arith, ints, old, new, both) in
    ap (red p) v ∙ red_add p (total U m) (total (minus F S) m) (neg_ℤ (total T m)) (neg_ℤ (total K m)) e (red_neg p (total T m) (total K m) (sym k)) ∙ ap (red p) moved

handed_next : (d : Division) (W w : ℕ) (known later S : List Term) (front x : List ℕ) (c : ℤ) → IsAccepted d → known ++ later ≡ quotient_list d → length front ≡ d.n → length x ≡ d.n → IsBeyond d (divisor_rows d.g W w) front later x
    → IsPrefix S (script_list (QuotientScript d W w)) → coef d.p (minus (times known (divisor_rows d.g W w)) S) x ≡ c
    → ((m : List ℕ) → length m ≡ d.n → Below d.ord x m → coef d.p (minus (times known (divisor_rows d.g W w)) S) m ≡ pos 0) → IsPrefix (S ++ sum_at c x) (script_list (QuotientScript d W w))
unfolding sum_at
handed_next d W w known later S front x c a e lf lx h i z above = pick (is_zero c) refl
  where
    pick : (y : Bool) → is_zero c ≡ y → IsPrefix (S ++ cond y [] (record { monomial = x; coefficient = c } ∷ [])) (script_list (QuotientScript d W w))
    pick true q = subst (λ (L : List Term). IsPrefix L (script_list (QuotientScript d W w))) (sym (append-nil S)) i
    pick false q =
        subst (λ (k : ℤ). IsPrefix (S ++ record { monomial = x; coefficient = k } ∷ []) (script_list (QuotientScript d W w))) z
        (worker_next d W w known later S front x a e lf lx h i (λ o. is_zero_no c q (sym z ∙ o)) above)

pub worker_hand : WorkerHand
unfolding worker_script worker_rows coef
worker_hand s x taken unread later front a whole none lx h at below e lf beyond =
    let d = s.division in let G = divisor_rows d.g s.workers s.worker in let S = terms_in s.sent in let F = times s.known G in
    let P : Term → Type 0 = λ u. IsProductMonomial s.known G u.monomial in
    let bare : S ++ s.kept ≡ S = ap (λ (K : List Term). S ++ K) none ∙ append-nil S in
    let sum : (m : List ℕ) → red d.p (total s.unread m) ≡ red d.p (total (minus F S) m) = λ m. same_total d.p s.unread (minus F (S ++ s.kept)) whole.sum m ∙ ap (λ (L : List Term). red d.p (total (minus F L) m)) bare in
    let parts : (m : List ℕ) → total s.unread m ≡ total taken m +ℤ total unread m = λ m. sym (total_permutation m s.unread (taken ++ unread) h) ∙ total_append taken unread m in
    let nothing : (m : List ℕ) → Below d.ord x m → total s.unread m ≡ pos 0 = λ m k.
    let t : total taken m ≡ pos 0 = total_elsewhere x m taken at (λ q. (order_facts d.ord).irreflexive m (subst (λ (v : List ℕ). Below d.ord v m) q k)) in
    let v : total unread m ≡ pos 0 = total_above d.ord m unread (AllBelow-up d.ord x m unread k below) in let u = parts m in omega (arith, ints, t, v, u) in
    let K = sum_at (red d.p (total s.unread x)) x in record {
      knows = whole.knows;
      carried = whole.carried;
      sum = from_total d.p unread (minus F (S ++ K)) (λ m. handed_sum d.p F S K s.unread taken unread m (sum m) (parts m) (kept_is d.ord d.p x m s.unread taken unread parts at below));
      products = All-back P taken unread (All-permutation P s.unread (taken ++ unread) h whole.products);
      next = handed_next d s.workers s.worker s.known later S front x (red d.p (total s.unread x)) a e lf lx beyond (subst (λ (L : List Term). IsPrefix L (script_list (QuotientScript d s.workers s.worker))) bare whole.next) (sym (sum x))
          (λ m l k. sym (sum m) ∙ ap (red d.p) (nothing m k) ∙ red_zero d.p);
    }

-- ---- what is sent
term_sent : (a : List Note) (t : Term) → terms_in (a ++ TermNote t ∷ []) ++ [] ≡ terms_in a ++ t ∷ []
unfolding terms_in
term_sent a t = append-nil (terms_in (a ++ TermNote t ∷ [])) ∙ terms_in-append a (TermNote t ∷ [])

term_may : (d : Division) (W w : ℕ) (a : List Note) (t : Term) → Carry (QuotientScript d W w) a → IsPrefix (terms_in a ++ t ∷ []) (script_list (QuotientScript d W w)) → MayFollow (QuotientScript d W w) a (TermNote t)
unfolding MayFollow
term_may d W w a t c i = (no_end d W w a c, i)

pub worker_send : WorkerSend
unfolding worker_script worker_rows
worker_send s t whole one =
    let d = s.division in let G = divisor_rows d.g s.workers s.worker in
    let is : terms_in s.sent ++ s.kept ≡ terms_in (s.sent ++ TermNote t ∷ []) ++ [] = ap (λ (K : List Term). terms_in s.sent ++ K) one ∙ sym (term_sent s.sent t) in
    let may = term_may d s.workers s.worker s.sent t whole.carried (subst (λ (K : List Term). IsPrefix (terms_in s.sent ++ K) (script_list (QuotientScript d s.workers s.worker))) one whole.next) in (
      may,
      record {
        knows = whole.knows;
        carried = Carry-push (QuotientScript d s.workers s.worker) s.sent (TermNote t) whole.carried may;
        sum = subst (λ (L : List Term). Same d.p s.unread (minus (times s.known G) L)) is whole.sum;
        products = whole.products;
        next = subst (λ (L : List Term). IsPrefix L (script_list (QuotientScript d s.workers s.worker))) is whole.next;
      },
    )

above_none : (p : ℕ) (ord : Order) (n : ℕ) (U : List Term) (top : Option (List ℕ)) (m : List ℕ) → IsUnreadTop ord U top → AboveTop ord top m → total U m ≡ pos 0
unfolding IsUnreadTop AboveTop
above_none p ord n U None m t a = ap (λ (L : List Term). total L m) t ∙ total_nil m
above_none p ord n U (Some x) m t a = total_above ord m U (AllAtOrBelow-above ord x m U t.1 a)

product_at : (A B U : List Term) (m : List ℕ) → has m U ≡ true → All (λ (t : Term). IsProductMonomial A B t.monomial) U → IsProductMonomial A B m
unfolding has
product_at A B [] m h all = absurd (true≢false (sym h))
product_at A B (t ∷ U) m h all = pick (λ k. product_at A B U m k (All-tail (λ (u : Term). IsProductMonomial A B u.monomial) t U all)) (or_out (alike t.monomial m) (has m U) h)
  where
    pick : (has m U ≡ true → IsProductMonomial A B m) → (alike t.monomial m ≡ true) ⊎ (has m U ≡ true) → IsProductMonomial A B m
    pick later (inl e) = subst (IsProductMonomial A B) (alike_same t.monomial m e) (All-head (λ (u : Term). IsProductMonomial A B u.monomial) t U all)
    pick later (inr k) = later k

top_product : (ord : Order) (A B U : List Term) (top : Option (List ℕ)) → IsUnreadTop ord U top → All (λ (t : Term). IsProductMonomial A B t.monomial) U → TopIsProduct A B top
unfolding IsUnreadTop TopIsProduct
top_product ord A B U None t all = tt
top_product ord A B U (Some m) t all = product_at A B U m t.0 all

pub worker_mark : WorkerMark
unfolding worker_script worker_rows coef
worker_mark s top whole none t r =
    let d = s.division in let G = divisor_rows d.g s.workers s.worker in let S = terms_in s.sent in let F = times s.known G in
    let k : ℕ = length s.known in
    let bare : S ++ s.kept ≡ S = ap (λ (K : List Term). S ++ K) none ∙ append-nil S in
    let sum : (m : List ℕ) → red d.p (total s.unread m) ≡ red d.p (total (minus F S) m) = λ m. same_total d.p s.unread (minus F (S ++ s.kept)) whole.sum m ∙ ap (λ (L : List Term). red d.p (total (minus F L) m)) bare in
    let is : S ++ s.kept ≡ terms_in (s.sent ++ MarkNote k top ∷ []) ++ s.kept = ap (λ (L : List Term). L ++ s.kept) (sym (terms_in-mark s.sent k top)) in
    let may = mark_follows d s.workers s.worker s.known top s.sent whole.knows whole.carried (top_product d.ord s.known G s.unread top t whole.products)
    (λ m l a. sym (sum m) ∙ ap (red d.p) (above_none d.p d.ord d.n s.unread top m t a) ∙ red_zero d.p) r in (
      may,
      record {
        knows = whole.knows;
        carried = Carry-push (QuotientScript d s.workers s.worker) s.sent (MarkNote k top) whole.carried may;
        sum = subst (λ (L : List Term). Same d.p s.unread (minus F L)) is whole.sum;
        products = whole.products;
        next = subst (λ (L : List Term). IsPrefix L (script_list (QuotientScript d s.workers s.worker))) is whole.next;
      },
    )
