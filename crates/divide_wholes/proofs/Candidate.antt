-- Why the coefficient at a candidate of a division is final.
use Rattle.std.proofs.Common.{◌≡◌, ℕ, ◌<◌, ◌⊎◌, inl, inr, Bool, true, false, List, [], ◌∷◌, ◌++◌, length, take, Option, Some, None, ℤ, pos, ◌+ℤ◌, neg_ℤ, refl, sym, ap, ap₂, ◌∙◌, subst, arith, true≢false, append_assoc, append-nil, drop}
use Rattle.std.proofs.lemmas.Int.{ints}
use native.Mathlib.Decide.{ℕ_discrete}
use Rattle.sdmp_laws.specs.Order.{Order, ◌⋅◌, Divides, over, alike, Below}
use Rattle.sdmp_laws.specs.Ring.{red}
use Rattle.sdmp_laws.specs.Poly.{Term, total, coef, Same, row, times, minus, Over, AllBelow, IsPoly, terms, sum_over, is_zero, lm}
use Rattle.sdmp_laws.specs.Division.{Division, IsAccepted, IsExact, NoneDivisible, InScope, AtOrAbove, Turn, Turns}
use Rattle.sdmp_laws.specs.LongDivision.{quotient_list}
use Rattle.whole_laws.specs.Notes.{Note, QuotientScript, after_lead, lead_term, divisor_rows, script_list, terms_in, has, AboveTop, Carry, owed}
use Rattle.whole_laws.specs.Wholes.{head_terms, IsHead, notes_of}
use Rattle.divide_wholes.specs.Wholes.{DivideState, DivideWhole, divide_script, all_owed, latest_mark, AllUnderFront, RemainderFits, IsSettled, IsCandidate, IsBound, IsFinished, IsFrontAt}
use Rattle.divide_wholes.specs.DivideLaws.{CandidateFinal, CandidateTerm, CandidateNone, BoundIsFront, FinishedIsRight, FrontChoices}
use Rattle.sdmp_laws.specs.declared.Mode.{Mode}
use Rattle.sdmp_laws.specs.declared.Mode.TheVariants.{Exact, Remainder}
use Rattle.sdmp_laws.proofs.Ints.{red_add, red_zero, red_neg, add_zero, zero_add}
use Rattle.sdmp_laws.proofs.OrderLemmas.{Three, is_less, is_equal, is_greater, below_total, order_facts, length_times, alike_same}
use Rattle.sdmp_laws.proofs.Tests.{or_out}
use Rattle.sdmp_laws.proofs.PolyLemmas.{total_append, total_minus, same_total, from_total, delta, total_weigh, weigh_times_append, times_append_left, red_difference, red_difference_back, Same-trans, Same-append, Same-refl}
use Rattle.sdmp_laws.proofs.TermsLemmas.{total_nil, total_above, total_other, nothing_below, head_facts, tail_poly, is_zero_yes, is_zero_no, terms_poly, terms_same}
use Rattle.sdmp_laws.proofs.DivisionLemmas.{AllBelow-append, total_at, row_below, length_lm, in_scope, turns_poly, Turns-after, Turns-push, none_at, divides_times, put_back, divides_scope}
use Rattle.sdmp_laws.proofs.LongLemmas.{quotient_list_is, prefix_begins, begins_prefix, Over-times, exact_is_list, over_times, length_over, all_in_scope, Over-minus}
use Rattle.whole_laws.proofs.NotesLemmas.{taken_owed, total_hasnt}
use Rattle.divide_wholes.proofs.LatestMark.{IsSent, latest_sent}
use Rattle.sdmp_laws.proofs.NextTerm.{AllBelow-at, at_then_at, AllAtOrBelow-above, below_last, back_poly}
use Rattle.whole_laws.proofs.Sums.{nothing_over}
use Rattle.sdmp_laws.proofs.ListLemmas.{Over-every, AllBelow-every, AllBelow-back}
use Rattle.std.proofs.Math.Seq.{drop-nil}

-- ---- products of later quotient terms with the lower terms of the divisor stand below the front
row_under : (ord : Order) (n : ℕ) (t : Term) (l x : List ℕ) (B : List Term) → length l ≡ n → Over n B → AllBelow ord l B → AtOrAbove ord (t.monomial ⋅ l) x → AllBelow ord x (row t B)
row_under ord n t l x B e o h a = AllBelow-at ord (t.monomial ⋅ l) x (row t B) (row_below ord n t l B e o h) a

later_below : (d : Division) (x : List ℕ) (A B : List Term) → length (lm d.g) ≡ d.n → Over d.n B → AllBelow d.ord (lm d.g) B → AllUnderFront d (Some x) A → AllBelow d.ord x (times A B)
unfolding AllUnderFront times
later_below d x [] B e o h u = nothing_below d.ord x
later_below d x (t ∷ A) B e o h u =
    AllBelow-append d.ord x (row t B) (times A B) (row_under d.ord d.n t (lm d.g) x B e o h u.0) (later_below d x A B e o h u.1)

-- ---- the lower terms of the divisor
record LowerTerms (d : Division) : Type 0 where
  vectors : Over d.n (after_lead d.g)
  below : AllBelow d.ord (lm d.g) (after_lead d.g)

lower_of : (ord : Order) (p n : ℕ) (g : List Term) → IsPoly ord p n g → Over n (after_lead g) × AllBelow ord (lm g) (after_lead g)
unfolding after_lead lm Over AllBelow
lower_of ord p n [] i = (tt, tt)
lower_of ord p n (t ∷ g) i = (i.vectors.1, (head_facts ord p n t g i).1)

pub rows_below : (d : Division) (W w : ℕ) → IsAccepted d → AllBelow d.ord (lm d.g) (divisor_rows d.g W w)
unfolding divisor_rows
rows_below d W w a = AllBelow-every d.ord (lm d.g) W w 1 (after_lead d.g) (lower_of d.ord d.p d.n d.g a.divisor).1

pub rows_over : (d : Division) (W w : ℕ) → IsAccepted d → Over d.n (divisor_rows d.g W w)
unfolding divisor_rows
rows_over d W w a = Over-every d.n W w 1 (after_lead d.g) (lower_of d.ord d.p d.n d.g a.divisor).0

-- ---- the terms of q*, cut at q
pub times_split : (A B C : List Term) (m : List ℕ) → total (times (A ++ B) C) m ≡ total (times A C) m +ℤ total (times B C) m
times_split A B C m = ap (λ (L : List Term). total L m) (times_append_left A B C) ∙ total_append (times A C) (times B C) m

times_split_right : (A B C : List Term) (m : List ℕ) → total (times A (B ++ C)) m ≡ total (times A B) m +ℤ total (times A C) m
times_split_right A B C m =
    total_weigh (times A (B ++ C)) m ∙ weigh_times_append (delta m) A B C ∙ ap₂ ◌+ℤ◌ (sym (total_weigh (times A B) m)) (sym (total_weigh (times A C) m))

pub whole_divisor : (g : List Term) → lead_term g ++ after_lead g ≡ g
unfolding lead_term after_lead
whole_divisor [] = refl
whole_divisor (t ∷ g) = refl

take_of_append : (q later : List Term) → take (length q) (q ++ later) ≡ q
take_of_append [] later = refl
take_of_append (t ∷ q) later = ap (λ (L : List Term). t ∷ L) (take_of_append q later)

take_front : (q later L : List Term) → q ++ later ≡ L → take (length q) L ≡ q
take_front q later L e = ap (take (length q)) (sym e) ∙ take_of_append q later

-- ---- what is owed counts for nothing at x
pub quotient_poly : (d : Division) → IsAccepted d → IsPoly d.ord d.p d.n (quotient_list d)
quotient_poly d a = turns_poly d d.f (quotient_list d) a (quotient_list_is d a).turns

pub script_poly : (d : Division) (W w : ℕ) → IsAccepted d → IsPoly d.ord d.p d.n (script_list (QuotientScript d W w))
unfolding script_list
script_poly d W w a =
    terms_poly d.ord d.p d.n (times (quotient_list d) (divisor_rows d.g W w))
    (Over-times d.n (quotient_list d) (divisor_rows d.g W w) (quotient_poly d a).vectors (rows_over d W w a))

pub script_total : (d : Division) (W w : ℕ) (x : List ℕ) → red d.p (total (script_list (QuotientScript d W w)) x) ≡ red d.p (total (times (quotient_list d) (divisor_rows d.g W w)) x)
unfolding script_list
script_total d W w x = same_total d.p (terms d.ord d.p (times (quotient_list d) (divisor_rows d.g W w))) (times (quotient_list d) (divisor_rows d.g W w)) (terms_same d.ord d.p (times (quotient_list d) (divisor_rows d.g W w))) x

-- a list whose front part has a term at x has none there in its back part
back_nothing : (ord : Order) (p n : ℕ) (A B : List Term) (x : List ℕ) → IsPoly ord p n (A ++ B) → has x A ≡ true → total B x ≡ pos 0
unfolding has
back_nothing ord p n [] B x i h = absurd (true≢false (sym h))
back_nothing ord p n (t ∷ A) B x i h = pick (λ k. back_nothing ord p n A B x (tail_poly ord p n t (A ++ B) i) k) (or_out (alike t.monomial x) (has x A) h)
  where
    pick : (has x A ≡ true → total B x ≡ pos 0) → (alike t.monomial x ≡ true) ⊎ (has x A ≡ true) → total B x ≡ pos 0
    pick ih (inl e) = ap (total B) (sym (alike_same t.monomial x e)) ∙ total_above ord t.monomial B (AllBelow-back ord t.monomial A B (head_facts ord p n t (A ++ B) i).1)
    pick ih (inr k) = ih k

head_owes_nothing : (d : Division) (W w : ℕ) (x : List ℕ) (notes : List Note) (t : Term) → IsAccepted d → Carry (QuotientScript d W w) notes → IsHead (Some t) notes → AtOrAbove d.ord t.monomial x → red d.p (total (owed (QuotientScript d W w) notes) x) ≡ pos 0
unfolding IsHead
head_owes_nothing d W w x notes t a c h k =
    let o = owed (QuotientScript d W w) notes in
    let e : h.0 ++ t ∷ o ≡ script_list (QuotientScript d W w) = sym (append_assoc h.0 (t ∷ []) o) ∙ ap (λ (L : List Term). L ++ o) (sym h.1) ∙ taken_owed (QuotientScript d W w) notes c in
    let i = subst (λ (L : List Term). IsPoly d.ord d.p d.n L) (sym e) (script_poly d W w a) in
    ap (red d.p) (total_at d.ord t.monomial x o (below_last d.ord d.p d.n h.0 t o i) k) ∙ red_zero d.p

sent_at : (d : Division) (W w : ℕ) (mark : ℕ × Option (List ℕ)) (A : List Term) (x : List ℕ) → IsSent d W w mark A → length x ≡ d.n → AboveTop d.ord mark.1 x → (red d.p (total (times (take mark.0 (quotient_list d)) (divisor_rows d.g W w)) x) ≡ pos 0 → ⊥) → has x A ≡ true
unfolding IsSent coef
sent_at d W w mark A x h l k z = h x l k z

mark_owes_nothing : (d : Division) (W w : ℕ) (x : List ℕ) (notes : List Note) (q later : List Term) → IsAccepted d → Carry (QuotientScript d W w) notes → q ++ later ≡ quotient_list d → length x ≡ d.n → AllUnderFront d (Some x) later → (latest_mark notes).0 ≡ length q → AboveTop d.ord (latest_mark notes).1 x → red d.p (total (owed (QuotientScript d W w) notes) x) ≡ pos 0
mark_owes_nothing d W w x notes q later a c e l u k top = pick (has x (terms_in notes)) refl
  where
    o : List Term
    o = owed (QuotientScript d W w) notes

    G : List Term
    G = divisor_rows d.g W w

    whole : IsPoly d.ord d.p d.n (terms_in notes ++ owed (QuotientScript d W w) notes)
    whole = subst (λ (L : List Term). IsPoly d.ord d.p d.n L) (sym (taken_owed (QuotientScript d W w) notes c)) (script_poly d W w a)

    -- the later quotient terms add nothing at x
    known : red d.p (total (times (quotient_list d) (divisor_rows d.g W w)) x) ≡ red d.p (total (times (take (latest_mark notes).0 (quotient_list d)) (divisor_rows d.g W w)) x)
    known =
        let z : total (times later (divisor_rows d.g W w)) x ≡ pos 0 = total_above d.ord x (times later (divisor_rows d.g W w)) (later_below d x later (divisor_rows d.g W w) (length_lm d a) (rows_over d W w a) (rows_below d W w a) u) in
        let s : total (times (quotient_list d) (divisor_rows d.g W w)) x ≡ total (times q (divisor_rows d.g W w)) x = ap (λ (L : List Term). total (times L (divisor_rows d.g W w)) x) (sym e) ∙ times_split q later (divisor_rows d.g W w) x ∙ ap (λ (y : ℤ). total (times q (divisor_rows d.g W w)) x +ℤ y) z ∙ add_zero (total (times q (divisor_rows d.g W w)) x) in
        ap (red d.p) (s ∙ ap (λ (L : List Term). total (times L (divisor_rows d.g W w)) x) (sym (ap (λ (j : ℕ). take j (quotient_list d)) k ∙ take_front q later (quotient_list d) e)))

    no_sent : has x (terms_in notes) ≡ false → red d.p (total (times (quotient_list d) (divisor_rows d.g W w)) x) ≡ pos 0
    no_sent h = decide (is_zero (red d.p (total (times (take (latest_mark notes).0 (quotient_list d)) (divisor_rows d.g W w)) x))) refl
      where
        decide : (b : Bool) → is_zero (red d.p (total (times (take (latest_mark notes).0 (quotient_list d)) (divisor_rows d.g W w)) x)) ≡ b → red d.p (total (times (quotient_list d) (divisor_rows d.g W w)) x) ≡ pos 0
        decide true y = known ∙ is_zero_yes (red d.p (total (times (take (latest_mark notes).0 (quotient_list d)) (divisor_rows d.g W w)) x)) y
        decide false y = absurd (true≢false (sym (sent_at d W w (latest_mark notes) (terms_in notes) x (latest_sent d W w notes c) l top (is_zero_no (red d.p (total (times (take (latest_mark notes).0 (quotient_list d)) (divisor_rows d.g W w)) x)) y)) ∙ h))

    pick : (b : Bool) → has x (terms_in notes) ≡ b → red d.p (total (owed (QuotientScript d W w) notes) x) ≡ pos 0
    pick true h = ap (red d.p) (back_nothing d.ord d.p d.n (terms_in notes) (owed (QuotientScript d W w) notes) x whole h) ∙ red_zero d.p
    pick false h =
        ap (red d.p) (sym (zero_add (total (owed (QuotientScript d W w) notes) x)) ∙ ap (λ (y : ℤ). y +ℤ total (owed (QuotientScript d W w) notes) x) (sym (total_hasnt x (terms_in notes) h)) ∙ sym (total_append (terms_in notes) (owed (QuotientScript d W w) notes) x) ∙ ap (λ (L : List Term). total L x) (taken_owed (QuotientScript d W w) notes c))
        ∙ script_total d W w x ∙ no_sent h

-- a worker whose part of the divisor has no term owes nothing
pub times_nothing : (A : List Term) → times A [] ≡ []
unfolding times row
times_nothing [] = refl
times_nothing (t ∷ A) = times_nothing A

no_terms : (ord : Order) (p : ℕ) (A : List Term) → A ≡ [] → terms ord p A ≡ []
unfolding terms
no_terms ord p A e = ap (terms ord p) e

pub no_rows_owe : (d : Division) (W w : ℕ) (notes : List Note) → divisor_rows d.g W w ≡ [] → owed (QuotientScript d W w) notes ≡ []
unfolding owed script_list
no_rows_owe d W w notes e =
    ap (drop (length (terms_in notes))) (no_terms d.ord d.p (times (quotient_list d) (divisor_rows d.g W w)) (ap (times (quotient_list d)) e ∙ times_nothing (quotient_list d))) ∙ drop-nil (length (terms_in notes))

-- ---- the coefficient is final
pub settled_owes_nothing : (s : DivideState) (x : List ℕ) (w : ℕ) (later : List Term) → IsAccepted s.division → DivideWhole s → s.q ++ later ≡ quotient_list s.division → length x ≡ s.division.n → AllUnderFront s.division (Some x) later → w < s.workers → IsSettled s x w → red s.division.p (total (owed (divide_script s w) (notes_of s.taken w)) x) ≡ pos 0
unfolding IsSettled divide_script
settled_owes_nothing s x w later a whole e l u h (inl k) =
    head_owes_nothing s.division s.workers w x (notes_of s.taken w) k.0 a (whole.carried w h) (subst (λ (o : Option Term). IsHead o (notes_of s.taken w)) k.1 (whole.heads_are w h)) k.2
settled_owes_nothing s x w later a whole e l u h (inr (inl k)) =
    mark_owes_nothing s.division s.workers w x (notes_of s.taken w) s.q later a (whole.carried w h) e l u k.0 k.1
settled_owes_nothing s x w later a whole e l u h (inr (inr k)) = ap (λ (L : List Term). red s.division.p (total L x)) (no_rows_owe s.division s.workers w (notes_of s.taken w) k) ∙ ap (red s.division.p) (total_nil x) ∙ red_zero s.division.p

-- at an x where every worker is settled and no later quotient term belongs above, what is left of f after q*g is the remainder so far and the unread part less the heads
final_at : (s : DivideState) (x : List ℕ) (later : List Term) → IsAccepted s.division → DivideWhole s → s.q ++ later ≡ quotient_list s.division → length x ≡ s.division.n → AllUnderFront s.division (Some x) later → ((w : ℕ) → w < s.workers → IsSettled s x w)
    → red s.division.p (total (minus s.division.f (times s.q s.division.g)) x) ≡ red s.division.p (total (minus (s.r ++ s.unread) (head_terms s.heads)) x)
unfolding all_owed
final_at s x later a whole e l u settled =
    ap (red d.p) step₁
    ∙ red_add d.p (total f x +ℤ neg_ℤ (total (times (quotient_list d) (after_lead d.g)) x)) (total (times s.q (lead_term d.g) ++ (s.r ++ s.unread)) x +ℤ neg_ℤ (total (head_terms s.heads ++ owed_sum) x))
    (neg_ℤ (total (times s.q (lead_term d.g)) x)) (neg_ℤ (total (times s.q (lead_term d.g)) x))
    (sym (sum_at)) refl
    ∙ ap (red d.p) step₂
    ∙ red_add d.p (total (minus (s.r ++ s.unread) (head_terms s.heads)) x) (total (minus (s.r ++ s.unread) (head_terms s.heads)) x) (neg_ℤ (total owed_sum x)) (neg_ℤ (pos 0)) refl (red_neg d.p (total owed_sum x) (pos 0) (owes ∙ sym (red_zero d.p)))
    ∙ ap (red d.p) (add_zero (total (minus (s.r ++ s.unread) (head_terms s.heads)) x))
  where
    d : Division
    d = s.division

    f : List Term
    f = s.division.f

    owed_sum : List Term
    owed_sum = sum_over s.workers (λ w. owed (divide_script s w) (notes_of s.taken w))

    owes : red s.division.p (total (sum_over s.workers (λ w. owed (divide_script s w) (notes_of s.taken w))) x) ≡ pos 0
    owes = nothing_over s.division.p x (λ w. owed (divide_script s w) (notes_of s.taken w)) s.workers (λ w h. settled_owes_nothing s x w later a whole e l u h (settled w h))

    sum_at : red s.division.p (total (times s.q (lead_term s.division.g) ++ (s.r ++ s.unread)) x +ℤ neg_ℤ (total (head_terms s.heads ++ sum_over s.workers (λ w. owed (divide_script s w) (notes_of s.taken w))) x)) ≡ red s.division.p (total s.division.f x +ℤ neg_ℤ (total (times (quotient_list s.division) (after_lead s.division.g)) x))
    sum_at =
        ap (red s.division.p) (sym (total_minus (times s.q (lead_term s.division.g) ++ (s.r ++ s.unread)) (head_terms s.heads ++ sum_over s.workers (λ w. owed (divide_script s w) (notes_of s.taken w))) x))
        ∙ same_total s.division.p (minus (times s.q (lead_term s.division.g) ++ (s.r ++ s.unread)) (head_terms s.heads ++ sum_over s.workers (λ w. owed (divide_script s w) (notes_of s.taken w)))) (minus s.division.f (times (quotient_list s.division) (after_lead s.division.g))) whole.sum x
        ∙ ap (red s.division.p) (total_minus s.division.f (times (quotient_list s.division) (after_lead s.division.g)) x)

    nothing_later : total (times later (after_lead s.division.g)) x ≡ pos 0
    nothing_later =
        let low = lower_of s.division.ord s.division.p s.division.n s.division.g a.divisor in
        total_above s.division.ord x (times later (after_lead s.division.g)) (later_below s.division x later (after_lead s.division.g) (length_lm s.division a) low.0 low.1 u)

    q_star : total (times (quotient_list s.division) (after_lead s.division.g)) x ≡ total (times s.q (after_lead s.division.g)) x
    q_star =
        ap (λ (L : List Term). total (times L (after_lead s.division.g)) x) (sym e)
        ∙ times_split s.q later (after_lead s.division.g) x
        ∙ ap (λ (y : ℤ). total (times s.q (after_lead s.division.g)) x +ℤ y) nothing_later
        ∙ add_zero (total (times s.q (after_lead s.division.g)) x)

    q_g : total (times s.q s.division.g) x ≡ total (times s.q (lead_term s.division.g)) x +ℤ total (times s.q (after_lead s.division.g)) x
    q_g = ap (λ (L : List Term). total (times s.q L) x) (sym (whole_divisor s.division.g)) ∙ times_split_right s.q (lead_term s.division.g) (after_lead s.division.g) x

    step₁ : total (minus s.division.f (times s.q s.division.g)) x ≡ (total s.division.f x +ℤ neg_ℤ (total (times (quotient_list s.division) (after_lead s.division.g)) x)) +ℤ neg_ℤ (total (times s.q (lead_term s.division.g)) x)
    step₁ = omega (arith, ints, total_minus s.division.f (times s.q s.division.g) x, q_g, q_star)

    step₂ : (total (times s.q (lead_term s.division.g) ++ (s.r ++ s.unread)) x +ℤ neg_ℤ (total (head_terms s.heads ++ sum_over s.workers (λ w. owed (divide_script s w) (notes_of s.taken w))) x)) +ℤ neg_ℤ (total (times s.q (lead_term s.division.g)) x) ≡ total (minus (s.r ++ s.unread) (head_terms s.heads)) x +ℤ neg_ℤ (total (sum_over s.workers (λ w. owed (divide_script s w) (notes_of s.taken w))) x)
    step₂ =
        omega (
          arith,
          ints,
          total_append (times s.q (lead_term s.division.g)) (s.r ++ s.unread) x,
          total_append (head_terms s.heads) (sum_over s.workers (λ w. owed (divide_script s w) (notes_of s.taken w))) x,
          total_minus (s.r ++ s.unread) (head_terms s.heads) x,
        )

-- the remainder so far has no coefficient in scope
rest_nothing : (s : DivideState) (x : List ℕ) (m : Mode) → RemainderFits m s.division s.r → InScope m (lm s.division.g) x → total s.r x ≡ pos 0
unfolding RemainderFits InScope
rest_nothing s x Exact h c = ap (λ (L : List Term). total L x) h ∙ total_nil x
rest_nothing s x Remainder h c = none_at (lm s.division.g) x s.r h.1 c

in_scope_at : (s : DivideState) (x : List ℕ) (later : List Term) → IsAccepted s.division → DivideWhole s → s.q ++ later ≡ quotient_list s.division → length x ≡ s.division.n → InScope s.division.mode (lm s.division.g) x → AllUnderFront s.division (Some x) later → ((w : ℕ) → w < s.workers → IsSettled s x w)
    → red s.division.p (total (minus s.division.f (times s.q s.division.g)) x) ≡ red s.division.p (total (minus s.unread (head_terms s.heads)) x)
in_scope_at s x later a whole e l c u settled =
    final_at s x later a whole e l u settled
    ∙ ap (red s.division.p) (omega (arith, ints, total_minus (s.r ++ s.unread) (head_terms s.heads) x, total_append s.r s.unread x, rest_nothing s x s.division.mode whole.remainder c, total_minus s.unread (head_terms s.heads) x))

-- what is settled at x is settled above
above_top_up : (ord : Order) (top : Option (List ℕ)) (x y : List ℕ) → AboveTop ord top x → AtOrAbove ord x y → AboveTop ord top y
unfolding AboveTop
above_top_up ord None x y h k = tt
above_top_up ord (Some t) x y h (inl e) = subst (λ (v : List ℕ). Below ord t v) e h
above_top_up ord (Some t) x y h (inr b) = (order_facts ord).transitive t x y h b

pub settled_up : (s : DivideState) (x y : List ℕ) (w : ℕ) → AtOrAbove s.division.ord x y → IsSettled s x w → IsSettled s y w
unfolding IsSettled
settled_up s x y w k (inl h) = inl (h.0, h.1, at_then_at s.division.ord (h.0).monomial x y h.2 k)
settled_up s x y w k (inr (inl h)) = inr (inl (h.0, above_top_up s.division.ord (latest_mark (notes_of s.taken w)).1 x y h.1 k))
settled_up s x y w k (inr (inr h)) = inr (inr h)

-- ---- no later quotient term belongs above the candidate
first_below : (ord : Order) (t s : Term) (A : List Term) → AllBelow ord t.monomial (s ∷ A) → Below ord s.monomial t.monomial
unfolding AllBelow
first_below ord t s A h = h.0

pub under_rest : (d : Division) (x : List ℕ) (t : Term) (A : List Term) → IsAccepted d → IsPoly d.ord d.p d.n (t ∷ A) → AtOrAbove d.ord (t.monomial ⋅ lm d.g) x → AllUnderFront d (Some x) (t ∷ A)
unfolding AllUnderFront
under_rest d x t [] a i h = (h, tt)
under_rest d x t (s ∷ A) a i h =
    let f = head_facts d.ord d.p d.n t (s ∷ A) i in
    let g = head_facts d.ord d.p d.n s A (tail_poly d.ord d.p d.n t (s ∷ A) i) in
    let b = (order_facts d.ord).compatible s.monomial t.monomial (lm d.g) (g.0 ∙ sym f.0) (first_below d.ord t s A f.1) in
    (h, under_rest d x s A a (tail_poly d.ord d.p d.n t (s ∷ A) i) (at_then_at d.ord (s.monomial ⋅ lm d.g) (t.monomial ⋅ lm d.g) x (inr b) h))

pub under_none : (d : Division) (x : List ℕ) → AllUnderFront d (Some x) []
unfolding AllUnderFront
under_none d x = tt

zero_above : (s : DivideState) (x y : List ℕ) → IsBound s x → Below s.division.ord x y → red s.division.p (total (minus s.unread (head_terms s.heads)) y) ≡ pos 0
zero_above s x y c b =
    let z₁ = total_above s.division.ord y s.unread (AllAtOrBelow-above s.division.ord x y s.unread c.unread_below b) in
    let z₂ = total_above s.division.ord y (head_terms s.heads) (AllAtOrBelow-above s.division.ord x y (head_terms s.heads) c.heads_below b) in
    ap (red s.division.p) (omega (arith, ints, total_minus s.unread (head_terms s.heads) y, z₁, z₂)) ∙ red_zero s.division.p

pub candidate_bound : (s : DivideState) (x : List ℕ) → IsCandidate s x → IsBound s x
candidate_bound s x c = record {
  vector = c.vector;
  unread_below = c.unread_below;
  heads_below = c.heads_below;
  settled_above = λ y w b h. settled_up s x y w (inr b) (c.settled w h);
}

-- the turn that lists the first later term
later_turn : (s : DivideState) (t : Term) (A : List Term) → IsAccepted s.division → s.q ++ t ∷ A ≡ quotient_list s.division → Turn s.division (minus s.division.f (times s.q s.division.g)) t
unfolding Turns
later_turn s t A a e =
    (Turns-after s.division s.division.f s.q (t ∷ A) (subst (λ (L : List Term). Turns s.division s.division.f L) (sym e) (quotient_list_is s.division a).turns)).0

pub later_poly : (s : DivideState) (A : List Term) → IsAccepted s.division → s.q ++ A ≡ quotient_list s.division → IsPoly s.division.ord s.division.p s.division.n A
later_poly s A a e = back_poly s.division.ord s.division.p s.division.n s.q A (subst (λ (L : List Term). IsPoly s.division.ord s.division.p s.division.n L) (sym e) (quotient_poly s.division a))

pub later_under : (s : DivideState) (x : List ℕ) (later : List Term) → IsAccepted s.division → DivideWhole s → IsBound s x → s.q ++ later ≡ quotient_list s.division → AllUnderFront s.division (Some x) later
unfolding coef
later_under s x [] a whole c e = under_none s.division x
later_under s x (t ∷ A) a whole c e = under_rest s.division x t A a i (pick (below_total s.division.ord y x (ly ∙ sym c.vector)))
  where
    i : IsPoly s.division.ord s.division.p s.division.n (t ∷ A)
    i = later_poly s (t ∷ A) a e

    u : Turn s.division (minus s.division.f (times s.q s.division.g)) t
    u = later_turn s t A a e

    y : List ℕ
    y = t.monomial ⋅ lm s.division.g

    lg : length t.monomial ≡ length (lm s.division.g)
    lg = u.vector ∙ sym (length_lm s.division a)

    ly : length (t.monomial ⋅ lm s.division.g) ≡ s.division.n
    ly = length_times t.monomial (lm s.division.g) lg ∙ u.vector

    pick : Three (Below s.division.ord (t.monomial ⋅ lm s.division.g) x) ((t.monomial ⋅ lm s.division.g) ≡ x) (Below s.division.ord x (t.monomial ⋅ lm s.division.g)) → AtOrAbove s.division.ord (t.monomial ⋅ lm s.division.g) x
    pick (is_less b) = inr b
    pick (is_equal q) = inl q
    pick (is_greater b) =
        absurd (u.present (in_scope_at s (t.monomial ⋅ lm s.division.g) (t ∷ A) a whole e ly (in_scope s.division.mode t.monomial (lm s.division.g) lg)
        (under_rest s.division (t.monomial ⋅ lm s.division.g) t A a i (inl refl)) (λ w h. c.settled_above (t.monomial ⋅ lm s.division.g) w b h)
        ∙ zero_above s x (t.monomial ⋅ lm s.division.g) c b))

pub under_up : (d : Division) (x y : List ℕ) (A : List Term) → AtOrAbove d.ord x y → AllUnderFront d (Some x) A → AllUnderFront d (Some y) A
unfolding AllUnderFront
under_up d x y [] k h = tt
under_up d x y (t ∷ A) k h = (at_then_at d.ord (t.monomial ⋅ lm d.g) x y h.0 k, under_up d x y A k h.1)

coef_final : (s : DivideState) (x m : List ℕ) → IsAccepted s.division → DivideWhole s → IsCandidate s x → length m ≡ s.division.n → InScope s.division.mode (lm s.division.g) m → AtOrAbove s.division.ord x m → coef s.division.p (minus s.division.f (times s.q s.division.g)) m ≡ coef s.division.p (minus s.unread (head_terms s.heads)) m
unfolding coef
coef_final s x m a whole c l k b =
    let later = whole.quotient in
    in_scope_at s m later.0 a whole later.1 l k (under_up s.division x m later.0 b (later_under s x later.0 a whole (candidate_bound s x c) later.1)) (λ w h. settled_up s x m w b (c.settled w h))

pub candidate_final : CandidateFinal
candidate_final s x a whole c = ((λ later e. later_under s x later a whole (candidate_bound s x c) e), (λ m l k b. coef_final s x m a whole c l k b))

from_coef : (p : ℕ) (A B : List Term) (m : List ℕ) → coef p A m ≡ coef p B m → red p (total A m) ≡ red p (total B m)
unfolding coef
from_coef p A B m e = e

candidate_above : (s : DivideState) (x m : List ℕ) → IsAccepted s.division → DivideWhole s → IsCandidate s x → length m ≡ s.division.n → InScope s.division.mode (lm s.division.g) m → Below s.division.ord x m → coef s.division.p (minus s.division.f (times s.q s.division.g)) m ≡ pos 0
unfolding coef
candidate_above s x m a whole c l k b = from_coef s.division.p (minus s.division.f (times s.q s.division.g)) (minus s.unread (head_terms s.heads)) m (coef_final s x m a whole c l k (inr b)) ∙ zero_above s x m (candidate_bound s x c) b

pub candidate_term : CandidateTerm
candidate_term s x u a whole c v r z e =
    let d = s.division in
    let l = lm d.g in
    let back = over_times x l v in
    let here : coef d.p (minus d.f (times s.q d.g)) (over x l ⋅ l) ≡ coef d.p (minus s.unread (head_terms s.heads)) x =
    ap (coef d.p (minus d.f (times s.q d.g))) back ∙ coef_final s x x a whole c c.vector (divides_scope d.mode l x v) (inl refl) in
    let turn : Turn d (minus d.f (times s.q d.g)) (record { monomial = over x l; coefficient = u }) = record {
      vector = length_over x l v ∙ c.vector;
      reduced = r;
      present = λ y. z (sym here ∙ y);
      fits = e ∙ sym here;
      top = λ m lm' k b. candidate_above s x m a whole c lm' k (subst (λ (y : List ℕ). Below d.ord y m) back b);
    } in
    begins_prefix d (s.q ++ record { monomial = over x l; coefficient = u } ∷ []) a
    (Turns-push d d.f s.q (record { monomial = over x l; coefficient = u }) (prefix_begins d s.q a whole.quotient) turn)

-- ---- a front at a bound
under_multiples : (d : Division) (x y : List ℕ) (A : List Term) → IsAccepted d → Over d.n A → IsFrontAt d x y → AllUnderFront d (Some x) A → AllUnderFront d (Some y) A
unfolding AllUnderFront Over
under_multiples d x y [] a o f h = tt
under_multiples d x y (t ∷ A) a o f h =
    let l : length t.monomial ≡ length (lm d.g) = o.0 ∙ sym (length_lm d a) in
    (f.multiples (t.monomial ⋅ lm d.g) (length_times t.monomial (lm d.g) l ∙ o.0) (divides_times t.monomial (lm d.g) l) h.0, under_multiples d x y A a o.1 f h.1)

pub bound_is_front : BoundIsFront
bound_is_front s x y a whole c f later e = under_multiples s.division x y later a (later_poly s later a e).vectors f (later_under s x later a whole c e)

pub front_choices : FrontChoices
front_choices d x y lx ly = (record { vector = lx; multiples = λ m l v h. h }, λ none. record { vector = ly; multiples = λ m l v h. pick m (none m l v) h (below_total d.ord m y (l ∙ sym ly)) })
  where
    pick : (m : List ℕ) → (Below d.ord y m → AtOrAbove d.ord m x → ⊥) → AtOrAbove d.ord m x → Three (Below d.ord m y) (m ≡ y) (Below d.ord y m) → AtOrAbove d.ord m y
    pick m none h (is_less b) = inr b
    pick m none h (is_equal e) = inl e
    pick m none h (is_greater b) = absurd (none b h)

-- ---- where no term fits
exact_no_more : (d : Division) (m : List ℕ) → d.mode ≡ Exact → InScope d.mode (lm d.g) m
exact_no_more d m e = subst (λ (x : Mode). InScope x (lm d.g) m) (sym e) (all_in_scope (lm d.g) m)

under_first : (d : Division) (x : List ℕ) (t : Term) (A : List Term) → AllUnderFront d (Some x) (t ∷ A) → AtOrAbove d.ord (t.monomial ⋅ lm d.g) x
unfolding AllUnderFront
under_first d x t A h = h.0

exact_left : (d : Division) (q : List Term) → IsExact d q → (x : List ℕ) → coef d.p (minus d.f (times q d.g)) x ≡ pos 0
unfolding coef
exact_left d q e x =
    ap (red d.p) (total_minus d.f (times q d.g) x) ∙ red_difference_back d.p (total d.f x) (total (times q d.g) x) (same_total d.p d.f (times q d.g) e.same x)

nothing_read : (s : DivideState) (y : List ℕ) → IsFinished s → red s.division.p (total (minus s.unread (head_terms s.heads)) y) ≡ pos 0
nothing_read s y c =
    ap (red s.division.p) (omega (arith, ints, total_minus s.unread (head_terms s.heads) y, ap (λ (L : List Term). total L y) c.no_unread, ap (λ (L : List Term). total L y) c.no_heads, total_nil y)) ∙ red_zero s.division.p

total_other_length : (n : ℕ) (m : List ℕ) (A : List Term) → Over n A → (length m ≡ n → ⊥) → total A m ≡ pos 0
unfolding Over
total_other_length n m [] o l = total_nil m
total_other_length n m (t ∷ A) o l = total_other t A m (λ e. l (ap length (sym e) ∙ o.0)) ∙ total_other_length n m A o.1 l

exact_open : (d : Division) (r : List Term) → RemainderFits Exact d r → r ≡ []
unfolding RemainderFits
exact_open d r h = h

remainder_open : (d : Division) (r : List Term) → RemainderFits Remainder d r → NoneDivisible (lm d.g) r
unfolding RemainderFits
remainder_open d r h = h.1

nothing_over_n : (n : ℕ) → Over n []
unfolding Over
nothing_over_n n = tt

exact_from : (p : ℕ) (f A : List Term) → Same p (minus f A) [] → Same p f A
exact_from p f A s = from_total p f A (λ m. red_difference p (total f m) (total A m) (ap (red p) (sym (total_minus f A m)) ∙ same_total p (minus f A) [] s m ∙ ap (red p) (total_nil m) ∙ red_zero p))

pub candidate_none : CandidateNone
candidate_none s x a whole c mode z none q exact = pick (whole.quotient).0 (whole.quotient).1
  where
    d : Division
    d = s.division

    here : coef s.division.p (minus s.division.f (times s.q s.division.g)) x ≡ coef s.division.p (minus s.unread (head_terms s.heads)) x
    here = coef_final s x x a whole c c.vector (exact_no_more s.division x mode) (inl refl)

    is_list : IsExact s.division (quotient_list s.division)
    is_list = subst (λ (L : List Term). IsExact s.division L) (exact_is_list s.division q a exact) exact

    pick : (later : List Term) → s.q ++ later ≡ quotient_list s.division → ⊥
    pick [] e = z (sym here ∙ exact_left s.division s.q (subst (λ (L : List Term). IsExact s.division L) (sym e ∙ append-nil s.q) is_list) x)
    pick (t ∷ A) e = at (under_first s.division x t A (later_under s x (t ∷ A) a whole (candidate_bound s x c) e))
      where
        u : Turn s.division (minus s.division.f (times s.q s.division.g)) t
        u = later_turn s t A a e

        lg : length t.monomial ≡ length (lm s.division.g)
        lg = u.vector ∙ sym (length_lm s.division a)

        at : AtOrAbove s.division.ord (t.monomial ⋅ lm s.division.g) x → ⊥
        at (inl k) =
            none t.coefficient (subst (λ (y : List ℕ). Divides (lm s.division.g) y) k (divides_times t.monomial (lm s.division.g) lg)) u.reduced
            (u.fits ∙ ap (coef s.division.p (minus s.division.f (times s.q s.division.g))) k ∙ here)
        at (inr b) = z (sym here ∙ u.top x c.vector (exact_no_more s.division x mode) b)

-- ---- the end
no_later : (s : DivideState) (later : List Term) → IsAccepted s.division → DivideWhole s → IsFinished s → s.q ++ later ≡ quotient_list s.division → later ≡ []
unfolding coef
no_later s [] a whole c e = refl
no_later s (t ∷ A) a whole c e =
    let d = s.division in
    let u = later_turn s t A a e in
    let lg = u.vector ∙ sym (length_lm d a) in
    let y = t.monomial ⋅ lm d.g in
    let f = in_scope_at s y (t ∷ A) a whole e (length_times t.monomial (lm d.g) lg ∙ u.vector) (in_scope d.mode t.monomial (lm d.g) lg)
    (under_rest d y t A a (later_poly s (t ∷ A) a e) (inl refl)) (λ w h. c.settled y w h) in
    absurd (u.present (f ∙ nothing_read s y c))

finished_rest : (s : DivideState) (x : List ℕ) → IsAccepted s.division → DivideWhole s → IsFinished s → s.q ≡ quotient_list s.division → length x ≡ s.division.n → red s.division.p (total (minus s.division.f (times s.q s.division.g)) x) ≡ red s.division.p (total s.r x)
finished_rest s x a whole c e l =
    final_at s x [] a whole (append-nil s.q ∙ e) l (under_none s.division x) (λ w h. c.settled x w h)
    ∙ ap (red s.division.p) (omega (arith, ints, total_minus (s.r ++ s.unread) (head_terms s.heads) x, total_append s.r s.unread x, ap (λ (L : List Term). total L x) c.no_unread, ap (λ (L : List Term). total L x) c.no_heads, total_nil x))

finished_q : (s : DivideState) → IsAccepted s.division → DivideWhole s → IsFinished s → s.q ≡ quotient_list s.division
finished_q s a whole c =
    let later = whole.quotient in
    sym (append-nil s.q) ∙ ap (λ (L : List Term). s.q ++ L) (sym (no_later s later.0 a whole c later.1)) ∙ later.1

-- sums in n variables that have the same coefficients at all vectors of n numbers are the same
pub Same-over : (p n : ℕ) (A B : List Term) → Over n A → Over n B → ((m : List ℕ) → length m ≡ n → red p (total A m) ≡ red p (total B m)) → Same p A B
Same-over p n A B o o' h = from_total p A B (λ m. pick m (ℕ_discrete (length m) n))
  where
    pick : (m : List ℕ) → Dec (length m ≡ n) → red p (total A m) ≡ red p (total B m)
    pick m (yes l) = h m l
    pick m (no l) = ap (red p) (total_other_length n m A o l ∙ sym (total_other_length n m B o' l))

finished_same : (s : DivideState) → IsAccepted s.division → DivideWhole s → IsFinished s → Over s.division.n s.r → Same s.division.p (minus s.division.f (times s.q s.division.g)) s.r
finished_same s a whole c o =
    let d = s.division in
    let e = finished_q s a whole c in
    let iq = subst (λ (L : List Term). IsPoly d.ord d.p d.n L) (sym e) (quotient_poly d a) in
    Same-over d.p d.n (minus d.f (times s.q d.g)) s.r (Over-minus d.n d.f (times s.q d.g) a.dividend.vectors (Over-times d.n s.q d.g iq.vectors a.divisor.vectors)) o
    (λ m l. finished_rest s m a whole c e l)

remainder_exact : (mode : Mode) (d : Division) (r : List Term) → mode ≡ Exact → RemainderFits mode d r → r ≡ []
remainder_exact mode d r e h = exact_open d r (subst (λ (m : Mode). RemainderFits m d r) e h)

remainder_canonical : (d : Division) (r : List Term) → RemainderFits Remainder d r → IsPoly d.ord d.p d.n r
unfolding RemainderFits
remainder_canonical d r h = h.0

remainder_poly : (mode : Mode) (d : Division) (r : List Term) → mode ≡ Remainder → RemainderFits mode d r → IsPoly d.ord d.p d.n r
remainder_poly mode d r e h = remainder_canonical d r (subst (λ (m : Mode). RemainderFits m d r) e h)

remainder_none : (mode : Mode) (d : Division) (r : List Term) → mode ≡ Remainder → RemainderFits mode d r → NoneDivisible (lm d.g) r
remainder_none mode d r e h = remainder_open d r (subst (λ (m : Mode). RemainderFits m d r) e h)

pub finished_is_right : FinishedIsRight
finished_is_right s a whole c =
    let d = s.division in
    let e = finished_q s a whole c in
    let iq = subst (λ (L : List Term). IsPoly d.ord d.p d.n L) (sym e) (quotient_poly d a) in (
      e,
      (λ m. let r = remainder_exact d.mode d s.r m whole.remainder in
          record { quotient = iq; same = exact_from d.p d.f (times s.q d.g) (subst (λ (L : List Term). Same d.p (minus d.f (times s.q d.g)) L) r (finished_same s a whole c (subst (λ (L : List Term). Over d.n L) (sym r) (nothing_over_n d.n)))) }),
      (λ m. let ir = remainder_poly d.mode d s.r m whole.remainder in record {
        quotient = iq;
        remainder = ir;
        same = Same-trans d.p d.f (times s.q d.g ++ minus d.f (times s.q d.g)) (times s.q d.g ++ s.r) (put_back d.p d.f (times s.q d.g))
            (Same-append d.p (times s.q d.g) (times s.q d.g) (minus d.f (times s.q d.g)) s.r (Same-refl d.p (times s.q d.g)) (finished_same s a whole c ir.vectors));
        none_divisible = remainder_none d.mode d s.r m whole.remainder;
      }),
    )
