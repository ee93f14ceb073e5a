-- A merge of a division stays whole when it processes its candidate.
use Rattle.std.proofs.Common.{◌≡◌, ◌≢◌, ℕ, zero, suc, ◌<◌, ◌≤◌, ◌⊎◌, inl, inr, Bool, true, false, cond, List, [], ◌∷◌, ◌++◌, length, drop, get_or, Option, Some, None, ℤ, pos, ◌+ℤ◌, ◌*ℤ◌, neg_ℤ, refl, sym, ap, ap₂, ◌∙◌, subst, arith, true≢false, append_assoc, append-nil, length-append}
use Rattle.std.proofs.lemmas.Int.{ints}
use mathlib.Core.List.{IsSuffix}
use Rattle.sdmp_laws.specs.Order.{Order, ◌⋅◌, Divides, over, alike, Below}
use Rattle.sdmp_laws.specs.Ring.{red, IsReduced}
use Rattle.sdmp_laws.specs.Poly.{Term, total, coef, Same, term_times, row, times, minus, AllBelow, Decreasing, IsPoly, sum_over, lm, lc, without}
use Rattle.sdmp_laws.specs.Division.{Division, IsAccepted, NoneDivisible, AtOrAbove, AllAtOrBelow}
use Rattle.sdmp_laws.specs.LongDivision.{quotient_list}
use Rattle.whole_laws.specs.Notes.{QuotientScript, after_lead, lead_term, terms_in, has, owed}
use Rattle.whole_laws.specs.Wholes.{head_terms, IsHead, notes_of, head_of_worker, clear_at}
use Rattle.divide_wholes.specs.Wholes.{DivideState, DivideWhole, divide_script, all_owed, AllAtOrAbove, AllUnderFront, RemainderFits, IsPast, IsCandidate, processed, found, kept}
use Rattle.divide_wholes.specs.DivideLaws.{DivideZero, DivideFound, DivideKept}
use Rattle.sdmp_laws.specs.declared.Mode.{Mode}
use Rattle.sdmp_laws.specs.declared.Mode.TheVariants.{Remainder}
use Rattle.sdmp_laws.proofs.Ints.{red_add, red_red, red_zero, add_zero, zero_add}
use Rattle.sdmp_laws.proofs.OrderLemmas.{Three, is_less, is_equal, is_greater, below_total, order_facts, alike_same, alike_self, alike_not}
use Rattle.sdmp_laws.proofs.PolyLemmas.{total_append, total_minus, same_total, from_total, total_without, red_difference_back}
use Rattle.sdmp_laws.proofs.TermsLemmas.{below_cons, nothing_below, total_nil, total_one, AllBelow-up, head_facts, coef_head, total_zero}
use Rattle.divide_wholes.proofs.Candidate.{candidate_term, settled_owes_nothing, settled_up, under_up, script_poly, later_poly, later_under, candidate_bound, under_rest}
use Rattle.sdmp_laws.proofs.NextTerm.{back_poly}
use Rattle.whole_laws.proofs.NotesLemmas.{taken_owed}
use Rattle.sdmp_laws.proofs.DivisionLemmas.{AllBelow-append}
use Rattle.sdmp_laws.proofs.LongLemmas.{over_times}
use Rattle.sdmp_laws.proofs.Tests.{or_out}
use Rattle.whole_laws.proofs.StepLemmas.{cleared, length_clear, head_clear, no_head}
use Rattle.sdmp_laws.proofs.Merging.{Proper-push, Over-push}

-- ---- lists without their terms at x
-- below x nothing goes
pub without_below : (ord : Order) (x : List ℕ) (A : List Term) → AllBelow ord x A → without x A ≡ A
unfolding AllBelow without
without_below ord x [] h = refl
without_below ord x (t ∷ A) h =
    rw (alike_not t.monomial x (λ e. (order_facts ord).irreflexive x (subst (λ (v : List ℕ). Below ord v x) e h.0)))
    (ap (λ (L : List Term). t ∷ L) (without_below ord x A h.1))

-- what is at x or below is below x without its terms at x
below_without : (ord : Order) (x : List ℕ) (A : List Term) → AllAtOrBelow ord x A → AllBelow ord x (without x A)
unfolding AllAtOrBelow AllBelow without
below_without ord x [] h = tt
below_without ord x (t ∷ A) h = pick (below_without ord x A h.1) (alike t.monomial x) refl h.0
  where
    pick : AllBelow ord x (without x A) → (b : Bool) → alike t.monomial x ≡ b → AtOrAbove ord t.monomial x → AllBelow ord x (cond b (without x A) (t ∷ without x A))
    pick ih true e k = ih
    pick ih false e (inl k) = absurd (true≢false (sym (ap (λ (v : List ℕ). alike v x) k ∙ alike_self x) ∙ e))
    pick ih false e (inr k) = (k, ih)

-- of a list that decreases from x or below, at most the first term goes
suffix_without : (ord : Order) (x : List ℕ) (A F : List Term) → Decreasing ord A → AllAtOrBelow ord x A → IsSuffix A F → IsSuffix (without x A) F
unfolding Decreasing AllAtOrBelow without
suffix_without ord x [] F d h s = s
suffix_without ord x (t ∷ A) F d h s = pick (alike t.monomial x) refl h.0
  where
    pick : (b : Bool) → alike t.monomial x ≡ b → AtOrAbove ord t.monomial x → IsSuffix (cond b (without x A) (t ∷ without x A)) F
    pick true e k =
        subst (λ (L : List Term). IsSuffix L F) (sym (without_below ord x A (subst (λ (v : List ℕ). AllBelow ord v A) (alike_same t.monomial x e) d.0)))
        (s.0 ++ t ∷ [], append_assoc s.0 (t ∷ []) A ∙ s.1)
    pick false e (inl k) = absurd (true≢false (sym (ap (λ (v : List ℕ). alike v x) k ∙ alike_self x) ∙ e))
    pick false e (inr b) =
        subst (λ (L : List Term). IsSuffix (t ∷ L) F) (sym (without_below ord x A (AllBelow-up ord t.monomial x A b d.0))) s

back_decreasing : (ord : Order) (A B : List Term) → Decreasing ord (A ++ B) → Decreasing ord B
unfolding Decreasing
back_decreasing ord [] B h = h
back_decreasing ord (t ∷ A) B h = back_decreasing ord A B h.1

unread_decreasing : (s : DivideState) → IsAccepted s.division → DivideWhole s → Decreasing s.division.ord s.unread
unread_decreasing s a whole = back_decreasing s.division.ord (whole.unread_suffix).0 s.unread (subst (λ (L : List Term). Decreasing s.division.ord L) (sym (whole.unread_suffix).1) a.dividend.decreasing)

-- ---- the sum after processing: what was read at x is gone on the left
-- the coefficient of what was read at x, as a term
unfoldable read_term : DivideState → List ℕ → Term
read_term s x = record { monomial = x; coefficient = total (minus s.unread (head_terms s.heads)) x }

split_at : (x m : List ℕ) (A : List Term) → total A m ≡ total (record { monomial = x; coefficient = total A x } ∷ []) m +ℤ total (without x A) m
split_at x m A = sym (ap₂ ◌+ℤ◌ (total_one (record { monomial = x; coefficient = total A x }) m) (total_without x m A) ∙ pick (alike x m) refl)
  where
    pick : (b : Bool) → alike x m ≡ b → cond b (total A x) (pos 0) +ℤ cond b (pos 0) (total A m) ≡ total A m
    pick true e = add_zero (total A x) ∙ ap (total A) (alike_same x m e)
    pick false e = zero_add (total A m)

read_split : (s : DivideState) (x m : List ℕ) → total s.unread m +ℤ neg_ℤ (total (head_terms s.heads) m) ≡ total (read_term s x ∷ []) m +ℤ (total (without x s.unread) m +ℤ neg_ℤ (total (head_terms (clear_at x s.heads)) m))
unfolding read_term
read_split s x m =
    omega (arith, ints, split_at x m s.unread, split_at x m (head_terms s.heads), ap (λ (L : List Term). total L m) (cleared x s.heads), ones)
  where
    pick : (b : Bool) → cond b (total (minus s.unread (head_terms s.heads)) x) (pos 0) ≡ cond b (total s.unread x) (pos 0) +ℤ neg_ℤ (cond b (total (head_terms s.heads) x) (pos 0))
    pick true = total_minus s.unread (head_terms s.heads) x
    pick false = refl

    ones : total (record { monomial = x; coefficient = total (minus s.unread (head_terms s.heads)) x } ∷ []) m ≡ total (record { monomial = x; coefficient = total s.unread x } ∷ []) m +ℤ neg_ℤ (total (record { monomial = x; coefficient = total (head_terms s.heads) x } ∷ []) m)
    ones =
        total_one (record { monomial = x; coefficient = total (minus s.unread (head_terms s.heads)) x }) m ∙ pick (alike x m)
        ∙ sym (ap₂ (λ (y z : ℤ). y +ℤ neg_ℤ z) (total_one (record { monomial = x; coefficient = total s.unread x }) m) (total_one (record { monomial = x; coefficient = total (head_terms s.heads) x }) m))

-- where what was found, `new`, has the coefficients of what was read
sum_after : (s : DivideState) (x : List ℕ) (C' R' new O Z : List Term) (p : ℕ) → ((m : List ℕ) → red p (total (read_term s x ∷ []) m) ≡ red p (total new m)) →
    ((m : List ℕ) → total (C' ++ R') m ≡ total (times s.q (lead_term s.division.g) ++ s.r) m +ℤ total new m) →
    Same p (minus (times s.q (lead_term s.division.g) ++ (s.r ++ s.unread)) (head_terms s.heads ++ O)) Z →
    Same p (minus (C' ++ (R' ++ without x s.unread)) (head_terms (clear_at x s.heads) ++ O)) Z
sum_after s x C' R' new O Z p same found e =
    from_total p (minus (C' ++ (R' ++ without x s.unread)) (head_terms (clear_at x s.heads) ++ O)) Z (λ m.
    ap (red p) (omega (arith, ints, total_minus (C' ++ (R' ++ without x s.unread)) (head_terms (clear_at x s.heads) ++ O) m, total_append C' (R' ++ without x s.unread) m, total_append R' (without x s.unread) m, total_append C' R' m, total_append (head_terms (clear_at x s.heads)) O m, found m, total_append (times s.q (lead_term s.division.g)) s.r m, read_split s x m, total_minus (times s.q (lead_term s.division.g) ++ (s.r ++ s.unread)) (head_terms s.heads ++ O) m, total_append (times s.q (lead_term s.division.g)) (s.r ++ s.unread) m, total_append s.r s.unread m, total_append (head_terms s.heads) O m))
    ∙ red_add p (total (minus (times s.q (lead_term s.division.g) ++ (s.r ++ s.unread)) (head_terms s.heads ++ O)) m) (total Z m) (total new m +ℤ neg_ℤ (total (read_term s x ∷ []) m)) (pos 0)
    (same_total p (minus (times s.q (lead_term s.division.g) ++ (s.r ++ s.unread)) (head_terms s.heads ++ O)) Z e m)
    (red_difference_back p (total new m) (total (read_term s x ∷ []) m) (sym (same m)) ∙ sym (red_zero p))
    ∙ ap (red p) (add_zero (total Z m)))

-- ---- what is owed stands below the candidate
zero_below : (ord : Order) (p n : ℕ) (x : List ℕ) (O : List Term) → length x ≡ n → IsPoly ord p n O → ((y : List ℕ) → length y ≡ n → AtOrAbove ord x y → red p (total O y) ≡ pos 0) → AllBelow ord x O
zero_below ord p n x [] l i h = nothing_below ord x
zero_below ord p n x (o ∷ O) l i h = pick (below_total ord o.monomial x (f.0 ∙ sym l))
  where
    f : (length o.monomial ≡ n) × AllBelow ord o.monomial O × IsReduced p o.coefficient × (o.coefficient ≢ pos 0)
    f = head_facts ord p n o O i

    never : AtOrAbove ord x o.monomial → ⊥
    never k = f.3 (sym (coef_head ord p o O f.1 f.2) ∙ h o.monomial f.0 k)

    pick : Three (Below ord o.monomial x) (o.monomial ≡ x) (Below ord x o.monomial) → AllBelow ord x (o ∷ O)
    pick (is_less b) = below_cons ord x o O b f.1
    pick (is_equal e) = absurd (never (inl (sym e)))
    pick (is_greater b) = absurd (never (inr b))

owed_below : (s : DivideState) (x : List ℕ) (w : ℕ) → IsAccepted s.division → DivideWhole s → IsCandidate s x → w < s.workers → AllBelow s.division.ord x (owed (divide_script s w) (notes_of s.taken w))
unfolding divide_script
owed_below s x w a whole c h =
    let d = s.division in
    let later = whole.quotient in
    let notes = notes_of s.taken w in
    let i = back_poly d.ord d.p d.n (terms_in notes) (owed (QuotientScript d s.workers w) notes) (subst (λ (L : List Term). IsPoly d.ord d.p d.n L) (sym (taken_owed (QuotientScript d s.workers w) notes (whole.carried w h))) (script_poly d s.workers w a)) in
    zero_below d.ord d.p d.n x (owed (QuotientScript d s.workers w) notes) c.vector i
    (λ y l k. settled_owes_nothing s y w later.0 a whole later.1 l (under_up d x y later.0 k (later_under s x later.0 a whole (candidate_bound s x c) later.1)) h (settled_up s x y w k (c.settled w h)))

pub below_over : (ord : Order) (x : List ℕ) (F : ℕ → List Term) (k : ℕ) → ((w : ℕ) → w < k → AllBelow ord x (F w)) → AllBelow ord x (sum_over k F)
unfolding sum_over
below_over ord x F zero h = nothing_below ord x
below_over ord x F (suc k) h = AllBelow-append ord x (sum_over k F) (F k) (below_over ord x F k (λ w l. h w (omega arith))) (h k (omega arith))

all_owed_below : (s : DivideState) (x : List ℕ) → IsAccepted s.division → DivideWhole s → IsCandidate s x → AllBelow s.division.ord x (all_owed s)
unfolding all_owed
all_owed_below s x a whole c = below_over s.division.ord x (λ w. owed (divide_script s w) (notes_of s.taken w)) s.workers (λ w h. owed_below s x w a whole c h)

-- ---- what was found stands above the candidate
-- all of A strictly above x
unfoldable AllAbove : Order → List ℕ → List Term → Type 0
AllAbove ord x [] = Unit {0}
AllAbove ord x (t ∷ A) = Below ord x t.monomial × AllAbove ord x A

above_from : (ord : Order) (x l : List ℕ) (A : List Term) → Below ord x l → AllAtOrAbove ord l A → AllAbove ord x A
unfolding AllAtOrAbove AllAbove
above_from ord x l [] b h = tt
above_from ord x l (t ∷ A) b h = (step h.0, above_from ord x l A b h.1)
  where
    step : AtOrAbove ord l t.monomial → Below ord x t.monomial
    step (inl e) = subst (λ (v : List ℕ). Below ord x v) e b
    step (inr c) = (order_facts ord).transitive x l t.monomial b c

above_at : (ord : Order) (x : List ℕ) (A : List Term) → AllAbove ord x A → AllAtOrAbove ord x A
unfolding AllAtOrAbove AllAbove
above_at ord x [] h = tt
above_at ord x (t ∷ A) h = (inr h.0, above_at ord x A h.1)

AllAtOrAbove-append : (ord : Order) (x : List ℕ) (A B : List Term) → AllAtOrAbove ord x A → AllAtOrAbove ord x B → AllAtOrAbove ord x (A ++ B)
unfolding AllAtOrAbove
AllAtOrAbove-append ord x [] B h k = k
AllAtOrAbove-append ord x (t ∷ A) B h k = (h.0, AllAtOrAbove-append ord x A B h.1 k)

one_at : (ord : Order) (x : List ℕ) (t : Term) → t.monomial ≡ x → AllAtOrAbove ord x (t ∷ [])
unfolding AllAtOrAbove
one_at ord x t e = (inl (sym e), tt)

-- a monomial of a list that stands below l is below l
pub has_below : (ord : Order) (x l : List ℕ) (A : List Term) → has x A ≡ true → AllBelow ord l A → Below ord x l
unfolding has AllBelow
has_below ord x l [] h k = absurd (true≢false (sym h))
has_below ord x l (t ∷ A) h k = pick (λ g. has_below ord x l A g k.1) (or_out (alike t.monomial x) (has x A) h)
  where
    pick : (has x A ≡ true → Below ord x l) → (alike t.monomial x ≡ true) ⊎ (has x A ≡ true) → Below ord x l
    pick ih (inl e) = subst (λ (v : List ℕ). Below ord v l) (alike_same t.monomial x e) k.0
    pick ih (inr g) = ih g

record FoundAbove (s : DivideState) (x : List ℕ) : Type 0 where
  rest : AllAbove s.division.ord x s.r
  quotient : AllAbove s.division.ord x (times s.q (lead_term s.division.g))

above_nil : (ord : Order) (x : List ℕ) → AllAbove ord x []
unfolding AllAbove
above_nil ord x = tt

times_nil : (B : List Term) → times [] B ≡ []
unfolding times
times_nil B = refl

none_above : (ord : Order) (x : List ℕ) (A : List Term) → A ≡ [] → AllAbove ord x A
none_above ord x A e = subst (λ (L : List Term). AllAbove ord x L) (sym e) (above_nil ord x)

no_times : (A B : List Term) → A ≡ [] → times A B ≡ []
no_times A B e = ap (λ (L : List Term). times L B) e ∙ times_nil B

past_at : (s : DivideState) (x : List ℕ) (last : Option (List ℕ)) → has x (s.unread ++ head_terms s.heads) ≡ true → IsPast s last → FoundAbove s x
unfolding IsPast
past_at s x None h p = record { rest = none_above s.division.ord x s.r p.1; quotient = none_above s.division.ord x (times s.q (lead_term s.division.g)) (no_times s.q (lead_term s.division.g) p.0) }
past_at s x (Some l) h p =
    let b = has_below s.division.ord x l (s.unread ++ head_terms s.heads) h (AllBelow-append s.division.ord l s.unread (head_terms s.heads) p.0 p.1) in
    record { rest = above_from s.division.ord x l s.r b p.3; quotient = above_from s.division.ord x l (times s.q (lead_term s.division.g)) b p.4 }

found_above : (s : DivideState) (x : List ℕ) → DivideWhole s → has x (s.unread ++ head_terms s.heads) ≡ true → FoundAbove s x
found_above s x whole h = past_at s x s.last h whole.past

-- ---- the fields that all three kinds share
cleared_heads : (s : DivideState) (x : List ℕ) → DivideWhole s → (w : ℕ) → w < s.workers → IsHead (get_or (clear_at x s.heads) w None) (notes_of s.taken w)
unfolding head_of_worker
cleared_heads s x whole w h = pick (head_clear x s.heads w)
  where
    pick : (get_or (clear_at x s.heads) w None ≡ None) ⊎ (get_or (clear_at x s.heads) w None ≡ get_or s.heads w None) → IsHead (get_or (clear_at x s.heads) w None) (notes_of s.taken w)
    pick (inl e) = subst (λ (o : Option Term). IsHead o (notes_of s.taken w)) (sym e) (no_head (notes_of s.taken w))
    pick (inr e) = subst (λ (o : Option Term). IsHead o (notes_of s.taken w)) (sym e) (whole.heads_are w h)

heads_cleared : (s : DivideState) (x : List ℕ) → IsCandidate s x → AllBelow s.division.ord x (head_terms (clear_at x s.heads))
heads_cleared s x c = subst (λ (L : List Term). AllBelow s.division.ord x L) (sym (cleared x s.heads)) (below_without s.division.ord x (head_terms s.heads) c.heads_below)

still_suffix : (s : DivideState) (x : List ℕ) → IsAccepted s.division → DivideWhole s → IsCandidate s x → IsSuffix (without x s.unread) s.division.f
still_suffix s x a whole c = suffix_without s.division.ord x s.unread s.division.f (unread_decreasing s a whole) c.unread_below whole.unread_suffix

-- the read term reduces as a term c at x does, where c is its coefficient
read_reduced : (s : DivideState) (x : List ℕ) (c : ℤ) (p : ℕ) (m : List ℕ) → red p (total (minus s.unread (head_terms s.heads)) x) ≡ red p c → red p (total (read_term s x ∷ []) m) ≡ red p (total (record { monomial = x; coefficient = c } ∷ []) m)
unfolding read_term
read_reduced s x c p m e = ap (red p) (total_one (record { monomial = x; coefficient = total (minus s.unread (head_terms s.heads)) x }) m) ∙ pick (alike x m) ∙ ap (red p) (sym (total_one (record { monomial = x; coefficient = c }) m))
  where
    pick : (b : Bool) → red p (cond b (total (minus s.unread (head_terms s.heads)) x) (pos 0)) ≡ red p (cond b c (pos 0))
    pick true = e
    pick false = refl

-- ---- a zero
pub divide_zero : DivideZero
unfolding processed coef IsPast all_owed divide_script head_of_worker clear_at
divide_zero s x a whole c h z =
    let f = found_above s x whole h in
    record {
      heads_count = length_clear x s.heads ∙ whole.heads_count;
      taken_count = whole.taken_count;
      carried = whole.carried;
      heads_are = cleared_heads s x whole;
      sum = sum_after s x (times s.q (lead_term s.division.g)) s.r [] (all_owed s) (minus s.division.f (times (quotient_list s.division) (after_lead s.division.g))) s.division.p
          (λ m. read_reduced s x (pos 0) s.division.p m (z ∙ sym (red_zero s.division.p)) ∙ ap (red s.division.p) (total_zero (record { monomial = x; coefficient = pos 0 }) m refl ∙ sym (total_nil m)))
          (λ m. sym (add_zero (total (times s.q (lead_term s.division.g) ++ s.r) m)) ∙ ap (λ (y : ℤ). total (times s.q (lead_term s.division.g) ++ s.r) m +ℤ y) (sym (total_nil m)))
          whole.sum;
      quotient = whole.quotient;
      within = whole.within;
      unread_suffix = still_suffix s x a whole c;
      remainder = whole.remainder;
      past = (below_without s.division.ord x s.unread c.unread_below, heads_cleared s x c, all_owed_below s x a whole c, above_at s.division.ord x s.r f.rest, above_at s.division.ord x (times s.q (lead_term s.division.g)) f.quotient);
      row_terms = whole.row_terms;
      row_start = whole.row_start;
      under_front = whole.under_front;
    }

-- ---- a term of the remainder
Decreasing-push : (ord : Order) (A : List Term) (t : Term) → Decreasing ord A → AllAbove ord t.monomial A → Decreasing ord (A ++ t ∷ [])
unfolding Decreasing AllAbove AllBelow
Decreasing-push ord [] t d h = (tt, tt)
Decreasing-push ord (s ∷ A) t d h = (AllBelow-append ord s.monomial A (t ∷ []) d.0 (h.0, tt), Decreasing-push ord A t d.1 h.1)

NoneDivisible-push : (l : List ℕ) (A : List Term) (t : Term) → NoneDivisible l A → (Divides l t.monomial → ⊥) → NoneDivisible l (A ++ t ∷ [])
unfolding NoneDivisible
NoneDivisible-push l [] t h k = (k, tt)
NoneDivisible-push l (s ∷ A) t h k = (h.0, NoneDivisible-push l A t h.1 k)

-- a canonical list with a lower term after it
IsPoly-push : (ord : Order) (p n : ℕ) (A : List Term) (t : Term) → IsPoly ord p n A → AllAbove ord t.monomial A → length t.monomial ≡ n → IsReduced p t.coefficient → (t.coefficient ≢ pos 0) → IsPoly ord p n (A ++ t ∷ [])
IsPoly-push ord p n A t i h l r z = record {
  vectors = Over-push n A t i.vectors l;
  decreasing = Decreasing-push ord A t i.decreasing h;
  proper = Proper-push p A t i.proper r z;
}

at_remainder : (d : Division) (A : List Term) (t : Term) → RemainderFits Remainder d A → AllAbove d.ord t.monomial A → length t.monomial ≡ d.n → IsReduced d.p t.coefficient → (t.coefficient ≢ pos 0) → (Divides (lm d.g) t.monomial → ⊥) → RemainderFits Remainder d (A ++ t ∷ [])
unfolding RemainderFits
at_remainder d A t h k l r z n = (IsPoly-push d.ord d.p d.n A t h.0 k l r z, NoneDivisible-push (lm d.g) A t h.1 n)

remainder_push : (mode : Mode) (d : Division) (A : List Term) (t : Term) → mode ≡ Remainder → RemainderFits mode d A → AllAbove d.ord t.monomial A → length t.monomial ≡ d.n → IsReduced d.p t.coefficient → (t.coefficient ≢ pos 0) → (Divides (lm d.g) t.monomial → ⊥) → RemainderFits mode d (A ++ t ∷ [])
remainder_push mode d A t e h k l r z n =
    subst (λ (m : Mode). RemainderFits m d (A ++ t ∷ [])) (sym e) (at_remainder d A t (subst (λ (m : Mode). RemainderFits m d A) e h) k l r z n)

total_kept : (s : DivideState) (new : List Term) (m : List ℕ) → total (times s.q (lead_term s.division.g) ++ (s.r ++ new)) m ≡ total (times s.q (lead_term s.division.g) ++ s.r) m +ℤ total new m
total_kept s new m = omega (arith, ints, total_append (times s.q (lead_term s.division.g)) (s.r ++ new) m, total_append s.r new m, total_append (times s.q (lead_term s.division.g)) s.r m)

pub divide_kept : DivideKept
unfolding kept processed coef IsPast all_owed divide_script head_of_worker clear_at
divide_kept s x a whole c h mode n z =
    let f = found_above s x whole h in
    let v = red s.division.p (total (minus s.unread (head_terms s.heads)) x) in
    record {
      heads_count = length_clear x s.heads ∙ whole.heads_count;
      taken_count = whole.taken_count;
      carried = whole.carried;
      heads_are = cleared_heads s x whole;
      sum = sum_after s x (times s.q (lead_term s.division.g)) (s.r ++ record { monomial = x; coefficient = v } ∷ []) (record { monomial = x; coefficient = v } ∷ []) (all_owed s) (minus s.division.f (times (quotient_list s.division) (after_lead s.division.g))) s.division.p
          (λ m. read_reduced s x v s.division.p m (sym (red_red s.division.p (total (minus s.unread (head_terms s.heads)) x))))
          (λ m. total_kept s (record { monomial = x; coefficient = v } ∷ []) m)
          whole.sum;
      quotient = whole.quotient;
      within = whole.within;
      unread_suffix = still_suffix s x a whole c;
      remainder = remainder_push s.division.mode s.division s.r (record { monomial = x; coefficient = v }) mode whole.remainder f.rest c.vector (red_red s.division.p (total (minus s.unread (head_terms s.heads)) x)) z n;
      past = (
        below_without s.division.ord x s.unread c.unread_below,
        heads_cleared s x c,
        all_owed_below s x a whole c,
        AllAtOrAbove-append s.division.ord x s.r (record { monomial = x; coefficient = v } ∷ []) (above_at s.division.ord x s.r f.rest) (one_at s.division.ord x (record { monomial = x; coefficient = v }) refl),
        above_at s.division.ord x (times s.q (lead_term s.division.g)) f.quotient,
      );
      row_terms = whole.row_terms;
      row_start = whole.row_start;
      under_front = whole.under_front;
    }

-- ---- a term of the quotient
lead_row : (t : Term) (g : List Term) → (g ≢ []) → row t (lead_term g) ≡ (record { monomial = t.monomial ⋅ lm g; coefficient = t.coefficient *ℤ lc g } ∷ [])
unfolding row lead_term term_times lm lc
lead_row t [] n = absurd (n refl)
lead_row t (u ∷ g) n = refl

times_push : (q : List Term) (t : Term) (B : List Term) → times (q ++ t ∷ []) B ≡ times q B ++ row t B
unfolding times
times_push [] t B = append-nil (row t B)
times_push (s ∷ q) t B = ap (λ (L : List Term). row s B ++ L) (times_push q t B) ∙ sym (append_assoc (row s B) (times q B) (row t B))

total_found : (s : DivideState) (t : Term) (new : List Term) (m : List ℕ) → row t (lead_term s.division.g) ≡ new → total (times (s.q ++ t ∷ []) (lead_term s.division.g) ++ s.r) m ≡ total (times s.q (lead_term s.division.g) ++ s.r) m +ℤ total new m
total_found s t new m e =
    omega (arith, ints, total_append (times (s.q ++ t ∷ []) (lead_term s.division.g)) s.r m, ap (λ (L : List Term). total L m) (times_push s.q t (lead_term s.division.g)), total_append (times s.q (lead_term s.division.g)) (row t (lead_term s.division.g)) m, ap (λ (L : List Term). total L m) e, total_append (times s.q (lead_term s.division.g)) s.r m)

drop_push : (k : ℕ) (A : List Term) (t : Term) → k ≤ length A → drop k (A ++ t ∷ []) ≡ drop k A ++ t ∷ []
drop_push zero A t h = refl
drop_push (suc k) [] t h = absurd (omega arith)
drop_push (suc k) (s ∷ A) t h = drop_push k A t (omega (arith, h))

after_found : (d : Division) (q : List Term) (t : Term) (later : List Term) → IsPoly d.ord d.p d.n (t ∷ later) → IsAccepted d → AllUnderFront d (Some (t.monomial ⋅ lm d.g)) later
unfolding AllUnderFront
after_found d q t later i a = (under_rest d (t.monomial ⋅ lm d.g) t later a i (inl refl)).1

pub divide_found : DivideFound
unfolding found processed coef IsPast all_owed divide_script head_of_worker clear_at
divide_found s x u a whole c h v r z e within =
    let f = found_above s x whole h in
    let d = s.division in
    let t : Term = record { monomial = over x (lm d.g); coefficient = u } in
    let back = over_times x (lm d.g) v in
    let new = lead_row t d.g a.nonzero ∙ ap (λ (y : List ℕ). record { monomial = y; coefficient = u *ℤ lc d.g } ∷ []) back in
    record {
      heads_count = length_clear x s.heads ∙ whole.heads_count;
      taken_count = whole.taken_count;
      carried = whole.carried;
      heads_are = cleared_heads s x whole;
      sum = sum_after s x (times (s.q ++ t ∷ []) (lead_term d.g)) s.r (record { monomial = x; coefficient = u *ℤ lc d.g } ∷ []) (all_owed s) (minus d.f (times (quotient_list d) (after_lead d.g))) d.p
          (λ m. read_reduced s x (u *ℤ lc d.g) d.p m (sym e))
          (λ m. total_found s t (record { monomial = x; coefficient = u *ℤ lc d.g } ∷ []) m new)
          whole.sum;
      quotient = candidate_term s x u a whole c v r z e;
      within = within;
      unread_suffix = still_suffix s x a whole c;
      remainder = whole.remainder;
      past = (
        below_without d.ord x s.unread c.unread_below,
        heads_cleared s x c,
        all_owed_below s x a whole c,
        above_at d.ord x s.r f.rest,
        subst (λ (L : List Term). AllAtOrAbove d.ord x L) (sym (times_push s.q t (lead_term d.g)))
            (AllAtOrAbove-append d.ord x (times s.q (lead_term d.g)) (row t (lead_term d.g)) (above_at d.ord x (times s.q (lead_term d.g)) f.quotient)
            (subst (λ (L : List Term). AllAtOrAbove d.ord x L) (sym new) (one_at d.ord x (record { monomial = x; coefficient = u *ℤ lc d.g }) refl))),
      );
      row_terms = drop_push s.start s.q t whole.row_start ∙ ap (λ (L : List Term). L ++ t ∷ []) whole.row_terms;
      row_start = omega (arith, whole.row_start, length-append s.q (t ∷ []));
      under_front = λ later k. after_found d s.q t later (later_poly s (t ∷ later) a (sym (append_assoc s.q (t ∷ []) later) ∙ k)) a;
    }
