-- A bound of a division's merge stands in its workload.
use Rattle.std.proofs.Common.{◌≡◌, ◌≢◌, ℕ, suc, ◌<◌, ◌⊎◌, inl, inr, Bool, true, false, ◌||◌, cond, eqb, ◌%◌, List, [], ◌∷◌, ◌++◌, length, take, Option, Some, None, ℤ, pos, ◌*ℤ◌, refl, sym, ap, ◌∙◌, subst, arith, true≢false, append-nil}
use Rattle.std.proofs.lemmas.List.{take-append-le}
use Rattle.std.proofs.Math.Seq.{take-length}
use Rattle.sdmp_laws.specs.Order.{Order, ◌⋅◌, Divides, alike, Below}
use Rattle.sdmp_laws.specs.Ring.{red, IsReduced}
use Rattle.sdmp_laws.specs.Poly.{Term, total, coef, term_times, row, times, minus, Over, AllBelow, IsPoly, terms, every, lm, lc}
use Rattle.sdmp_laws.specs.Division.{Division, IsAccepted, InScope, AtOrAbove, Turn, Turns}
use Rattle.sdmp_laws.specs.LongDivision.{quotient_list}
use Rattle.whole_laws.specs.Notes.{QuotientScript, after_lead, divisor_rows, script_list, terms_in, has, IsProductMonomial, TopIsProduct}
use Rattle.whole_laws.specs.Wholes.{head_terms, IsHead, notes_of, head_of_worker}
use Rattle.divide_wholes.specs.Wholes.{DivideState, DivideWhole, divide_script, latest_mark, AllUnderFront, IsBeyond, IsBound}
use Rattle.dividing_rounds.specs.Found.{read_coef, CandidateLast}
use Rattle.dividing_rounds.specs.Runs.{workload, IsKnownAt, BoundInWorkload}
use Rattle.sdmp_laws.specs.declared.Mode.{Mode}
use Rattle.sdmp_laws.proofs.OrderLemmas.{alike_self, alike_same}
use Rattle.sdmp_laws.proofs.Tests.{or_out, or_in_left, or_in_right}
use Rattle.sdmp_laws.proofs.PolyLemmas.{same_total}
use Rattle.sdmp_laws.proofs.TermsLemmas.{total_other, tail_poly, head_facts, coef_head, terms_same}
use Rattle.sdmp_laws.proofs.DivisionLemmas.{below_left, length_lm, divides_times, Turns-after}
use Rattle.sdmp_laws.proofs.LongLemmas.{quotient_list_is, all_in_scope}
use Rattle.sdmp_laws.proofs.Ints.{red_zero}
use Rattle.whole_laws.proofs.NotesLemmas.{Carry-prefix, has-append_left, total_hasnt}
use Rattle.whole_laws.proofs.StartLemmas.{all_of_it}
use Rattle.divide_wholes.proofs.Candidate.{rows_below, rows_over, script_poly, no_rows_owe, later_under, candidate_final}
use Rattle.divide_wholes.proofs.MarkLemmas.{latest_mark_counts}
use Rattle.divide_wholes.proofs.WorkerLemmas.{worker_final}

-- ---- monomials of lists
pub has-append_right : (m : List ℕ) (A B : List Term) → has m B ≡ true → has m (A ++ B) ≡ true
unfolding has
has-append_right m [] B h = h
has-append_right m (t ∷ A) B h = or_in_right (alike t.monomial m) (has m (A ++ B)) (has-append_right m A B h)

pub has-append_out : (m : List ℕ) (A B : List Term) → has m (A ++ B) ≡ true → (has m A ≡ true) ⊎ (has m B ≡ true)
unfolding has
has-append_out m [] B h = inr h
has-append_out m (t ∷ A) B h = pick (λ k. has-append_out m A B k) (or_out (alike t.monomial m) (has m (A ++ B)) h)
  where
    behind_it : (has m A ≡ true) ⊎ (has m B ≡ true) → ((alike t.monomial m || has m A) ≡ true) ⊎ (has m B ≡ true)
    behind_it (inl k) = inl (or_in_right (alike t.monomial m) (has m A) k)
    behind_it (inr k) = inr k

    pick : (has m (A ++ B) ≡ true → (has m A ≡ true) ⊎ (has m B ≡ true)) → (alike t.monomial m ≡ true) ⊎ (has m (A ++ B) ≡ true) → ((alike t.monomial m || has m A) ≡ true) ⊎ (has m B ≡ true)
    pick ih (inl e) = inl (or_in_left (alike t.monomial m) (has m A) e)
    pick ih (inr k) = behind_it (ih k)

-- of the rows that a worker has, each is one of all
has_every : (m : List ℕ) (W w i : ℕ) (A : List Term) → has m (every W w i A) ≡ true → has m A ≡ true
unfolding has every
has_every m W w i [] h = h
has_every m W w i (t ∷ A) h = pick (has_every m W w (suc i) A) (eqb (i % W) w) h
  where
    back : (has m (every W w (suc i) A) ≡ true → has m A ≡ true) → (alike t.monomial m ≡ true) ⊎ (has m (every W w (suc i) A) ≡ true) → (alike t.monomial m || has m A) ≡ true
    back ih (inl e) = or_in_left (alike t.monomial m) (has m A) e
    back ih (inr k) = or_in_right (alike t.monomial m) (has m A) (ih k)

    pick : (has m (every W w (suc i) A) ≡ true → has m A ≡ true) → (b : Bool) → has m (cond b (t ∷ every W w (suc i) A) (every W w (suc i) A)) ≡ true → (alike t.monomial m || has m A) ≡ true
    pick ih true k = back ih (or_out (alike t.monomial m) (has m (every W w (suc i) A)) k)
    pick ih false k = or_in_right (alike t.monomial m) (has m A) (ih k)

-- ---- products
has_row : (u : List ℕ) (t : Term) (B : List Term) → has u B ≡ true → has (t.monomial ⋅ u) (row t B) ≡ true
unfolding has row term_times
has_row u t [] h = absurd (true≢false (sym h))
has_row u t (v ∷ B) h = pick (λ k. has_row u t B k) (or_out (alike v.monomial u) (has u B) h)
  where
    pick : (has u B ≡ true → has (t.monomial ⋅ u) (row t B) ≡ true) → (alike v.monomial u ≡ true) ⊎ (has u B ≡ true) → (alike (t.monomial ⋅ v.monomial) (t.monomial ⋅ u) || has (t.monomial ⋅ u) (row t B)) ≡ true
    pick ih (inl e) =
        or_in_left (alike (t.monomial ⋅ v.monomial) (t.monomial ⋅ u)) (has (t.monomial ⋅ u) (row t B))
        (ap (λ (y : List ℕ). alike (t.monomial ⋅ y) (t.monomial ⋅ u)) (alike_same v.monomial u e) ∙ alike_self (t.monomial ⋅ u))
    pick ih (inr k) = or_in_right (alike (t.monomial ⋅ v.monomial) (t.monomial ⋅ u)) (has (t.monomial ⋅ u) (row t B)) (ih k)

has_times : (a b : List ℕ) (A B : List Term) → has a A ≡ true → has b B ≡ true → has (a ⋅ b) (times A B) ≡ true
unfolding has times
has_times a b [] B h k = absurd (true≢false (sym h))
has_times a b (t ∷ A) B h k = pick (λ l. has_times a b A B l k) (or_out (alike t.monomial a) (has a A) h)
  where
    pick : (has a A ≡ true → has (a ⋅ b) (times A B) ≡ true) → (alike t.monomial a ≡ true) ⊎ (has a A ≡ true) → has (a ⋅ b) (row t B ++ times A B) ≡ true
    pick ih (inl e) = has-append_left (a ⋅ b) (row t B) (times A B) (subst (λ (y : List ℕ). has (y ⋅ b) (row t B) ≡ true) (alike_same t.monomial a e) (has_row b t B k))
    pick ih (inr l) = has-append_right (a ⋅ b) (row t B) (times A B) (ih l)

product_in : (A B : List Term) (m : List ℕ) → IsProductMonomial A B m → has m (times A B) ≡ true
product_in A B m p = subst (λ (y : List ℕ). has y (times A B) ≡ true) (sym p.is) (has_times p.left.monomial p.right.monomial A B p.left_in p.right_in)

row_out : (m : List ℕ) (t : Term) (B : List Term) → has m (row t B) ≡ true → (u : Term) × (has u.monomial B ≡ true) × (m ≡ t.monomial ⋅ u.monomial)
unfolding has row term_times
row_out m t [] h = absurd (true≢false (sym h))
row_out m t (v ∷ B) h = pick (λ k. row_out m t B k) (or_out (alike (t.monomial ⋅ v.monomial) m) (has m (row t B)) h)
  where
    pick : (has m (row t B) ≡ true → (u : Term) × (has u.monomial B ≡ true) × (m ≡ t.monomial ⋅ u.monomial)) → (alike (t.monomial ⋅ v.monomial) m ≡ true) ⊎ (has m (row t B) ≡ true) → (u : Term) × ((alike v.monomial u.monomial || has u.monomial B) ≡ true) × (m ≡ t.monomial ⋅ u.monomial)
    pick ih (inl e) = (v, or_in_left (alike v.monomial v.monomial) (has v.monomial B) (alike_self v.monomial), sym (alike_same (t.monomial ⋅ v.monomial) m e))
    pick ih (inr k) = let r = ih k in (r.0, or_in_right (alike v.monomial (r.0).monomial) (has (r.0).monomial B) r.1, r.2)

product_out : (A B : List Term) (m : List ℕ) → has m (times A B) ≡ true → IsProductMonomial A B m
unfolding has times
product_out [] B m h = absurd (true≢false (sym h))
product_out (t ∷ A) B m h = pick (λ k. product_out A B m k) (has-append_out m (row t B) (times A B) h)
  where
    pick : (has m (times A B) ≡ true → IsProductMonomial A B m) → (has m (row t B) ≡ true) ⊎ (has m (times A B) ≡ true) → IsProductMonomial (t ∷ A) B m
    pick ih (inl k) = let r = row_out m t B k in record { left = t; right = r.0; left_in = or_in_left (alike t.monomial t.monomial) (has t.monomial A) (alike_self t.monomial); right_in = r.1; is = r.2 }
    pick ih (inr k) =
        let p = ih k in
        record { left = p.left; right = p.right; left_in = or_in_right (alike t.monomial p.left.monomial) (has p.left.monomial A) p.left_in; right_in = p.right_in; is = p.is }

-- a product with a row of a worker is one with a lower term of the divisor
product_of_lower : (q : List Term) (g : List Term) (W w : ℕ) (m : List ℕ) → IsProductMonomial q (divisor_rows g W w) m → has m (times q (after_lead g)) ≡ true
unfolding divisor_rows
product_of_lower q g W w m p =
    product_in q (after_lead g) m (record { left = p.left; right = p.right; left_in = p.left_in; right_in = has_every p.right.monomial W w 1 (after_lead g) p.right_in; is = p.is })

-- ---- the heads
pub record HeadAt (heads : List (Option Term)) (x : List ℕ) : Type 0 where
  pub worker : ℕ
  pub here : worker < length heads
  pub head : Term
  pub is : head_of_worker heads worker ≡ Some head
  pub at : head.monomial ≡ x

head_later : (o : Option Term) (heads : List (Option Term)) (x : List ℕ) → HeadAt heads x → HeadAt (o ∷ heads) x
unfolding head_of_worker
head_later o heads x h = record { worker = suc h.worker; here = (let l = h.here in omega (arith, l)); head = h.head; is = h.is; at = h.at }

pub head_at : (heads : List (Option Term)) (x : List ℕ) → has x (head_terms heads) ≡ true → HeadAt heads x
unfolding has head_terms head_of_worker
head_at [] x h = absurd (true≢false (sym h))
head_at (None ∷ heads) x h = head_later None heads x (head_at heads x h)
head_at (Some t ∷ heads) x h = pick (λ k. head_at heads x k) (or_out (alike t.monomial x) (has x (head_terms heads)) h)
  where
    pick : (has x (head_terms heads) ≡ true → HeadAt heads x) → (alike t.monomial x ≡ true) ⊎ (has x (head_terms heads) ≡ true) → HeadAt (Some t ∷ heads) x
    pick ih (inl e) = record { worker = 0; here = omega arith; head = t; is = refl; at = alike_same t.monomial x e }
    pick ih (inr k) = head_later (Some t) heads x (ih k)

-- a head is one of its worker's terms
pub script_has : (s : DivideState) (w : ℕ) (t : Term) → DivideWhole s → w < s.workers → head_of_worker s.heads w ≡ Some t → has t.monomial (script_list (divide_script s w)) ≡ true
unfolding IsHead has
script_has s w t whole l e =
    let h : IsHead (Some t) (notes_of s.taken w) = subst (λ (o : Option Term). IsHead o (notes_of s.taken w)) e (whole.heads_are w l) in
    let c = Carry-prefix (divide_script s w) (notes_of s.taken w) (whole.carried w l) in
    let last : has t.monomial (h.0 ++ t ∷ []) ≡ true = has-append_right t.monomial h.0 (t ∷ []) (or_in_left (alike t.monomial t.monomial) false (alike_self t.monomial)) in
    subst (λ (L : List Term). has t.monomial L ≡ true) c.1 (has-append_left t.monomial (terms_in (notes_of s.taken w)) c.0 (subst (λ (L : List Term). has t.monomial L ≡ true) (sym h.1) last))

-- a canonical list has a coefficient at each of its monomials
has_coef : (ord : Order) (p n : ℕ) (L : List Term) (x : List ℕ) → IsPoly ord p n L → has x L ≡ true → red p (total L x) ≡ pos 0 → ⊥
unfolding has
has_coef ord p n [] x i h z = true≢false (sym h)
has_coef ord p n (u ∷ L) x i h z = pick (λ j k y. has_coef ord p n L x j k y) (alike u.monomial x) refl (or_out (alike u.monomial x) (has x L) h)
  where
    f : (length u.monomial ≡ n) × AllBelow ord u.monomial L × (red p u.coefficient ≡ u.coefficient) × (u.coefficient ≢ pos 0)
    f = head_facts ord p n u L i

    pick : (IsPoly ord p n L → has x L ≡ true → red p (total L x) ≡ pos 0 → ⊥) → (b : Bool) → alike u.monomial x ≡ b → (alike u.monomial x ≡ true) ⊎ (has x L ≡ true) → ⊥
    pick ih true e k = f.3 (sym (coef_head ord p u L f.1 f.2) ∙ subst (λ (y : List ℕ). red p (total (u ∷ L) y) ≡ pos 0) (sym (alike_same u.monomial x e)) z)
    pick ih false e (inl k) = true≢false (sym k ∙ e)
    pick ih false e (inr k) =
        ih (tail_poly ord p n u L i) k
        (ap (red p) (sym (total_other u L x (λ y. true≢false (sym (ap (λ (v : List ℕ). alike v x) y ∙ alike_self x) ∙ e)))) ∙ z)

-- ---- the worker's rows are below lm(g)
pub first_lower : (ord : Order) (n : ℕ) (l : List ℕ) (R : List Term) → (R ≢ []) → AllBelow ord l R → Over n R → Below ord (lm R) l × (length (lm R) ≡ n)
unfolding lm AllBelow Over
first_lower ord n l [] s b o = absurd (s refl)
first_lower ord n l (t ∷ R) s b o = (b.0, o.0)

pub script_none : (d : Division) (W w : ℕ) → divisor_rows d.g W w ≡ [] → script_list (QuotientScript d W w) ≡ []
script_none d W w e = sym (all_of_it (QuotientScript d W w)) ∙ no_rows_owe d W w [] e

-- the empty list has no monomial
pub has_nothing : (x : List ℕ) (A : List Term) → A ≡ [] → has x A ≡ true → ⊥
unfolding has
has_nothing x [] e h = true≢false (sym h)
has_nothing x (t ∷ A) e h = absurd (cc e)

-- ---- a bound where a head stands
-- where no later quotient term is above x, and a worker's list has a term at x, a product of q and its rows stands there
product_at : (d : Division) (W w : ℕ) (q later : List Term) (x : List ℕ) → IsAccepted d → q ++ later ≡ quotient_list d → length x ≡ d.n → AllUnderFront d (Some x) later
    → has x (script_list (QuotientScript d W w)) ≡ true → IsProductMonomial q (divisor_rows d.g W w) x
unfolding coef IsBeyond script_list
product_at d W w q later x a e l u h = pick (has x (times q (divisor_rows d.g W w))) refl
  where
    some : divisor_rows d.g W w ≢ []
    some k = has_nothing x (script_list (QuotientScript d W w)) (script_none d W w k) h

    low : Below d.ord (lm (divisor_rows d.g W w)) (lm d.g) × (length (lm (divisor_rows d.g W w)) ≡ d.n)
    low = first_lower d.ord d.n (lm d.g) (divisor_rows d.g W w) some (rows_below d W w a) (rows_over d W w a)

    same : red d.p (total (times (quotient_list d) (divisor_rows d.g W w)) x) ≡ red d.p (total (times q (divisor_rows d.g W w)) x)
    same = worker_final d W w q later x x a e l l (inl (u, below_left d.ord (lm (divisor_rows d.g W w)) (lm d.g) x (low.1 ∙ sym (length_lm d a)) low.0))

    there : red d.p (total (times q (divisor_rows d.g W w)) x) ≡ pos 0 → ⊥
    there z =
        has_coef d.ord d.p d.n (script_list (QuotientScript d W w)) x (script_poly d W w a) h
        (same_total d.p (terms d.ord d.p (times (quotient_list d) (divisor_rows d.g W w))) (times (quotient_list d) (divisor_rows d.g W w)) (terms_same d.ord d.p (times (quotient_list d) (divisor_rows d.g W w))) x ∙ same ∙ z)

    pick : (b : Bool) → has x (times q (divisor_rows d.g W w)) ≡ b → IsProductMonomial q (divisor_rows d.g W w) x
    pick true k = product_out q (divisor_rows d.g W w) x k
    pick false k = absurd (there (ap (red d.p) (total_hasnt x (times q (divisor_rows d.g W w)) k) ∙ red_zero d.p))

-- the top of a mark that counts all of q
top_product : (s : DivideState) (w : ℕ) (x : List ℕ) → DivideWhole s → w < s.workers → latest_mark (notes_of s.taken w) ≡ (length s.q, Some x) → IsProductMonomial s.q (divisor_rows s.division.g s.workers w) x
unfolding TopIsProduct divide_script
top_product s w x whole l e =
    let p = whole.quotient in
    let front : take (length s.q) (quotient_list s.division) ≡ s.q = ap (take (length s.q)) (sym p.1) ∙ take-append-le (length s.q) s.q p.0 (omega arith) ∙ take-length s.q in
    let c = (latest_mark_counts s.division s.workers w (notes_of s.taken w) (whole.carried w l)).1 in
    let t : TopIsProduct (take (length s.q) (quotient_list s.division)) (divisor_rows s.division.g s.workers w) (Some x) =
    subst (λ (m : ℕ × Option (List ℕ)). TopIsProduct (take m.0 (quotient_list s.division)) (divisor_rows s.division.g s.workers w) m.1) e c in
    subst (λ (L : List Term). IsProductMonomial L (divisor_rows s.division.g s.workers w) x) front t

head_in_workload : (s : DivideState) (x : List ℕ) → IsAccepted s.division → DivideWhole s → IsBound s x → HeadAt s.heads x → has x (times s.q (after_lead s.division.g)) ≡ true
unfolding divide_script
head_in_workload s x a whole b h =
    let later = whole.quotient in
    let l : h.worker < s.workers = (let k = h.here in omega (arith, k, whole.heads_count)) in
    let there = subst (λ (y : List ℕ). has y (script_list (QuotientScript s.division s.workers h.worker)) ≡ true) h.at (script_has s h.worker h.head whole l h.is) in
    product_of_lower s.q s.division.g s.workers h.worker x (product_at s.division s.workers h.worker s.q later.0 x a later.1 b.vector (later_under s x later.0 a whole b later.1) there)

pub bound_in_workload : BoundInWorkload
unfolding IsKnownAt workload
bound_in_workload s x a whole b (inl h) = pick (has-append_out x s.unread (head_terms s.heads) h)
  where
    pick : (has x s.unread ≡ true) ⊎ (has x (head_terms s.heads) ≡ true) → has x (s.division.f ++ times s.q (after_lead s.division.g)) ≡ true
    pick (inl u) = has-append_left x s.division.f (times s.q (after_lead s.division.g)) (subst (λ (L : List Term). has x L ≡ true) (whole.unread_suffix).1 (has-append_right x (whole.unread_suffix).0 s.unread u))
    pick (inr k) = has-append_right x s.division.f (times s.q (after_lead s.division.g)) (head_in_workload s x a whole b (head_at s.heads x k))
bound_in_workload s x a whole b (inr k) =
    has-append_right x s.division.f (times s.q (after_lead s.division.g)) (product_of_lower s.q s.division.g s.workers k.0 x (top_product s k.0 x whole k.1 k.2))

-- ---- where no number fits
turn_after : (d : Division) (q A : List Term) (t : Term) → IsAccepted d → q ++ t ∷ A ≡ quotient_list d → Turn d (minus d.f (times q d.g)) t
unfolding Turns
turn_after d q A t a e = (Turns-after d d.f q (t ∷ A) (subst (λ (L : List Term). Turns d d.f L) (sym e) (quotient_list_is d a).turns)).0

-- a later term stands at x or below, and neither is possible: at x its coefficient fits, and below x there is one that a turn leaves above it
none_later : (d : Division) (q A : List Term) (t : Term) (x : List ℕ) (c : ℤ) → IsAccepted d → q ++ t ∷ A ≡ quotient_list d → length x ≡ d.n → InScope d.mode (lm d.g) x → coef d.p (minus d.f (times q d.g)) x ≡ c → (c ≢ pos 0)
    → (Divides (lm d.g) x → IsReduced d.p t.coefficient → red d.p (t.coefficient *ℤ lc d.g) ≡ c → ⊥) → AtOrAbove d.ord (t.monomial ⋅ lm d.g) x → ⊥
none_later d q A t x c a e l scope here z none (inl k) =
    let u = turn_after d q A t a e in
    none (subst (λ (y : List ℕ). Divides (lm d.g) y) k (divides_times t.monomial (lm d.g) (u.vector ∙ sym (length_lm d a)))) u.reduced (u.fits ∙ ap (coef d.p (minus d.f (times q d.g))) k ∙ here)
none_later d q A t x c a e l scope here z none (inr b) = z (sym here ∙ (turn_after d q A t a e).top x l scope b)

pub candidate_last : CandidateLast
unfolding AllUnderFront
candidate_last s x a whole c mode z none = pick (whole.quotient).0 (whole.quotient).1
  where
    scope : (m : List ℕ) → InScope s.division.mode (lm s.division.g) m
    scope m = subst (λ (y : Mode). InScope y (lm s.division.g) m) (sym mode) (all_in_scope (lm s.division.g) m)

    here : coef s.division.p (minus s.division.f (times s.q s.division.g)) x ≡ read_coef s x
    here = (candidate_final s x a whole c).1 x c.vector (scope x) (inl refl)

    pick : (later : List Term) → s.q ++ later ≡ quotient_list s.division → s.q ≡ quotient_list s.division
    pick [] e = sym (append-nil s.q) ∙ e
    pick (t ∷ A) e =
        absurd (none_later s.division s.q A t x (read_coef s x) a e c.vector (scope x) here z (λ v r f. none t.coefficient (record { divides = v; reduced = r; product = f }))
        ((candidate_final s x a whole c).0 (t ∷ A) e).0)
