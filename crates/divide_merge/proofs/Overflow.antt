-- Over the integers what is read at a candidate stays within the norms.
use Rattle.std.proofs.Common.{◌≡◌, inl, ℕ, suc, ◌+◌, ◌*◌, ◌<◌, ◌≤◌, List, [], ◌∷◌, ◌++◌, length, get_or, cond, true, false, Bool, Option, Some, None, sum_by, unsigned_abs, refl, sym, ap, ◌∙◌, subst, arith, append_assoc, length-append}
use Rattle.std.proofs.Math.Nat.{mul-le-mul}
use mathlib.Core.List.{IsPrefix, IsSuffix}
use Rattle.sdmp_laws.specs.Order.{Order, ◌⋅◌, alike, Below}
use Rattle.sdmp_laws.specs.Ring.{red}
use Rattle.sdmp_laws.specs.Poly.{Term, total, coef, times, terms, every, norm, lm, Over, AllBelow, IsPoly}
use Rattle.sdmp_laws.specs.Division.{Division, IsAccepted}
use Rattle.sdmp_laws.specs.Limits.{greatest_norm}
use Rattle.sdmp_laws.proofs.OrderLemmas.{order_facts, alike_same, times_comm}
use Rattle.sdmp_laws.proofs.TermsLemmas.{total_other, coef_head, head_facts, tail_poly}
use Rattle.sdmp_laws.proofs.ListLemmas.{AllBelow-back}
use Rattle.sdmp_laws.proofs.Parts.{norm_cons, norm_append, norm_times, total-le-norm}
use Rattle.sdmp_laws.proofs.DivisionLemmas.{length_lm}
use Rattle.whole_laws.specs.Notes.{Note, QuotientScript, after_lead, divisor_rows, script_list}
use Rattle.whole_laws.specs.Wholes.{head_terms, IsHead, notes_of, head_of_worker}
use Rattle.whole_laws.proofs.NotesLemmas.{Carry-prefix}
use Rattle.divide_wholes.specs.Wholes.{DivideState, DivideWhole, IsCandidate, IsBeyond, divide_script}
use Rattle.divide_wholes.proofs.Candidate.{rows_below, rows_over, script_poly, later_under, candidate_bound, script_total}
use Rattle.divide_wholes.proofs.WorkerLemmas.{worker_final}
use Rattle.divide_wholes.proofs.TakeLemmas.{first_is_below}
use Rattle.dividing_rounds.proofs.WorkloadLemmas.{first_lower, script_none}
use Rattle.divide_core.proofs.DividingSteps.{not_passed}
use Rattle.ring_heads.specs.Heads.{size_at}
use Rattle.global_heap.proofs.Counts.{rows_from, rows_le}
use Rattle.global_heap.proofs.Finish.{norm_is}

abbrev size : Term → ℕ
size t = unsigned_abs t.coefficient

-- a term of a list of terms has the list's coefficient at its monomial
in_list : (ord : Order) (p n : ℕ) (before rest : List Term) (t : Term) → IsPoly ord p n (before ++ t ∷ rest) → red p (total (before ++ t ∷ rest) t.monomial) ≡ t.coefficient
unfolding AllBelow
in_list ord p n [] rest t i = let f = head_facts ord p n t rest i in coef_head ord p t rest f.1 f.2
in_list ord p n (u ∷ before) rest t i =
    let f = head_facts ord p n u (before ++ t ∷ rest) i in
    let below = first_is_below ord u.monomial t rest (AllBelow-back ord u.monomial before (t ∷ rest) f.1) in
    ap (red p) (total_other u (before ++ t ∷ rest) t.monomial (λ e. (order_facts ord).irreflexive t.monomial (subst (λ (v : List ℕ). Below ord t.monomial v) e below)))
    ∙ in_list ord p n before rest t (tail_poly ord p n u (before ++ t ∷ rest) i)

-- the terms after the first have no greater norm
lower_norm : (g : List Term) → norm (after_lead g) ≤ norm g
unfolding after_lead
lower_norm [] = omega arith
lower_norm (t ∷ g) = let c = norm_cons t g in omega arith

not_nothing : (L before rest : List Term) (t : Term) → L ≡ [] → before ++ t ∷ rest ≡ L → ⊥
not_nothing L before rest t e h = let n = ap (λ (A : List Term). length A) (h ∙ e) in let l = length-append before (t ∷ rest) in omega arith

-- the size of a head at the candidate
head_size : (s : DivideState) (x : List ℕ) (w : ℕ) (t : Term) → IsAccepted s.division → DivideWhole s → IsCandidate s x → s.division.p ≡ 0 → w < s.workers → head_of_worker s.heads w ≡ Some t → t.monomial ≡ x
    → size t ≤ norm s.q * norm (divisor_rows s.division.g s.workers w)
unfolding IsHead IsBeyond divide_script coef Over lm script_list
head_size s x w t a whole c integers l e at =
    let d : Division = s.division in
    let G : List Term = divisor_rows d.g s.workers w in
    let notes : List Note = notes_of s.taken w in
    let script = QuotientScript d s.workers w in
    let h = subst (λ (o : Option Term). IsHead o notes) e (whole.heads_are w l) in
    let prefix : IsPrefix (h.0 ++ t ∷ []) (script_list script) = subst (λ (L : List Term). IsPrefix L (script_list script)) h.1 (Carry-prefix script notes (whole.carried w l)) in
    let split : h.0 ++ t ∷ prefix.0 ≡ script_list script = sym (append_assoc h.0 (t ∷ []) prefix.0) ∙ prefix.1 in
    let poly : IsPoly d.ord d.p d.n (h.0 ++ t ∷ prefix.0) = subst (λ (L : List Term). IsPoly d.ord d.p d.n L) (sym split) (script_poly d s.workers w a) in
    let some : G ≡ [] → ⊥ = λ none. not_nothing (script_list script) h.0 prefix.0 t (script_none d s.workers w none) split in
    let later = whole.quotient in
    let lower = first_lower d.ord d.n (lm d.g) G some (rows_below d s.workers w a) (rows_over d s.workers w a) in
    let below : Below d.ord (x ⋅ lm G) (x ⋅ lm d.g) =
    subst (λ (v : List ℕ). Below d.ord v (x ⋅ lm d.g)) (times_comm (lm G) x)
    (subst (λ (v : List ℕ). Below d.ord (lm G ⋅ x) v) (times_comm (lm d.g) x)
    ((order_facts d.ord).compatible (lm G) (lm d.g) x (lower.1 ∙ sym (length_lm d a)) lower.0)) in
    let final = worker_final d s.workers w s.q later.0 x x a later.1 c.vector c.vector (inl (later_under s x later.0 a whole (candidate_bound s x c) later.1, below)) in
    let value : t.coefficient ≡ red d.p (total (times s.q G) x) =
    sym (in_list d.ord d.p d.n h.0 prefix.0 t poly) ∙ (λ i. red d.p (total (split i) (at i)))
    ∙ script_total d s.workers w x ∙ final in
    let plain : t.coefficient ≡ total (times s.q G) x = value ∙ ap (λ (p : ℕ). red p (total (times s.q G) x)) integers in
    let z = ap unsigned_abs plain in
    let within = total-le-norm (times s.q G) x in
    let n = norm_times s.q G in
    omega arith

-- the heads at x, each within a bound by its worker's rows
heads_from : (B : List Term) (W K w : ℕ) (x : List ℕ) (heads : List (Option Term)) → ((v : ℕ) (t : Term) → v < length heads → get_or heads v None ≡ Some t → t.monomial ≡ x → size t ≤ K * norm (every W (w + v) 1 B))
    → size_at x (head_terms heads) ≤ K * rows_from size W B 1 w (length heads)
unfolding head_terms size_at rows_from norm
heads_from B W K w x [] h = omega arith
heads_from B W K w x (None ∷ heads) h =
    let i = heads_from B W K (suc w) x heads (λ v t l e at. subst (λ (u : ℕ). size t ≤ K * norm (every W u 1 B)) (let e : w + suc v ≡ suc w + v = omega arith in e) (h (suc v) t (omega arith) e at)) in
    let m = mul-le-mul (let r : K ≤ K = omega arith in r) (let r : rows_from size W B 1 (suc w) (length heads) ≤ sum_by size (every W w 1 B) + rows_from size W B 1 (suc w) (length heads) = omega arith in r) in
    omega arith
heads_from B W K w x (Some t ∷ heads) h =
    pick (heads_from B W K (suc w) x heads (λ v t l e at. subst (λ (u : ℕ). size t ≤ K * norm (every W u 1 B)) (let e : w + suc v ≡ suc w + v = omega arith in e) (h (suc v) t (omega arith) e at))) (alike t.monomial x) refl
  where
    sum : K * (sum_by size (every W w 1 B) + rows_from size W B 1 (suc w) (length heads)) ≡ K * sum_by size (every W w 1 B) + K * rows_from size W B 1 (suc w) (length heads)
    sum = grind arith

    norms : norm (every W w 1 B) ≡ sum_by size (every W w 1 B)
    norms = refl

    here : t.monomial ≡ x → size t ≤ K * norm (every W w 1 B)
    here at = subst (λ (u : ℕ). size t ≤ K * norm (every W u 1 B)) (let e : w + 0 ≡ w = omega arith in e) (h 0 t (omega arith) refl at)

    pick : size_at x (head_terms heads) ≤ K * rows_from size W B 1 (suc w) (length heads) → (b : Bool) → alike t.monomial x ≡ b → cond b (unsigned_abs t.coefficient) 0 + size_at x (head_terms heads) ≤ K * (sum_by size (every W w 1 B) + rows_from size W B 1 (suc w) (length heads))
    pick r true e = let k = here (alike_same t.monomial x e) in let n = ap (λ (m : ℕ). K * m) norms in let c = sum in omega arith
    pick r false e = let c = sum in omega arith

suffix_norm : (A F : List Term) → IsSuffix A F → norm A ≤ norm F
suffix_norm A F s = let e = ap norm s.1 in let c = norm_append s.0 A in omega arith

-- all that was read at the candidate adds up to no more than the norms allow
pub read_fits : (s : DivideState) (x : List ℕ) → IsAccepted s.division → DivideWhole s → IsCandidate s x → s.division.p ≡ 0 → unsigned_abs (total s.unread x) + size_at x (head_terms s.heads) ≤ greatest_norm
unfolding head_of_worker divisor_rows norm
read_fits s x a whole c integers =
    let B : List Term = after_lead s.division.g in
    let h = heads_from B s.workers (norm s.q) 0 x s.heads (λ v t l e at. subst (λ (u : ℕ). size t ≤ norm s.q * norm (every s.workers u 1 B)) (let z : v ≡ 0 + v = omega arith in z) (head_size s x v t a whole c integers (let n = whole.heads_count in omega arith) e at)) in
    let k = ap (λ (i : ℕ). norm s.q * rows_from size s.workers B 1 0 i) whole.heads_count in
    let r = rows_le size s.workers B 1 in
    let n : sum_by size B ≡ norm B = norm_is B in
    let l = lower_norm s.division.g in
    let m = mul-le-mul (let e : norm s.q ≤ norm s.q = omega arith in e) (let e : rows_from size s.workers B 1 0 s.workers ≤ norm s.division.g = omega arith in e) in
    let u = total-le-norm s.unread x in
    let f = suffix_norm s.unread s.division.f whole.unread_suffix in
    let p = not_passed s.division s.q integers whole.within in
    omega arith
