-- How many notes there are, and how great the heads.
use Rattle.std.proofs.Common.{◌≡◌, ℕ, zero, suc, ◌+◌, ◌*◌, ◌%◌, ◌^◌, ◌<◌, ◌≤◌, Bool, true, false, cond, eqb, sum_by, List, [], ◌∷◌, ◌++◌, length, get_or, Option, refl, sym, ap, subst, arith, length-append, append-nil, append_assoc}
use Rattle.std.proofs.Math.Nat.{mul-le-mul}
use Rattle.std.proofs.lemmas.List.Sums.{sum_by-cons}
use Rattle.std.proofs.lemmas.Bool.{ne_eqb}
use Rattle.sdmp_laws.specs.Order.{Order, alike, is_below}
use Rattle.sdmp_laws.specs.Ring.{red}
use Rattle.sdmp_laws.specs.Poly.{Term, is_zero, keep, put, term_plus, terms, times, row, every, part}
use Rattle.sdmp_laws.proofs.ListLemmas.{length-times}
use Rattle.sdmp_laws.proofs.PlaceLemmas.{length_prefix}
use Rattle.sdmp_laws.proofs.OrderLemmas.{Three, is_less, is_equal, is_greater, numbers}
use Rattle.whole_laws.specs.Notes.{Note, TermNote, MarkNote, EndNote, Product, Script, ProductScript, script_list, terms_in, NoEnd, MarkMayFollow, MayFollow, EndMayFollow, CarryAfter, Carry}
use Rattle.whole_laws.specs.Wholes.{MergeState, MergeWhole, notes_of, merge_script}
use Rattle.whole_laws.proofs.NotesLemmas.{Carry-prefix}
use Rattle.term_ring.specs.Names.{notes_count}
use Rattle.global_heap.specs.Names.{IsFit, notes_from, notes_total}

-- ---- the length of a list of terms
length-keep : (p : ℕ) (t : Term) (L : List Term) → length (keep p t L) ≤ length L + 1
unfolding keep
length-keep p t L = pick (is_zero (red p t.coefficient))
  where
    pick : (b : Bool) → length (cond b L (record { monomial = t.monomial; coefficient = red p t.coefficient } ∷ L)) ≤ length L + 1
    pick true = omega arith
    pick false = omega arith

length-put : (ord : Order) (p : ℕ) (t : Term) (L : List Term) → length (put ord p t L) ≤ length L + 1
unfolding put
length-put ord p t [] = length-keep p t []
length-put ord p t (u ∷ L) = pick (alike t.monomial u.monomial) (is_below ord u.monomial t.monomial) (length-put ord p t L)
  where
    pick : (a b : Bool) → length (put ord p t L) ≤ length L + 1 → length (cond a (keep p (term_plus t u) L) (cond b (keep p t (u ∷ L)) (u ∷ put ord p t L))) ≤ length (u ∷ L) + 1
    pick true b i = let k = length-keep p (term_plus t u) L in omega arith
    pick false true i = let k = length-keep p t (u ∷ L) in omega arith
    pick false false i = omega arith

length-terms : (ord : Order) (p : ℕ) (F : List Term) → length (terms ord p F) ≤ length F
unfolding terms
length-terms ord p [] = omega arith
length-terms ord p (t ∷ F) = let i = length-terms ord p F in let k = length-put ord p t (terms ord p F) in omega arith

-- ---- the rows of all workers
-- the weight of the rows of A from i on that the k workers from w on have
unfoldable pub rows_from : (Term → ℕ) → ℕ → List Term → ℕ → ℕ → ℕ → ℕ
rows_from h W A i w zero = 0
rows_from h W A i w (suc k) = sum_by h (every W w i A) + rows_from h W A i (suc w) k

abbrev bit : Bool → ℕ → ℕ
bit b x = cond b x 0

-- x once for each of the k numbers from w on that is c
ones_from : ℕ → ℕ → ℕ → ℕ → ℕ
ones_from c x w zero = 0
ones_from c x w (suc k) = bit (eqb c w) x + ones_from c x (suc w) k

no_one : (c x w : ℕ) → (c ≡ w → ⊥) → bit (eqb c w) x ≡ 0
no_one c x w n = ap (λ (b : Bool). bit b x) (ne_eqb c w n)

one_le : (b : Bool) (x : ℕ) → bit b x ≤ x
one_le true x = omega arith
one_le false x = omega arith

ones_past : (c x w k : ℕ) → c < w → ones_from c x w k ≡ 0
unfolding ones_from
ones_past c x w zero l = refl
ones_past c x w (suc k) l = let i = ones_past c x (suc w) k (omega arith) in let z = no_one c x w (λ e. omega arith) in omega arith

ones_le : (c x w k : ℕ) → ones_from c x w k ≤ x
unfolding ones_from
ones_le c x w zero = omega arith
ones_le c x w (suc k) = pick (numbers c w) (ones_le c x (suc w) k)
  where
    pick : Three (c < w) (c ≡ w) (w < c) → ones_from c x (suc w) k ≤ x → bit (eqb c w) x + ones_from c x (suc w) k ≤ x
    pick (is_less l) i = let n = ones_past c x (suc w) k (omega arith) in let z = one_le (eqb c w) x in omega arith
    pick (is_equal e) i = let n = ones_past c x (suc w) k (omega arith) in let z = one_le (eqb c w) x in omega arith
    pick (is_greater l) i = let z = no_one c x w (λ e. omega arith) in omega arith

weight_every : (h : Term → ℕ) (W w i : ℕ) (t : Term) (A : List Term) → sum_by h (every W w i (t ∷ A)) ≡ bit (eqb (i % W) w) (h t) + sum_by h (every W w (suc i) A)
unfolding every
weight_every h W w i t A = pick (eqb (i % W) w)
  where
    pick : (b : Bool) → sum_by h (cond b (t ∷ every W w (suc i) A) (every W w (suc i) A)) ≡ bit b (h t) + sum_by h (every W w (suc i) A)
    pick true = sum_by-cons h t (every W w (suc i) A)
    pick false = omega arith

rows_cons : (h : Term → ℕ) (W : ℕ) (t : Term) (A : List Term) (i w k : ℕ) → rows_from h W (t ∷ A) i w k ≡ ones_from (i % W) (h t) w k + rows_from h W A (suc i) w k
unfolding rows_from ones_from
rows_cons h W t A i w zero = refl
rows_cons h W t A i w (suc k) = let e = weight_every h W w i t A in let r = rows_cons h W t A i (suc w) k in omega arith

no_rows : (h : Term → ℕ) (W i w k : ℕ) → rows_from h W [] i w k ≡ 0
unfolding rows_from every
no_rows h W i w zero = refl
no_rows h W i w (suc k) = let r = no_rows h W i (suc w) k in let n : sum_by h [] ≡ 0 = refl in omega arith

pub rows_le : (h : Term → ℕ) (W : ℕ) (A : List Term) (i : ℕ) → rows_from h W A i 0 W ≤ sum_by h A
rows_le h W [] i = let n = no_rows h W i 0 W in omega arith
rows_le h W (t ∷ A) i = let c = rows_cons h W t A i 0 W in let o = ones_le (i % W) (h t) 0 W in let r = rows_le h W A (suc i) in let s = sum_by-cons h t A in omega arith

-- each row counts once
abbrev each : Term → ℕ
each t = 1

counted : (A : List Term) → sum_by each A ≡ length A
counted [] = refl
counted (t ∷ A) = let i = counted A in let s = sum_by-cons each t A in omega arith

-- ---- the notes of all workers
script_length : (m : Product) (W w : ℕ) → length (script_list (ProductScript m W w)) ≤ length (every W w 0 m.f) * length m.g
unfolding script_list part
script_length m W w = let t = length-terms m.ord m.p (times (every W w 0 m.f) m.g) in let l = length-times (every W w 0 m.f) m.g in omega arith

pub spread : (a b c : ℕ) → (a + b) * c ≡ a * c + b * c
spread a b c = omega arith

total_rows : (m : Product) (W w k : ℕ) → notes_from m W w k ≤ rows_from each W m.f 0 w k * length m.g + k
unfolding notes_from rows_from
total_rows m W w zero = omega arith
total_rows m W w (suc k) =
    let s = script_length m W w in
    let r = total_rows m W (suc w) k in
    let d = spread (sum_by each (every W w 0 m.f)) (rows_from each W m.f 0 (suc w) k) (length m.g) in
    let c = ap (λ (n : ℕ). n * length m.g) (counted (every W w 0 m.f)) in
    omega arith

times_below : (a b A B : ℕ) → a ≤ A → b ≤ B → a * b ≤ A * B
times_below a b A B h k = mul-le-mul h k

pub few_notes : (lim : ℕ) (m : Product) (W : ℕ) → IsFit lim m → W < 2 ^ 32 → notes_total m W < 2 ^ 61
unfolding notes_total
few_notes lim m W fit few =
    let t = total_rows m W 0 W in
    let r = rows_le each W m.f 0 in
    let c = counted m.f in
    let l = fit.few_left in
    let g = fit.few_right in
    let p = times_below (rows_from each W m.f 0 0 W) (length m.g) (2 ^ 30) (2 ^ 30) (omega arith) (omega arith) in
    omega arith

-- ---- the notes of one worker
pub no_mark : (m : Product) (W w : ℕ) (before : List Note) (k : ℕ) (top : Option (List ℕ)) → MayFollow (ProductScript m W w) before (MarkNote k top) → ⊥
unfolding MayFollow MarkMayFollow
no_mark m W w before k top h = h.1

pub after_end : (before : List Note) → NoEnd (before ++ EndNote ∷ []) → ⊥
unfolding NoEnd
after_end [] h = h
after_end (TermNote t ∷ before) h = after_end before h
after_end (MarkNote k top ∷ before) h = after_end before h
after_end (EndNote ∷ before) h = h

no_end_before : (s : Script) (before : List Note) (x : Note) → MayFollow s before x → NoEnd before
unfolding MayFollow
no_end_before s before (TermNote t) h = h.0
no_end_before s before (MarkNote k top) h = h.0
no_end_before s before EndNote h = h.0

nothing_after : (s : Script) (before notes : List Note) → CarryAfter s (before ++ EndNote ∷ []) notes → length notes ≡ 0
unfolding CarryAfter
nothing_after s before [] h = refl
nothing_after s before (x ∷ notes) h = absurd (after_end before (no_end_before s (before ++ EndNote ∷ []) x h.0))

notes_length : (m : Product) (W w : ℕ) (before notes : List Note) → CarryAfter (ProductScript m W w) before notes → length notes ≤ length (terms_in notes) + 1
unfolding CarryAfter terms_in
notes_length m W w before [] h = omega arith
notes_length m W w before (TermNote t ∷ notes) h = let i = notes_length m W w (before ++ TermNote t ∷ []) notes h.1 in omega arith
notes_length m W w before (MarkNote k top ∷ notes) h = absurd (no_mark m W w before k top h.0)
notes_length m W w before (EndNote ∷ notes) h = let n = nothing_after (ProductScript m W w) before notes h.1 in omega arith

pub notes_within : (m : Product) (W w : ℕ) (notes : List Note) → Carry (ProductScript m W w) notes → length notes ≤ length (script_list (ProductScript m W w)) + 1
notes_within m W w notes c =
    let n = notes_length m W w [] notes c in
    let p = length_prefix (terms_in notes) (script_list (ProductScript m W w)) (Carry-prefix (ProductScript m W w) notes c) in
    omega arith

-- after the End all terms were taken
end_all : (s : Script) (before notes : List Note) → CarryAfter s before (notes ++ EndNote ∷ []) → EndMayFollow s (before ++ notes)
unfolding CarryAfter MayFollow
end_all s before [] c = subst (λ (b : List Note). EndMayFollow s b) (sym (append-nil before)) c.0.1
end_all s before (x ∷ notes) c = subst (λ (b : List Note). EndMayFollow s b) (append_assoc before (x ∷ []) notes) (end_all s (before ++ x ∷ []) notes c.1)

exact_length : (m : Product) (W w : ℕ) (before notes : List Note) → CarryAfter (ProductScript m W w) before (notes ++ EndNote ∷ []) → length notes ≡ length (terms_in notes)
unfolding CarryAfter terms_in
exact_length m W w before [] h = refl
exact_length m W w before (TermNote t ∷ notes) h = ap suc (exact_length m W w (before ++ TermNote t ∷ []) notes h.1)
exact_length m W w before (MarkNote k top ∷ notes) h = absurd (no_mark m W w before k top h.0)
exact_length m W w before (EndNote ∷ notes) h = let n = nothing_after (ProductScript m W w) before (notes ++ EndNote ∷ []) h.1 in let l = length-append notes (EndNote ∷ []) in absurd (omega arith)

pub notes_all : (m : Product) (W w : ℕ) (before notes : List Note) → Carry (ProductScript m W w) notes → notes ≡ before ++ EndNote ∷ [] → length notes ≡ length (script_list (ProductScript m W w)) + 1
unfolding EndMayFollow
notes_all m W w before notes c e =
    let d : CarryAfter (ProductScript m W w) [] (before ++ EndNote ∷ []) = subst (λ (n : List Note). CarryAfter (ProductScript m W w) [] n) e c in
    let all : terms_in before ≡ script_list (ProductScript m W w) = end_all (ProductScript m W w) [] before d in
    let n = exact_length m W w [] before d in
    let l = ap (λ (x : List Note). length x) e in
    let k = length-append before (EndNote ∷ []) in
    let t = ap (λ (L : List Term). length L) all in
    omega arith

-- ---- the notes of all
count_from_le : (m : Product) (W w : ℕ) (taken : List (List Note)) → ((v : ℕ) → v < length taken → length (get_or taken v []) ≤ length (script_list (ProductScript m W (w + v))) + 1) → notes_count taken ≤ notes_from m W w (length taken)
unfolding notes_from
count_from_le m W w [] h = omega arith
count_from_le m W w (n ∷ taken) h =
    let here = h 0 (omega arith) in
    let i = count_from_le m W (suc w) taken (λ v l. subst (λ (u : ℕ). length (get_or taken v []) ≤ length (script_list (ProductScript m W u)) + 1) (let e : w + suc v ≡ suc w + v = omega arith in e) (h (suc v) (omega arith))) in
    let z = ap (λ (u : ℕ). length (script_list (ProductScript m W u))) (let e : w + 0 ≡ w = omega arith in e) in
    let c = sum_by-cons (λ (x : List Note). length x) n taken in
    omega arith

count_from_all : (m : Product) (W w : ℕ) (taken : List (List Note)) → ((v : ℕ) → v < length taken → length (get_or taken v []) ≡ length (script_list (ProductScript m W (w + v))) + 1) → notes_count taken ≡ notes_from m W w (length taken)
unfolding notes_from
count_from_all m W w [] h = refl
count_from_all m W w (n ∷ taken) h =
    let here = h 0 (omega arith) in
    let i = count_from_all m W (suc w) taken (λ v l. subst (λ (u : ℕ). length (get_or taken v []) ≡ length (script_list (ProductScript m W u)) + 1) (let e : w + suc v ≡ suc w + v = omega arith in e) (h (suc v) (omega arith))) in
    let z = ap (λ (u : ℕ). length (script_list (ProductScript m W u))) (let e : w + 0 ≡ w = omega arith in e) in
    let c = sum_by-cons (λ (x : List Note). length x) n taken in
    omega arith

pub count_within : (s : MergeState) → MergeWhole s → notes_count s.taken ≤ notes_total s.product s.workers
unfolding notes_total merge_script notes_of
count_within s whole =
    subst (λ (k : ℕ). notes_count s.taken ≤ notes_from s.product s.workers 0 k) whole.taken_count
    (count_from_le s.product s.workers 0 s.taken (λ v l.
    subst (λ (u : ℕ). length (get_or s.taken v []) ≤ length (script_list (ProductScript s.product s.workers u)) + 1) (let e : v ≡ 0 + v = omega arith in e)
    (notes_within s.product s.workers v (get_or s.taken v []) (whole.carried v (let c = whole.taken_count in omega arith)))))

pub count_all : (s : MergeState) → MergeWhole s → ((w : ℕ) → w < s.workers → (before : List Note) × (notes_of s.taken w ≡ before ++ EndNote ∷ [])) → notes_count s.taken ≡ notes_total s.product s.workers
unfolding notes_total merge_script notes_of
count_all s whole ended =
    subst (λ (k : ℕ). notes_count s.taken ≡ notes_from s.product s.workers 0 k) whole.taken_count
    (count_from_all s.product s.workers 0 s.taken (λ v l.
    let inside : v < s.workers = let c = whole.taken_count in omega arith in
    subst (λ (u : ℕ). length (get_or s.taken v []) ≡ length (script_list (ProductScript s.product s.workers u)) + 1) (let e : v ≡ 0 + v = omega arith in e)
    (notes_all s.product s.workers v (ended v inside).0 (get_or s.taken v []) (whole.carried v inside) (ended v inside).1)))

-- the last note may follow those before it
last_follows : (s : Script) (before notes : List Note) (x : Note) → CarryAfter s before (notes ++ x ∷ []) → MayFollow s (before ++ notes) x
unfolding CarryAfter
last_follows s before [] x c = subst (λ (b : List Note). MayFollow s b x) (sym (append-nil before)) c.0
last_follows s before (y ∷ notes) x c = subst (λ (b : List Note). MayFollow s b x) (append_assoc before (y ∷ []) notes) (last_follows s (before ++ y ∷ []) notes x c.1)

pub no_mark_last : (m : Product) (W w : ℕ) (notes : List Note) (k : ℕ) (top : Option (List ℕ)) → Carry (ProductScript m W w) (notes ++ MarkNote k top ∷ []) → ⊥
no_mark_last m W w notes k top c = no_mark m W w ([] ++ notes) k top (last_follows (ProductScript m W w) [] notes (MarkNote k top) c)
