-- The products that are left: one is read, a term is learned, and what holds of the first of each row holds of all.
use Rattle.std.proofs.Common.{◌≡◌, ℕ, zero, suc, ◌+◌, ◌<◌, ◌≤◌, List, [], ◌∷◌, ◌++◌, length, drop, set, get_or, Bool, true, false, ltb, ltb-true, ltb-false, refl, sym, ap, ◌∙◌, subst, arith, append_assoc, All}
use Rattle.std.specs.List.Sorted.{IsPermutation}
use Rattle.std.proofs.lemmas.List.{drop_more, drop-append-le, drop_all}
use Rattle.std.proofs.lemmas.List.Sorted.{IsPermutation-refl, IsPermutation-trans, IsPermutation-cons, IsPermutation-append_right, IsPermutation-middle}
use Rattle.std.proofs.lemmas.List.Elements.{All-nil, All-cons, All-append}
use Rattle.sdmp_laws.specs.Order.{Order, ◌⋅◌, Below}
use Rattle.sdmp_laws.specs.Poly.{Term, term_times, row, Over, AllBelow, Decreasing}
use Rattle.sdmp_laws.proofs.Ints.{mul_comm}
use Rattle.sdmp_laws.proofs.OrderLemmas.{order_facts, times_comm, length_times}
use Rattle.sdmp_laws.proofs.TermsLemmas.{same_term}
use Rattle.row_merge.specs.Learned.{unread, no_term, product_at}
use Rattle.sdmp_laws.proofs.DivisionLemmas.{below_left}

same_lists : {X : Type 0} (xs ys : List X) → xs ≡ ys → IsPermutation xs ys
same_lists xs ys e = subst (λ (l : List _). IsPermutation xs l) e (IsPermutation-refl xs)

row_cons : (s t : Term) (A : List Term) → row s (t ∷ A) ≡ term_times s t ∷ row s A
unfolding row
row_cons s t A = refl

row_push : (s t : Term) (A : List Term) → row s (A ++ t ∷ []) ≡ row s A ++ term_times s t ∷ []
unfolding row
row_push s t [] = refl
row_push s t (u ∷ A) = ap (λ (l : List Term). term_times s u ∷ l) (row_push s t A)

pub term_times-comm : (s t : Term) → term_times s t ≡ term_times t s
unfolding term_times
term_times-comm s t = same_term _ _ (times_comm s.monomial t.monomial) (mul_comm s.coefficient t.coefficient)

left_cons : (L : List Term) (r : ℕ) (reads : List ℕ) (s : Term) (rows : List Term) → unread (s ∷ rows) (r ∷ reads) L ≡ row s (drop r L) ++ unread rows reads L
unfolding unread
left_cons L r reads s rows = refl

-- ---- a product is read
pub read_one : (L : List Term) (reads : List ℕ) (rows : List Term) (k : ℕ) → length reads ≡ length rows → k < length rows → get_or reads k 0 < length L
    → IsPermutation (unread rows reads L) (term_times (get_or rows k no_term) (get_or L (get_or reads k 0) no_term) ∷ unread rows (set reads k (get_or reads k 0 + 1)) L)
unfolding unread
read_one L [] [] k e h l = absurd (omega arith)
read_one L [] (s ∷ rows) k e h l = absurd (omega arith)
read_one L (r ∷ reads) [] k e h l = absurd (omega arith)
read_one L (r ∷ reads) (s ∷ rows) zero e h l =
    same_lists _ _ (ap (λ (A : List Term). row s A ++ unread rows reads L) (drop_more L r no_term l) ∙ ap (λ (A : List Term). A ++ unread rows reads L) (row_cons s (get_or L r no_term) (drop (r + 1) L)))
read_one L (r ∷ reads) (s ∷ rows) (suc k) e h l =
    let ih = read_one L reads rows k (omega arith) (omega arith) l in
    IsPermutation-trans _ _ _ (IsPermutation-append_right (row s (drop r L)) _ _ ih) (IsPermutation-middle (row s (drop r L)) _ _)

-- ---- a term is learned
pub learn_one : (L : List Term) (t : Term) (reads : List ℕ) (rows : List Term) → length reads ≡ length rows → ((k : ℕ) → k < length reads → get_or reads k 0 ≤ length L)
    → IsPermutation (unread rows reads L ++ row t rows) (unread rows reads (L ++ t ∷ []))
unfolding unread row
learn_one L t [] [] e h = IsPermutation-refl []
learn_one L t [] (s ∷ rows) e h = absurd (omega arith)
learn_one L t (r ∷ reads) [] e h = absurd (omega arith)
learn_one L t (r ∷ reads) (s ∷ rows) e h =
    let A = row s (drop r L) in
    let U = unread rows reads L in
    let V = row t rows in
    let W = unread rows reads (L ++ t ∷ []) in
    let ih : IsPermutation (U ++ V) W = learn_one L t reads rows (omega arith) (λ k l. h (suc k) (omega arith)) in
    let front : row s (drop r (L ++ t ∷ [])) ≡ A ++ term_times t s ∷ [] = ap (row s) (drop-append-le r L (t ∷ []) (h zero (omega arith))) ∙ row_push s t (drop r L) ∙ ap (λ (u : Term). A ++ u ∷ []) (term_times-comm s t) in
    IsPermutation-trans ((A ++ U) ++ term_times t s ∷ V) (A ++ (term_times t s ∷ (U ++ V))) (row s (drop r (L ++ t ∷ [])) ++ W)
    (IsPermutation-trans _ (A ++ (U ++ term_times t s ∷ V)) _ (same_lists _ _ (append_assoc A U (term_times t s ∷ V))) (IsPermutation-append_right A _ _ (IsPermutation-middle U (term_times t s) V)))
    (IsPermutation-trans _ (A ++ (term_times t s ∷ W)) _ (IsPermutation-append_right A _ _ (IsPermutation-cons (term_times t s) _ _ ih))
    (same_lists _ _ (sym (append_assoc A (term_times t s ∷ []) W) ∙ ap (λ (l : List Term). l ++ W) (sym front))))

-- ---- what holds of all
-- a property that goes down in the order
abbrev pub Falls : Order → ℕ → (List ℕ → Type 0) → Type 0
Falls ord n Q = (a b : List ℕ) → length a ≡ n → length b ≡ n → Below ord a b → Q b → Q a

pub length_at : (n : ℕ) (L : List Term) (k : ℕ) → Over n L → k < length L → length (get_or L k no_term).monomial ≡ n
unfolding Over
length_at n [] k o h = absurd (omega arith)
length_at n (t ∷ L) zero o h = o.0
length_at n (t ∷ L) (suc k) o h = length_at n L k o.1 (omega arith)

-- what follows the term k of a list that decreases
pub after_at : (ord : Order) (n : ℕ) (L : List Term) (k : ℕ) → Decreasing ord L → Over n L → k < length L → AllBelow ord (get_or L k no_term).monomial (drop (suc k) L) × Over n (drop (suc k) L)
unfolding Decreasing Over
after_at ord n [] k d o h = absurd (omega arith)
after_at ord n (t ∷ L) zero d o h = (d.0, o.1)
after_at ord n (t ∷ L) (suc k) d o h = after_at ord n L k d.1 o.1 (omega arith)

below_at : (ord : Order) (m : List ℕ) (L : List Term) (k : ℕ) → AllBelow ord m L → k < length L → Below ord (get_or L k no_term).monomial m
unfolding AllBelow
below_at ord m [] k b h = absurd (omega arith)
below_at ord m (t ∷ L) zero b h = b.0
below_at ord m (t ∷ L) (suc k) b h = below_at ord m L k b.1 (omega arith)

pub next_lower : (ord : Order) (L : List Term) (k : ℕ) → Decreasing ord L → suc k < length L → Below ord (get_or L (suc k) no_term).monomial (get_or L k no_term).monomial
unfolding Decreasing
next_lower ord [] k d h = absurd (omega arith)
next_lower ord (t ∷ L) zero d h = below_at ord t.monomial L zero d.0 (omega arith)
next_lower ord (t ∷ L) (suc k) d h = next_lower ord L k d.1 (omega arith)

row_all : (ord : Order) (n : ℕ) (Q : List ℕ → Type 0) (s : Term) (m : List ℕ) (A : List Term) → Falls ord n Q → length s.monomial ≡ n → length m ≡ n → Over n A → AllBelow ord m A → Q (s.monomial ⋅ m) → All (λ (u : Term). Q u.monomial) (row s A)
unfolding row Over AllBelow term_times
row_all ord n Q s m [] f ls lm o b q = All-nil _
row_all ord n Q s m (u ∷ A) f ls lm o b q =
    All-cons (λ (v : Term). Q v.monomial) (term_times s u) (row s A)
    (f (s.monomial ⋅ u.monomial) (s.monomial ⋅ m) (length_times s.monomial u.monomial (ls ∙ sym o.0) ∙ ls) (length_times s.monomial m (ls ∙ sym lm) ∙ ls) (below_left ord u.monomial m s.monomial (o.0 ∙ sym lm) b.0) q)
    (row_all ord n Q s m A f ls lm o.1 b.1 q)

-- a row holds what its first product holds
rest_all : (ord : Order) (n : ℕ) (Q : List ℕ → Type 0) (s : Term) (L : List Term) (r : ℕ) → Falls ord n Q → length s.monomial ≡ n → Decreasing ord L → Over n L → (r < length L → Q (s.monomial ⋅ (get_or L r no_term).monomial)) → All (λ (u : Term). Q u.monomial) (row s (drop r L))
unfolding row term_times
rest_all ord n Q s L r f ls d o q = pick (ltb r (length L)) refl
  where
    t : Term
    t = get_or L r no_term

    pick : (b : Bool) → ltb r (length L) ≡ b → All (λ (u : Term). Q u.monomial) (row s (drop r L))
    pick true e =
        let h = ltb-true r (length L) e in
        let a = after_at ord n L r d o h in
        subst (λ (A : List Term). All (λ (u : Term). Q u.monomial) (row s A)) (sym (drop_more L r no_term h ∙ ap (λ (k : ℕ). t ∷ drop k L) (let g : r + 1 ≡ suc r = omega arith in g)))
        (All-cons (λ (v : Term). Q v.monomial) (term_times s t) (row s (drop (suc r) L)) (q h)
        (row_all ord n Q s t.monomial (drop (suc r) L) f ls (length_at n L r o h) a.1 a.0 (q h)))
    pick false e =
        let h : length L ≤ r = omega (arith, ltb-false r (length L) e) in
        subst (λ (A : List Term). All (λ (u : Term). Q u.monomial) (row s A)) (sym (drop_all r L h)) (All-nil _)

pub all_left : (ord : Order) (n : ℕ) (Q : List ℕ → Type 0) (L : List Term) (reads : List ℕ) (rows : List Term) → Falls ord n Q → Decreasing ord L → Over n L → Over n rows → length reads ≡ length rows
    → ((k : ℕ) → k < length rows → get_or reads k 0 < length L → Q (product_at rows L k (get_or reads k 0))) → All (λ (u : Term). Q u.monomial) (unread rows reads L)
unfolding unread Over
all_left ord n Q L [] [] f d o w e h = All-nil _
all_left ord n Q L [] (s ∷ rows) f d o w e h = absurd (omega arith)
all_left ord n Q L (r ∷ reads) [] f d o w e h = absurd (omega arith)
all_left ord n Q L (r ∷ reads) (s ∷ rows) f d o w e h =
    All-append (λ (u : Term). Q u.monomial) (row s (drop r L)) (unread rows reads L)
    (rest_all ord n Q s L r f w.0 d o (λ l. h zero (omega arith) l))
    (all_left ord n Q L reads rows f d o w.1 (omega arith) (λ k l m. h (suc k) (omega arith) m))
