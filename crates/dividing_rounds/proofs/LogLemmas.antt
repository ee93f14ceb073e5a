-- Logs of monomials: how they grow, and how long they are.
use Rattle.std.proofs.Common.{◌≡◌, ℕ, suc, ◌+◌, ◌-◌, ◌*◌, ◌≤◌, ◌⊎◌, inl, inr, Bool, true, false, ◌||◌, cond, List, [], ◌∷◌, ◌++◌, length, Option, Some, None, refl, sym, ap, ◌∙◌, subst, arith, true≢false, append_assoc, length-append}
use Rattle.std.specs.List.{AllByRecursion}
use Rattle.sdmp_laws.specs.Order.{Order, alike, Below, IsUnder}
use Rattle.sdmp_laws.specs.Poly.{Term, times, without}
use Rattle.sdmp_laws.specs.Division.{Division, AtOrAbove}
use Rattle.whole_laws.specs.Notes.{after_lead, has}
use Rattle.dividing_rounds.specs.Runs.{Falls, StaysAbove, IsLog, workload, workload_count, CountsFit}
use Rattle.dividing_rounds.specs.Stalls.{IsLowered}
use Rattle.sdmp_laws.proofs.OrderLemmas.{order_facts, alike_same}
use Rattle.sdmp_laws.proofs.Tests.{or_out, or_in_left, or_in_right}
use Rattle.sdmp_laws.proofs.PolyLemmas.{length_without, times_append_left}
use Rattle.sdmp_laws.proofs.ListLemmas.{length-times}
use Rattle.sdmp_laws.proofs.NextTerm.{at_then_below, at_then_at}
use Rattle.whole_laws.proofs.NotesLemmas.{has-append_left}

-- ---- no log is longer than the list in which its monomials stand
without_fewer : (x : List ℕ) (A : List Term) → has x A ≡ true → suc (length (without x A)) ≤ length A
unfolding has without
without_fewer x [] h = absurd (true≢false (sym h))
without_fewer x (t ∷ A) h = pick (λ k. without_fewer x A k) (alike t.monomial x) h
  where
    pick : (has x A ≡ true → suc (length (without x A)) ≤ length A) → (b : Bool) → (b || has x A) ≡ true → suc (length (cond b (without x A) (t ∷ without x A))) ≤ suc (length A)
    pick ih true k = let l = length_without x A in omega (arith, l)
    pick ih false k = let l = ih k in omega (arith, l)

has_without : (x y : List ℕ) (A : List Term) → (x ≡ y → ⊥) → has y A ≡ true → has y (without x A) ≡ true
unfolding has without
has_without x y [] n h = h
has_without x y (t ∷ A) n h = pick (λ k. has_without x y A n k) (alike t.monomial x) refl (or_out (alike t.monomial y) (has y A) h)
  where
    pick : (has y A ≡ true → has y (without x A) ≡ true) → (b : Bool) → alike t.monomial x ≡ b → (alike t.monomial y ≡ true) ⊎ (has y A ≡ true) → has y (cond b (without x A) (t ∷ without x A)) ≡ true
    pick ih true e (inl f) = absurd (n (sym (alike_same t.monomial x e) ∙ alike_same t.monomial y f))
    pick ih true e (inr k) = ih k
    pick ih false e (inl f) = or_in_left (alike t.monomial y) (has y (without x A)) f
    pick ih false e (inr k) = or_in_right (alike t.monomial y) (has y (without x A)) (ih k)

each_left : (ord : Order) (x : List ℕ) (A : List Term) (log : List (List ℕ)) → AllByRecursion (λ y. Below ord x y) log → AllByRecursion (λ y. has y A ≡ true) log → AllByRecursion (λ y. has y (without x A) ≡ true) log
each_left ord x A [] b h = tt
each_left ord x A (y ∷ log) b h =
    (has_without x y A (λ e. (order_facts ord).irreflexive x (subst (λ (v : List ℕ). Below ord x v) (sym e) b.0)) h.0, each_left ord x A log b.1 h.1)

log_length : (ord : Order) (A : List Term) (log : List (List ℕ)) → Falls ord log → AllByRecursion (λ x. has x A ≡ true) log → length log ≤ length A
unfolding Falls
log_length ord A [] f h = omega arith
log_length ord A (x ∷ log) f h =
    let fewer = without_fewer x A h.0 in
    let rest = log_length ord (without x A) log f.1 (each_left ord x A log f.0 h.1) in
    omega (arith, fewer, rest)

pub after_one : (g : List Term) → length (after_lead g) ≡ length g - 1
unfolding after_lead
after_one [] = refl
after_one (t ∷ g) = omega arith

pub workload_length : (d : Division) (q : List Term) → length (workload d q) ≡ workload_count d (length q)
unfolding workload workload_count
workload_length d q =
    length-append d.f (times q (after_lead d.g)) ∙ ap (λ (k : ℕ). length d.f + k) (length-times q (after_lead d.g) ∙ ap (λ (k : ℕ). length q * k) (after_one d.g))

pub counts_fit : CountsFit
counts_fit r h =
    let d = r.state.division in
    let q = r.state.q in
    let whole = workload_length d q in
    let one = log_length d.ord (workload d q) h.processed_log h.processed_fall.falls h.processed_fall.among in
    let other = log_length d.ord (workload d q) h.bounds_log h.bounds_fall.falls h.bounds_fall.among in
    (omega (arith, whole, one, h.processed_length), omega (arith, whole, other, h.bounds_length))

-- ---- a log grows
pub empty_log : (ord : Order) (A : List Term) → IsLog ord None A []
unfolding Falls StaysAbove
empty_log ord A = record { falls = tt; above = refl; among = tt }

below_all : (ord : Order) (x m : List ℕ) (log : List (List ℕ)) → Below ord x m → AllByRecursion (λ y. AtOrAbove ord m y) log → AllByRecursion (λ y. Below ord x y) log
below_all ord x m [] b h = tt
below_all ord x m (y ∷ log) b h = (first h.0, below_all ord x m log b h.1)
  where
    first : AtOrAbove ord m y → Below ord x y
    first (inl e) = subst (λ (v : List ℕ). Below ord x v) e b
    first (inr c) = (order_facts ord).transitive x m y b c

below_log : (ord : Order) (low : Option (List ℕ)) (x : List ℕ) (log : List (List ℕ)) → IsUnder ord low x → StaysAbove ord low log → AllByRecursion (λ y. Below ord x y) log
unfolding IsUnder StaysAbove
below_log ord None x log u h = subst (λ (l : List (List ℕ)). AllByRecursion (λ y. Below ord x y) l) (sym h) tt
below_log ord (Some m) x log u h = below_all ord x m log u h

lower_all : (ord : Order) (m x : List ℕ) (log : List (List ℕ)) → AtOrAbove ord m x → AllByRecursion (λ y. Below ord x y) log → AllByRecursion (λ y. AtOrAbove ord m y) log
lower_all ord m x [] a h = tt
lower_all ord m x (y ∷ log) a h = (inr (at_then_below ord m x y a h.0), lower_all ord m x log a h.1)

-- with a monomial x below all of it, whose lower bound is then m, which is at x or below
pub log_push : (ord : Order) (low : Option (List ℕ)) (m x : List ℕ) (A : List Term) (log : List (List ℕ)) → IsUnder ord low x → AtOrAbove ord m x → has x A ≡ true → IsLog ord low A log → IsLog ord (Some m) A (x ∷ log)
unfolding Falls StaysAbove
log_push ord low m x A log u a h l =
    let below = below_log ord low x log u l.above in
    record { falls = (below, l.falls); above = (a, lower_all ord m x log a below); among = (h, l.among) }

at_all : (ord : Order) (m b : List ℕ) (log : List (List ℕ)) → AtOrAbove ord m b → AllByRecursion (λ y. AtOrAbove ord b y) log → AllByRecursion (λ y. AtOrAbove ord m y) log
at_all ord m b [] a h = tt
at_all ord m b (y ∷ log) a h = (at_then_at ord m b y a h.0, at_all ord m b log a h.1)

above_lower : (ord : Order) (low : Option (List ℕ)) (m : List ℕ) (log : List (List ℕ)) → IsLowered ord (Some m) low → StaysAbove ord low log → StaysAbove ord (Some m) log
unfolding IsLowered StaysAbove
above_lower ord None m log a h = subst (λ (l : List (List ℕ)). AllByRecursion (λ y. AtOrAbove ord m y) l) (sym h) tt
above_lower ord (Some b) m log a h = at_all ord m b log a h

-- its lower bound falls
pub log_lower : (ord : Order) (low : Option (List ℕ)) (m : List ℕ) (A : List Term) (log : List (List ℕ)) → IsLowered ord (Some m) low → IsLog ord low A log → IsLog ord (Some m) A log
log_lower ord low m A log a l = record { falls = l.falls; above = above_lower ord low m log a l.above; among = l.among }

among_more : (A B : List Term) (log : List (List ℕ)) → ((x : List ℕ) → has x A ≡ true → has x B ≡ true) → AllByRecursion (λ x. has x A ≡ true) log → AllByRecursion (λ x. has x B ≡ true) log
among_more A B [] i h = tt
among_more A B (x ∷ log) i h = (i x h.0, among_more A B log i h.1)

-- the list in which its monomials stand grows
pub log_more : (ord : Order) (low : Option (List ℕ)) (A B : List Term) (log : List (List ℕ)) → ((x : List ℕ) → has x A ≡ true → has x B ≡ true) → IsLog ord low A log → IsLog ord low B log
log_more ord low A B log i l = record { falls = l.falls; above = l.above; among = among_more A B log i l.among }

pub workload_more : (d : Division) (q r : List Term) (x : List ℕ) → has x (workload d q) ≡ true → has x (workload d (q ++ r)) ≡ true
unfolding workload
workload_more d q r x h =
    let more = has-append_left x (d.f ++ times q (after_lead d.g)) (times r (after_lead d.g)) h in
    subst (λ (L : List Term). has x (d.f ++ L) ≡ true) (sym (times_append_left q r (after_lead d.g)))
    (subst (λ (L : List Term). has x L ≡ true) (append_assoc d.f (times q (after_lead d.g)) (times r (after_lead d.g))) more)
