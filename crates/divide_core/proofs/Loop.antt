-- The loop of a division: its bounds, its measure, and how its ends answer.
use Rattle.std.proofs.Common.{◌≡◌, ◌≢◌, ℕ, suc, ◌+◌, ◌*◌, ◌-◌, ◌%◌, ◌<◌, ◌≤◌, Bool, cond, eq-eqb, IsTrue, List, [], ◌∷◌, ◌++◌, length, drop, refl, sym, ap, ◌∙◌, subst, arith, All, length-append}
use Rattle.std.specs.List.Sorted.{IsPermutation}
use Rattle.std.proofs.lemmas.List.{length_push}
use Rattle.std.proofs.lemmas.List.Sorted.{length_permutation}
use Rattle.std.proofs.lemmas.List.Elements.{All-nil, All-cons, All-head, All-tail}
use Rattle.std.proofs.Math.Nat.{mod-lt}
use mathlib.Core.List.{IsPrefix}
use Rattle.sdmp_laws.specs.Order.{degree}
use Rattle.sdmp_laws.specs.Poly.{Term, norm, row, every, AllDegrees}
use Rattle.sdmp_laws.specs.Division.{Division, IsAccepted}
use Rattle.sdmp_laws.specs.LongDivision.{quotient_list}
use Rattle.sdmp_laws.specs.Limits.{greatest_norm, quotient_terms_limit, PassesBound}
use Rattle.sdmp_laws.proofs.Parts.{norm_append}
use Rattle.division_laws.specs.Outcome.{IsOutcome}
use Rattle.divide_core.specs.Answer.{IsBoundPassed, IsRefusal}
use Rattle.divide_core.specs.declared.answer.DivideFault.{DivideFault}
use Rattle.divide_core.specs.declared.answer.DivideFault.TheVariants.{ZeroDivisor, NotUnit, CoefficientBound, TermBound, NoMemory}
use Rattle.divide_core.proofs.DividingSteps.{later, later_is, passes_now, long_now, passes_none}
use Rattle.sdmp_laws.proofs.ListLemmas.{every_one, length-row}

-- one worker has all rows
pub all_rows : (g : List Term) → every 1 0 1 (drop 1 g) ≡ later g
all_rows g = every_one 1 (drop 1 g) ∙ sym (later_is g)

-- ---- the measure
pub found_smaller : (old_unread new_unread owed left new_owed rows : List Term) (total known : ℕ) (t : Term) → length new_unread + length left < length old_unread + length owed → IsPermutation (left ++ row t rows) new_owed → known < total
    → length new_unread + (length new_owed + (total - (known + 1)) * length rows) < length old_unread + (length owed + (total - known) * length rows)
found_smaller old_unread new_unread owed left new_owed rows total known t h p k =
    let l : length new_owed ≡ length left + length rows = length_permutation (left ++ row t rows) new_owed p ∙ length-append left (row t rows) ∙ ap (λ (n : ℕ). length left + n) (length-row t rows) in
    let s : (total - known) * length rows ≡ length rows + (total - (known + 1)) * length rows = ap (λ (n : ℕ). n * length rows) (let z : total - known ≡ 1 + (total - (known + 1)) = omega (arith, k) in z) ∙ one_more (total - (known + 1)) (length rows) in
    omega (arith, l, s, h)
  where
    one_more : (a b : ℕ) → (1 + a) * b ≡ b + a * b
    one_more a b = omega arith

pub known_below : (q L : List Term) (t : Term) → IsPrefix (q ++ t ∷ []) L → length q < length L
known_below q L t i = omega (arith, length_push q t, length-append (q ++ t ∷ []) i.0, ap length i.1)

-- ---- a bound is passed
pub bound_answers : (d : Division) (q : List Term) (t1 : Term) (integers : Bool) (fault : DivideFault) → IsAccepted d → IsPrefix (q ++ t1 ∷ []) (quotient_list d) → (PassesBound d q → ⊥) → (IsTrue integers → d.p ≡ 0) → (d.p ≡ 0 → IsTrue integers)
    → (n : ℕ) → (d.p ≡ 0 → n ≡ norm (q ++ t1 ∷ [])) → (k : ℕ) → k ≡ length (q ++ t1 ∷ []) → (f g : ℕ) → f ≡ norm d.f → g ≡ norm d.g → IsBoundPassed integers f g n k fault → IsRefusal d fault
unfolding IsOutcome
bound_answers d q t1 integers ZeroDivisor a i b z z' n e k l f g ef eg h = absurd h
bound_answers d q t1 integers NotUnit a i b z z' n e k l f g ef eg h = absurd h
bound_answers d q t1 integers CoefficientBound a i b z z' n e k l f g ef eg h =
    let p = z h.0 in
    let over : greatest_norm < norm d.f + norm (q ++ t1 ∷ []) * norm d.g = subst (λ (x : ℕ). greatest_norm < x + norm (q ++ t1 ∷ []) * norm d.g) ef (subst (λ (x : ℕ). greatest_norm < f + norm (q ++ t1 ∷ []) * x) eg (subst (λ (x : ℕ). greatest_norm < f + x * g) (e p) h.1)) in
    (a, passes_now d q t1 a i b (record { integers = p; over = over }))
bound_answers d q t1 integers TermBound a i b z z' n e k l f g ef eg h =
    let r = long_now d q t1 a i (λ p. no_over p.integers p.over) (sym l ∙ h.1) in
    (a, r.0, r.1)
  where
    no_over : d.p ≡ 0 → greatest_norm < norm d.f + norm (q ++ t1 ∷ []) * norm d.g → ⊥
    no_over p o = omega (arith, o, subst (λ (x : ℕ). x + norm (q ++ t1 ∷ []) * norm d.g ≤ greatest_norm) ef (subst (λ (x : ℕ). f + norm (q ++ t1 ∷ []) * x ≤ greatest_norm) eg (subst (λ (x : ℕ). f + x * g ≤ greatest_norm) (e p) (h.0 (z' p)))))
bound_answers d q t1 integers NoMemory a i b z z' n e k l f g ef eg h = absurd h

-- and no bound is passed
pub bound_kept : (d : Division) (q : List Term) (t1 : Term) (integers : Bool) (n k f g : ℕ) → (PassesBound d q → ⊥) → (d.p ≡ 0 → IsTrue integers) → f ≡ norm d.f → g ≡ norm d.g → (d.p ≡ 0 → n ≡ norm (q ++ t1 ∷ [])) → k ≡ length (q ++ t1 ∷ [])
    → (IsTrue integers → f + n * g ≤ greatest_norm) → (k ≢ quotient_terms_limit) → PassesBound d (q ++ t1 ∷ []) → ⊥
bound_kept d q t1 integers n k f g b z' ef eg e l fits many =
    passes_none d q t1 (λ p. no_over p.integers p.over) b (λ m. many (l ∙ m))
  where
    no_over : d.p ≡ 0 → greatest_norm < norm d.f + norm (q ++ t1 ∷ []) * norm d.g → ⊥
    no_over p o = omega (arith, o, subst (λ (x : ℕ). x + norm (q ++ t1 ∷ []) * norm d.g ≤ greatest_norm) ef (subst (λ (x : ℕ). f + norm (q ++ t1 ∷ []) * x ≤ greatest_norm) eg (subst (λ (x : ℕ). f + x * g ≤ greatest_norm) (e p) (fits (z' p)))))

-- the measure where no term is learned
pub taken_smaller : (a b a' b' total known known' rows rows' : ℕ) → a' + b' < a + b → known' ≡ known → rows' ≡ rows → a' + (b' + (total - known') * rows') < a + (b + (total - known) * rows)
taken_smaller a b a' b' total known known' rows rows' h e f =
    let k : (total - known') * rows' ≡ (total - known) * rows = λ i. (total - e i) * f i in
    omega (arith, k, h)

pub found_measure : (a a' b b' total known known' rows rows' : ℕ) → a' + (b' + (total - (known + 1)) * rows) < a + (b + (total - known) * rows) → known' ≡ known + 1 → rows' ≡ rows → a' + (b' + (total - known') * rows') < a + (b + (total - known) * rows)
found_measure a a' b b' total known known' rows rows' h e f =
    let k : (total - known') * rows' ≡ (total - (known + 1)) * rows = λ i. (total - e i) * f i in
    omega (arith, k, h)
