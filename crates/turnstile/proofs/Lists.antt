-- Lists that a loop hands out or takes back one by one.
use Rattle.std.proofs.Common.{◌≡◌, ℕ, zero, suc, ◌+◌, ◌-◌, ◌<◌, ◌≤◌, List, [], ◌∷◌, ◌++◌, All, length, get_or, set, take, Option, Some, None, option_to_list, MatchOption, refl, sym, ap, ◌∙◌, subst, arith, length-set, length-append, get_or-set_same}
use Rattle.std.proofs.lemmas.List.{get_or-set_other}
use Rattle.std.proofs.lemmas.List.Elements.{All-append, All-take}
use mathlib.Core.Logic.{dite}
use native.Mathlib.Decide.{ℕ_discrete}

module _ {X : Type 0} where
  -- the first i have met Q; the next one meets it too
  pub set_more : (P Q : X → Type 0) (xs : List X) (i : ℕ) (x : X) → ((k : ℕ) (d : X) → k < i → P (get_or xs k d)) → ((y : X) → P y → Q y) → Q x → i < length xs → (k : ℕ) (d : X) → k < i + 1 → Q (get_or (set xs i x) k d)
  set_more P Q xs i x old moves new lt k d below = dite (ℕ_discrete k i)
      (λ is. subst (λ (j : ℕ). Q (get_or (set xs i x) j d)) (sym is) (subst Q (sym (get_or-set_same xs i x d lt)) new))
      (λ not. subst Q (sym (get_or-set_other xs i k x d not)) (moves (get_or xs k d) (old k d (omega (arith, not)))))

  -- a change at i leaves those above it
  pub set_less : (P : X → Type 0) (xs : List X) (i : ℕ) (x : X) → ((k : ℕ) (d : X) → i ≤ k → k < length xs → P (get_or xs k d)) → (k : ℕ) (d : X) → i + 1 ≤ k → k < length (set xs i x) → P (get_or (set xs i x) k d)
  set_less P xs i x all k d above lt = let same = length-set xs i x in subst P (sym (get_or-set_other xs i k x d (λ is. absurd (omega arith)))) (all k d (omega arith) (omega arith))

  pub one_has : (P : X → Type 0) (x : X) → P x → All P (x ∷ [])
  one_has P x h zero d lt = h
  one_has P x h (suc k) d lt = absurd (omega arith)

  -- what holds of all holds with one more at the end
  pub one_more : (P : X → Type 0) (xs ys : List X) (x : X) → ys ≡ xs ++ x ∷ [] → All P xs → P x → All P ys
  one_more P xs ys x is all new = subst (All P) (sym is) (All-append P xs (x ∷ []) all (one_has P x new))

-- the value, or the first where there is none
abbrev pub got : {X : Type 0} → X → Option X → X
got d None = d
got d (Some y) = y

-- what holds of all holds of the one that is popped, and of the rest
pub popped : {X : Type 0} (P : X → Type 0) (n : ℕ) (old new : List X) (r : Option X) (x : X) → n ≡ length old → old ≡ new ++ option_to_list r → ((d : X) → 0 < n → r ≡ Some (get_or old (n - 1) d)) → new ≡ take (n - 1) old → r ≡ Some x
    → All P old → P x × All P new × (length old ≡ length new + 1)
popped {X} P n old new r x count items value rest is all =
    let one : old ≡ new ++ x ∷ [] = items ∙ ap (λ (o : Option X). new ++ option_to_list o) is in
    let long : length old ≡ length (new ++ x ∷ []) = ap length one in
    let more : length old ≡ length new + 1 = omega (arith, length-append new (x ∷ [])) in
    let same : Some x ≡ Some (get_or old (n - 1) x) = sym is ∙ value x (omega arith) in
    (subst P (sym (ap (got x) same)) (all (n - 1) x (omega arith)), subst (All P) (sym rest) (All-take P (n - 1) old all), more)

-- a pop that gave nothing found nothing
pub none_left : {X : Type 0} (r : Option X) (n m : ℕ) (Q : X → Type 0) → ((x : X) → r ≡ Some x → ⊥) → MatchOption r ((n ≡ 0) × (m ≡ 0)) Q → n ≡ 0
none_left None n m Q not h = h.0
none_left (Some x) n m Q not h = absurd (not x refl)
