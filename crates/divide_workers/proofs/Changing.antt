-- For loops that change a team's workers one by one.
use Rattle.std.proofs.Common.{◌≡◌, ℕ, zero, suc, ◌+◌, ◌<◌, ◌≤◌, List, [], ◌∷◌, All, length, map, get_or, set, refl, sym, ap, ◌∙◌, subst, arith, length-set}
use Rattle.std.proofs.lemmas.List.{get_or-set_same, get_or-set_other, length-map, map-set}
use Rattle.std.proofs.Math.ListN.{get_or-map}
use mathlib.Core.Logic.{dite}
use native.Mathlib.Decide.{ℕ_discrete}
use Rattle.divide_workers.specs.Views.{WorkerView}

-- within a list no default counts
any_default : {X : Type 0} (xs : List X) (j : ℕ) (c d : X) → j < length xs → get_or xs j c ≡ get_or xs j d
any_default [] j c d l = absurd (omega (arith, l))
any_default (x ∷ xs) zero c d l = refl
any_default (x ∷ xs) (suc j) c d l = any_default xs j c d (omega (arith, l))

-- the next one of a list has what those before it have
pub next_has : {X : Type 0} (Q : X → Type 0) (xs : List X) (i : ℕ) (r : X) → ((k : ℕ) (d : X) → k < i → Q (get_or xs k d)) → r ≡ get_or xs i r → i < length xs → Q r → (k : ℕ) (d : X) → k < i + 1 → Q (get_or xs k d)
next_has Q xs i r old is lt new k d below = dite (ℕ_discrete k i)
    (λ e. subst (λ j. Q (get_or xs j d)) (sym e) (subst Q (is ∙ any_default xs i r d lt) new))
    (λ not. old k d (omega (arith, not, below)))

module _ (P : WorkerView → WorkerView → Type 0) where
  -- the first i workers have changed so, and the others are as they were
  pub record ChangedUpTo (a b : List WorkerView) (i : ℕ) : Type 0 where
    pub long : length b ≡ length a
    pub done : (k : ℕ) (d : WorkerView) → k < i → P (get_or a k d) (get_or b k d)
    pub rest : (k : ℕ) (d : WorkerView) → i ≤ k → get_or b k d ≡ get_or a k d

  pub changed_first : (a : List WorkerView) → ChangedUpTo a a 0
  changed_first a = record { long = refl; done = λ k d l. absurd (omega (arith, l)); rest = λ k d l. refl }

  changed_next : (a b : List WorkerView) (i : ℕ) (s e : WorkerView) → ChangedUpTo a b i → i < length b → P (get_or b i e) s → ChangedUpTo a (set b i s) (i + 1)
  changed_next a b i s e u lt one = record {
    long = length-set b i s ∙ u.long;
    done = λ k d l. dite (ℕ_discrete k i)
        (λ is. subst (λ (j : ℕ). P (get_or a j d) (get_or (set b i s) j d)) (sym is)
        (subst (P (get_or a i d)) (sym (get_or-set_same b i s d lt)) (subst (λ (x : WorkerView). P x s) (u.rest i d (omega arith)) (at_default d))))
        (λ not. subst (P (get_or a k d)) (sym (get_or-set_other b i k s d not)) (u.done k d (omega (arith, not, l))));
    rest = λ k d l. get_or-set_other b i k s d (λ is. absurd (omega (arith, is, l))) ∙ u.rest k d (omega (arith, l));
  }
    where
      at_default : (d : WorkerView) → P (get_or b i d) s
      at_default d = subst (λ (y : WorkerView). P y s) (any_default b i e d lt) one

  module _ {X : Type 0} (f : X → WorkerView) (xs ys : List X) (k : ℕ) (r : X) where
    -- the next worker is as it was
    pub still_here : (Q : WorkerView → Type 0) → All (λ (x : X). Q (f x)) xs → ChangedUpTo (map f xs) (map f ys) k → k < length xs → Q (f (get_or ys k r))
    still_here Q all u lt =
        let e : f (get_or ys k r) ≡ f (get_or xs k r) = sym (get_or-map f ys k r) ∙ u.rest k (f r) (omega arith) ∙ get_or-map f xs k r in
        subst Q (sym e) (all k r lt)

    pub changed_here : (y : X) (s : WorkerView) → f y ≡ s → ChangedUpTo (map f xs) (map f ys) k → k < length ys → P (f (get_or ys k r)) s → ChangedUpTo (map f xs) (map f (set ys k y)) (k + 1)
    changed_here y s is u lt one =
        let l = length-map ys f in
        subst (λ (b : List WorkerView). ChangedUpTo (map f xs) b (k + 1)) (ap (set (map f ys) k) (sym is) ∙ sym (map-set f ys k y))
        (changed_next (map f xs) (map f ys) k s (f r) u (omega (arith, l, lt)) (subst (λ (x : WorkerView). P x s) (sym (get_or-map f ys k r)) one))

-- what holds of each of a team
pub each_has : {X : Type 0} (Q : WorkerView → Type 0) (f : X → WorkerView) (xs : List X) → All (λ (x : X). Q (f x)) xs → All Q (map f xs)
each_has Q f [] all k d lt = absurd (omega (arith, lt))
each_has Q f (x ∷ xs) all zero d lt = all zero x (omega arith)
each_has Q f (x ∷ xs) all (suc k) d lt = each_has Q f xs (λ j c l. all (suc j) c (omega (arith, l))) k d (omega (arith, lt))

-- and back
pub all_have : {X : Type 0} (Q : WorkerView → Type 0) (f : X → WorkerView) (xs : List X) → All Q (map f xs) → All (λ (x : X). Q (f x)) xs
all_have Q f xs all k d lt = let l = length-map xs f in subst Q (get_or-map f xs k d) (all k (f d) (omega (arith, l, lt)))
