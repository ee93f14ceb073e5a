-- Which workers have a part of the divisor.
use Rattle.std.proofs.Common.{◌≡◌, ◌≢◌, inl, inr, ◌⊎◌, ℕ, zero, suc, ◌+◌, ◌%◌, ◌<◌, ◌≤◌, Bool, true, false, true≢false, cond, eqb, List, [], ◌∷◌, length, refl, sym, ap, ◌∙◌, subst, arith}
use Rattle.std.proofs.Math.Nat.{mod_self, mod-eq_of_lt}
use Rattle.std.proofs.lemmas.Bool.{ne_eqb}
use Rattle.sdmp_laws.specs.Poly.{Term, every}
use Rattle.whole_laws.specs.Notes.{after_lead, divisor_rows}
use Rattle.dividing_rounds.proofs.LogLemmas.{after_one}

-- the place j is the first from i on that the worker w has
record IsFirstPlace (W w i j : ℕ) : Type 0 where
  before : (k : ℕ) → i ≤ k → k < j → k % W ≡ w → ⊥
  here : j % W ≡ w
  from : i ≤ j

eqb_yes : (a b : ℕ) → a ≡ b → eqb a b ≡ true
eqb_yes a b e = grind arith

cons_some : (t : Term) (A L : List Term) → L ≡ t ∷ A → L ≡ [] → ⊥
cons_some t A L e n = true≢false (ap (λ (M : List Term). elim M as (λ _. Bool) [ [] ↦ false | u ∷ B ↦ true ]) (sym e ∙ n))

-- it has one where the list goes on so far
place_some : (W w i j : ℕ) (A : List Term) → IsFirstPlace W w i j → j < i + length A → every W w i A ≡ [] → ⊥
unfolding every
place_some W w i j [] f l e = let b = f.from in absurd (omega arith)
place_some W w i j (t ∷ A) f l e = pick (λ s. place_some W w (suc i) j A (record { before = λ k a b. f.before k (omega arith) b; here = f.here; from = s }) (omega arith)) (nat_cases i j f.from)
  where
    nat_cases : (i j : ℕ) → i ≤ j → (i ≡ j) ⊎ (suc i ≤ j)
    nat_cases i j b = grind arith

    pick : (suc i ≤ j → every W w (suc i) A ≡ [] → ⊥) → (i ≡ j) ⊎ (suc i ≤ j) → ⊥
    pick next (inl s) =
        cons_some t (every W w (suc i) A) (cond (eqb (i % W) w) (t ∷ every W w (suc i) A) (every W w (suc i) A))
        (ap (λ (b : Bool). cond b (t ∷ every W w (suc i) A) (every W w (suc i) A)) (eqb_yes (i % W) w (ap (λ (k : ℕ). k % W) s ∙ f.here))) e
    pick next (inr s) =
        next s
        (sym (ap (λ (b : Bool). cond b (t ∷ every W w (suc i) A) (every W w (suc i) A)) (ne_eqb (i % W) w (f.before i (omega arith) (omega arith)))) ∙ e)

-- and none where it ends before
place_none : (W w i j : ℕ) (A : List Term) → IsFirstPlace W w i j → i + length A ≤ j → every W w i A ≡ []
unfolding every
place_none W w i j [] f l = refl
place_none W w i j (t ∷ A) f l =
    ap (λ (b : Bool). cond b (t ∷ every W w (suc i) A) (every W w (suc i) A)) (ne_eqb (i % W) w (f.before i (omega arith) (omega arith)))
    ∙ place_none W w (suc i) j A (record { before = λ k a b. f.before k (omega arith) b; here = f.here; from = omega arith }) (omega arith)

-- the first place of a worker after the lead: its number, and the number of workers for the first
first_place : (W w : ℕ) → w < W → IsFirstPlace W w 1 (cond (eqb w 0) W w)
first_place W zero l = record {
  before = λ k a b e. absurd (let m = mod-eq_of_lt {n = k} {m = W} b in omega arith);
  here = mod_self W;
  from = omega arith;
}
first_place W (suc w) l =
    subst (IsFirstPlace W (suc w) 1) (sym (ap (λ (b : Bool). cond b W (suc w)) (ne_eqb (suc w) 0 (λ z. omega arith)))) (record {
      before = λ k a b e. absurd (let m = mod-eq_of_lt {n = k} {m = W} (omega arith) in omega arith);
      here = mod-eq_of_lt l;
      from = omega arith;
    })

pub rows_some : (g : List Term) (W w : ℕ) → w < W → cond (eqb w 0) W w < length g → divisor_rows g W w ≢ []
unfolding divisor_rows
rows_some g W w l b = place_some W w 1 (cond (eqb w 0) W w) (after_lead g) (first_place W w l) (let c = after_one g in omega arith)

pub rows_none : (g : List Term) (W w : ℕ) → w < W → length g ≤ cond (eqb w 0) W w → divisor_rows g W w ≡ []
unfolding divisor_rows
rows_none g W w l b = place_none W w 1 (cond (eqb w 0) W w) (after_lead g) (first_place W w l) (let c = after_one g in let f = (first_place W w l).from in omega arith)
