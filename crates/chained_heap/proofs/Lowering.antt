-- The walk that moves the nodes passed.
use Rattle.std.proofs.Common.{ℕ, suc, ◌-◌, ◌/◌, ◌<◌, ◌≤◌, ◌≡◌, ◌≢◌, ◌⊎◌, true, false, List, get_or, set, refl, sym, ap, subst, ◌∙◌, arith, inl, inr}
use Rattle.std.specs.declared.cmp.Ordering.{Ordering}
use Rattle.std.specs.Ordering.{is_lt}
use Rattle.std.proofs.lemmas.Bool.{cases_lt}
use Rattle.std.proofs.lemmas.List.{get_or-set_other}
use Rattle.chained_heap.specs.declared.node.Node.{Node}
use Rattle.chained_heap.specs.Order.{ups, Over, Climbs}

pub record Lowers {M : Type 0} (cmp : M → M → Ordering) (old new : List (Node M)) (x : M) (n to at : ℕ) : Type 0 where
  pub steps : ℕ
  pub all : ℕ
  pub at_is : at ≡ ups steps n
  pub to_is : to ≡ ups all n
  pub more : steps ≤ all
  pub over : (s : ℕ) → s < all → Over cmp old x (ups s n)
  pub same : (i : ℕ) (d : Node M) → i < at → get_or new i d ≡ get_or old i d

module _ {M : Type 0} (cmp : M → M → Ordering) (old : List (Node M)) (x : M) (n to : ℕ) where
  pub lowers_begins : (at : ℕ) → at ≡ n → Climbs cmp old x n to → Lowers cmp old old x n to at
  lowers_begins at e c = record { steps = 0; all = c.0; at_is = e; to_is = c.1; more = omega arith; over = c.2; same = λ i d p. refl }

  module _ (new : List (Node M)) (at : ℕ) (w : Lowers cmp old new x n to at) where
    pub lowers_not : at ≢ to → w.steps < w.all
    lowers_not ne = by (cases_lt w.steps w.all)
      where
        by : (w.steps < w.all) ⊎ (w.all ≤ w.steps) → w.steps < w.all
        by (inl p) = p
        by (inr p) =
            let e : w.steps ≡ w.all = omega (arith, w.more) in
            absurd (ne (w.at_is ∙ ap (λ s. ups s n) e ∙ sym w.to_is))

    pub lowers_over : at ≢ to → (0 < at) × ((d : Node M) → is_lt (cmp (get_or new ((at - 1) / 2) d).mono x) ≡ true)
    lowers_over ne =
        let v = subst (Over cmp old x) (sym w.at_is) (w.over w.steps (lowers_not ne)) in
        let z = v.0 in
        (v.0, λ d. (λ i. is_lt (cmp (w.same ((at - 1) / 2) d (omega arith) i).mono x)) ∙ v.1 d)

    pub lowers_steps : (y : Node M) → at ≢ to → Lowers cmp old (set new at y) x n to ((at - 1) / 2)
    lowers_steps y ne =
        let z = (lowers_over ne).0 in
        record {
          steps = suc w.steps;
          all = w.all;
          at_is = ap (λ j. (j - 1) / 2) w.at_is;
          to_is = w.to_is;
          more = omega (arith, lowers_not ne);
          over = w.over;
          same = λ i d p. get_or-set_other new at i y d (omega arith) ∙ w.same i d (omega arith);
        }

    pub lowers_ends : at ≡ to → (to ≡ 0) ⊎ ((d : Node M) → is_lt (cmp (get_or old ((to - 1) / 2) d).mono x) ≡ false) → (at ≡ 0) ⊎ ((0 < at) × ((d : Node M) → is_lt (cmp (get_or new ((at - 1) / 2) d).mono x) ≡ false))
    lowers_ends e (inl z) = inl (e ∙ z)
    lowers_ends e (inr h) = by (cases_lt 0 at)
      where
        by : (0 < at) ⊎ (at ≤ 0) → (at ≡ 0) ⊎ ((0 < at) × ((d : Node M) → is_lt (cmp (get_or new ((at - 1) / 2) d).mono x) ≡ false))
        by (inl z) = inr (z, λ d. (λ i. is_lt (cmp (w.same ((at - 1) / 2) d (omega arith) i).mono x)) ∙ (λ i. is_lt (cmp (get_or old ((e i - 1) / 2) d).mono x)) ∙ h d)
        by (inr z) = inl (omega arith)
