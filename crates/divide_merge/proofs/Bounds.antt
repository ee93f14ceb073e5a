-- The bound at which a front is due: the greatest of what was read and of the tops of the asked workers.
use Rattle.std.proofs.Common.{◌≡◌, ◌⊎◌, ◌↔◌, IsTrue, inl, inr, ℕ, ◌+◌, ◌<◌, true, false, true≢false, List, [], ◌∷◌, ◌++◌, Option, Some, None, is_some, refl, sym, ap, ◌∙◌, subst, arith}
use Rattle.sdmp_laws.specs.Order.{Order, Below, IsUnder}
use Rattle.sdmp_laws.specs.Poly.{Term}
use Rattle.sdmp_laws.specs.Division.{AllAtOrBelow, AtOrAbove}
use Rattle.sdmp_laws.proofs.NextTerm.{at_then_at, at_both}
use Rattle.whole_laws.specs.Notes.{has, AboveTop}
use Rattle.whole_laws.specs.Wholes.{head_terms}
use Rattle.whole_laws.proofs.StepLemmas.{each_worker}
use Rattle.divide_wholes.specs.Wholes.{DivideState}
use Rattle.divide_wholes.specs.Workers.{IsUnreadTop}
use Rattle.dividing_rounds.specs.Stalls.{IsGreatestRead, IsAsked, IsCurrent, IsLow, IsDue, TopWithin, mark_of}
use Rattle.dividing_rounds.proofs.WorkloadLemmas.{has_nothing}
use Rattle.dividing_rounds.proofs.StallLemmas.{nothing_within, within_none}
use Rattle.divide_merge.specs.Reading.{IsGreatest, IsLowTop}
use Rattle.divide_merge.proofs.OneAnswer.{at_has}
use Rattle.divide_merge.proofs.Turning.{reached_below}

-- x was read, or is the top of an asked worker
abbrev Stands : DivideState → List ℕ → Type 0
Stands s x = (has x (s.unread ++ head_terms s.heads) ≡ true) ⊎ ((w : ℕ) × IsAsked s w × ((mark_of s w).1 ≡ Some x))

-- b is the greatest of what was read and of the tops of the asked workers below i
pub Bounded : DivideState → ℕ → Option (List ℕ) → Type 0
Bounded s i None = (s.unread ++ head_terms s.heads ≡ []) × ((w : ℕ) → w < i → IsAsked s w → (mark_of s w).1 ≡ None)
Bounded s i (Some x) =
    AllAtOrBelow s.division.ord x (s.unread ++ head_terms s.heads)
    × ((w : ℕ) → w < i → IsAsked s w → TopWithin s.division.ord x (mark_of s w).1)
    × ((has x (s.unread ++ head_terms s.heads) ≡ true) ⊎ ((w : ℕ) × IsAsked s w × ((mark_of s w).1 ≡ Some x)))

pub record SoFar (s : DivideState) (i : ℕ) (b : Option (List ℕ)) : Type 0 where
  pub bounded : Bounded s i b
  pub current : (w : ℕ) → w < i → IsAsked s w → IsCurrent s w

pub far_begins : (s : DivideState) (next : Option (List ℕ)) → IsGreatestRead s next → SoFar s 0 next
unfolding IsUnreadTop Bounded
far_begins s None g = record { bounded = (g, λ w l k. absurd (omega arith)); current = λ w l k. absurd (omega arith) }
far_begins s (Some x) g = record { bounded = (g.1, (λ w l k. absurd (omega arith)), inl g.0); current = λ w l k. absurd (omega arith) }

-- below i + 1 is below i, or i
pub below_next : (P : ℕ → Type 0) (i : ℕ) → ((w : ℕ) → w < i → P w) → P i → (w : ℕ) → w < i + 1 → P w
below_next P i h here w l = each_worker (λ v. v < i + 1 → P v) i w (λ _. here) (λ other b. h w (grind (arith, other, b))) l

-- a worker that isn't asked
pub far_skips : (s : DivideState) (i : ℕ) (b : Option (List ℕ)) → SoFar s i b → (IsAsked s i → ⊥) → SoFar s (i + 1) b
unfolding Bounded
far_skips s i None f n = record {
  bounded = (f.bounded.0, below_next (λ w. IsAsked s w → (mark_of s w).1 ≡ None) i f.bounded.1 (λ k. absurd (n k)));
  current = below_next (λ w. IsAsked s w → IsCurrent s w) i f.current (λ k. absurd (n k));
}
far_skips s i (Some x) f n = record {
  bounded = (f.bounded.0, below_next (λ w. IsAsked s w → TopWithin s.division.ord x (mark_of s w).1) i f.bounded.1 (λ k. absurd (n k)), f.bounded.2);
  current = below_next (λ w. IsAsked s w → IsCurrent s w) i f.current (λ k. absurd (n k));
}

-- ---- an asked worker that is current
all_up : (ord : Order) (x y : List ℕ) (A : List Term) → AtOrAbove ord x y → AllAtOrBelow ord x A → AllAtOrBelow ord y A
unfolding AllAtOrBelow
all_up ord x y [] k h = tt
all_up ord x y (t ∷ A) k h = (at_then_at ord t.monomial x y h.0 k, all_up ord x y A k h.1)

top_up : (ord : Order) (x y : List ℕ) (top : Option (List ℕ)) → AtOrAbove ord x y → TopWithin ord x top → TopWithin ord y top
unfolding TopWithin
top_up ord x y None k h = tt
top_up ord x y (Some z) k h = at_then_at ord z x y h k

own_top : (ord : Order) (x : List ℕ) (top : Option (List ℕ)) → top ≡ Some x → TopWithin ord x top
unfolding TopWithin
own_top ord x top e = subst (TopWithin ord x) (sym e) (inl refl)

bound_goes : (s : DivideState) (i : ℕ) (b top c : Option (List ℕ)) → Bounded s i b → IsAsked s i → (mark_of s i).1 ≡ top → IsGreatest s.division.ord b top c → Bounded s (i + 1) c
unfolding Bounded IsGreatest
bound_goes s i None None c h k e g = subst (Bounded s (i + 1)) (sym g) (h.0, below_next (λ w. IsAsked s w → (mark_of s w).1 ≡ None) i h.1 (λ _. e))
bound_goes s i None (Some y) c h k e g =
    subst (Bounded s (i + 1)) (sym g) (
      nothing_within s.division.ord y (s.unread ++ head_terms s.heads) h.0,
      below_next (λ w. IsAsked s w → TopWithin s.division.ord y (mark_of s w).1) i (λ w l a. within_none s.division.ord y (mark_of s w).1 (h.1 w l a)) (λ _. own_top s.division.ord y (mark_of s i).1 e),
      inr (i, k, e),
    )
bound_goes s i (Some x) None c h k e g =
    subst (Bounded s (i + 1)) (sym g) (h.0, below_next (λ w. IsAsked s w → TopWithin s.division.ord x (mark_of s w).1) i h.1 (λ _. within_none s.division.ord x (mark_of s i).1 e), h.2)
bound_goes s i (Some x) (Some y) c h k e (inl g) =
    subst (Bounded s (i + 1)) (sym g.0)
    (h.0, below_next (λ w. IsAsked s w → TopWithin s.division.ord x (mark_of s w).1) i h.1 (λ _. top_up s.division.ord y x (mark_of s i).1 g.1 (own_top s.division.ord y (mark_of s i).1 e)), h.2)
bound_goes s i (Some x) (Some y) c h k e (inr g) =
    subst (Bounded s (i + 1)) (sym g.0) (
      all_up s.division.ord x y (s.unread ++ head_terms s.heads) g.1 h.0,
      below_next (λ w. IsAsked s w → TopWithin s.division.ord y (mark_of s w).1) i (λ w l a. top_up s.division.ord x y (mark_of s w).1 g.1 (h.1 w l a)) (λ _. own_top s.division.ord y (mark_of s i).1 e),
      inr (i, k, e),
    )

pub far_goes : (s : DivideState) (i : ℕ) (b c : Option (List ℕ)) → SoFar s i b → IsAsked s i → IsCurrent s i → IsGreatest s.division.ord b (mark_of s i).1 c → SoFar s (i + 1) c
far_goes s i b c f k h g = record { bounded = bound_goes s i b (mark_of s i).1 c f.bounded k refl g; current = below_next (λ w. IsAsked s w → IsCurrent s w) i f.current (λ _. h) }

-- ---- the end
pub far_ends : (s : DivideState) (i : ℕ) (b c : Option (List ℕ)) → SoFar s i b → i ≡ s.workers → b ≡ c → SoFar s s.workers c
far_ends s i b c f e k = subst (λ (j : ℕ). SoFar s j c) e (subst (SoFar s i) k f)

pub due_here : (s : DivideState) (x : List ℕ) → SoFar s s.workers (Some x) → IsUnder s.division.ord s.front x → IsDue s x
unfolding Bounded
due_here s x f u = record {
  current = λ w k. f.current w k.worker k;
  read_below = f.bounded.0;
  tops_below = λ w k. f.bounded.1 w k.worker k;
  reached = f.bounded.2;
  lower = u;
}

pub none_due : (s : DivideState) (x : List ℕ) → SoFar s s.workers None → IsDue s x → ⊥
unfolding Bounded
none_due s x f d = pick d.reached
  where
    pick : (has x (s.unread ++ head_terms s.heads) ≡ true) ⊎ ((w : ℕ) × IsAsked s w × ((mark_of s w).1 ≡ Some x)) → ⊥
    pick (inl h) = has_nothing x (s.unread ++ head_terms s.heads) f.bounded.0 h
    pick (inr w) = true≢false (sym (ap (λ (o : Option (List ℕ)). is_some o) (sym (f.bounded.1 w.0 w.1.worker w.1) ∙ w.2)))

pub not_due_late : (s : DivideState) (x : List ℕ) (w : ℕ) → IsAsked s w → (IsCurrent s w → ⊥) → IsDue s x → ⊥
not_due_late s x w k n d = n (d.current w k)

-- the bound is the only one at which a front may be due
pub not_due_above : (s : DivideState) (x y : List ℕ) → SoFar s s.workers (Some x) → (IsUnder s.division.ord s.front x → ⊥) → IsDue s y → ⊥
unfolding Bounded TopWithin
not_due_above s x y f n d = n (subst (IsUnder s.division.ord s.front) (at_both s.division.ord y x up down) d.lower)
  where
    down : AtOrAbove s.division.ord x y
    down = reached_below s x y f.bounded.2 d

    up : AtOrAbove s.division.ord y x
    up = pick d.reached
      where
        within : (top : Option (List ℕ)) → top ≡ Some y → TopWithin s.division.ord x top → AtOrAbove s.division.ord y x
        within top e h = subst (TopWithin s.division.ord x) e h

        pick : (has y (s.unread ++ head_terms s.heads) ≡ true) ⊎ ((w : ℕ) × IsAsked s w × ((mark_of s w).1 ≡ Some y)) → AtOrAbove s.division.ord y x
        pick (inl h) = at_has s.division.ord y x (s.unread ++ head_terms s.heads) h f.bounded.0
        pick (inr w) = within (mark_of s w.0).1 w.2 (f.bounded.1 w.0 w.1.worker w.1)

-- ---- the greater of two that may be missing
pub greatest_none : (ord : Order) (a b : Option (List ℕ)) → a ≡ None → IsGreatest ord a b b
unfolding IsGreatest
greatest_none ord a b e = subst (λ (o : Option (List ℕ)). IsGreatest ord o b b) (sym e) refl

pub greatest_alone : (ord : Order) (a b : Option (List ℕ)) (x : List ℕ) → a ≡ Some x → b ≡ None → IsGreatest ord a b (Some x)
unfolding IsGreatest
greatest_alone ord a b x e f = subst (λ (o : Option (List ℕ)). IsGreatest ord o b (Some x)) (sym e) (subst (λ (o : Option (List ℕ)). IsGreatest ord (Some x) o (Some x)) (sym f) refl)

pub greatest_left : (ord : Order) (a b : Option (List ℕ)) (x y : List ℕ) → a ≡ Some x → b ≡ Some y → AtOrAbove ord y x → IsGreatest ord a b (Some x)
unfolding IsGreatest
greatest_left ord a b x y e f h = subst (λ (o : Option (List ℕ)). IsGreatest ord o b (Some x)) (sym e) (subst (λ (o : Option (List ℕ)). IsGreatest ord (Some x) o (Some x)) (sym f) (inl (refl, h)))

pub greatest_right : (ord : Order) (a b : Option (List ℕ)) (x y : List ℕ) → a ≡ Some x → b ≡ Some y → AtOrAbove ord x y → IsGreatest ord a b (Some y)
unfolding IsGreatest
greatest_right ord a b x y e f h = subst (λ (o : Option (List ℕ)). IsGreatest ord o b (Some y)) (sym e) (subst (λ (o : Option (List ℕ)). IsGreatest ord (Some x) o (Some y)) (sym f) (inr (refl, h)))

-- ---- whether a top is low
no_no : {P : Type 0} → (P → ⊥) → IsTrue false ↔ P
no_no n = ((λ t. absurd (true≢false (sym t))), (λ h. absurd (n h)))

pub low_without : (ord : Order) (next top : Option (List ℕ)) → top ≡ None → IsTrue true ↔ IsLowTop ord next top
unfolding IsLowTop
low_without ord next top e = subst (λ (o : Option (List ℕ)). IsTrue true ↔ IsLowTop ord next o) (sym e) (pick next)
  where
    pick : (o : Option (List ℕ)) → IsTrue true ↔ IsLowTop ord o None
    pick None = ((λ t. tt), (λ h. refl))
    pick (Some x) = ((λ t. tt), (λ h. refl))

pub low_nowhere : (ord : Order) (next top : Option (List ℕ)) (y : List ℕ) → next ≡ None → top ≡ Some y → IsTrue false ↔ IsLowTop ord next top
unfolding IsLowTop
low_nowhere ord next top y e f = subst (λ (o : Option (List ℕ)). IsTrue false ↔ IsLowTop ord o top) (sym e) (subst (λ (o : Option (List ℕ)). IsTrue false ↔ IsLowTop ord None o) (sym f) (no_no (λ h. h)))

pub low_yes : (ord : Order) (next top : Option (List ℕ)) (x y : List ℕ) → next ≡ Some x → top ≡ Some y → Below ord y x → IsTrue true ↔ IsLowTop ord next top
unfolding IsLowTop
low_yes ord next top x y e f b =
    subst (λ (o : Option (List ℕ)). IsTrue true ↔ IsLowTop ord o top) (sym e) (subst (λ (o : Option (List ℕ)). IsTrue true ↔ IsLowTop ord (Some x) o) (sym f) ((λ t. b), (λ h. refl)))

pub low_no : (ord : Order) (next top : Option (List ℕ)) (x y : List ℕ) → next ≡ Some x → top ≡ Some y → (Below ord y x → ⊥) → IsTrue false ↔ IsLowTop ord next top
unfolding IsLowTop
low_no ord next top x y e f n = subst (λ (o : Option (List ℕ)). IsTrue false ↔ IsLowTop ord o top) (sym e) (subst (λ (o : Option (List ℕ)). IsTrue false ↔ IsLowTop ord (Some x) o) (sym f) (no_no n))

-- that of a worker's latest mark
pub low_is : (s : DivideState) (m : Option (List ℕ)) (w : ℕ) (top : Option (List ℕ)) → top ≡ (mark_of s w).1 → IsLowTop s.division.ord m top ↔ IsLow s m w
unfolding IsLow IsLowTop AboveTop
low_is s None w None e = ((λ h. sym e), (λ h. tt))
low_is s None w (Some y) e = ((λ h. absurd h), (λ h. absurd (true≢false (ap (λ (o : Option (List ℕ)). is_some o) (e ∙ h)))))
low_is s (Some x) w None e = ((λ h. subst (λ (o : Option (List ℕ)). AboveTop s.division.ord o x) e tt), (λ h. tt))
low_is s (Some x) w (Some y) e = ((λ h. subst (λ (o : Option (List ℕ)). AboveTop s.division.ord o x) e h), (λ h. subst (λ (o : Option (List ℕ)). AboveTop s.division.ord o x) (sym e) h))

-- ---- whether a monomial is under the front
pub under_none : (ord : Order) (front : Option (List ℕ)) (m : List ℕ) → front ≡ None → IsTrue true ↔ IsUnder ord front m
unfolding IsUnder
under_none ord front m e = subst (λ (o : Option (List ℕ)). IsTrue true ↔ IsUnder ord o m) (sym e) ((λ t. tt), (λ h. refl))

pub under_yes : (ord : Order) (front : Option (List ℕ)) (x m : List ℕ) → front ≡ Some x → Below ord m x → IsTrue true ↔ IsUnder ord front m
unfolding IsUnder
under_yes ord front x m e b = subst (λ (o : Option (List ℕ)). IsTrue true ↔ IsUnder ord o m) (sym e) ((λ t. b), (λ h. refl))

pub under_no : (ord : Order) (front : Option (List ℕ)) (x m : List ℕ) → front ≡ Some x → (Below ord m x → ⊥) → IsTrue false ↔ IsUnder ord front m
unfolding IsUnder
under_no ord front x m e n = subst (λ (o : Option (List ℕ)). IsTrue false ↔ IsUnder ord o m) (sym e) (no_no n)
