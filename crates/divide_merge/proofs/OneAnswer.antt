-- The causes of a merge's answers exclude each other.
use Rattle.std.proofs.Common.{◌≡◌, ◌≢◌, ◌⊎◌, inl, inr, ℕ, suc, ◌<◌, ℤ, pos, Bool, true, false, true≢false, List, [], ◌∷◌, ◌++◌, length, cond, Option, Some, None, refl, sym, ap, ◌∙◌, subst, arith}
use Rattle.sdmp_laws.specs.Order.{Order, Divides, alike, Below}
use Rattle.sdmp_laws.specs.Ring.{red}
use Rattle.sdmp_laws.specs.Poly.{Term, total, coef, lm, minus}
use Rattle.sdmp_laws.specs.Division.{IsAccepted, Turn, AtOrAbove, AllAtOrBelow}
use Rattle.sdmp_laws.specs.Limits.{Passes, PassesBound, quotient_terms_limit}
use Rattle.sdmp_laws.specs.declared.Mode.TheVariants.{Exact, Remainder}
use Rattle.sdmp_laws.proofs.OrderLemmas.{order_facts, alike_self, alike_not}
use Rattle.sdmp_laws.proofs.Ints.{red_red, red_zero}
use Rattle.sdmp_laws.proofs.TermsLemmas.{total_one}
use Rattle.sdmp_laws.proofs.DivisionLemmas.{turn_unique, length_lm}
use Rattle.sdmp_laws.proofs.LongLemmas.{over_times, length_over}
use Rattle.sdmp_laws.proofs.NextTerm.{at_both}
use Rattle.whole_laws.specs.Notes.{has}
use Rattle.whole_laws.specs.Wholes.{head_terms}
use Rattle.divide_wholes.specs.Wholes.{DivideState}
use Rattle.divide_wholes.specs.Workers.{IsUnreadTop}
use Rattle.dividing_rounds.proofs.StallLemmas.{within_at}
use Rattle.dividing_rounds.proofs.WorkloadLemmas.{has_nothing}
use Rattle.dividing_rounds.specs.Found.{read_coef, term_at, Fits}
use Rattle.dividing_rounds.specs.Stalls.{IsGreatestRead, IsStuck, IsDue}
use Rattle.divide_merge.specs.Verdicts.{NoneStuck, HoldsUp, IsFrontDue, IsPresentAt, IsTermDue, IsLeftOver, IsTermWithin, with_term, Verdict, Finishes, HasNone, PassesNorm, PassesCount, IsBlocked, RowIsFull, OutIsFull, IsVerdict, OneVerdict}
use Rattle.division_laws.proofs.OutcomeLemmas.{not_both_modes}

-- ---- what is read next is one
pub at_has : (ord : Order) (x m : List ℕ) (A : List Term) → has x A ≡ true → AllAtOrBelow ord m A → AtOrAbove ord x m
at_has ord x m A h a = within_at ord m x A a h

pub top_one : (ord : Order) (A : List Term) (m n : Option (List ℕ)) → IsUnreadTop ord A m → IsUnreadTop ord A n → m ≡ n
unfolding IsUnreadTop
top_one ord A None None a b = refl
top_one ord A None (Some y) a b = absurd (has_nothing y A a b.0)
top_one ord A (Some x) None a b = absurd (has_nothing x A b a.0)
top_one ord A (Some x) (Some y) a b = ap Some (at_both ord x y (at_has ord x y A a.0 b.1) (at_has ord y x A b.0 a.1))

none_is_some : (x : List ℕ) → None ≡ Some x → ⊥
none_is_some x e = true≢false (sym (ap (λ (o : Option (List ℕ)). elim o as (λ _. Bool) [ None ↦ false | Some z ↦ true ]) e))

-- ---- one term fits
alone : (p : ℕ) (x m : List ℕ) (c : ℤ) → coef p (record { monomial = x; coefficient = c } ∷ []) m ≡ red p (cond (alike x m) c (pos 0))
unfolding coef
alone p x m c = ap (red p) (total_one (record { monomial = x; coefficient = c }) m)

divides_long : (l x : List ℕ) → Divides l x → length x ≡ length l
unfolding Divides
divides_long [] [] d = refl
divides_long [] (y ∷ ys) d = absurd d
divides_long (a ∷ l) [] d = absurd d
divides_long (a ∷ l) (y ∷ ys) d = ap suc (divides_long l ys d.1)

module _ (s : DivideState) (x : List ℕ) (a : IsAccepted s.division) (there : read_coef s x ≢ pos 0) where
  abbrev only : List Term
  only = record { monomial = x; coefficient = read_coef s x } ∷ []

  here : coef s.division.p only x ≡ read_coef s x
  unfolding coef
  here = alone s.division.p x x (read_coef s x) ∙ ap (λ (b : Bool). red s.division.p (cond b (read_coef s x) (pos 0))) (alike_self x) ∙ red_red s.division.p (total (minus s.unread (head_terms s.heads)) x)

  nowhere : (m : List ℕ) → Below s.division.ord x m → coef s.division.p only m ≡ pos 0
  nowhere m b =
      alone s.division.p x m (read_coef s x)
      ∙ ap (λ (z : Bool). red s.division.p (cond z (read_coef s x) (pos 0))) (alike_not x m (λ e. (order_facts s.division.ord).irreflexive x (subst (Below s.division.ord x) (sym e) b)))
      ∙ red_zero s.division.p

  turn : (u : ℤ) → Fits s x u → Turn s.division only (term_at s x u)
  turn u f =
      let back = over_times x (lm s.division.g) f.divides in
      let long = length_over x (lm s.division.g) f.divides ∙ divides_long (lm s.division.g) x f.divides ∙ length_lm s.division a in record {
        vector = long;
        reduced = f.reduced;
        present = λ z. there (sym here ∙ ap (coef s.division.p only) (sym back) ∙ z);
        fits = f.product ∙ sym here ∙ ap (coef s.division.p only) (sym back);
        top = λ m l scope b. nowhere m (subst (λ (k : List ℕ). Below s.division.ord k m) back b);
      }

  fits_one : (u v : ℤ) → Fits s x u → Fits s x v → u ≡ v
  fits_one u v f g = ap (λ (t : Term). t.coefficient) (turn_unique s.division only (term_at s x u) (term_at s x v) a (turn u f) (turn v g))

-- ---- what an answer says of the state: all is read, a worker holds the merge up, a quotient term is due, or nothing fits
abbrev AtEnd : DivideState → Verdict → Type 0
AtEnd s a = (a ≡ Finishes) × IsGreatestRead s None × NoneStuck s None

abbrev Held : DivideState → ℕ → Verdict → ℕ → Type 0
Held s free a w = ((a ≡ IsBlocked w) × ((x : List ℕ) → IsDue s x → ⊥)) ⊎ ((a ≡ RowIsFull) × ((x : List ℕ) × IsDue s x))

abbrev AtHold : DivideState → ℕ → Verdict → Type 0
AtHold s free a = (w : ℕ) × HoldsUp s w × Held s free a w

data Found (s : DivideState) (free : ℕ) (a : Verdict) (t : Term) : Type 0 where
  by_norm : a ≡ PassesNorm t → Passes s.division (with_term s t) → Found s free a t
  by_count : a ≡ PassesCount t → (Passes s.division (with_term s t) → ⊥) → length (with_term s t) ≡ quotient_terms_limit → Found s free a t
  by_row : a ≡ RowIsFull → (PassesBound s.division (with_term s t) → ⊥) → free ≡ 0 → Found s free a t
  by_room : a ≡ OutIsFull → (PassesBound s.division (with_term s t) → ⊥) → 0 < free → Found s free a t

abbrev AtTerm : DivideState → ℕ → Verdict → Type 0
AtTerm s free a = (t : Term) × IsTermDue s t × Found s free a t

abbrev AtRest : DivideState → Verdict → Type 0
AtRest s a = (x : List ℕ) × IsLeftOver s x × (((a ≡ HasNone x) × (s.division.mode ≡ Exact)) ⊎ ((a ≡ OutIsFull) × (s.division.mode ≡ Remainder)))

data Case (s : DivideState) (free : ℕ) (a : Verdict) : Type 0 where
  ending : AtEnd s a → Case s free a
  holding : AtHold s free a → Case s free a
  finding : AtTerm s free a → Case s free a
  leaving : AtRest s a → Case s free a

case_of : (s : DivideState) (free n : ℕ) (a : Verdict) → IsVerdict s free n a → Case s free a
unfolding IsVerdict
case_of s free n Finishes v = ending (refl, v.0, v.1)
case_of s free n (HasNone x) v = leaving (x, v.1, inl (refl, v.0))
case_of s free n (PassesNorm t) v = finding (t, v.0, by_norm refl v.1)
case_of s free n (PassesCount t) v = finding (t, v.0, by_count refl v.1 v.2)
case_of s free n (IsBlocked w) v = holding (w, v.0, inl (refl, v.1))
case_of s free n RowIsFull v = pick v.1
  where
    pick : IsFrontDue s ⊎ ((t : Term) × IsTermWithin s t) → Case s free RowIsFull
    pick (inl d) = holding (d.worker, d.held, inr (refl, (d.bound, d.due)))
    pick (inr t) = finding (t.0, t.1.due, by_row refl t.1.within v.0)
case_of s free n OutIsFull v = pick v.1
  where
    pick : ((t : Term) × IsTermWithin s t × (0 < free)) ⊎ ((s.division.mode ≡ Remainder) × ((x : List ℕ) × IsLeftOver s x)) → Case s free OutIsFull
    pick (inl t) = finding (t.0, t.1.due, by_room refl t.1.within t.2)
    pick (inr x) = leaving (x.1.0, x.1.1, inr (refl, x.0))

module _ (s : DivideState) where
  same_read : (m n : Option (List ℕ)) → IsGreatestRead s m → IsGreatestRead s n → m ≡ n
  same_read m n g h = top_one s.division.ord (s.unread ++ head_terms s.heads) m n g h

  same_present : (x y : List ℕ) → IsPresentAt s x → IsPresentAt s y → x ≡ y
  same_present x y p q = cc (same_read (Some x) (Some y) p.read q.read)

  -- nobody holds a merge up that has heard all
  not_held : (m : Option (List ℕ)) (w : ℕ) → IsGreatestRead s m → NoneStuck s m → HoldsUp s w → ⊥
  not_held m w g n h = n w (subst (λ (k : Option (List ℕ)). IsStuck s k w) (same_read h.next m h.read g) h.first.stuck)

  not_present : (x : List ℕ) → IsGreatestRead s None → IsPresentAt s x → ⊥
  not_present x g p = none_is_some x (same_read None (Some x) g p.read)

  -- one worker is the first
  same_held : (v w : ℕ) → HoldsUp s v → HoldsUp s w → v ≡ w
  same_held v w g h = pick (grind arith)
    where
      n : g.next ≡ h.next
      n = same_read g.next h.next g.read h.read

      pick : (v < w) ⊎ (v ≡ w) ⊎ (w < v) → v ≡ w
      pick (inl l) = absurd (h.first.first v l (subst (λ (k : Option (List ℕ)). IsStuck s k v) n g.first.stuck))
      pick (inr (inl e)) = e
      pick (inr (inr l)) = absurd (g.first.first w l (subst (λ (k : Option (List ℕ)). IsStuck s k w) (sym n) h.first.stuck))

  not_left : (t : Term) (x : List ℕ) → IsTermDue s t → IsLeftOver s x → ⊥
  not_left t x d l = l.none t.coefficient (subst (λ (y : List ℕ). Fits s y t.coefficient) (same_present d.at x d.present l.present) d.fits)

  same_term : (t u : Term) → IsAccepted s.division → IsTermDue s t → IsTermDue s u → t ≡ u
  same_term t u a d e =
      let x = same_present d.at e.at d.present e.present in
      let c = fits_one s e.at a e.present.there t.coefficient u.coefficient (subst (λ (y : List ℕ). Fits s y t.coefficient) x d.fits) e.fits in
      d.is ∙ (λ i. term_at s (x i) (c i)) ∙ sym e.is

found_one : (s : DivideState) (free : ℕ) (a b : Verdict) (t : Term) → Found s free a t → Found s free b t → a ≡ b
found_one s free a b t (by_norm e p) (by_norm f q) = e ∙ sym f
found_one s free a b t (by_norm e p) (by_count f n l) = absurd (n p)
found_one s free a b t (by_norm e p) (by_row f n z) = absurd (n (inl p))
found_one s free a b t (by_norm e p) (by_room f n l) = absurd (n (inl p))
found_one s free a b t (by_count e m k) (by_norm f q) = absurd (m q)
found_one s free a b t (by_count e m k) (by_count f n l) = e ∙ sym f
found_one s free a b t (by_count e m k) (by_row f n z) = absurd (n (inr (omega arith)))
found_one s free a b t (by_count e m k) (by_room f n l) = absurd (n (inr (omega arith)))
found_one s free a b t (by_row e m z) (by_norm f q) = absurd (m (inl q))
found_one s free a b t (by_row e m z) (by_count f n l) = absurd (m (inr (omega arith)))
found_one s free a b t (by_row e m z) (by_row f n y) = e ∙ sym f
found_one s free a b t (by_row e m z) (by_room f n l) = absurd (omega arith)
found_one s free a b t (by_room e m k) (by_norm f q) = absurd (m (inl q))
found_one s free a b t (by_room e m k) (by_count f n l) = absurd (m (inr (omega arith)))
found_one s free a b t (by_room e m k) (by_row f n z) = absurd (omega arith)
found_one s free a b t (by_room e m k) (by_room f n l) = e ∙ sym f

held_one : (s : DivideState) (free : ℕ) (a b : Verdict) (v w : ℕ) → v ≡ w → Held s free a v → Held s free b w → a ≡ b
held_one s free a b v w e (inl g) (inl h) = g.0 ∙ ap IsBlocked e ∙ sym h.0
held_one s free a b v w e (inl g) (inr h) = absurd (g.1 h.1.0 h.1.1)
held_one s free a b v w e (inr g) (inl h) = absurd (h.1 g.1.0 g.1.1)
held_one s free a b v w e (inr g) (inr h) = g.0 ∙ sym h.0

rest_one : (s : DivideState) (a b : Verdict) → AtRest s a → AtRest s b → a ≡ b
rest_one s a b g h = pick g.2 h.2
  where
    pick : ((a ≡ HasNone g.0) × (s.division.mode ≡ Exact)) ⊎ ((a ≡ OutIsFull) × (s.division.mode ≡ Remainder)) → ((b ≡ HasNone h.0) × (s.division.mode ≡ Exact)) ⊎ ((b ≡ OutIsFull) × (s.division.mode ≡ Remainder)) → a ≡ b
    pick (inl e) (inl f) = e.0 ∙ ap HasNone (same_present s g.0 h.0 g.1.present h.1.present) ∙ sym f.0
    pick (inl e) (inr f) = absurd (not_both_modes s.division.mode e.1 f.1)
    pick (inr e) (inl f) = absurd (not_both_modes s.division.mode f.1 e.1)
    pick (inr e) (inr f) = e.0 ∙ sym f.0

case_one : (s : DivideState) (free : ℕ) (a b : Verdict) → IsAccepted s.division → Case s free a → Case s free b → a ≡ b
case_one s free a b acc (ending g) (ending h) = g.0 ∙ sym h.0
case_one s free a b acc (ending g) (holding h) = absurd (not_held s None h.0 g.1 g.2 h.1)
case_one s free a b acc (ending g) (finding h) = absurd (not_present s h.1.at g.1 h.1.present)
case_one s free a b acc (ending g) (leaving h) = absurd (not_present s h.0 g.1 h.1.present)
case_one s free a b acc (holding g) (ending h) = absurd (not_held s None g.0 h.1 h.2 g.1)
case_one s free a b acc (holding g) (holding h) = held_one s free a b g.0 h.0 (same_held s g.0 h.0 g.1 h.1) g.2 h.2
case_one s free a b acc (holding g) (finding h) = absurd (not_held s (Some h.1.at) g.0 h.1.present.read h.1.present.heard g.1)
case_one s free a b acc (holding g) (leaving h) = absurd (not_held s (Some h.0) g.0 h.1.present.read h.1.present.heard g.1)
case_one s free a b acc (finding g) (ending h) = absurd (not_present s g.1.at h.1 g.1.present)
case_one s free a b acc (finding g) (holding h) = absurd (not_held s (Some g.1.at) h.0 g.1.present.read g.1.present.heard h.1)
case_one s free a b acc (finding g) (finding h) = found_one s free a b g.0 g.2 (subst (λ (t : Term). Found s free b t) (sym (same_term s g.0 h.0 acc g.1 h.1)) h.2)
case_one s free a b acc (finding g) (leaving h) = absurd (not_left s g.0 h.0 g.1 h.1)
case_one s free a b acc (leaving g) (ending h) = absurd (not_present s g.0 h.1 g.1.present)
case_one s free a b acc (leaving g) (holding h) = absurd (not_held s (Some g.0) h.0 g.1.present.read g.1.present.heard h.1)
case_one s free a b acc (leaving g) (finding h) = absurd (not_left s h.0 g.0 h.1 g.1)
case_one s free a b acc (leaving g) (leaving h) = rest_one s a b g h

pub one_verdict : OneVerdict
one_verdict s free m n a b acc v w = case_one s free a b acc (case_of s free m a v) (case_of s free n b w)
