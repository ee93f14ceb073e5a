-- The sum of the heads at the greatest monomial.
use Rattle.std.proofs.Common.{◌≡◌, inl, inr, ℕ, zero, suc, ◌+◌, ◌<◌, ◌≤◌, ℤ, pos, ◌+ℤ◌, Bool, true, false, cond, List, [], ◌∷◌, ◌++◌, length, length-append, get_or, set, map, replicate, Option, Some, None, is_some, not, unsigned_abs, refl, sym, ap, ◌∙◌, subst, arith, true≢false}
use Rattle.std.proofs.lemmas.Int.{ints}
use Rattle.std.specs.declared.cmp.Ordering.{Ordering}
use Rattle.std.specs.declared.cmp.Ordering.TheVariants.{Equal}
use Rattle.std.specs.Ordering.{is_eq, is_gt, is_lt}
use Rattle.std.specs.Option.{MatchOption, IfNone}
use Rattle.sdmp_laws.specs.Order.{Order, alike, Below, compare}
use Rattle.sdmp_laws.specs.Poly.{Term, total, coef, norm}
use Rattle.sdmp_laws.specs.Limits.{greatest_norm}
use Rattle.sdmp_laws.specs.Division.{AllAtOrBelow, AtOrAbove}
use Rattle.whole_laws.specs.Notes.{has}
use Rattle.whole_laws.specs.Wholes.{head_terms, clear_at}
use Rattle.canonical_terms.specs.View.{term_of}
use Rattle.canonical_terms.specs.declared.term.TermOf.{TermOf}
use Rattle.chained_heap.specs.declared.node.Place.{Place}
use Rattle.chained_heap.specs.declared.node.Place.TheVariants.{Out, In, Taken}
use Rattle.chained_heap.specs.Shape.{place_at, is_taken, is_at, taken_at, IsTop, IsEmpty}
use Rattle.sdmp_laws.proofs.CompareLemmas.{compare_same, compare_less, compare_greater}
use Rattle.sdmp_laws.proofs.OrderLemmas.{Three, is_less, is_equal, is_greater, below_total, alike_self, alike_same}
use Rattle.sdmp_laws.proofs.TermsLemmas.{total_cons}
use Rattle.sdmp_laws.proofs.Parts.{norm_cons}
use Rattle.sdmp_laws.proofs.PolyLemmas.{total_append, total_without}
use Rattle.whole_laws.proofs.StepLemmas.{cleared}
use Rattle.sdmp_laws.proofs.Tests.{or_in_left, or_in_right}
use Rattle.ring_heads.specs.declared.head.HeadOf.{HeadOf}
use Rattle.ring_heads.specs.declared.head.HeadOf.TheVariants as head
use Rattle.ring_heads.specs.Heads.{plain, plain_heads, live, missing_at, is_missing, size_at, IsTopOf, IsTopSum, TopFits}
use Rattle.ring_heads.specs.Places.{place_of, place_in}

-- ---- the sizes at a monomial
pub size_cons : (x : List ℕ) (t : Term) (L : List Term) → size_at x (t ∷ L) ≡ cond (alike t.monomial x) (unsigned_abs t.coefficient) 0 + size_at x L
unfolding size_at
size_cons x t L = refl

pub size_append : (x : List ℕ) (A B : List Term) → size_at x (A ++ B) ≡ size_at x A + size_at x B
unfolding size_at
size_append x [] B = omega arith
size_append x (t ∷ A) B = let ih = size_append x A B in omega arith

pub size_one : (x : List ℕ) (t : Term) → alike t.monomial x ≡ true → size_at x (t ∷ []) ≡ unsigned_abs t.coefficient
unfolding size_at
size_one x t e = let a = ap (λ (b : Bool). cond b (unsigned_abs t.coefficient) 0) e in omega arith

pub size_within : (x : List ℕ) (L : List Term) → size_at x L ≤ norm L
unfolding size_at
size_within x [] = omega arith
size_within x (t ∷ L) = let n = norm_cons t L in let i = size_within x L in let k = pick (alike t.monomial x) in omega arith
  where
    pick : (b : Bool) → cond b (unsigned_abs t.coefficient) 0 ≤ unsigned_abs t.coefficient
    pick true = omega arith
    pick false = omega arith

-- vectors compare as equal exactly where they are alike
pub equal_alike : (ord : Order) (a b : List ℕ) → length a ≡ length b → is_eq (compare ord a b) ≡ alike a b
equal_alike ord a b l = pick (below_total ord a b l)
  where
    apart : (a ≡ b → ⊥) → (c : Bool) → alike a b ≡ c → alike a b ≡ false
    apart n true e = absurd (n (alike_same a b e))
    apart n false e = e

    pick : Three (Below ord a b) (a ≡ b) (Below ord b a) → is_eq (compare ord a b) ≡ alike a b
    pick (is_less h) = ap is_eq (compare_less ord a b h) ∙ sym (apart (λ e. true≢false (sym (ap is_lt (compare_less ord a b h)) ∙ ap is_lt (subst (λ (c : List ℕ). compare ord a c ≡ Equal) e (compare_same ord a)))) (alike a b) refl)
    pick (is_equal q) = subst (λ (c : List ℕ). is_eq (compare ord a c) ≡ alike a c) q (ap is_eq (compare_same ord a) ∙ sym (alike_self a))
    pick (is_greater h) = ap is_eq (compare_greater ord a b h) ∙ sym (apart (λ e. true≢false (sym (ap is_gt (compare_greater ord a b h)) ∙ ap is_gt (subst (λ (c : List ℕ). compare ord a c ≡ Equal) e (compare_same ord a)))) (alike a b) refl)

-- the head is a term at x
abbrev pub stands : {M E : Type 0} → (M → M → Ordering) → M → HeadOf M E → Bool
stands cmp x head.Missing = false
stands cmp x (head.Term t) = is_eq (cmp t.mono x)
stands cmp x head.Ended = false

-- what is no term stands nowhere
pub nowhere : {M E : Type 0} (cmp : M → M → Ordering) (x : M) (h : HeadOf M E) → ((t : TermOf M E) → h ≡ head.Term t → ⊥) → stands cmp x h ≡ false
nowhere cmp x head.Missing n = refl
nowhere cmp x (head.Term t) n = absurd (n t refl)
nowhere cmp x head.Ended n = refl

module _ {M E : Type 0} (cmp : M → M → Ordering) (x : M) where
  -- a head elsewhere stays
  pub stays : (h : HeadOf M E) → stands cmp x h ≡ false → missing_at cmp x h ≡ h
  stays head.Missing e = refl
  stays (head.Term t) e = ap (λ (b : Bool). cond b head.Missing (head.Term t)) e
  stays head.Ended e = refl

  -- and one at x goes
  pub goes : (h : HeadOf M E) (t : TermOf M E) → h ≡ head.Term t → is_eq (cmp t.mono x) ≡ true → missing_at cmp x h ≡ head.Missing
  goes h t is e = ap (missing_at cmp x) is ∙ ap (λ (b : Bool). cond b head.Missing (head.Term t)) e

  -- the heap after its top was taken
  pub in_places : (hs : List (HeadOf M E)) → map (taken_at cmp x) (map place_of hs) ≡ map (place_in cmp x) hs
  in_places [] = refl
  in_places (head.Missing ∷ hs) = ap (λ (ps : List (Place M)). Out ∷ ps) (in_places hs)
  in_places (head.Term t ∷ hs) = ap (λ (ps : List (Place M)). cond (is_eq (cmp t.mono x)) Taken (In t.mono) ∷ ps) (in_places hs)
  in_places (head.Ended ∷ hs) = ap (λ (ps : List (Place M)). Out ∷ ps) (in_places hs)

  -- the row of a taken place has a head at x
  pub taken_is_head : (hs : List (HeadOf M E)) (r : ℕ) → place_at (map (place_in cmp x) hs) r ≡ Taken → (r < length hs) × ((t : TermOf M E) × ((d : HeadOf M E) → get_or hs r d ≡ head.Term t) × (is_eq (cmp t.mono x) ≡ true))
  taken_is_head [] r e = absurd (true≢false (sym (ap is_taken e)))
  taken_is_head (head.Missing ∷ hs) zero e = absurd (true≢false (sym (ap is_taken e)))
  taken_is_head (head.Ended ∷ hs) zero e = absurd (true≢false (sym (ap is_taken e)))
  taken_is_head (head.Term t ∷ hs) zero e = (omega arith, (t, (λ d. refl), pick (is_eq (cmp t.mono x)) e))
    where
      pick : (b : Bool) → cond b Taken (In t.mono) ≡ Taken → b ≡ true
      pick true e = refl
      pick false e = absurd (true≢false (sym (ap is_taken e)))
  taken_is_head (h ∷ hs) (suc r) e = let i = taken_is_head hs r e in (let l = i.0 in omega arith, i.1)

  -- the place of a head that goes
  pub out_places : (hs : List (HeadOf M E)) (r : ℕ) → set (map (place_in cmp x) hs) r Out ≡ map (place_in cmp x) (set hs r head.Missing)
  out_places [] r = refl
  out_places (h ∷ hs) zero = refl
  out_places (h ∷ hs) (suc r) = ap (λ (ps : List (Place M)). place_in cmp x h ∷ ps) (out_places hs r)

  pub cleared_again : (hs : List (HeadOf M E)) (r : ℕ) (t : TermOf M E) → get_or hs r head.Missing ≡ head.Term t → is_eq (cmp t.mono x) ≡ true → map (missing_at cmp x) (set hs r head.Missing) ≡ map (missing_at cmp x) hs
  cleared_again [] r t e q = refl
  cleared_again (h ∷ hs) zero t e q = ap (λ (k : HeadOf M E). k ∷ map (missing_at cmp x) hs) (sym (ap (missing_at cmp x) e ∙ ap (λ (b : Bool). cond b head.Missing (head.Term t)) q))
  cleared_again (h ∷ hs) (suc r) t e q = ap (λ (ks : List (HeadOf M E)). missing_at cmp x h ∷ ks) (cleared_again hs r t e q)

  -- where no row is taken no head is at x
  pub none_taken : (hs : List (HeadOf M E)) → ((r : ℕ) → is_taken (place_at (map (place_in cmp x) hs) r) ≡ false) → (map (missing_at cmp x) hs ≡ hs) × (map (place_in cmp x) hs ≡ map place_of hs)
  none_taken [] n = (refl, refl)
  none_taken (head.Missing ∷ hs) n = let i = none_taken hs (λ r. n (suc r)) in (ap (λ (ks : List (HeadOf M E)). head.Missing ∷ ks) i.0, ap (λ (ps : List (Place M)). Out ∷ ps) i.1)
  none_taken (head.Ended ∷ hs) n = let i = none_taken hs (λ r. n (suc r)) in (ap (λ (ks : List (HeadOf M E)). head.Ended ∷ ks) i.0, ap (λ (ps : List (Place M)). Out ∷ ps) i.1)
  none_taken (head.Term t ∷ hs) n =
      let i = none_taken hs (λ r. n (suc r)) in
      let no : is_eq (cmp t.mono x) ≡ false = pick (is_eq (cmp t.mono x)) (n 0) in (
        (λ j. cond (no j) head.Missing (head.Term t) ∷ i.0 j),
        (λ j. cond (no j) Taken (In t.mono) ∷ i.1 j),
      )
    where
      pick : (b : Bool) → is_taken (cond b Taken (In t.mono)) ≡ false → b ≡ false
      pick true e = e
      pick false e = refl

module _ {M E : Type 0} where
  -- the places of the rows follow the heads
  pub place_set : (hs : List (HeadOf M E)) (r : ℕ) (h : HeadOf M E) → set (map place_of hs) r (place_of h) ≡ map place_of (set hs r h)
  place_set [] r h = refl
  place_set (k ∷ hs) zero h = refl
  place_set (k ∷ hs) (suc r) h = ap (λ (ps : List (Place M)). place_of k ∷ ps) (place_set hs r h)

  pub place_ended : (hs : List (HeadOf M E)) (r : ℕ) → get_or hs r head.Missing ≡ head.Missing → map place_of hs ≡ map place_of (set hs r head.Ended)
  place_ended [] r e = refl
  place_ended (k ∷ hs) zero e = ap (λ (p : Place M). p ∷ map place_of hs) (ap place_of e)
  place_ended (k ∷ hs) (suc r) e = ap (λ (ps : List (Place M)). place_of k ∷ ps) (place_ended hs r e)

  pub place_missing : (hs : List (HeadOf M E)) (r : ℕ) → get_or hs r head.Missing ≡ head.Missing → place_at (map place_of hs) r ≡ Out
  place_missing [] r e = refl
  place_missing (k ∷ hs) zero e = ap place_of e
  place_missing (k ∷ hs) (suc r) e = place_missing hs r e

pub place_start : {M : Type 0} (E : Type 0) (n : ℕ) → replicate {A = Place M} n Out ≡ map place_of (replicate {A = HeadOf M E} n head.Missing)
place_start E zero = refl
place_start E (suc n) = ap (λ (ps : List (Place _)). Out ∷ ps) (place_start E n)

module _ {M E : Type 0} (vector : M → List ℕ) (value : E → ℤ) where
  -- what one head adds
  own : HeadOf M E → List Term
  own head.Missing = []
  own (head.Term t) = term_of vector value t ∷ []
  own head.Ended = []

  live_more : (h : HeadOf M E) (hs : List (HeadOf M E)) → live vector value (h ∷ hs) ≡ own h ++ live vector value hs
  unfolding head_terms own
  live_more head.Missing hs = refl
  live_more (head.Term t) hs = refl
  live_more head.Ended hs = refl

  own_term : (h : HeadOf M E) (t : TermOf M E) → h ≡ head.Term t → own h ≡ term_of vector value t ∷ []
  unfolding own
  own_term h t e = ap own e

  own_missing : own head.Missing ≡ []
  unfolding own
  own_missing = refl

  own_ended : own head.Ended ≡ []
  unfolding own
  own_ended = refl

  live_nil : live vector value [] ≡ []
  unfolding head_terms
  live_nil = refl

  pub none_total : (m : List ℕ) → total (live vector value []) m ≡ pos 0
  unfolding total head_terms
  none_total m = refl

  a_term : (t : TermOf M E) → head.Missing ≡ head.Term t → ⊥
  a_term t e = true≢false (ap (λ (h : HeadOf M E). is_missing h) e)

  -- a head goes from the sum
  pub total_less : (hs : List (HeadOf M E)) (r : ℕ) (t : TermOf M E) (m : List ℕ) → get_or hs r head.Missing ≡ head.Term t
      → total (live vector value hs) m ≡ total (term_of vector value t ∷ []) m +ℤ total (live vector value (set hs r head.Missing)) m
  total_less [] r t m e = absurd (a_term t e)
  total_less (h ∷ hs) zero t m e =
      ap (λ (L : List Term). total L m) (live_more h hs ∙ ap (λ (L : List Term). L ++ live vector value hs) (own_term h t e))
      ∙ total_cons (term_of vector value t) (live vector value hs) m
      ∙ ap (λ (L : List Term). total (term_of vector value t ∷ []) m +ℤ total L m) (sym (live_more head.Missing hs ∙ ap (λ (L : List Term). L ++ live vector value hs) own_missing))
  total_less (h ∷ hs) (suc r) t m e =
      let ih = total_less hs r t m e in
      let a = ap (λ (L : List Term). total L m) (live_more h hs) ∙ total_append (own h) (live vector value hs) m in
      let b = ap (λ (L : List Term). total L m) (live_more h (set hs r head.Missing)) ∙ total_append (own h) (live vector value (set hs r head.Missing)) m in
      omega (arith, ints, ih, a, b)

  pub size_less : (x : List ℕ) (hs : List (HeadOf M E)) (r : ℕ) (t : TermOf M E) → get_or hs r head.Missing ≡ head.Term t → alike (vector t.mono) x ≡ true → size_at x (live vector value hs) ≡ unsigned_abs (value t.coef) + size_at x (live vector value (set hs r head.Missing))
  size_less x [] r t e q = absurd (a_term t e)
  size_less x (h ∷ hs) zero t e q =
      ap (size_at x) (live_more h hs ∙ ap (λ (L : List Term). L ++ live vector value hs) (own_term h t e))
      ∙ size_cons x (term_of vector value t) (live vector value hs)
      ∙ ap (λ (b : Bool). cond b (unsigned_abs (value t.coef)) 0 + size_at x (live vector value hs)) q
      ∙ ap (λ (L : List Term). unsigned_abs (value t.coef) + size_at x L) (sym (live_more head.Missing hs ∙ ap (λ (L : List Term). L ++ live vector value hs) own_missing))
  size_less x (h ∷ hs) (suc r) t e q =
      let ih = size_less x hs r t e q in
      let a = ap (size_at x) (live_more h hs) ∙ size_append x (own h) (live vector value hs) in
      let b = ap (size_at x) (live_more h (set hs r head.Missing)) ∙ size_append x (own h) (live vector value (set hs r head.Missing)) in
      omega (arith, ih, a, b)

  length_less : (hs : List (HeadOf M E)) (r : ℕ) (t : TermOf M E) → get_or hs r head.Missing ≡ head.Term t → length (live vector value hs) ≡ length (live vector value (set hs r head.Missing)) + 1
  length_less [] r t e = absurd (a_term t e)
  length_less (h ∷ hs) zero t e =
      let a = ap (λ (L : List Term). length L) (live_more h hs ∙ ap (λ (L : List Term). L ++ live vector value hs) (own_term h t e)) in
      let b = ap (λ (L : List Term). length L) (live_more head.Missing hs ∙ ap (λ (L : List Term). L ++ live vector value hs) own_missing) in
      omega (arith, a, b)
  length_less (h ∷ hs) (suc r) t e =
      let ih = length_less hs r t e in
      let a = ap (λ (L : List Term). length L) (live_more h hs) ∙ length-append (own h) (live vector value hs) in
      let b = ap (λ (L : List Term). length L) (live_more h (set hs r head.Missing)) ∙ length-append (own h) (live vector value (set hs r head.Missing)) in
      omega (arith, ih, a, b)

  pub fewer : (hs : List (HeadOf M E)) (r : ℕ) (t : TermOf M E) → get_or hs r head.Missing ≡ head.Term t → length (live vector value (set hs r head.Missing)) < length (live vector value hs)
  fewer hs r t h = let l = length_less hs r t h in omega arith

  -- the heads at x are those that compare as equal to it
  pub cleared_plain : (cmp : M → M → Ordering) (x : M) → ((a b : M) → is_eq (cmp a b) ≡ alike (vector a) (vector b)) → (hs : List (HeadOf M E)) → plain_heads vector value (map (missing_at cmp x) hs) ≡ clear_at (vector x) (plain_heads vector value hs)
  unfolding clear_at
  cleared_plain cmp x law [] = refl
  cleared_plain cmp x law (head.Missing ∷ hs) = ap (λ (L : List (Option Term)). None ∷ L) (cleared_plain cmp x law hs)
  cleared_plain cmp x law (head.Ended ∷ hs) = ap (λ (L : List (Option Term)). None ∷ L) (cleared_plain cmp x law hs)
  cleared_plain cmp x law (head.Term t ∷ hs) = let i = cleared_plain cmp x law hs in λ j. one (is_eq (cmp t.mono x)) (alike (vector t.mono) (vector x)) (law t.mono x) j ∷ i j
    where
      one : (b c : Bool) → b ≡ c → plain vector value (cond b head.Missing (head.Term t)) ≡ cond c None (Some (term_of vector value t))
      one true c e = ap (λ (d : Bool). cond d None (Some (term_of vector value t))) e
      one false c e = ap (λ (d : Bool). cond d None (Some (term_of vector value t))) e

  -- where clearing at x changes nothing, no head is at x
  pub cleared_total : (cmp : M → M → Ordering) (x : M) → ((a b : M) → is_eq (cmp a b) ≡ alike (vector a) (vector b)) → (hs : List (HeadOf M E)) → map (missing_at cmp x) hs ≡ hs → total (live vector value hs) (vector x) ≡ pos 0
  cleared_total cmp x law hs e =
      ap (λ (ks : List (HeadOf M E)). total (live vector value ks) (vector x)) (sym e) ∙ ap (λ (os : List (Option Term)). total (head_terms os) (vector x)) (cleared_plain cmp x law hs)
      ∙ ap (λ (L : List Term). total L (vector x)) (cleared (vector x) (plain_heads vector value hs))
      ∙ total_without (vector x) (vector x) (head_terms (plain_heads vector value hs)) ∙ ap (λ (b : Bool). cond b (pos 0) (total (head_terms (plain_heads vector value hs)) (vector x))) (alike_self (vector x))

  -- ---- the first head of a list, at x and elsewhere
  module _ (cmp : M → M → Ordering) (x : M) (law : (a b : M) → is_eq (cmp a b) ≡ alike (vector a) (vector b)) where
    pub total_on : (t : TermOf M E) (hs : List (HeadOf M E)) → is_eq (cmp t.mono x) ≡ true → total (live vector value (head.Term t ∷ hs)) (vector x) ≡ value t.coef +ℤ total (live vector value hs) (vector x)
    unfolding total head_terms
    total_on t hs e = ap (λ (b : Bool). cond b (value t.coef +ℤ total (live vector value hs) (vector x)) (total (live vector value hs) (vector x))) (sym (law t.mono x) ∙ e)

    pub total_off : (h : HeadOf M E) (hs : List (HeadOf M E)) → stands cmp x h ≡ false → total (live vector value (h ∷ hs)) (vector x) ≡ total (live vector value hs) (vector x)
    unfolding total head_terms
    total_off head.Missing hs e = refl
    total_off (head.Term t) hs e = ap (λ (b : Bool). cond b (value t.coef +ℤ total (live vector value hs) (vector x)) (total (live vector value hs) (vector x))) (sym (law t.mono x) ∙ e)
    total_off head.Ended hs e = refl

    pub size_on : (t : TermOf M E) (hs : List (HeadOf M E)) → is_eq (cmp t.mono x) ≡ true → size_at (vector x) (live vector value (head.Term t ∷ hs)) ≡ unsigned_abs (value t.coef) + size_at (vector x) (live vector value hs)
    unfolding size_at head_terms
    size_on t hs e = ap (λ (b : Bool). cond b (unsigned_abs (value t.coef)) 0 + size_at (vector x) (live vector value hs)) (sym (law t.mono x) ∙ e)

    pub size_off : (h : HeadOf M E) (hs : List (HeadOf M E)) → stands cmp x h ≡ false → size_at (vector x) (live vector value (h ∷ hs)) ≡ size_at (vector x) (live vector value hs)
    unfolding size_at head_terms
    size_off head.Missing hs e = refl
    size_off (head.Term t) hs e = let z = ap (λ (b : Bool). cond b (unsigned_abs (value t.coef)) 0) (sym (law t.mono x) ∙ e) in omega arith
    size_off head.Ended hs e = refl

  -- no row in the heap, no head
  pub none_live : (hs : List (HeadOf M E)) → IsEmpty (map place_of hs) → live vector value hs ≡ []
  none_live [] n = live_nil
  none_live (head.Missing ∷ hs) n = live_more head.Missing hs ∙ ap (λ (L : List Term). L ++ live vector value hs) own_missing ∙ none_live hs (λ r m. n (suc r) m)
  none_live (head.Ended ∷ hs) n = live_more head.Ended hs ∙ ap (λ (L : List Term). L ++ live vector value hs) own_ended ∙ none_live hs (λ r m. n (suc r) m)
  none_live (head.Term t ∷ hs) n = absurd (n 0 t.mono refl)

-- no list of terms that has one is empty
pub has_some : (m : List ℕ) (L : List Term) → has m L ≡ true → L ≡ [] → ⊥
unfolding has
has_some m L h e = true≢false (sym (subst (λ (K : List Term). has m K ≡ true) e h))

module _ {M E : Type 0} (cmp : M → M → Ordering) (vector : M → List ℕ) (value : E → ℤ) (ord : Order) (n : ℕ) (law : (a b : M) → cmp a b ≡ compare ord (vector a) (vector b)) (long : (a : M) → length (vector a) ≡ n) where
  -- not above
  not_above : (a b : M) → is_gt (cmp a b) ≡ false → AtOrAbove ord (vector a) (vector b)
  not_above a b e = pick (below_total ord (vector a) (vector b) (long a ∙ sym (long b)))
    where
      pick : Three (Below ord (vector a) (vector b)) (vector a ≡ vector b) (Below ord (vector b) (vector a)) → AtOrAbove ord (vector a) (vector b)
      pick (is_less h) = inr h
      pick (is_equal q) = inl q
      pick (is_greater h) = absurd (true≢false (sym (ap is_gt (law a b ∙ compare_greater ord (vector a) (vector b) h)) ∙ e))

  pub eq_alike : (a b : M) → is_eq (cmp a b) ≡ alike (vector a) (vector b)
  eq_alike a b = ap is_eq (law a b) ∙ equal_alike ord (vector a) (vector b) (long a ∙ sym (long b))

  pub all_below : (x : M) (hs : List (HeadOf M E)) → ((r : ℕ) (m : M) → place_at (map place_of hs) r ≡ In m → is_gt (cmp m x) ≡ false) → AllAtOrBelow ord (vector x) (live vector value hs)
  unfolding AllAtOrBelow head_terms
  all_below x [] h = tt
  all_below x (head.Missing ∷ hs) h = all_below x hs (λ r m. h (suc r) m)
  all_below x (head.Ended ∷ hs) h = all_below x hs (λ r m. h (suc r) m)
  all_below x (head.Term t ∷ hs) h = (not_above t.mono x (h 0 t.mono refl), all_below x hs (λ r m. h (suc r) m))

  pub has_top : (x : M) (hs : List (HeadOf M E)) (r : ℕ) → is_at cmp x (place_at (map place_of hs) r) ≡ true → has (vector x) (live vector value hs) ≡ true
  unfolding has head_terms
  has_top x [] r e = absurd (true≢false (sym e))
  has_top x (head.Missing ∷ hs) zero e = absurd (true≢false (sym e))
  has_top x (head.Ended ∷ hs) zero e = absurd (true≢false (sym e))
  has_top x (head.Term t ∷ hs) zero e = or_in_left (alike (vector t.mono) (vector x)) (has (vector x) (live vector value hs)) (sym (eq_alike t.mono x) ∙ e)
  has_top x (head.Missing ∷ hs) (suc r) e = has_top x hs r e
  has_top x (head.Ended ∷ hs) (suc r) e = has_top x hs r e
  has_top x (head.Term t ∷ hs) (suc r) e = or_in_right (alike (vector t.mono) (vector x)) (has (vector x) (live vector value hs)) (has_top x hs r e)

  -- what the top of the places is
  pub top_heads : (hs : List (HeadOf M E)) (x : M) → IsTop cmp (map place_of hs) x → IsTopOf ord (plain_heads vector value hs) (vector x)
  top_heads hs x t = record { there = has_top x hs t.row t.here; greatest = all_below x hs t.above }

  -- and what is known of the top, said of the heads
  pub top_known : (o : Option M) (ps : List (Place M)) (hs now : List (HeadOf M E)) → ps ≡ map place_of hs → hs ≡ now → MatchOption o (IsEmpty ps) (λ x. IsTop cmp ps x) → MatchOption o (live vector value now ≡ []) (λ x. IsTopOf ord (plain_heads vector value now) (vector x))
  top_known None ps hs now e v t = ap (live vector value) (sym v) ∙ none_live vector value hs (subst (λ (ps : List (Place M)). IsEmpty ps) e t)
  top_known (Some x) ps hs now e v t = subst (λ (ks : List (HeadOf M E)). IsTopOf ord (plain_heads vector value ks) (vector x)) v (top_heads hs x (subst (λ (ps : List (Place M)). IsTop cmp ps x) e t))

  -- the top is bounded, and its sum is what is asked
  pub top_size : (ps : List (Place M)) (hs now : List (HeadOf M E)) (x : M) → ps ≡ map place_of hs → hs ≡ now → IsTop cmp ps x → TopFits ord (plain_heads vector value now) → size_at (vector x) (live vector value hs) ≤ greatest_norm
  top_size ps hs now x e v t fits = subst (λ (ks : List (HeadOf M E)). size_at (vector x) (live vector value ks) ≤ greatest_norm) (sym v) (fits (vector x) (top_known (Some x) ps hs now e v t))

  pub top_sum : (p : ℕ) (ps : List (Place M)) (hs now : List (HeadOf M E)) (x : M) (c : E) → ps ≡ map place_of hs → hs ≡ now → IsTop cmp ps x → value c ≡ coef p (live vector value hs) (vector x) → IsTopSum ord p (plain_heads vector value now) (term_of vector value (record { mono = x; coef = c }))
  top_sum p ps hs now x c e v t s = record { top = top_known (Some x) ps hs now e v t; sum = s ∙ ap (λ (ks : List (HeadOf M E)). coef p (live vector value ks) (vector x)) v }

  pub some_head : (hs : List (HeadOf M E)) → (IsEmpty (map place_of hs) → ⊥) → live vector value hs ≡ [] → ⊥
  some_head hs n e = n (no_place hs e)
    where
      no_place : (hs : List (HeadOf M E)) → live vector value hs ≡ [] → IsEmpty (map place_of hs)
      no_place hs e r m q = has_some (vector m) (live vector value hs) (has_top m hs r (ap (is_at cmp m) q ∙ eq_alike m m ∙ alike_self (vector m))) e

pub no_top : {M : Type 0} (cmp : M → M → Ordering) (o : Option M) (b : Bool) (places : List (Place M)) → is_some o ≡ not b → MatchOption o (IsEmpty places) (λ x. IsTop cmp places x) → b ≡ true → IsEmpty places
no_top cmp None b places e m t = m
no_top cmp (Some x) b places e m t = absurd (true≢false (e ∙ ap not t))

pub some_top : {M : Type 0} (cmp : M → M → Ordering) (o : Option M) (b : Bool) (places : List (Place M)) → is_some o ≡ not b → MatchOption o (IsEmpty places) (λ x. IsTop cmp places x) → b ≡ false → (x : M) × IsTop cmp places x
some_top cmp None b places e m f = absurd (true≢false (sym (e ∙ ap not f)))
some_top cmp (Some x) b places e m f = (x, m)

pub if_none : {X : Type 0} (o : Option X) {P : Type 0} → P → IfNone o P
if_none None p = p
if_none (Some x) p = tt
