-- Chains of rows, under writes at one row.
use Rattle.std.proofs.Common.{ℕ, ◌<◌, ◌≤◌, ◌≡◌, ◌≢◌, ◌⊎◌, Bool, true, eqb, List, [], ◌∷◌, length, get_or, set, refl, sym, ap, subst, ◌∙◌, arith, inl, inr}
use Rattle.std.specs.List.{All, sum_by}
use Rattle.std.proofs.lemmas.Bool.{cases_lt}
use Rattle.std.proofs.lemmas.Bool.Decides.{nat_tests}
use Rattle.std.proofs.lemmas.List.{get_or-set_same, get_or-set_other, length-set}
use Rattle.std.proofs.lemmas.List.Elements.{All-head, All-tail, All-cons, All-nil}
use Rattle.std.proofs.lemmas.List.Sums.{sum_by-cons}
use Rattle.chained_heap.specs.declared.node.Place.{Place}
use Rattle.chained_heap.specs.declared.node.Place.TheVariants.{Out}
use Rattle.chained_heap.specs.Shape.{Linked, bit, occ, place_at, Chain}

pub same_or_not : (a b : ℕ) → (a ≡ b) ⊎ (a ≢ b)
same_or_not a b = by (cases_lt a b) (cases_lt b a)
  where
    by : (a < b) ⊎ (b ≤ a) → (b < a) ⊎ (a ≤ b) → (a ≡ b) ⊎ (a ≢ b)
    by (inl p) q = inr (omega arith)
    by (inr p) (inl q) = inr (omega arith)
    by (inr p) (inr q) = inl (omega arith)

pub hit_same : (q r : ℕ) → q ≡ r → bit (eqb q r) ≡ 1
hit_same q r e = grind (arith, nat_tests)

pub hit_other : (q r : ℕ) → q ≢ r → bit (eqb q r) ≡ 0
hit_other q r e = grind (arith, nat_tests)

pub occ_zero : (row q : ℕ) (c : List ℕ) → occ row (q ∷ c) ≡ 0 → (q ≢ row) × (occ row c ≡ 0)
occ_zero row q c z = (λ e. absurd (omega (arith, hit_same q row e)), omega arith)

pub occ_head : (r : ℕ) (c : List ℕ) → 0 < occ r (r ∷ c)
occ_head r c = omega (arith, hit_same r r refl)

pub linked_frame : (next : List ℕ) (row v first : ℕ) (c : List ℕ) → occ row c ≡ 0 → Linked next first c → Linked (set next row v) first c
linked_frame next row v first [] z l = l
linked_frame next row v first (r ∷ c) z l =
    let u = occ_zero row r c z in
    let n = length-set next row v in (
      l.0,
      omega (arith, l.1),
      linked_frame next row v (get_or (set next row v) r 0) c u.1 (subst (λ f. Linked next f c) (sym (get_or-set_other next row r v 0 u.0)) l.2),
    )

pub all_zero : {X : Type 0} (f : X → ℕ) (xs : List X) → sum_by f xs ≡ 0 → All (λ x. f x ≡ 0) xs
all_zero f [] z = All-nil (λ x. f x ≡ 0)
all_zero f (x ∷ xs) z =
    let s = sum_by-cons f x xs in
    All-cons (λ x. f x ≡ 0) x xs (omega arith) (all_zero f xs (omega arith))

pub all_both : {X : Type 0} (P Q R : X → Type 0) (xs : List X) → ((x : X) → P x → Q x → R x) → All P xs → All Q xs → All R xs
all_both P Q R [] h p q = All-nil R
all_both P Q R (x ∷ xs) h p q = All-cons R x xs (h x (All-head P x xs p) (All-head Q x xs q)) (all_both P Q R xs h (All-tail P x xs p) (All-tail Q x xs q))

pub sum_same : {X : Type 0} (f g : X → ℕ) (xs : List X) → All (λ x. f x ≡ g x) xs → sum_by f xs ≡ sum_by g xs
sum_same f g [] h = refl
sum_same f g (x ∷ xs) h =
    let a = sum_by-cons f x xs in
    let b = sum_by-cons g x xs in
    let e = All-head (λ x. f x ≡ g x) x xs h in
    let t = sum_same f g xs (All-tail (λ x. f x ≡ g x) x xs h) in
    omega arith

pub sum_more : {X : Type 0} (f : X → ℕ) (xs : List X) → All (λ x. 0 < f x) xs → length xs ≤ sum_by f xs
sum_more f [] h = omega arith
sum_more f (x ∷ xs) h =
    let a = sum_by-cons f x xs in
    let e = All-head (λ x. 0 < f x) x xs h in
    let t = sum_more f xs (All-tail (λ x. 0 < f x) x xs h) in
    omega arith

-- an element at which f isn't 0
pub some_of : {X : Type 0} (f : X → ℕ) (P : X → Type 0) (xs : List X) → 0 < sum_by f xs → All P xs → (x : X) × (0 < f x) × P x
some_of f P [] z h = absurd (omega arith)
some_of {X} f P (x ∷ xs) z h = by (cases_lt 0 (f x)) (λ k. some_of f P xs k (All-tail P x xs h))
  where
    by : (0 < f x) ⊎ (f x ≤ 0) → (0 < sum_by f xs → (y : X) × (0 < f y) × P y) → (y : X) × (0 < f y) × P y
    by (inl p) k = (x, p, All-head P x xs h)
    by (inr p) k = let s = sum_by-cons f x xs in k (omega arith)

module _ {M : Type 0} where
  pub place_same : (ps : List (Place M)) (row : ℕ) (p : Place M) → row < length ps → place_at (set ps row p) row ≡ p
  place_same ps row p h = get_or-set_same ps row p Out h

  pub place_other : (ps : List (Place M)) (row r : ℕ) (p : Place M) → r ≢ row → place_at (set ps row p) r ≡ place_at ps r
  place_other ps row r p n = get_or-set_other ps row r p Out n

  module _ (next : List ℕ) (ps : List (Place M)) (want : Place M → Bool) (first row : ℕ) (c : List ℕ) where
    pub chain_frame : (v : ℕ) (p : Place M) → occ row c ≡ 0 → Chain next ps want first c → Chain (set next row v) (set ps row p) want first c
    chain_frame v p z h = record {
      linked = linked_frame next row v first c z h.linked;
      inside = λ r k. ap want (place_other ps row r p (λ e. let q : occ r c ≡ occ row c = ap (λ i. occ i c) e in absurd (omega arith))) ∙ h.inside r k;
    }

    pub chain_cons : (p : Place M) → row < length next → row < length ps → want p ≡ true → occ row c ≡ 0 → Chain next ps want first c → Chain (set next row first) (set ps row p) want row (row ∷ c)
    chain_cons p n l w z h =
        let m = length-set next row first in
        record {
          linked = (refl, omega arith, subst (λ f. Linked (set next row first) f c) (sym (get_or-set_same next row first 0 n)) (linked_frame next row first first c z h.linked));
          inside = λ r k. by r k (same_or_not row r);
        }
      where
        by : (r : ℕ) → 0 < occ r (row ∷ c) → (row ≡ r) ⊎ (row ≢ r) → want (place_at (set ps row p) r) ≡ true
        by r k (inl e) = subst (λ i. want (place_at (set ps row p) i) ≡ true) e (ap want (place_same ps row p l) ∙ w)
        by r k (inr e) = ap want (place_other ps row r p (λ q. e (sym q))) ∙ h.inside r (omega (arith, hit_other row r e))

  pub chain_tail : (next : List ℕ) (ps : List (Place M)) (want : Place M → Bool) (first r : ℕ) (c : List ℕ) → Chain next ps want first (r ∷ c) → Chain next ps want (get_or next r 0) c
  chain_tail next ps want first r c h = record {
    linked = h.linked.2;
    inside = λ q k. h.inside q (omega arith);
  }

  pub chain_head : (next : List ℕ) (ps : List (Place M)) (want : Place M → Bool) (first : ℕ) (c : List ℕ) → Chain next ps want first c → 0 < length c → 0 < occ first c
  chain_head next ps want first [] h z = absurd (omega arith)
  chain_head next ps want first (r ∷ c) h z = subst (λ f. 0 < occ f (r ∷ c)) (sym h.linked.0) (occ_head r c)
