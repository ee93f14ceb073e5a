-- Lists and places.
use Rattle.std.proofs.Common.{◌≡◌, ◌≢◌, ◌⊎◌, ℕ, zero, suc, ◌+◌, ◌-◌, ◌*◌, ◌%◌, ◌<◌, ◌≤◌, List, [], ◌∷◌, ◌++◌, length, get_or, set, sym, refl, ap, ◌∙◌, ⊎_elim, inl, inr, arith, length-append, append_assoc, append-nil, map, subst}
use mathlib.Core.List.{IsPrefix}
use mathlib.Core.Option.{some, some-injective, some-ne-none}
use mathlib.Core.Logic.{dite}
use lib.ListN.{get_elem?}
use Rattle.std.proofs.lemmas.List.{set-append_right, map-append}
use Rattle.std.proofs.Math.ListN.{get_or-append}
use Rattle.std.proofs.Math.Seq.{get_or-append_seam}
use Rattle.term_ring.specs.Rule.{place, words_of_ring}
use Rattle.term_ring.specs.Views.{Comparable}
use native.Mathlib.Decide.{ℕ_discrete}

module _ {A : Type 0} where
  pub prefix_self : (xs : List A) → IsPrefix xs xs
  prefix_self xs = ([], append-nil xs)

  pub prefix_trans : (xs ys zs : List A) → IsPrefix xs ys → IsPrefix ys zs → IsPrefix xs zs
  prefix_trans xs ys zs p q = (p.0 ++ q.0, sym (append_assoc xs p.0 q.0) ∙ (ap (λ l. l ++ q.0) p.1 ∙ q.1))

  pub prefix_more : (xs ys : List A) → IsPrefix xs (xs ++ ys)
  prefix_more xs ys = (ys, refl)

  pub prefix_length : (xs ys : List A) → IsPrefix xs ys → length xs ≤ length ys
  prefix_length xs ys p = let e : length ys ≡ length xs + length p.0 = ap length (sym p.1) ∙ length-append xs p.0 in omega arith

  -- two beginnings of one list are comparable
  pub both_begin : (xs ys zs : List A) → IsPrefix xs zs → IsPrefix ys zs → Comparable xs ys
  both_begin [] ys zs p q = inl (ys, refl)
  both_begin (x ∷ xs) [] zs p q = inr (x ∷ xs, refl)
  both_begin (x ∷ xs) (y ∷ ys) [] p q = absurd (cc p.1)
  both_begin (x ∷ xs) (y ∷ ys) (z ∷ zs) p q =
      let e : xs ++ p.0 ≡ zs = cc p.1 in let f : ys ++ q.0 ≡ zs = cc q.1 in let g : x ≡ y = cc (p.1, q.1) in
      ⊎_elim (λ (t : IsPrefix xs ys). inl (t.0, λ i. g i ∷ t.1 i)) (λ (t : IsPrefix ys xs). inr (t.0, λ i. sym g i ∷ t.1 i)) (both_begin xs ys zs (p.0, e) (q.0, f))

  -- the place of the last one is known
  pub at_snoc : (l : List A) (a b : A) (j : ℕ) → get_elem? (l ++ a ∷ []) j ≡ some b → (get_elem? l j ≡ some b) ⊎ ((j ≡ length l) × (a ≡ b))
  at_snoc [] a b zero e = inr (refl, some-injective a b e)
  at_snoc [] a b (suc j) e = absurd (some-ne-none b (sym e))
  at_snoc (x ∷ xs) a b zero e = inl e
  at_snoc (x ∷ xs) a b (suc j) e = ⊎_elim (λ t. inl t) (λ t. inr (ap suc t.0, t.1)) (at_snoc xs a b j e)

  pub first_of_longer : (l : List A) (a b : A) → 0 < length l → get_elem? (l ++ a ∷ []) 0 ≡ some b → get_elem? l 0 ≡ some b
  first_of_longer [] a b h e = absurd (omega arith)
  first_of_longer (x ∷ xs) a b h e = e

  pub within : (l : List A) (j : ℕ) (a : A) → get_elem? l j ≡ some a → j < length l
  within [] j a e = absurd (some-ne-none a (sym e))
  within (x ∷ xs) zero a e = omega arith
  within (x ∷ xs) (suc j) a e = let h = within xs j a e in omega arith

  -- a list with something in it
  pub first_there : (l : List A) → 0 < length l → (a : A) × (rest : List A) × (l ≡ a ∷ rest)
  first_there [] h = absurd (omega arith)
  first_there (x ∷ xs) h = (x, xs, refl)

pub index_snoc_before : (l : List ℕ) (r k : ℕ) → k < length l → get_or (l ++ r ∷ []) k 0 ≡ get_or l k 0
index_snoc_before [] r k h = absurd (omega arith)
index_snoc_before (x ∷ xs) r zero h = refl
index_snoc_before (x ∷ xs) r (suc k) h = index_snoc_before xs r k (omega arith)

pub index_snoc_last : (l : List ℕ) (r k : ℕ) → k ≡ length l → get_or (l ++ r ∷ []) k 0 ≡ r
index_snoc_last [] r zero h = refl
index_snoc_last [] r (suc k) h = absurd (omega arith)
index_snoc_last (x ∷ xs) r zero h = absurd (omega arith)
index_snoc_last (x ∷ xs) r (suc k) h = index_snoc_last xs r k (omega arith)

-- the last element is another
pub set_last : (xs : List ℕ) (r b : ℕ) → set (xs ++ r ∷ []) (length (xs ++ r ∷ []) - 1) b ≡ xs ++ b ∷ []
set_last xs r b =
    let n : ℕ = length xs in let i : ℕ = length (xs ++ r ∷ []) - 1 in let e : length (xs ++ r ∷ []) ≡ n + 1 = length-append xs (r ∷ []) in let zero_on : i - n ≡ 0 = omega arith in
    set-append_right xs (r ∷ []) n i b refl (omega arith) ∙ ap (λ (z : ℕ). xs ++ set (r ∷ []) z b) zero_on

-- two lists of one length with the same elements
pub same_list : (xs ys : List ℕ) → length xs ≡ length ys → ((k : ℕ) → k < length xs → get_or xs k 0 ≡ get_or ys k 0) → xs ≡ ys
same_list [] [] e h = refl
same_list [] (y ∷ ys) e h = absurd (omega arith)
same_list (x ∷ xs) [] e h = absurd (omega arith)
same_list (x ∷ xs) (y ∷ ys) e h = let a : x ≡ y = h 0 (omega arith) in let b = same_list xs ys (omega arith) (λ k l. h (suc k) (omega arith)) in λ i. a i ∷ b i

pub apart : (places x y j k : ℕ) → x % places ≢ y % places → j < 5 → k < 5 → place places x j ≢ place places y k
apart places x y j k ne a b e = let m : ℕ = x % places in let n : ℕ = y % places in let e' : 32 + 5 * m + j ≡ 32 + 5 * n + k = e in let ne' : m ≢ n = ne in ne' (omega arith)

pub place_below : (places x k : ℕ) → 0 < places → k < 5 → place places x k < words_of_ring places
place_below places x k a b = let m : ℕ = x % places in let h : m < places = omega arith in omega arith

pub place_above : (places x k : ℕ) → 32 ≤ place places x k
place_above places x k = let m : ℕ = x % places in let h : 32 ≤ 32 + 5 * m + k = omega arith in h

-- the places of two lists before their last ones
module _ {X Y : Type 0} (P : ℕ → X → Y → Type 0) (xs : List X) (ys : List Y) (x : X) (y : Y) (i : ℕ) where
  seam : {Z : Type 0} (zs : List Z) (z d : Z) → length zs ≡ i → get_or (zs ++ z ∷ []) i d ≡ z
  seam zs z d l = subst (λ (j : ℕ). get_or (zs ++ z ∷ []) j d ≡ z) l (get_or-append_seam zs z [] d)

  pub each_more : length xs ≡ i → length ys ≡ i → ((k : ℕ) (c : X) (d : Y) → k < i → P k (get_or xs k c) (get_or ys k d)) → P i x y → (k : ℕ) (c : X) (d : Y) → k < i + 1 → P k (get_or (xs ++ x ∷ []) k c) (get_or (ys ++ y ∷ []) k d)
  each_more l m all new k c d below = dite (ℕ_discrete k i)
      (λ is. subst (λ (j : ℕ). P j (get_or (xs ++ x ∷ []) j c) (get_or (ys ++ y ∷ []) j d)) (sym is)
      (subst (λ (a : X). P i a (get_or (ys ++ y ∷ []) i d)) (sym (seam xs x c l)) (subst (P i x) (sym (seam ys y d m)) new)))
      (λ not.
      let kx : k < length xs = omega (arith, not, below, l) in
      let ky : k < length ys = omega (arith, not, below, m) in
      subst (λ (a : X). P k a (get_or (ys ++ y ∷ []) k d)) (sym (get_or-append xs (x ∷ []) c k kx)) (subst (P k (get_or xs k c)) (sym (get_or-append ys (y ∷ []) d k ky)) (all k c d (omega (arith, not, below)))))

-- two lists of one image, each with one element more
pub same_more : {A B Z : Type 0} (xs later : List A) (a : A) (ys after : List B) (b : B) → later ≡ xs ++ a ∷ [] → after ≡ ys ++ b ∷ [] → (f : A → Z) (h : B → Z) → map f xs ≡ map h ys → f a ≡ h b → map f later ≡ map h after
same_more {Z = Z} xs later a ys after b p q f h same new =
    ap (map f) p ∙ map-append f xs (a ∷ []) ∙ ap (λ (n : List Z). n ++ f a ∷ []) same ∙ ap (λ (n : Z). map h ys ++ n ∷ []) new ∙ sym (map-append h ys (b ∷ [])) ∙ sym (ap (map h) q)

-- where the images of two lists are the same, so are the images of those
pub same_images : {X W Z : Type 0} (f : X → W) (s : W → Z) (xs ys : List X) → map f ys ≡ map f xs → map (λ (x : X). s (f x)) ys ≡ map (λ (x : X). s (f x)) xs
same_images {X = X} {Z = Z} f s xs ys e = at ys ∙ ap (map s) e ∙ sym (at xs)
  where
    at : (zs : List X) → map (λ (x : X). s (f x)) zs ≡ map s (map f zs)
    at [] = refl
    at (z ∷ zs) = ap (λ (r : List Z). s (f z) ∷ r) (at zs)
