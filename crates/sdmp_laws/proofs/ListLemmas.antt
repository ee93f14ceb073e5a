-- What lists of terms keep: their parts, a worker's places of them, and the rows of their products.
use Rattle.std.proofs.Common.{◌≡◌, ℕ, suc, ◌+◌, ◌*◌, ◌%◌, ◌<◌, ◌≤◌, Bool, true, false, cond, List, [], ◌∷◌, ◌++◌, length, refl, ap, ◌∙◌, arith, All, eqb, eq-eqb, mod-lt, length-append}
use Rattle.std.proofs.lemmas.List.Elements.{All-nil, All-cons, All-head, All-tail}
use Rattle.sdmp_laws.specs.Order.{Order, Below, degree}
use Rattle.sdmp_laws.specs.Poly.{Term, row, times, norm, every, Over, AllBelow, Decreasing, AllDegrees}
use Rattle.sdmp_laws.proofs.Parts.{norm_cons}

-- ---- parts of a list
module _ {X : Type 0} (P : X → Type 0) where
  pub All-front : (xs ys : List X) → All P (xs ++ ys) → All P xs
  All-front [] ys h = All-nil P
  All-front (x ∷ xs) ys h = All-cons P x xs (All-head P x (xs ++ ys) h) (All-front xs ys (All-tail P x (xs ++ ys) h))

  pub All-back : (xs ys : List X) → All P (xs ++ ys) → All P ys
  All-back [] ys h = h
  All-back (x ∷ xs) ys h = All-back xs ys (All-tail P x (xs ++ ys) h)

pub AllBelow-front : (ord : Order) (m : List ℕ) (A B : List Term) → AllBelow ord m (A ++ B) → AllBelow ord m A
unfolding AllBelow
AllBelow-front ord m [] B h = tt
AllBelow-front ord m (t ∷ A) B h = (h.0, AllBelow-front ord m A B h.1)

pub AllBelow-back : (ord : Order) (m : List ℕ) (A B : List Term) → AllBelow ord m (A ++ B) → AllBelow ord m B
unfolding AllBelow
AllBelow-back ord m [] B h = h
AllBelow-back ord m (t ∷ A) B h = AllBelow-back ord m A B h.1

-- ---- the same, said of each element
pub each_below : (ord : Order) (m : List ℕ) (A : List Term) → AllBelow ord m A → All (λ t. Below ord t.monomial m) A
unfolding AllBelow
each_below ord m [] h = All-nil _
each_below ord m (t ∷ A) h = All-cons (λ (u : Term). Below ord u.monomial m) t A h.0 (each_below ord m A h.1)

pub below_each : (ord : Order) (m : List ℕ) (A : List Term) → All (λ t. Below ord t.monomial m) A → AllBelow ord m A
unfolding AllBelow
below_each ord m [] h = tt
below_each ord m (t ∷ A) h = (All-head (λ (u : Term). Below ord u.monomial m) t A h, below_each ord m A (All-tail (λ (u : Term). Below ord u.monomial m) t A h))

pub each_degree : (D : ℕ) (A : List Term) → AllDegrees D A → All (λ t. degree t.monomial ≤ D) A
unfolding AllDegrees
each_degree D [] h = All-nil _
each_degree D (t ∷ A) h = All-cons (λ (u : Term). degree u.monomial ≤ D) t A h.0 (each_degree D A h.1)

pub degrees_each : (D : ℕ) (A : List Term) → All (λ t. degree t.monomial ≤ D) A → AllDegrees D A
unfolding AllDegrees
degrees_each D [] h = tt
degrees_each D (t ∷ A) h = (All-head (λ (u : Term). degree u.monomial ≤ D) t A h, degrees_each D A (All-tail (λ (u : Term). degree u.monomial ≤ D) t A h))

pub vectors_each : (n : ℕ) (A : List Term) → Over n A → All (λ t. length t.monomial ≡ n) A
unfolding Over
vectors_each n [] o = All-nil _
vectors_each n (t ∷ A) o = All-cons (λ (u : Term). length u.monomial ≡ n) t A o.0 (vectors_each n A o.1)

pub AllDegrees-up : (D E : ℕ) (A : List Term) → D ≤ E → AllDegrees D A → AllDegrees E A
unfolding AllDegrees
AllDegrees-up D E [] l h = tt
AllDegrees-up D E (t ∷ A) l h = (omega (arith, l, h.0), AllDegrees-up D E A l h.1)

-- ---- rows and products
pub length-row : (s : Term) (B : List Term) → length (row s B) ≡ length B
unfolding row
length-row s [] = refl
length-row s (t ∷ B) = ap suc (length-row s B)

pub length-times : (A B : List Term) → length (times A B) ≡ length A * length B
unfolding times
length-times [] B = omega arith
length-times (s ∷ A) B = omega (arith, length-append (row s B) (times A B), length-row s B, length-times A B)

-- ---- the terms at a worker's places
pub every_one : (i : ℕ) (A : List Term) → every 1 0 i A ≡ A
unfolding every
every_one i [] = refl
every_one i (t ∷ A) =
    let z : i % 1 ≡ 0 = omega (arith, mod-lt i (let o : 0 < 1 = omega arith in o)) in
    ap (λ (b : Bool). cond b (t ∷ every 1 0 (suc i) A) (every 1 0 (suc i) A)) (eq-eqb (i % 1) 0 z) ∙ ap (λ (L : List Term). t ∷ L) (every_one (suc i) A)

pub Over-every : (n W w i : ℕ) (A : List Term) → Over n A → Over n (every W w i A)
unfolding every Over
Over-every n W w i [] h = tt
Over-every n W w i (t ∷ A) h = pick (eqb (i % W) w) (Over-every n W w (suc i) A h.1)
  where
    pick : (b : Bool) → Over n (every W w (suc i) A) → Over n (cond b (t ∷ every W w (suc i) A) (every W w (suc i) A))
    pick true r = (h.0, r)
    pick false r = r

pub AllBelow-every : (ord : Order) (m : List ℕ) (W w i : ℕ) (A : List Term) → AllBelow ord m A → AllBelow ord m (every W w i A)
unfolding every AllBelow
AllBelow-every ord m W w i [] h = tt
AllBelow-every ord m W w i (t ∷ A) h = pick (eqb (i % W) w) (AllBelow-every ord m W w (suc i) A h.1)
  where
    pick : (b : Bool) → AllBelow ord m (every W w (suc i) A) → AllBelow ord m (cond b (t ∷ every W w (suc i) A) (every W w (suc i) A))
    pick true r = (h.0, r)
    pick false r = r

pub Decreasing-every : (ord : Order) (W w i : ℕ) (A : List Term) → Decreasing ord A → Decreasing ord (every W w i A)
unfolding every Decreasing
Decreasing-every ord W w i [] h = tt
Decreasing-every ord W w i (t ∷ A) h = pick (eqb (i % W) w) (Decreasing-every ord W w (suc i) A h.1)
  where
    pick : (b : Bool) → Decreasing ord (every W w (suc i) A) → Decreasing ord (cond b (t ∷ every W w (suc i) A) (every W w (suc i) A))
    pick true r = (AllBelow-every ord t.monomial W w (suc i) A h.0, r)
    pick false r = r

pub AllDegrees-every : (D W w i : ℕ) (A : List Term) → AllDegrees D A → AllDegrees D (every W w i A)
unfolding every AllDegrees
AllDegrees-every D W w i [] h = tt
AllDegrees-every D W w i (t ∷ A) h = pick (eqb (i % W) w) (AllDegrees-every D W w (suc i) A h.1)
  where
    pick : (b : Bool) → AllDegrees D (every W w (suc i) A) → AllDegrees D (cond b (t ∷ every W w (suc i) A) (every W w (suc i) A))
    pick true r = (h.0, r)
    pick false r = r

pub norm-every-le : (W w i : ℕ) (A : List Term) → norm (every W w i A) ≤ norm A
unfolding every
norm-every-le W w i [] = omega arith
norm-every-le W w i (t ∷ A) = pick (eqb (i % W) w) (norm-every-le W w (suc i) A)
  where
    pick : (b : Bool) → norm (every W w (suc i) A) ≤ norm A → norm (cond b (t ∷ every W w (suc i) A) (every W w (suc i) A)) ≤ norm (t ∷ A)
    pick true r = omega (arith, r, norm_cons t A, norm_cons t (every W w (suc i) A))
    pick false r = omega (arith, r, norm_cons t A)
