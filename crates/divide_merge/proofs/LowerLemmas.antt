-- The least and the greatest multiple of a monomial of one degree.
use Rattle.std.proofs.Common.{◌≡◌, ◌⊎◌, inl, inr, ℕ, zero, suc, ◌+◌, ◌-◌, ◌<◌, ◌≤◌, List, [], ◌∷◌, length, set, take, Option, Some, None, IfSome, refl, sym, ap, ◌∙◌, subst, arith, length-set}
use Rattle.std.proofs.Math.Seq.{take-set-lt}
use Rattle.std.specs.Option.{unwrap_or}
use Rattle.sdmp_laws.specs.Order.{Order, ◌⋅◌, degree, Divides, over, LexBelow, RevBelow, TieBelow, Below, zeros, compare}
use Rattle.sdmp_laws.specs.declared.Order.TheVariants as order
use Rattle.sdmp_laws.specs.Division.{AtOrAbove}
use Rattle.sdmp_laws.proofs.OrderLemmas.{order_facts, times_comm, degree_times, degree_zeros, zeros_from_degree}
use Rattle.sdmp_laws.proofs.LongLemmas.{over_times, length_over, below_degree}
use Rattle.sdmp_laws.proofs.NextTerm.{times_at}
use Rattle.divide_merge.specs.Lower.{power, IsLeastAbove}

-- the power of the last of the variables, said by recursion
last_power : ℕ → ℕ → List ℕ
last_power zero k = []
last_power (suc zero) k = k ∷ []
last_power (suc (suc n)) k = 0 ∷ last_power (suc n) k

last_at : (n k : ℕ) → set (zeros (suc n)) n k ≡ last_power (suc n) k
unfolding zeros last_power
last_at zero k = refl
last_at (suc n) k = ap (λ (v : List ℕ). 0 ∷ v) (last_at n k)

last_is : (n k : ℕ) → 0 < n → power n (n - 1) k ≡ last_power n k
last_is zero k l = absurd (omega arith)
last_is (suc n) k l = ap (λ (i : ℕ). set (zeros (suc n)) i k) (let e : suc n - 1 ≡ n = omega arith in e) ∙ last_at n k

first_is : (n k : ℕ) → power (suc n) 0 k ≡ k ∷ zeros n
unfolding zeros
first_is n k = refl

last_degree : (n k : ℕ) → degree (last_power (suc n) k) ≡ k
unfolding last_power degree
last_degree zero k = omega arith
last_degree (suc n) k = let d = last_degree n k in omega arith

-- ---- the least vector of a degree
lex_least : (n k : ℕ) (e : List ℕ) → length e ≡ suc n → degree e ≡ k → (last_power (suc n) k ≡ e) ⊎ LexBelow (last_power (suc n) k) e
unfolding last_power degree LexBelow
lex_least n k [] l d = absurd (omega arith)
lex_least zero k (x ∷ []) l d = inl (ap (λ (z : ℕ). z ∷ []) (omega arith))
lex_least zero k (x ∷ y ∷ es) l d = absurd (omega arith)
lex_least (suc n) k (zero ∷ es) l d = pick (lex_least n k es (omega arith) (omega arith))
  where
    pick : (last_power (suc n) k ≡ es) ⊎ LexBelow (last_power (suc n) k) es → (0 ∷ last_power (suc n) k ≡ 0 ∷ es) ⊎ ((0 < 0) ⊎ ((◌≡◌ {A = ℕ} 0 0) × LexBelow (last_power (suc n) k) es))
    pick (inl e) = inl (ap (λ (v : List ℕ). 0 ∷ v) e)
    pick (inr b) = inr (inr (refl, b))
lex_least (suc n) k (suc x ∷ es) l d = inr (inl (omega arith))

rev_least : (n k : ℕ) (e : List ℕ) → length e ≡ suc n → degree e ≤ k → (last_power (suc n) k ≡ e) ⊎ RevBelow (last_power (suc n) k) e
unfolding last_power degree RevBelow
rev_least n k [] l d = absurd (omega arith)
rev_least zero k (x ∷ []) l d = pick (grind arith)
  where
    pick : (x ≡ k) ⊎ (x < k) → (k ∷ [] ≡ x ∷ []) ⊎ (⊥ ⊎ ((◌≡◌ {A = List ℕ} [] []) × (x < k)))
    pick (inl e) = inl (ap (λ (z : ℕ). z ∷ []) (sym e))
    pick (inr b) = inr (inr (refl, b))
rev_least zero k (x ∷ y ∷ es) l d = absurd (omega arith)
rev_least (suc n) k (x ∷ es) l d = pick (rev_least n k es (omega arith) (omega arith))
  where
    pick : (last_power (suc n) k ≡ es) ⊎ RevBelow (last_power (suc n) k) es → (0 ∷ last_power (suc n) k ≡ x ∷ es) ⊎ (RevBelow (last_power (suc n) k) es ⊎ ((last_power (suc n) k ≡ es) × (x < 0)))
    pick (inl e) = let f = ap degree e ∙ refl in let g = last_degree n k in inl (λ i. (let z : 0 ≡ x = omega arith in z) i ∷ e i)
    pick (inr b) = inr (inl b)

-- ---- the greatest vector of a degree
rev_zeros : (e : List ℕ) → (e ≡ zeros (length e)) ⊎ RevBelow e (zeros (length e))
unfolding zeros RevBelow
rev_zeros [] = inl refl
rev_zeros (x ∷ es) = pick (rev_zeros es) (grind arith)
  where
    pick : (es ≡ zeros (length es)) ⊎ RevBelow es (zeros (length es)) → (x ≡ 0) ⊎ (0 < x) → (x ∷ es ≡ 0 ∷ zeros (length es)) ⊎ (RevBelow es (zeros (length es)) ⊎ ((es ≡ zeros (length es)) × (0 < x)))
    pick (inl e) (inl z) = inl (λ i. z i ∷ e i)
    pick (inl e) (inr l) = inr (inr (e, l))
    pick (inr b) o = inr (inl b)

no_degree : (k x : ℕ) (es : List ℕ) → x + degree es ≡ k → es ≡ zeros (length es) → x ≡ k
no_degree k x es d e = let z = ap degree e ∙ degree_zeros (length es) in omega arith

lex_greatest : (k x : ℕ) (es : List ℕ) → x + degree es ≡ k → (x ∷ es ≡ k ∷ zeros (length es)) ⊎ LexBelow (x ∷ es) (k ∷ zeros (length es))
unfolding LexBelow
lex_greatest k x es d = pick (grind arith)
  where
    pick : (x ≡ k) ⊎ (x < k) → (x ∷ es ≡ k ∷ zeros (length es)) ⊎ ((x < k) ⊎ ((x ≡ k) × LexBelow es (zeros (length es))))
    pick (inl e) = inl (λ i. e i ∷ zeros_from_degree es (let z : degree es ≡ 0 = omega arith in z) i)
    pick (inr b) = inr (inl b)

rev_greatest : (k x : ℕ) (es : List ℕ) → x + degree es ≡ k → (x ∷ es ≡ k ∷ zeros (length es)) ⊎ RevBelow (x ∷ es) (k ∷ zeros (length es))
unfolding RevBelow
rev_greatest k x es d = pick (rev_zeros es)
  where
    pick : (es ≡ zeros (length es)) ⊎ RevBelow es (zeros (length es)) → (x ∷ es ≡ k ∷ zeros (length es)) ⊎ (RevBelow es (zeros (length es)) ⊎ ((es ≡ zeros (length es)) × (k < x)))
    pick (inl e) = inl (λ i. no_degree k x es d e i ∷ e i)
    pick (inr b) = inr (inl b)

-- ---- in each order
least_power : (ord : Order) (n k : ℕ) (e : List ℕ) → length e ≡ suc n → degree e ≡ k → AtOrAbove ord (last_power (suc n) k) e
unfolding Below TieBelow
least_power order.Grlex n k e l d = pick (lex_least n k e l d)
  where
    pick : (last_power (suc n) k ≡ e) ⊎ LexBelow (last_power (suc n) k) e → AtOrAbove order.Grlex (last_power (suc n) k) e
    pick (inl f) = inl f
    pick (inr b) = inr (inr (last_degree n k ∙ sym d, b))
least_power order.Grevlex n k e l d = pick (rev_least n k e l (omega arith))
  where
    pick : (last_power (suc n) k ≡ e) ⊎ RevBelow (last_power (suc n) k) e → AtOrAbove order.Grevlex (last_power (suc n) k) e
    pick (inl f) = inl f
    pick (inr b) = inr (inr (last_degree n k ∙ sym d, b))

greatest_power : (ord : Order) (k : ℕ) (e : List ℕ) → 0 < length e → degree e ≡ k → AtOrAbove ord e (power (length e) 0 k)
unfolding Below TieBelow degree zeros
greatest_power ord k [] l d = absurd (omega arith)
greatest_power order.Grlex k (x ∷ es) l d = pick (lex_greatest k x es d)
  where
    pick : (x ∷ es ≡ k ∷ zeros (length es)) ⊎ LexBelow (x ∷ es) (k ∷ zeros (length es)) → AtOrAbove order.Grlex (x ∷ es) (k ∷ zeros (length es))
    pick (inl e) = inl e
    pick (inr b) = inr (inr ((let z = degree_zeros (length es) in omega arith), b))
greatest_power order.Grevlex k (x ∷ es) l d = pick (rev_greatest k x es d)
  where
    pick : (x ∷ es ≡ k ∷ zeros (length es)) ⊎ RevBelow (x ∷ es) (k ∷ zeros (length es)) → AtOrAbove order.Grevlex (x ∷ es) (k ∷ zeros (length es))
    pick (inl e) = inl e
    pick (inr b) = inr (inr ((let z = degree_zeros (length es) in omega arith), b))

-- ---- multiples
-- what a multiple has more
quotient_of : (l m : List ℕ) → Divides l m → (over m l ⋅ l ≡ m) × (length (over m l) ≡ length m) × (degree (over m l) + degree l ≡ degree m)
quotient_of l m d =
    let e = over_times m l d in
    (e, length_over m l d, sym (degree_times (over m l) l) ∙ ap degree e)

at_degree : (ord : Order) (a b : List ℕ) → AtOrAbove ord a b → degree a ≤ degree b
at_degree ord a b (inl e) = let d = ap degree e in omega arith
at_degree ord a b (inr k) = below_degree ord a b k

at_back : (ord : Order) (a b c : List ℕ) → AtOrAbove ord a b → Below ord b c → AtOrAbove ord c a → ⊥
at_back ord a b c (inl e) k (inl f) = (order_facts ord).irreflexive a (subst (Below ord a) f (subst (λ (v : List ℕ). Below ord v c) (sym e) k))
at_back ord a b c (inl e) k (inr g) = (order_facts ord).irreflexive a ((order_facts ord).transitive a c a (subst (λ (v : List ℕ). Below ord v c) (sym e) k) g)
at_back ord a b c (inr j) k (inl f) = (order_facts ord).irreflexive a ((order_facts ord).transitive a b a j (subst (Below ord b) f k))
at_back ord a b c (inr j) k (inr g) = (order_facts ord).irreflexive a ((order_facts ord).transitive a b a j ((order_facts ord).transitive b c a k g))

power_degree : (n k : ℕ) → 0 < n → degree (power n 0 k) ≡ k
unfolding zeros degree
power_degree zero k l = absurd (omega arith)
power_degree (suc n) k l = let z = degree_zeros n in omega arith

long_power : (n i k : ℕ) → length (power n i k) ≡ n
unfolding zeros
long_power n i k = length-set (zeros n) i k ∙ long_zeros n
  where
    long_zeros : (n : ℕ) → length (zeros n) ≡ n
    long_zeros zero = refl
    long_zeros (suc n) = ap suc (long_zeros n)

-- where the least multiple of its degree is above b, a multiple at b or below has less degree
lower_degree : (ord : Order) (n k : ℕ) (l b m : List ℕ) → length m ≡ n → degree b ≡ degree l + k → IsLeastAbove ord n l b k → Divides l m → AtOrAbove ord m b → degree m < degree b
lower_degree ord n k l b m long db h d at = pick (grind (arith, at_degree ord m b at))
  where
    q : (over m l ⋅ l ≡ m) × (length (over m l) ≡ length m) × (degree (over m l) + degree l ≡ degree m)
    q = quotient_of l m d

    least : (n : ℕ) → 0 < n → length (over m l) ≡ n → degree (over m l) ≡ k → AtOrAbove ord (power n (n - 1) k) (over m l)
    least zero some long d = absurd (omega arith)
    least (suc n) some long d = subst (λ (v : List ℕ). AtOrAbove ord v (over m l)) (sym (last_is (suc n) k some)) (least_power ord n k (over m l) long d)

    above : degree m ≡ degree b → AtOrAbove ord (l ⋅ power n (n - 1) k) m
    above e =
        subst (AtOrAbove ord (l ⋅ power n (n - 1) k)) q.0
        (subst (λ (v : List ℕ). AtOrAbove ord v (over m l ⋅ l)) (times_comm (power n (n - 1) k) l)
        (times_at ord (power n (n - 1) k) (over m l) l (long_power n (n - 1) k ∙ sym (q.1 ∙ long)) (least n h.some (q.1 ∙ long) (let f = q.2 in omega arith))))

    pick : (degree m ≡ degree b) ⊎ (degree m < degree b) → degree m < degree b
    pick (inl e) = absurd (at_back ord m b (l ⋅ power n (n - 1) k) at h.above (above e))
    pick (inr l) = l

-- ---- the three ways to lower a bound
-- no multiple is there: 1 serves
pub one_below : (ord : Order) (n : ℕ) (b : List ℕ) → length b ≡ n → AtOrAbove ord (zeros n) b
one_below ord n b e = pick ((order_facts ord).zeros_least b)
  where
    pick : (b ≡ zeros (length b)) ⊎ Below ord (zeros (length b)) b → AtOrAbove ord (zeros n) b
    pick (inl f) = inl (ap zeros (sym e) ∙ sym f)
    pick (inr k) = inr (subst (λ (i : ℕ). Below ord (zeros i) b) e k)

pub none_small : (ord : Order) (l b m : List ℕ) → degree b < degree l → Divides l m → AtOrAbove ord m b → ⊥
none_small ord l b m small d at = let q = (quotient_of l m d).2 in let e = at_degree ord m b at in omega arith

pub none_least : (ord : Order) (n : ℕ) (l b m : List ℕ) → length m ≡ n → degree b ≡ degree l → IsLeastAbove ord n l b 0 → Divides l m → AtOrAbove ord m b → ⊥
none_least ord n l b m long db h d at = let k = lower_degree ord n 0 l b m long (omega arith) h d at in let q = (quotient_of l m d).2 in omega arith

-- the greatest multiple of the next lower degree
pub next_below : (ord : Order) (n k : ℕ) (l b : List ℕ) → 0 < n → length l ≡ n → degree b ≡ degree l + suc k → AtOrAbove ord (l ⋅ power n 0 k) b
next_below ord n k l b some long db = inr ((order_facts ord).degree_first (l ⋅ power n 0 k) b (let d = degree_times l (power n 0 k) in let p = power_degree n k some in omega arith))

pub next_multiples : (ord : Order) (n k : ℕ) (l b m : List ℕ) → length l ≡ n → length m ≡ n → degree b ≡ degree l + suc k → IsLeastAbove ord n l b (suc k) → Divides l m → AtOrAbove ord m b → AtOrAbove ord m (l ⋅ power n 0 k)
next_multiples ord n k l b m ll long db h d at = pick (grind (arith, lower_degree ord n (suc k) l b m long db h d at))
  where
    q : (over m l ⋅ l ≡ m) × (length (over m l) ≡ length m) × (degree (over m l) + degree l ≡ degree m)
    q = quotient_of l m d

    here : degree m ≡ degree l + k → AtOrAbove ord m (l ⋅ power n 0 k)
    here e =
        subst (λ (v : List ℕ). AtOrAbove ord v (l ⋅ power n 0 k)) q.0
        (subst (AtOrAbove ord (over m l ⋅ l)) (times_comm (power n 0 k) l)
        (times_at ord (over m l) (power n 0 k) l (q.1 ∙ long ∙ sym (long_power n 0 k))
        (subst (λ (i : ℕ). AtOrAbove ord (over m l) (power i 0 k)) (q.1 ∙ long) (greatest_power ord k (over m l) (let a = q.1 in let s = h.some in omega arith) (let f = q.2 in omega arith)))))

    pick : (degree m ≡ degree l + k) ⊎ (degree m < degree l + k) → AtOrAbove ord m (l ⋅ power n 0 k)
    pick (inl e) = here e
    pick (inr less) = inr ((order_facts ord).degree_first m (l ⋅ power n 0 k) (let f = degree_times l (power n 0 k) in let p = power_degree n k h.some in omega arith))

-- ---- as monomials compare
-- what holds of a value and of the default holds of the one that is taken
pub either : {A : Type 0} (P : A → Type 0) (o : Option A) (d r : A) → r ≡ unwrap_or o d → IfSome o P → P d → P r
either P None d r e some none = subst P (sym e) none
either P (Some x) d r e some none = subst P (sym e) some

pub when_some : {A : Type 0} (P Q : A → Type 0) (o : Option A) → ((x : A) → P x → Q x) → IfSome o P → IfSome o Q
when_some P Q None f h = tt
when_some P Q (Some x) f h = f x h

-- ---- a power, as an array spells it
take_zeros : (n m : ℕ) → n ≤ m → take n (zeros m) ≡ zeros n
unfolding zeros
take_zeros zero m l = refl
take_zeros (suc n) zero l = absurd (omega arith)
take_zeros (suc n) (suc m) l = ap (λ (v : List ℕ). 0 ∷ v) (take_zeros n m (omega arith))

pub spelled_power : (n i k : ℕ) → i < n → n ≤ 15 → take n (set (0 ∷ 0 ∷ 0 ∷ 0 ∷ 0 ∷ 0 ∷ 0 ∷ 0 ∷ 0 ∷ 0 ∷ 0 ∷ 0 ∷ 0 ∷ 0 ∷ 0 ∷ []) i k) ≡ power n i k
unfolding zeros
spelled_power n i k b l = take-set-lt n (zeros 15) i k b ∙ ap (λ (v : List ℕ). set v i k) (take_zeros n 15 l)
