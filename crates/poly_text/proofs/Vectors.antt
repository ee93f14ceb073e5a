-- The exponents that were added up are those of the term, and their sum is its degree, as far as the cap.
use Rattle.std.proofs.Common.{◌≡◌, ◌≤◌, ◌+◌, ℕ, zero, suc, Bool, true, false, min, cond, List, [], ◌∷◌, length, Some, None, refl, sym, ◌∙◌, ap, arith}
use Rattle.sdmp_laws.specs.Order.{degree, zeros}
use Rattle.text_laws.specs.Canonical.{AreNames}
use Rattle.text_laws.specs.Summands.{Written, same_name, is_known, unknown_in, written_degree, exponent_at, vector_of}
use Rattle.text_laws.proofs.Printed.{same_is, skip_vector}
use Rattle.poly_text.specs.Exponents.{top, added, all_added}

-- each number leaves room for the degree
abbrev Room : ℕ → List ℕ → Type 0
Room d [] = Unit {0}
Room d (x ∷ xs) = (x + d ≤ top) × Room d xs

abbrev plus : List ℕ → List ℕ → List ℕ
plus [] ys = []
plus (x ∷ xs) [] = x ∷ xs
plus (x ∷ xs) (y ∷ ys) = (x + y) ∷ plus xs ys

plus_none : (ns : List (List ℕ)) (xs : List ℕ) → plus xs (vector_of ns []) ≡ xs
plus_none [] [] = refl
plus_none [] (x ∷ xs) = refl
plus_none (n ∷ ns) [] = refl
plus_none (n ∷ ns) (x ∷ xs) = let z : x + 0 ≡ x = omega arith in (λ i. z i ∷ plus_none ns xs i)

step : (ns : List (List ℕ)) (w : Written) (ws : List Written) (xs : List ℕ) (d : ℕ) → AreNames ns → length ns ≡ length xs → Room (w.exponent + d) xs
    → plus (added ns w.name (min w.exponent top) xs) (vector_of ns ws) ≡ plus xs (vector_of ns (w ∷ ws))
step [] w ws [] d a l h = refl
step [] w ws (x ∷ xs) d a l h = refl
step (n ∷ ns) w ws [] d a l h = refl
step (n ∷ ns) w ws (x ∷ xs) d a l h = by (same_name n w.name) (same_is n w.name) (step ns w ws xs d a.2 (omega (arith, l)) h.1)
  where
    r : ℕ
    r = exponent_at n ws

    by : (b : Bool) → (b ≡ true → n ≡ w.name) → plus (added ns w.name (min w.exponent top) xs) (vector_of ns ws) ≡ plus xs (vector_of ns (w ∷ ws))
        → plus (cond b (min (x + min w.exponent top) top ∷ xs) (x ∷ added ns w.name (min w.exponent top) xs)) (r ∷ vector_of ns ws) ≡ (x + (cond b w.exponent 0 + r)) ∷ plus xs (vector_of ns (w ∷ ws))
    by true s k =
        let here : min (x + min w.exponent top) top + r ≡ x + (w.exponent + r) = omega (arith, h.0) in
        let rest : plus xs (vector_of ns ws) ≡ plus xs (vector_of ns (w ∷ ws)) = ap (plus xs) (sym (skip_vector n w ns ws (sym (s refl)) a.1)) in
        (λ i. here i ∷ rest i)
    by false s k =
        let here : x + r ≡ x + (0 + r) = omega arith in
        (λ i. here i ∷ k i)

room_less : (d e : ℕ) (xs : List ℕ) → Room (e + d) xs → Room d xs
room_less d e [] h = tt
room_less d e (x ∷ xs) h = (omega (arith, h.0), room_less d e xs h.1)

room_step : (ns : List (List ℕ)) (w : Written) (xs : List ℕ) (d : ℕ) → Room (w.exponent + d) xs → Room d (added ns w.name (min w.exponent top) xs)
room_step [] w xs d h = room_less d w.exponent xs h
room_step (n ∷ ns) w [] d h = tt
room_step (n ∷ ns) w (x ∷ xs) d h = by (same_name n w.name) (room_step ns w xs d h.1)
  where
    by : (b : Bool) → Room d (added ns w.name (min w.exponent top) xs) → Room d (cond b (min (x + min w.exponent top) top ∷ xs) (x ∷ added ns w.name (min w.exponent top) xs))
    by true r = (omega (arith, h.0), room_less d w.exponent xs h.1)
    by false r = (omega (arith, h.0), r)

added_long : (ns : List (List ℕ)) (name : List ℕ) (e : ℕ) (xs : List ℕ) → length ns ≡ length xs → length ns ≡ length (added ns name e xs)
added_long [] name e xs l = l
added_long (n ∷ ns) name e [] l = l
added_long (n ∷ ns) name e (x ∷ xs) l = by (same_name n name) (added_long ns name e xs (omega (arith, l)))
  where
    by : (b : Bool) → length ns ≡ length (added ns name e xs) → length (n ∷ ns) ≡ length (cond b (min (x + e) top ∷ xs) (x ∷ added ns name e xs))
    by true k = l
    by false k = ap suc k

sums : (ws : List Written) (ns : List (List ℕ)) (xs : List ℕ) → AreNames ns → length ns ≡ length xs → Room (written_degree ws) xs → all_added ns ws xs ≡ plus xs (vector_of ns ws)
sums [] ns xs a l h = sym (plus_none ns xs)
sums (w ∷ ws) ns xs a l h =
    sums ws ns (added ns w.name (min w.exponent top) xs) a (added_long ns w.name (min w.exponent top) xs l) (room_step ns w xs (written_degree ws) h) ∙ step ns w ws xs (written_degree ws) a l h

room_zeros : (n d : ℕ) → d ≤ top → Room d (zeros n)
unfolding zeros
room_zeros zero d h = tt
room_zeros (suc n) d h = (omega (arith, h), room_zeros n d h)

pub zeros_long : (n : ℕ) → length (zeros n) ≡ n
unfolding zeros
zeros_long zero = refl
zeros_long (suc n) = ap suc (zeros_long n)

plus_zeros : (ns : List (List ℕ)) (ws : List Written) → plus (zeros (length ns)) (vector_of ns ws) ≡ vector_of ns ws
unfolding zeros
plus_zeros [] ws = refl
plus_zeros (n ∷ ns) ws = let z : 0 + exponent_at n ws ≡ exponent_at n ws = omega arith in (λ i. z i ∷ plus_zeros ns ws i)

-- where the degree is no more than the cap, the powers added to zeros are the term's exponents
pub exponents_add_up : (names : List (List ℕ)) (ws : List Written) → AreNames names → written_degree ws ≤ top → all_added names ws (zeros (length names)) ≡ vector_of names ws
exponents_add_up names ws a h = sums ws names (zeros (length names)) a (sym (zeros_long (length names))) (room_zeros (length names) (written_degree ws) h) ∙ plus_zeros names ws

-- ---- degrees
one_degree : (ns : List (List ℕ)) (name : List ℕ) (e : ℕ) (xs : List ℕ) → length ns ≡ length xs → is_known ns name ≡ true → min (degree (added ns name (min e top) xs)) top ≡ min (degree xs + e) top
unfolding degree
one_degree [] name e xs l k = cc
one_degree (n ∷ ns) name e [] l k = absurd (omega (arith, l))
one_degree (n ∷ ns) name e (x ∷ xs) l k = by (same_name n name) k (one_degree ns name e xs (omega (arith, l)))
  where
    by : (b : Bool) → cond b true (is_known ns name) ≡ true → (is_known ns name ≡ true → min (degree (added ns name (min e top) xs)) top ≡ min (degree xs + e) top)
        → min (degree (cond b (min (x + min e top) top ∷ xs) (x ∷ added ns name (min e top) xs))) top ≡ min (x + degree xs + e) top
    by true k r = omega arith
    by false k r = let q = r k in omega (arith, q)

known_first : (names : List (List ℕ)) (w : Written) (ws : List Written) → unknown_in names (w ∷ ws) ≡ None → (is_known names w.name ≡ true) × (unknown_in names ws ≡ None)
known_first names w ws e = by (is_known names w.name) refl e
  where
    some_none : (n : ℕ) → Some n ≡ None → ⊥
    some_none n e = cc

    by : (b : Bool) → is_known names w.name ≡ b → cond b (unknown_in names ws) (Some w.at) ≡ None → (is_known names w.name ≡ true) × (unknown_in names ws ≡ None)
    by true h e = (h, e)
    by false h e = absurd (some_none w.at e)

all_degrees : (names : List (List ℕ)) (ws : List Written) (xs : List ℕ) → length names ≡ length xs → unknown_in names ws ≡ None → min (degree (all_added names ws xs)) top ≡ min (degree xs + written_degree ws) top
all_degrees names [] xs l u = ap (λ n. min n top) (omega arith)
all_degrees names (w ∷ ws) xs l u =
    let k = known_first names w ws u in
    let a = one_degree names w.name w.exponent xs l k.0 in
    let b = all_degrees names ws (added names w.name (min w.exponent top) xs) (added_long names w.name (min w.exponent top) xs l) k.1 in
    omega (arith, a, b)

degree_zeros : (n : ℕ) → degree (zeros n) ≡ 0
unfolding degree zeros
degree_zeros zero = refl
degree_zeros (suc n) = omega (arith, degree_zeros n)

-- where each name is known, the exponents' sum is the written degree, up to the cap
pub degree_is : (names : List (List ℕ)) (ws : List Written) → unknown_in names ws ≡ None → min (degree (all_added names ws (zeros (length names)))) top ≡ min (written_degree ws) top
degree_is names ws u =
    let z : degree (zeros (length names)) + written_degree ws ≡ written_degree ws = omega (arith, degree_zeros (length names)) in
    all_degrees names ws (zeros (length names)) (sym (zeros_long (length names))) u ∙ ap (λ n. min n top) z
