-- An exponent added at the variable of a name.
use Rattle.std.proofs.Common.{◌≡◌, ◌<◌, ◌≤◌, ◌+◌, ℕ, true, false, min, cond, List, [], ◌∷◌, ◌++◌, length, take, drop, set, get_or, sym, ◌∙◌, ap, append_assoc, append-nil, add-one, arith}
use Rattle.std.proofs.lemmas.List.{drop_more, drop_all, take_more, take_all, set_split}
use Rattle.text_laws.specs.Summands.{same_name, is_known}
use Rattle.poly_text.specs.Exponents.{added, top}

-- the name at hand is another
pub known_later : (ns : List (List ℕ)) (i : ℕ) (name : List ℕ) → i < length ns → same_name (get_or ns i []) name ≡ false → is_known (drop (i + 1) ns) name ≡ is_known (drop i ns) name
known_later ns i name h e = sym (ap (λ l. is_known l name) (drop_more ns i [] h) ∙ ap (λ b. cond b true (is_known (drop (i + 1) ns) name)) e)

pub added_later : (ns : List (List ℕ)) (xs : List ℕ) (i e : ℕ) (name : List ℕ) → i < length xs → length ns ≡ length xs → same_name (get_or ns i []) name ≡ false
    → take (i + 1) xs ++ added (drop (i + 1) ns) name e (drop (i + 1) xs) ≡ take i xs ++ added (drop i ns) name e (drop i xs)
added_later ns xs i e name h l f =
    let rest : List ℕ = added (drop (i + 1) ns) name e (drop (i + 1) xs) in
    ap (λ z. z ++ rest) (take_more xs i 0 h) ∙ append_assoc (take i xs) (get_or xs i 0 ∷ []) rest
    ∙ ap (λ z. take i xs ++ z) (sym (
    (λ j. added (drop_more ns i [] (omega (arith, h, l)) j) name e (drop_more xs i 0 h j))
    ∙ ap (λ b. cond b (min (get_or xs i 0 + e) top ∷ drop (i + 1) xs) (get_or xs i 0 ∷ rest)) f
    ))

-- it is the one
pub known_here : (ns : List (List ℕ)) (i : ℕ) (name : List ℕ) → i < length ns → same_name (get_or ns i []) name ≡ true → is_known (drop i ns) name ≡ true
known_here ns i name h e = ap (λ l. is_known l name) (drop_more ns i [] h) ∙ ap (λ b. cond b true (is_known (drop (i + 1) ns) name)) e

pub added_here : (ns : List (List ℕ)) (xs : List ℕ) (i e : ℕ) (name : List ℕ) → i < length xs → length ns ≡ length xs → same_name (get_or ns i []) name ≡ true
    → set xs i (min (get_or xs i 0 + e) top) ≡ take i xs ++ added (drop i ns) name e (drop i xs)
added_here ns xs i e name h l f =
    set_split xs i (min (get_or xs i 0 + e) top) h ∙ ap (λ k. take i xs ++ min (get_or xs i 0 + e) top ∷ drop k xs) (sym (add-one i))
    ∙ ap (λ z. take i xs ++ z) (sym (
    (λ j. added (drop_more ns i [] (omega (arith, h, l)) j) name e (drop_more xs i 0 h j))
    ∙ ap (λ b. cond b (min (get_or xs i 0 + e) top ∷ drop (i + 1) xs) (get_or xs i 0 ∷ added (drop (i + 1) ns) name e (drop (i + 1) xs))) f
    ))

-- none is left
pub known_none : (ns : List (List ℕ)) (i : ℕ) (name : List ℕ) → length ns ≤ i → is_known (drop i ns) name ≡ false
known_none ns i name h = ap (λ l. is_known l name) (drop_all i ns h)

pub added_none : (ns : List (List ℕ)) (xs : List ℕ) (i e : ℕ) (name : List ℕ) → length ns ≤ i → length ns ≡ length xs → take i xs ++ added (drop i ns) name e (drop i xs) ≡ xs
added_none ns xs i e name h l =
    let k : length xs ≤ i = omega (arith, h, l) in
    (λ j. take_all i xs k j ++ added (drop_all i ns h j) name e (drop_all i xs k j)) ∙ append-nil xs
