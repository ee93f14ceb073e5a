-- The powers of a term, written one after the other.
use Rattle.std.proofs.Common.{◌≡◌, ◌<◌, ◌≤◌, ◌+◌, ℕ, Bool, true, false, eqb, cond, List, [], ◌∷◌, ◌++◌, length, drop, get_or, refl, sym, ◌∙◌, ap, append_assoc, append-nil, arith}
use Rattle.std.proofs.lemmas.List.{drop_more, drop_all}
use Rattle.text_laws.specs.Canonical.{power_text, power_texts, starred, behind_stars}
use Rattle.poly_text.specs.Printed.{joined}

here : (ns : List (List ℕ)) (es : List ℕ) (i : ℕ) → i < length es → length ns ≡ length es → power_texts (drop i ns) (drop i es) ≡ power_texts (get_or ns i [] ∷ drop (i + 1) ns) (get_or es i 0 ∷ drop (i + 1) es)
here ns es i h l = let g : i < length ns = omega arith in (λ j. power_texts (drop_more ns i [] g j) (drop_more es i 0 h j))

-- no power where the exponent is 0
pub skips : (b : Bool) (ns : List (List ℕ)) (es : List ℕ) (i : ℕ) → i < length es → length ns ≡ length es → eqb (get_or es i 0) 0 ≡ true → joined b (power_texts (drop i ns) (drop i es)) ≡ joined b (power_texts (drop (i + 1) ns) (drop (i + 1) es))
skips b ns es i h l z = ap (joined b) (here ns es i h l ∙ ap (λ c. cond c (power_texts (drop (i + 1) ns) (drop (i + 1) es)) (power_text (get_or ns i []) (get_or es i 0) ∷ power_texts (drop (i + 1) ns) (drop (i + 1) es))) z)

taken : (ns : List (List ℕ)) (es : List ℕ) (i : ℕ) → i < length es → length ns ≡ length es → eqb (get_or es i 0) 0 ≡ false → power_texts (drop i ns) (drop i es) ≡ power_text (get_or ns i []) (get_or es i 0) ∷ power_texts (drop (i + 1) ns) (drop (i + 1) es)
taken ns es i h l z = here ns es i h l ∙ ap (λ c. cond c (power_texts (drop (i + 1) ns) (drop (i + 1) es)) (power_text (get_or ns i []) (get_or es i 0) ∷ power_texts (drop (i + 1) ns) (drop (i + 1) es))) z

-- a power, behind a * where something stands before
pub writes_first : (ns : List (List ℕ)) (es : List ℕ) (i : ℕ) (out : List ℕ) → i < length es → length ns ≡ length es → eqb (get_or es i 0) 0 ≡ false
    → (out ++ power_text (get_or ns i []) (get_or es i 0)) ++ joined true (power_texts (drop (i + 1) ns) (drop (i + 1) es)) ≡ out ++ joined false (power_texts (drop i ns) (drop i es))
writes_first ns es i out h l z = append_assoc out (power_text (get_or ns i []) (get_or es i 0)) (behind_stars (power_texts (drop (i + 1) ns) (drop (i + 1) es)))
    ∙ ap (λ r. out ++ starred r) (sym (taken ns es i h l z))

pub writes_later : (ns : List (List ℕ)) (es : List ℕ) (i : ℕ) (out : List ℕ) → i < length es → length ns ≡ length es → eqb (get_or es i 0) 0 ≡ false
    → ((out ++ 42 ∷ []) ++ power_text (get_or ns i []) (get_or es i 0)) ++ joined true (power_texts (drop (i + 1) ns) (drop (i + 1) es)) ≡ out ++ joined true (power_texts (drop i ns) (drop i es))
writes_later ns es i out h l z = append_assoc (out ++ 42 ∷ []) (power_text (get_or ns i []) (get_or es i 0)) (behind_stars (power_texts (drop (i + 1) ns) (drop (i + 1) es)))
    ∙ append_assoc out (42 ∷ []) (power_text (get_or ns i []) (get_or es i 0) ++ behind_stars (power_texts (drop (i + 1) ns) (drop (i + 1) es)))
    ∙ ap (λ r. out ++ behind_stars r) (sym (taken ns es i h l z))

-- nothing is left
pub writes_none : (b : Bool) (ns : List (List ℕ)) (es : List ℕ) (i : ℕ) (out : List ℕ) → length es ≤ i → length ns ≡ length es → out ++ joined b (power_texts (drop i ns) (drop i es)) ≡ out
writes_none b ns es i out h l = let g : length ns ≤ i = omega arith in ap (λ r. out ++ r) ((λ j. joined b (power_texts (drop_all i ns g j) (drop i es))) ∙ none b) ∙ append-nil out
  where
    none : (b : Bool) → joined b [] ≡ []
    none true = refl
    none false = refl

-- the step of the loop over the variables
pub writes : (b : Bool) (ns : List (List ℕ)) (es : List ℕ) (i : ℕ) (out mid new name total : List ℕ) → i < length es → length ns ≡ length es → eqb (get_or es i 0) 0 ≡ false
    → name ≡ get_or ns i [] → mid ≡ cond b (out ++ 42 ∷ []) out → new ≡ mid ++ power_text name (get_or es i 0)
    → out ++ joined b (power_texts (drop i ns) (drop i es)) ≡ total → new ++ behind_stars (power_texts (drop (i + 1) ns) (drop (i + 1) es)) ≡ total
writes true ns es i out mid new name total h l z n m w t =
    (λ j. w j ++ behind_stars (power_texts (drop (i + 1) ns) (drop (i + 1) es))) ∙ (λ j. (m j ++ power_text (n j) (get_or es i 0)) ++ behind_stars (power_texts (drop (i + 1) ns) (drop (i + 1) es))) ∙ writes_later ns es i out h l z ∙ t
writes false ns es i out mid new name total h l z n m w t =
    (λ j. w j ++ behind_stars (power_texts (drop (i + 1) ns) (drop (i + 1) es))) ∙ (λ j. (m j ++ power_text (n j) (get_or es i 0)) ++ behind_stars (power_texts (drop (i + 1) ns) (drop (i + 1) es))) ∙ writes_first ns es i out h l z ∙ t
