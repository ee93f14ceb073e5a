-- The canonical text of a polynomial, made of the list of its terms, and the names of variables.
use Rattle.std.specs.Prelude.{◌≡◌, ◌≢◌, ℕ, Bool, true, false, not, ◌&&◌, eqb, if◌then◌else◌, List, [], ◌∷◌, ◌++◌, ℤ, pos, negsuc, unsigned_abs}
use Rattle.std.specs.Fmt.{decimal}
use Rattle.sdmp_laws.specs.Order.{degree}
use Rattle.sdmp_laws.specs.Poly.{Term}
use Rattle.text_laws.specs.Bytes.{class_of}
use Rattle.text_laws.specs.Grammar.{AreLettersOrDigits}
use Rattle.text_laws.specs.declared.ByteClass.TheVariants.{Letter}

-- - where it is negative, + where it isn't and isn't the first
abbrev pub sign_text : Bool → ℤ → List ℕ
sign_text is_first (negsuc n) = 45 ∷ []
sign_text true (pos n) = []
sign_text false (pos n) = 43 ∷ []

-- the size, left out where it is 1 and the degree isn't 0
abbrev pub size_text : ℕ → ℕ → List (List ℕ)
size_text size deg = if eqb size 1 && not (eqb deg 0) then [] else decimal size ∷ []

-- the name, and ^ with the exponent where that is above 1
abbrev pub power_text : List ℕ → ℕ → List ℕ
power_text name e = if eqb e 1 then name else name ++ 94 ∷ decimal e

-- a power for each variable with an exponent above 0
abbrev pub power_texts : List (List ℕ) → List ℕ → List (List ℕ)
power_texts [] es = []
power_texts (n ∷ ns) [] = []
power_texts (n ∷ ns) (e ∷ es) = if eqb e 0 then power_texts ns es else power_text n e ∷ power_texts ns es

-- each behind a *
abbrev pub behind_stars : List (List ℕ) → List ℕ
behind_stars [] = []
behind_stars (x ∷ xs) = 42 ∷ (x ++ behind_stars xs)

-- joined by *
abbrev pub starred : List (List ℕ) → List ℕ
starred [] = []
starred (x ∷ xs) = x ++ behind_stars xs

abbrev pub term_text : List (List ℕ) → Bool → Term → List ℕ
term_text names is_first t = sign_text is_first t.coefficient ++ starred (size_text (unsigned_abs t.coefficient) (degree t.monomial) ++ power_texts names t.monomial)

-- the terms after the first
abbrev pub later_text : List (List ℕ) → List Term → List ℕ
later_text names [] = []
later_text names (t ∷ ts) = term_text names false t ++ later_text names ts

-- the text of a polynomial with these terms, the greatest first; 0 where there are none
abbrev pub text : List (List ℕ) → List Term → List ℕ
text names [] = 48 ∷ []
text names (t ∷ ts) = term_text names true t ++ later_text names ts

-- ---- names
-- the form of a name: a letter, then letters and digits
abbrev pub IsNameText : List ℕ → Type 0
IsNameText [] = ⊥
IsNameText (b ∷ bs) = (class_of b ≡ Letter) × AreLettersOrDigits bs

-- n is none of the others
abbrev pub NotIn : List ℕ → List (List ℕ) → Type 0
NotIn n [] = Unit {0}
NotIn n (m ∷ ms) = (n ≢ m) × NotIn n ms

-- names of that form, no two of them alike
abbrev pub AreNames : List (List ℕ) → Type 0
AreNames [] = Unit {0}
AreNames (n ∷ ns) = IsNameText n × NotIn n ns × AreNames ns
