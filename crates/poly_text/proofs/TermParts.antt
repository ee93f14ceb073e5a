-- A term's text of its parts.
use Rattle.std.proofs.Common.{◌≡◌, ◌⊎◌, inl, inr, ℕ, Bool, true, false, not, ◌&&◌, eqb, cond, List, [], ◌∷◌, ◌++◌, ℤ, pos, negsuc, refl, sym, ◌∙◌, ap, append_assoc, true≢false, arith}
use Rattle.std.specs.Prelude.{unsigned_abs, ◌<ℤ◌, ◌↔◌, IsTrue}
use Rattle.std.specs.Fmt.{decimal}
use Rattle.std.proofs.lemmas.Bool.{ne_eqb}
use Rattle.std.proofs.lemmas.Int.{ints}
use Rattle.sdmp_laws.specs.Order.{degree}
use Rattle.text_laws.specs.Canonical.{sign_text, size_text, power_texts, starred, behind_stars, term_text}
use Rattle.poly_text.specs.Printed.{sign_bytes}

sign_is : (f n : Bool) (z : ℤ) → (IsTrue n ↔ z <ℤ pos 0) → sign_bytes f n ≡ sign_text f z
sign_is f true (pos k) h = absurd (omega (arith, ints, h.0 refl))
sign_is f true (negsuc k) h = refl
sign_is true false (pos k) h = refl
sign_is false false (pos k) h = refl
sign_is f false (negsuc k) h = absurd (true≢false (sym (h.1 (omega (arith, ints)))))

pub term_parts : (names : List (List ℕ)) (f n : Bool) (s : ℕ) (z : ℤ) (v old mid new : List ℕ) → (IsTrue n ↔ z <ℤ pos 0) → s ≡ unsigned_abs z → mid ≡ old ++ sign_bytes f n
    → new ≡ mid ++ starred (size_text s (degree v) ++ power_texts names v) → new ≡ old ++ term_text names f (record { monomial = v; coefficient = z })
term_parts names f n s z v old mid new h e m w =
    w ∙ (λ j. m j ++ starred (size_text s (degree v) ++ power_texts names v)) ∙ append_assoc old (sign_bytes f n) (starred (size_text s (degree v) ++ power_texts names v))
    ∙ (λ j. old ++ (sign_is f n z h j ++ starred (size_text (e j) (degree v) ++ power_texts names v)))

and-false : (b : Bool) → (b && false) ≡ false
and-false true = refl
and-false false = refl

with_size : (s d : ℕ) → (s ≡ 1 → ⊥) ⊎ (d ≡ 0) → size_text s d ≡ decimal s ∷ []
with_size s d (inl h) = ap (λ c. cond (c && not (eqb d 0)) [] (decimal s ∷ [])) (ne_eqb s 1 h)
with_size s d (inr h) = (λ j. cond (eqb s 1 && not (eqb (h j) 0)) [] (decimal s ∷ [])) ∙ ap (λ c. cond c [] (decimal s ∷ [])) (and-false (eqb s 1))

pub factors_with_size : (s d : ℕ) (ps : List (List ℕ)) (old mid new : List ℕ) → (s ≡ 1 → ⊥) ⊎ (d ≡ 0) → mid ≡ old ++ decimal s → new ≡ mid ++ behind_stars ps → new ≡ old ++ starred (size_text s d ++ ps)
factors_with_size s d ps old mid new h m w =
    w ∙ ap (λ l. l ++ behind_stars ps) m ∙ append_assoc old (decimal s) (behind_stars ps)
    ∙ ap (λ l. old ++ starred (l ++ ps)) (sym (with_size s d h))
