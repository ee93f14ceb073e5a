-- The tokens of a tree, at the front of what is left.
use Rattle.std.proofs.Common.{◌≡◌, ◌≤◌, ◌+◌, ◌*◌, ◌-◌, ℕ, Bool, true, false, min, cond, List, [], ◌∷◌, ◌++◌, length, take, drop, Option, Some, None, refl, sym, ◌∙◌, ap, inl, inr, append_assoc, length-drop, length-append, arith}
use Rattle.std.proofs.lemmas.List.{take_at}
use Rattle.std.specs.Str.Parse.{digits_value_after}
use Rattle.std.specs.Char.{digit_value}
use Rattle.std.proofs.lemmas.Str.{digit_value_digit}
use Rattle.text_laws.specs.Bytes.{class_of}
use Rattle.text_laws.specs.Grammar.{Word, Raised, Power, Each, AreDigits, AreLettersOrDigits, IsNumber, IsName, IsRaised, IsPower, spell_word, spell_raised, spell_power, EndsPower}
use Rattle.text_laws.specs.Summands.{number_of, exponent_of}
use Rattle.text_laws.specs.Reading.{is_blank, is_digit, is_word, is_caret}
use Rattle.text_laws.specs.declared.ByteClass.{ByteClass}
use Rattle.text_laws.specs.declared.ByteClass.TheVariants.{Digit}
use Rattle.text_laws.proofs.Fronts.{StopsAt, blanks_are, digits_are, words_are, ends_stop, blanks_stop, raised_stop}
use Rattle.poly_text.specs.Tokens.{after, cap, capped_front, raised_front, power_front}
use Rattle.poly_text.specs.Exponents.{top}

-- from start on the bytes up to i are digits, which write n behind the number
pub record IsAmongDigits (bytes : List ℕ) (start i number n : ℕ) : Type 0 where
  pub bound : i ≤ length bytes
  pub from : start ≤ i
  pub same : after is_digit (drop i bytes) ≡ after is_digit (drop start bytes)
  pub value : capped_front n (drop i bytes) ≡ capped_front number (drop start bytes)

pub after_front : (p : ByteClass → Bool) (ds rest : List ℕ) → Each (λ c. p c ≡ true) ds → StopsAt p rest → after p (ds ++ rest) ≡ rest
after_front p [] [] h g = refl
after_front p [] (b ∷ rest) h g = ap (λ c. cond c (after p rest) (b ∷ rest)) g
after_front p (d ∷ ds) rest h g = ap (λ c. cond c (after p (ds ++ rest)) (d ∷ (ds ++ rest))) h.0 ∙ after_front p ds rest h.1 g

digit_low : (c : ℕ) → class_of c ≡ Digit → 48 ≤ c
unfolding class_of
digit_low c h = grind arith

digit_high : (c : ℕ) → class_of c ≡ Digit → c ≤ 57
unfolding class_of
digit_high c h = grind arith

digit_is : (c : ℕ) → class_of c ≡ Digit → digit_value c + 48 ≡ c
digit_is c h = digit_value_digit c (digit_low c h, digit_high c h)

capped_step : (v n d k : ℕ) → n ≡ min v cap → k + 48 ≡ d → k ≤ 9 → min (min (n * 10) cap + (d - 48)) cap ≡ min (v * 10 + k) cap
capped_step v n d k e f g = omega (arith, e, f, g)

capped_is : (ds rest : List ℕ) (v n : ℕ) → AreDigits ds → StopsAt is_digit rest → n ≡ min v cap → capped_front n (ds ++ rest) ≡ min (digits_value_after 10 v ds) cap
capped_is [] [] v n h g e = e
capped_is [] (b ∷ rest) v n h g e = ap (λ c. cond c (capped_front (min (min (n * 10) cap + (b - 48)) cap) rest) n) g ∙ e
capped_is (d ∷ ds) rest v n h g e =
    ap (λ c. cond (is_digit c) (capped_front (min (min (n * 10) cap + (d - 48)) cap) (ds ++ rest)) n) h.0
    ∙ capped_is ds rest (v * 10 + digit_value d) (min (min (n * 10) cap + (d - 48)) cap) h.1 g (capped_step v n d (digit_value d) e (digit_is d h.0) (omega (arith, digit_is d h.0, digit_high d h.0)))

-- behind a number's digits and blanks
pub number_front : (w : Word) (rest : List ℕ) → IsNumber w → EndsPower rest → (capped_front 0 (spell_word w ++ rest) ≡ min (number_of w) cap) × (after is_blank (after is_digit (spell_word w ++ rest)) ≡ rest)
number_front w rest h g =
    let s : StopsAt is_digit (w.blanks ++ rest) = blanks_stop is_digit refl w.blanks rest h.blanks (ends_stop is_digit refl refl rest g) in
    let ds : AreDigits (w.first ∷ w.more) = (h.first, h.more) in
    let r : spell_word w ++ rest ≡ (w.first ∷ w.more) ++ (w.blanks ++ rest) = append_assoc (w.first ∷ w.more) w.blanks rest in (
      ap (capped_front 0) r ∙ capped_is (w.first ∷ w.more) (w.blanks ++ rest) 0 0 ds s (omega arith),
      ap (λ l. after is_blank (after is_digit l)) r ∙ ap (after is_blank) (after_front is_digit (w.first ∷ w.more) (w.blanks ++ rest) (digits_are (w.first ∷ w.more) ds) s)
          ∙ after_front is_blank w.blanks rest (blanks_are w.blanks h.blanks) (ends_stop is_blank refl refl rest g),
    )

-- behind a name and its blanks
name_front : (w : Word) (rest : List ℕ) → IsName w → StopsAt is_word rest → StopsAt is_blank rest → after is_blank (after is_word (spell_word w ++ rest)) ≡ rest
name_front w rest h g k =
    let s : StopsAt is_word (w.blanks ++ rest) = blanks_stop is_word refl w.blanks rest h.blanks g in
    let ls : AreLettersOrDigits (w.first ∷ w.more) = (inl h.first, h.more) in
    let r : spell_word w ++ rest ≡ (w.first ∷ w.more) ++ (w.blanks ++ rest) = append_assoc (w.first ∷ w.more) w.blanks rest in
    ap (λ l. after is_blank (after is_word l)) r ∙ ap (after is_blank) (after_front is_word (w.first ∷ w.more) (w.blanks ++ rest) (words_are (w.first ∷ w.more) ls) s)
    ∙ after_front is_blank w.blanks rest (blanks_are w.blanks h.blanks) k

not_caret : (rest : List ℕ) → EndsPower rest → StopsAt is_caret rest
not_caret [] h = tt
not_caret (b ∷ rest) (inl e) = ap is_caret e
not_caret (b ∷ rest) (inr e) = ap is_caret e

one_left : (rest : List ℕ) → StopsAt is_caret rest → ((raised_front rest).0 ≡ 1) × ((raised_front rest).1 ≡ rest)
one_left [] h = (refl, refl)
one_left (b ∷ rest) h =
    let P : Bool → ℕ × List ℕ = λ c. cond c (capped_front 0 (after is_blank rest), after is_blank (after is_digit (after is_blank rest))) (1, b ∷ rest) in
    (ap (λ c. (P c).0) h, ap (λ c. (P c).1) h)

raised_is : (r : Option Raised) (rest : List ℕ) → IsRaised r → EndsPower rest → ((raised_front (spell_raised r ++ rest)).0 ≡ min (exponent_of r) cap) × ((raised_front (spell_raised r ++ rest)).1 ≡ rest)
raised_is None rest h g = one_left rest (not_caret rest g)
raised_is (Some r) rest h g =
    let bs = (r.caret.blanks ++ spell_word r.number) ++ rest in
    let P : ByteClass → ℕ × List ℕ = λ c. cond (is_caret c) (capped_front 0 (after is_blank bs), after is_blank (after is_digit (after is_blank bs))) (1, r.caret.byte ∷ bs) in
    let first : is_blank (class_of r.number.first) ≡ false = ap is_blank h.1.first in
    let e : after is_blank bs ≡ spell_word r.number ++ rest = ap (after is_blank) (append_assoc r.caret.blanks (spell_word r.number) rest) ∙ after_front is_blank r.caret.blanks (spell_word r.number ++ rest) (blanks_are r.caret.blanks h.0.blanks) first in
    let n = number_front r.number rest h.1 g in
    (ap (λ c. (P c).0) h.0.byte ∙ ap (capped_front 0) e ∙ n.0, ap (λ c. (P c).1) h.0.byte ∙ ap (λ l. after is_blank (after is_digit l)) e ∙ n.1)

-- the power at the front is the one of the tree
pub power_is : (p : Power) (rest : List ℕ) → IsPower p → EndsPower rest → ((power_front (spell_power p ++ rest)).0 ≡ min (exponent_of p.raised) cap) × ((power_front (spell_power p ++ rest)).1 ≡ rest)
power_is p rest h g =
    let e : after is_blank (after is_word (spell_power p ++ rest)) ≡ spell_raised p.raised ++ rest =
    ap (λ l. after is_blank (after is_word l)) (append_assoc (spell_word p.name) (spell_raised p.raised) rest)
    ∙ name_front p.name (spell_raised p.raised ++ rest) h.name (raised_stop is_word refl refl refl p.raised rest h.raised g) (raised_stop is_blank refl refl refl p.raised rest h.raised g) in
    let r = raised_is p.raised rest h.raised g in
    (ap (λ l. (raised_front l).0) e ∙ r.0, ap (λ l. (raised_front l).1) e ∙ r.1)

-- its name stands before what is left behind the letters and digits
pub name_is : (p : Power) (rest : List ℕ) → IsPower p → EndsPower rest → spell_power p ++ rest ≡ (p.name.first ∷ p.name.more) ++ after is_word (spell_power p ++ rest)
name_is p rest h g =
    let tail = spell_raised p.raised ++ rest in
    let s : StopsAt is_word (p.name.blanks ++ tail) = blanks_stop is_word refl p.name.blanks tail h.name.blanks (raised_stop is_word refl refl refl p.raised rest h.raised g) in
    let ls : AreLettersOrDigits (p.name.first ∷ p.name.more) = (inl h.name.first, h.name.more) in
    let r : spell_power p ++ rest ≡ (p.name.first ∷ p.name.more) ++ (p.name.blanks ++ tail) =
    append_assoc (spell_word p.name) (spell_raised p.raised) rest ∙ append_assoc (p.name.first ∷ p.name.more) p.name.blanks tail in
    r ∙ ap (λ l. (p.name.first ∷ p.name.more) ++ l) (sym (ap (after is_word) r ∙ after_front is_word (p.name.first ∷ p.name.more) (p.name.blanks ++ tail) (words_are (p.name.first ∷ p.name.more) ls) s))

-- the name as a range of the bytes
pub name_range : (p : Power) (rest bytes : List ℕ) (at end : ℕ) → IsPower p → EndsPower rest → at ≤ length bytes → end ≤ length bytes → at ≤ end → drop at bytes ≡ spell_power p ++ rest
    → drop end bytes ≡ after is_word (drop at bytes) → take (end - at) (drop at bytes) ≡ p.name.first ∷ p.name.more
name_range p rest bytes at end i f h g k e d =
    let name = p.name.first ∷ p.name.more in
    let split : drop at bytes ≡ name ++ drop end bytes = e ∙ name_is p rest i f ∙ ap (λ l. name ++ l) (ap (after is_word) (sym e) ∙ sym d) in
    let long : length bytes - at ≡ length name + (length bytes - end) = sym (length-drop at bytes) ∙ ap length split ∙ length-append name (drop end bytes) ∙ ap (λ n. length name + n) (length-drop end bytes) in
    ap (take (end - at)) split ∙ take_at name (drop end bytes) (end - at) (omega (arith, long, h, g, k))

pub capped_exponent : (x e n : ℕ) → e ≡ min x cap → n ≡ min e top → n ≡ min x top
capped_exponent x e n h k = omega (arith, h, k)
