-- Longest fronts of bytes of some classes.
use Rattle.std.proofs.Common.{◌≡◌, ◌⊎◌, ℕ, Bool, true, false, List, [], ◌∷◌, ◌++◌, Option, Some, None, ap, inl, inr, ◌∙◌}
use Rattle.text_laws.specs.Bytes.{class_of}
use Rattle.text_laws.specs.Grammar.{Raised, Each, AreBlanks, AreDigits, AreLettersOrDigits, IsRaised, spell_raised, EndsPower}
use Rattle.text_laws.specs.Reading.{is_blank, is_digit, is_word}
use Rattle.text_laws.specs.declared.ByteClass.{ByteClass}
use Rattle.text_laws.specs.declared.ByteClass.TheVariants.{Blank, Digit, Letter, Sign, Star, Caret}

-- the first byte, if there is one, isn't such
abbrev pub StopsAt : (ByteClass → Bool) → List ℕ → Type 0
StopsAt p [] = Unit {0}
StopsAt p (b ∷ bs) = p (class_of b) ≡ false

each : (P Q : ByteClass → Type 0) → ((c : ByteClass) → P c → Q c) → (ds : List ℕ) → Each P ds → Each Q ds
each P Q f [] h = tt
each P Q f (d ∷ ds) h = (f (class_of d) h.0, each P Q f ds h.1)

pub blanks_are : (ds : List ℕ) → AreBlanks ds → Each (λ c. is_blank c ≡ true) ds
blanks_are = each (λ c. c ≡ Blank) (λ c. is_blank c ≡ true) (λ c e. ap is_blank e)

pub digits_are : (ds : List ℕ) → AreDigits ds → Each (λ c. is_digit c ≡ true) ds
digits_are = each (λ c. c ≡ Digit) (λ c. is_digit c ≡ true) (λ c e. ap is_digit e)

pub digits_words : (ds : List ℕ) → AreDigits ds → Each (λ c. is_word c ≡ true) ds
digits_words = each (λ c. c ≡ Digit) (λ c. is_word c ≡ true) (λ c e. ap is_word e)

pub words_are : (ds : List ℕ) → AreLettersOrDigits ds → Each (λ c. is_word c ≡ true) ds
words_are = each (λ c. (c ≡ Letter) ⊎ (c ≡ Digit)) (λ c. is_word c ≡ true) word
  where
    word : (c : ByteClass) → (c ≡ Letter) ⊎ (c ≡ Digit) → is_word c ≡ true
    word c (inl e) = ap is_word e
    word c (inr e) = ap is_word e

-- ---- what ends a word
pub ends_stop : (p : ByteClass → Bool) → (p Sign ≡ false) → (p Star ≡ false) → (rest : List ℕ) → EndsPower rest → StopsAt p rest
ends_stop p a b [] h = tt
ends_stop p a b (x ∷ rest) (inl e) = ap p e ∙ a
ends_stop p a b (x ∷ rest) (inr e) = ap p e ∙ b

pub blanks_stop : (p : ByteClass → Bool) → p Blank ≡ false → (bl rest : List ℕ) → AreBlanks bl → StopsAt p rest → StopsAt p (bl ++ rest)
blanks_stop p a [] rest h g = g
blanks_stop p a (b ∷ bl) rest h g = ap p h.0 ∙ a

pub raised_stop : (p : ByteClass → Bool) → (p Sign ≡ false) → (p Star ≡ false) → (p Caret ≡ false) → (r : Option Raised) (rest : List ℕ) → IsRaised r → EndsPower rest → StopsAt p (spell_raised r ++ rest)
raised_stop p a b c None rest h g = ends_stop p a b rest g
raised_stop p a b c (Some r) rest h g = ap p h.0.byte ∙ c
