-- The automaton by its table of steps.
use Rattle.std.proofs.Common.{◌≡◌, ◌<◌, ◌≤◌, ◌+◌, ◌/◌, ◌%◌, ◌^◌, ℕ, zero, suc, Bool, true, cond, ◌&&◌, ◌||◌, T, List, [], ◌∷◌, length, drop, get_or, eqb, Some, None, refl, sym, ◌∙◌, ap, inl, inr, arith, eqb→eq, true≢false}
use Rattle.std.proofs.lemmas.Bool.{cases_eq}
use Rattle.std.proofs.lemmas.List.{drop_more, drop_all}
use lib.Ieee.Fits.{and_l, and_r}
use Rattle.text_laws.specs.Automaton.{next, is_whole, is_live, run, start, fault_from, fault_place}
use Rattle.text_laws.specs.Bytes.{class_of}
use Rattle.text_laws.specs.Reading.{is_digit, is_word}
use Rattle.text_laws.specs.declared.ByteClass.{ByteClass}
use Rattle.text_laws.specs.declared.ByteClass.TheVariants as classes
use Rattle.text_laws.specs.declared.State.{State}
use Rattle.text_laws.specs.declared.State.TheVariants as states
use Rattle.text_laws.proofs.Texts.{live_before}
use Rattle.poly_text.specs.Codes.{code_of, digit_of}
use Rattle.poly_text.specs.declared.class.TheConstants.{CLASSES}
use Rattle.poly_text.specs.declared.syntax.TheConstants.{STEPS}

-- ---- the classes of the bytes
unfoldable agree_below : ℕ → Bool
agree_below zero = true
agree_below (suc n) = eqb (get_or CLASSES n 0 % 8) (digit_of (class_of n)) && agree_below n

class_below : (n b : ℕ) → T (agree_below n) → b < n → get_or CLASSES b 0 % 8 ≡ digit_of (class_of b)
unfolding agree_below
class_below zero b t h = absurd (omega arith)
class_below (suc n) b t h = elim (cases_eq b n) [
  | inl e ↦ rw e (eqb→eq _ _ (and_l _ (agree_below n) t))
  | inr other ↦ class_below n b (and_r _ (agree_below n) t) (omega arith)
]

pub class_at : (b : ℕ) → b < 256 → get_or CLASSES b 0 % 8 ≡ digit_of (class_of b)
unfolding agree_below class_of
class_at b h = class_below 256 b tt h

-- ---- tests of a class by its digit
digit_of_class : (c : ByteClass) → eqb (digit_of c) 1 ≡ is_digit c
digit_of_class classes.Blank = refl
digit_of_class classes.Digit = refl
digit_of_class classes.Letter = refl
digit_of_class classes.Sign = refl
digit_of_class classes.Star = refl
digit_of_class classes.Caret = refl
digit_of_class classes.Other = refl

word_of_class : (c : ByteClass) → (eqb (digit_of c) 1 || eqb (digit_of c) 2) ≡ is_word c
word_of_class classes.Blank = refl
word_of_class classes.Digit = refl
word_of_class classes.Letter = refl
word_of_class classes.Sign = refl
word_of_class classes.Star = refl
word_of_class classes.Caret = refl
word_of_class classes.Other = refl

pub digit_test : (c : ByteClass) (digit : ℕ) → digit ≡ digit_of c → eqb digit 1 ≡ is_digit c
digit_test c digit e = ap (λ d. eqb d 1) e ∙ digit_of_class c

pub word_test : (c : ByteClass) (digit : ℕ) → digit ≡ digit_of c → (eqb digit 1 || eqb digit 2) ≡ is_word c
word_test c digit e = ap (λ d. eqb d 1 || eqb d 2) e ∙ word_of_class c

-- ---- the steps of each class
steps_of : (c : ByteClass) (s : State) → get_or STEPS (digit_of c) 0 / 2 ^ code_of s % 64 ≡ code_of (next s c)
steps_of classes.Blank states.Start = refl
steps_of classes.Blank states.Term = refl
steps_of classes.Blank states.Number = refl
steps_of classes.Blank states.NumberEnd = refl
steps_of classes.Blank states.Power = refl
steps_of classes.Blank states.Name = refl
steps_of classes.Blank states.NameEnd = refl
steps_of classes.Blank states.Exponent = refl
steps_of classes.Blank states.Dead = refl
steps_of classes.Digit states.Start = refl
steps_of classes.Digit states.Term = refl
steps_of classes.Digit states.Number = refl
steps_of classes.Digit states.NumberEnd = refl
steps_of classes.Digit states.Power = refl
steps_of classes.Digit states.Name = refl
steps_of classes.Digit states.NameEnd = refl
steps_of classes.Digit states.Exponent = refl
steps_of classes.Digit states.Dead = refl
steps_of classes.Letter states.Start = refl
steps_of classes.Letter states.Term = refl
steps_of classes.Letter states.Number = refl
steps_of classes.Letter states.NumberEnd = refl
steps_of classes.Letter states.Power = refl
steps_of classes.Letter states.Name = refl
steps_of classes.Letter states.NameEnd = refl
steps_of classes.Letter states.Exponent = refl
steps_of classes.Letter states.Dead = refl
steps_of classes.Sign states.Start = refl
steps_of classes.Sign states.Term = refl
steps_of classes.Sign states.Number = refl
steps_of classes.Sign states.NumberEnd = refl
steps_of classes.Sign states.Power = refl
steps_of classes.Sign states.Name = refl
steps_of classes.Sign states.NameEnd = refl
steps_of classes.Sign states.Exponent = refl
steps_of classes.Sign states.Dead = refl
steps_of classes.Star states.Start = refl
steps_of classes.Star states.Term = refl
steps_of classes.Star states.Number = refl
steps_of classes.Star states.NumberEnd = refl
steps_of classes.Star states.Power = refl
steps_of classes.Star states.Name = refl
steps_of classes.Star states.NameEnd = refl
steps_of classes.Star states.Exponent = refl
steps_of classes.Star states.Dead = refl
steps_of classes.Caret states.Start = refl
steps_of classes.Caret states.Term = refl
steps_of classes.Caret states.Number = refl
steps_of classes.Caret states.NumberEnd = refl
steps_of classes.Caret states.Power = refl
steps_of classes.Caret states.Name = refl
steps_of classes.Caret states.NameEnd = refl
steps_of classes.Caret states.Exponent = refl
steps_of classes.Caret states.Dead = refl
steps_of classes.Other states.Start = refl
steps_of classes.Other states.Term = refl
steps_of classes.Other states.Number = refl
steps_of classes.Other states.NumberEnd = refl
steps_of classes.Other states.Power = refl
steps_of classes.Other states.Name = refl
steps_of classes.Other states.NameEnd = refl
steps_of classes.Other states.Exponent = refl
steps_of classes.Other states.Dead = refl

pub steps_are : (b digit : ℕ) → digit ≡ digit_of (class_of b) → (s : State) → get_or STEPS digit 0 / 2 ^ code_of s % 64 ≡ code_of (next s (class_of b))
steps_are b digit e s = ap (λ d. get_or STEPS d 0 / 2 ^ code_of s % 64) e ∙ steps_of (class_of b) s

-- ---- the loop
-- the automaton stands before the place in the state of this code
pub record IsAt (bytes : List ℕ) (i code : ℕ) : Type 0 where
  pub state : State
  pub code_is : code % 64 ≡ code_of state
  pub left : run state (drop i bytes) ≡ run start bytes

pub at_start : (bytes : List ℕ) → IsAt bytes 0 0
at_start bytes = record { state = states.Start; code_is = refl; left = refl }

pub step : (bytes : List ℕ) (i code steps later : ℕ) → i < length bytes → ((s : State) → steps / 2 ^ code_of s % 64 ≡ code_of (next s (class_of (get_or bytes i 0))))
    → later ≡ steps / 2 ^ (code % 64) → IsAt bytes i code → IsAt bytes (i + 1) later
step bytes i code steps later h table e a = record {
  state = next a.state (class_of (get_or bytes i 0));
  code_is = ap (λ n. n % 64) e ∙ ap (λ k. steps / 2 ^ k % 64) a.code_is ∙ table a.state;
  left = sym (ap (run a.state) (drop_more bytes i 0 h)) ∙ a.left;
}

pub at_end : (bytes : List ℕ) (i code : ℕ) (r : Bool) → length bytes ≤ i → ((s : State) → code % 64 ≡ code_of s → r ≡ is_whole s) → IsAt bytes i code → r ≡ is_whole (run start bytes)
at_end bytes i code r h whole a = whole a.state a.code_is ∙ ap is_whole (sym (ap (run a.state) (drop_all i bytes h)) ∙ a.left)

-- ---- a whole text has no fault
fault_none : (s : State) (at : ℕ) (bs : List ℕ) → is_whole (run s bs) ≡ true → fault_from s at bs ≡ None
fault_none s at [] h = ap (λ b. cond b None (Some at)) h
fault_none s at (b ∷ bs) h =
    ap (λ v. cond v (fault_from (next s (class_of b)) (suc at) bs) (Some at)) (live_before (next s (class_of b)) bs h)
    ∙ fault_none (next s (class_of b)) (suc at) bs h

pub no_fault : (bytes : List ℕ) → is_whole (run start bytes) ≡ true → None ≡ fault_place bytes
no_fault bytes h = sym (fault_none start 0 bytes h)
