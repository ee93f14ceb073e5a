-- Elements, and what fits, in the ring of a characteristic.
use Rattle.std.proofs.Common.{◌≡◌, ℕ, zero, suc, ◌^◌, ◌≤◌, ◌<◌, ℤ, pos, unsigned_abs, refl, ap, ◌∙◌, arith}
use Rattle.std.proofs.Math.IntN.{negsuc}
use Rattle.std.proofs.Math.Nat.{mod-eq_of_lt}
use Rattle.std.proofs.lemmas.Int.{ints}
use Rattle.sdmp_laws.specs.Limits.{greatest_norm}
use Rattle.sdmp_laws.specs.Ring.{red}
use Rattle.sdmp_laws.proofs.ReducedLemmas.{red_pos}
use Rattle.coeff_ring.specs.Words.{int_words, int_words-same}
use Rattle.chosen_ring.specs.Elements.{IsElement, FitsRing}

pub element_reduced : (p : ℕ) (a : ℤ) → IsElement p a → red p a ≡ a
element_reduced zero a h = refl
element_reduced (suc k) (pos n) h = red_pos (suc k) n (omega arith) ∙ ap pos (mod-eq_of_lt (omega (arith, ints, h)))
element_reduced (suc k) (negsuc n) h = absurd (omega (arith, ints, h))

pub room : (p : ℕ) (n : ℤ) → (p ≡ 0 → unsigned_abs n ≤ greatest_norm) → FitsRing p n
room zero n h = h refl
room (suc k) n h = tt

pub below_fits : (p : ℕ) (m n : ℤ) → unsigned_abs m ≤ unsigned_abs n → FitsRing p n → FitsRing p m
below_fits zero m n l h = omega (arith, l, h)
below_fits (suc k) m n l h = tt

pub integer_small : (p : ℕ) (a : ℤ) → IsElement p a → p ≡ 0 → unsigned_abs a ≤ greatest_norm
integer_small zero a h e = h
integer_small (suc k) a h e = absurd (omega (arith, e))

-- an element of either ring has at most 127 bits
pub element_small : (p : ℕ) (a : ℤ) → p < 2 ^ 64 → IsElement p a → unsigned_abs a ≤ greatest_norm
element_small zero a w h = h
element_small (suc k) (pos n) w h = omega (arith, ints, h, w)
element_small (suc k) (negsuc n) w h = absurd (omega (arith, ints, h))

pub same_words : (p : ℕ) (a b : ℤ) → p < 2 ^ 64 → IsElement p a → IsElement p b → int_words a ≡ int_words b → a ≡ b
same_words p a b w h i e = int_words-same p a b (element_small p a w h) (element_small p b w i) e
