use Rattle.std.specs.Prelude.{bit_and}
use Rattle.std.proofs.Common.{◌≡◌, ◌+◌, ◌-◌, ◌/◌, ◌%◌, ◌^◌, ◌<◌, ◌≤◌, ℕ, sym, ap, ◌∙◌, arith, inl, inr}
use Rattle.std.proofs.Math.Facts.{Fits-of_lt}
use Rattle.std.proofs.Math.Nat.{mod-eq_of_lt}
use Rattle.std.proofs.lemmas.Bool.{cases_lt}
use Rattle.std.proofs.lemmas.Nat.{and_comm, and_mask, and_le_l}
use Rattle.coeff_residue.proofs.Estimates.{leaves}
use Rattle.coeff_residue.proofs.euclid.add_mod.Goals as goal

-- a less p - b, by 128 bits
abbrev less : ℕ → ℕ → ℕ → ℕ
less a b p = (a + (2 ^ 128 - (p - b))) % 2 ^ 128

-- that with p added back where it is below 0
abbrev added : ℕ → ℕ → ℕ → ℕ
added a b p = (less a b p + bit_and (less a b p / 2 ^ 64) p) % 2 ^ 128

-- where the sum is below p, the high word is all ones
added_below : (a b p : ℕ) → p < 2 ^ 64 → a < p - b → added a b p ≡ a + b
added_below a b p word below =
    let whole : less a b p ≡ a + (2 ^ 128 - (p - b)) = mod-eq_of_lt (omega (arith, below, word)) in
    let high : less a b p / 2 ^ 64 ≡ 2 ^ 64 - 1 = omega (arith, whole, below, word) in
    let mask : bit_and (less a b p / 2 ^ 64) p ≡ p = ap (λ m. bit_and m p) high ∙ and_comm (2 ^ 64 - 1) p ∙ and_mask p 64 ∙ mod-eq_of_lt word in
    ap (λ m. (less a b p + m) % 2 ^ 128) mask ∙ ap (λ d. (d + p) % 2 ^ 128) whole ∙ omega (arith, below, word)

-- else it is 0
added_above : (a b p : ℕ) → p < 2 ^ 64 → a < p → p - b ≤ a → added a b p ≡ a - (p - b)
added_above a b p word small above =
    let whole : less a b p ≡ a - (p - b) = omega (arith, small, above, word) in
    let high : less a b p / 2 ^ 64 ≡ 0 = omega (arith, whole, small, word) in
    let mask : bit_and (less a b p / 2 ^ 64) p ≡ 0 = omega (arith, high, and_le_l (less a b p / 2 ^ 64) p) in
    ap (λ m. (less a b p + m) % 2 ^ 128) mask ∙ ap (λ d. (d + 0) % 2 ^ 128) whole ∙ omega (arith, small, word)

added_is : (a b p : ℕ) → p < 2 ^ 64 → a < p → b < p → (added a b p < p) × (added a b p ≡ (a + b) % p)
added_is a b p word left right = elim (cases_lt a (p - b)) [
  | inl below ↦
      let is = added_below a b p word below in
      (omega (arith, is, below), is ∙ sym (mod-eq_of_lt (omega (arith, below))))
  | inr above ↦
      let is = added_above a b p word left above in
      (omega (arith, is, above, left, right), is ∙ leaves (a + b) p (a - (p - b)) 1 (omega (arith, above, left, right)) (omega (arith, above, left, right)))
]

pub overflow_cast-result-2 : goal.overflow_cast-result-2
overflow_cast-result-2 c =
    let is = added_is c.args.a c.args.b c.args.p c.ranges.p.fits c.requires.left c.requires.right in
    Fits-of_lt (omega (arith, is.0, c.ranges.p.fits))

pub returns-clause-below : goal.returns-clause-below
returns-clause-below c = (added_is c.args.a c.args.b c.args.p c.ranges.p.fits c.requires.left c.requires.right).0

pub returns-clause-value : goal.returns-clause-value
returns-clause-value c = (added_is c.args.a c.args.b c.args.p c.ranges.p.fits c.requires.left c.requires.right).1
